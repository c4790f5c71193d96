use Rattle.std.proofs.Common.{◌∙◌, Some, sym, ap, arith}
use Rattle.std.proofs.lemmas.Option.{slice_get-get_or}
use Rattle.pb_link_names.proofs.WordLemmas.{child_added}
use Rattle.pb_link_names.proofs.words.Words.add_child.Goals as goal

pub returns : goal.returns
returns c =
    child_added c.args.self.now (record { inside = c.push.new.self }) c.args.node c.args.word.now c.len-child.result c.index_mut.result.now c.put.new.self c.new.result c.requires.tree c.requires.is_new
    (slice_get-get_or c.args.self.now.inside.items c.args.node c.index_mut.result.now c.requires.within ∙ ap Some (sym c.index_mut.ensures.value))
    (omega (arith, c.len-child.ensures, c.args.self.now.inside.ok.0)) c.in_ok-put.ensures.put c.new.ensures c.in_ok-push.ensures.items
