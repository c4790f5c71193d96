use Rattle.std.proofs.Common.{◌<◌, length, sym, ◌∙◌, refl, false, arith}
use Rattle.std.proofs.lemmas.List.{get_or_read}
use Rattle.pb_graphs.proofs.ReachLemmas.{marks_one}
use Rattle.pb_graphs.proofs.reach.Reach.mark.Goals as goal

pub returns : goal.returns
returns c =
    let bits = c.args.self.now.bits.items in
    let within : c.args.index < length bits = omega (arith, c.requires, c.args.self.now.bits.ok.0) in
    marks_one c.args.self.now _ c.args.index within (sym (get_or_read bits c.args.index c.index.result.now within c.index.ensures false) ∙ c.if-index.false) refl c.in_ok-push.ensures.items
