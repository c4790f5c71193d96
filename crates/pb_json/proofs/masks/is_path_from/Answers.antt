use Rattle.std.proofs.Common.{◌∙◌, sym}
use Rattle.pb_json.proofs.PathLemmas.{path_more, path_stops}
use Rattle.pb_json.proofs.masks.is_path_from.Goals as goal

pub loop-byte-preserved : goal.loop-byte-preserved
loop-byte-preserved c =
    c.loop-byte.invariant ∙ path_more c.loop-byte.is_after c.args.path.now c.loop-byte.byte-index c.loop-byte-test.true (sym c.may_follow.ensures ∙ c.if-not-may_follow.false)

pub returns-then-not-may_follow : goal.returns-then-not-may_follow
returns-then-not-may_follow c =
    sym (c.loop-byte.invariant ∙ path_stops c.loop-byte.is_after c.args.path.now c.loop-byte.byte-index c.loop-byte-test.true (sym c.may_follow.ensures ∙ c.if-not-may_follow.true))
