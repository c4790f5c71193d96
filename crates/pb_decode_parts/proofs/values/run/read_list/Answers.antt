-- They go to the end of their list from one on that has none.
use Rattle.std.proofs.Common.{List, length, subst}
use Rattle.pb_value.specs.declared.body.Value.{Value}
use Rattle.pb_decode_parts.specs.Values.Puts.{ListGoesOn}
use Rattle.pb_decode_parts.proofs.values.run.read_list.Goals as goal

pub returns-then-all : goal.returns-then-all
returns-then-all c =
    subst (λ (z : List Value). ListGoesOn c.args.kind c.args.payload.now z c.push_by_kind.new.values.items (length c.args.payload.now)) c.in_ok-values.ensures.items (c.in_ok-all.ensures c.if-all.true)
