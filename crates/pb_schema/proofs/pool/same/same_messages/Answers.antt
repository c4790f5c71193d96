use Rattle.std.proofs.Common.{◌≡◌, map, sym, subst}
use Rattle.std.specs.Prelude.{Bool}
use Rattle.std.specs.Bool.{Decides}
use Rattle.pb_schema.specs.View.{message_view}
use Rattle.pb_schema.proofs.PoolEq.{views_decide, messages_decide}
use Rattle.pb_schema.proofs.pool.same.same_messages.Goals as goal

pub returns : goal.returns
returns c =
    subst (λ (r : Bool). Decides r (map message_view c.args.a.now ≡ map message_view c.args.b.now)) (sym c.eq.ensures) (views_decide _ message_view messages_decide c.args.a.now c.args.b.now)
