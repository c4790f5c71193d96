-- What was decided is marked.
use Rattle.std.proofs.Common.{◌≡◌}
use Rattle.pb_c.proofs.Copies.{marked}
use Rattle.pb_c.proofs.message.equal.report_equal.Goals as goal

pub returns-in-Ok-clause-decided : goal.returns-in-Ok-clause-decided
returns-in-Ok-clause-decided c = λ done.
    marked c.in-Ok.same c.mark_of.result (c.args.message.now ≡ c.args.other.now) c.mark_of.ensures c.in-Ok.ensures.decided
