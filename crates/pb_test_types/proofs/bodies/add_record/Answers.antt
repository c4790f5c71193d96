use Rattle.pb_wire.proofs.UnknownLemmas.{records_of-push}
use Rattle.pb_value.proofs.Views.{body_view-roll, body_view-out}
use Rattle.pb_test_types.proofs.bodies.add_record.Goals as goal

pub returns-clause-value : goal.returns-clause-value
returns-clause-value c = rw (body_view-roll, body_view-out, c.in_ok-push.ensures.items, records_of-push)
