use Rattle.pb_value.proofs.PartViews.{values_view-push}
use Rattle.pb_json_read.proofs.lists.push_some.Goals as goal

pub returns-in_ok-push-in-Some-clause-pushed : goal.returns-in_ok-push-in-Some-clause-pushed
returns-in_ok-push-in-Some-clause-pushed c = rw (c.in-Some.is, c.in_ok-push-in-Some.ensures.items) (values_view-push _ _)
