use Rattle.pb_value.proofs.Views.{content_view-List}
use Rattle.pb_value.proofs.InnerLemmas.{nth_datum-found}
use Rattle.pb_value.proofs.message_ref.value_at.Goals as goal

pub returns-in-List : goal.returns-in-List
returns-in-List c =
    rw (c.in-List.is, content_view-List) (nth_datum-found c.get.result c.args.index c.in-List.values.items (rw c.deref.ensures.value at c.get.ensures.lookup))
