use Rattle.pb_value.proofs.Views.{content_view-Map}
use Rattle.pb_value.proofs.InnerLemmas.{get_entry-found}
use Rattle.pb_value.proofs.message_ref.value_under.Goals as goal

pub returns-in-Map : goal.returns-in-Map
returns-in-Map c =
    rw (c.in-Map.is, content_view-Map) (get_entry-found c.get.result c.args.key.now c.in-Map.entries.entries c.get.ensures.value)
