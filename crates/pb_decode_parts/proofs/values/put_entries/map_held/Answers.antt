use Rattle.std.proofs.Common.{Option, Some, ap, sym, ◌∙◌, option_map}
use Rattle.pb_value.specs.declared.body.Content.{Content}
use Rattle.pb_value.specs.Data.{Holding}
use Rattle.pb_value.specs.Change.{entries_of}
use Rattle.pb_value.specs.View.{content_view}
use Rattle.pb_value.proofs.Views.{content_view-Map}
use Rattle.pb_decode_parts.proofs.values.put_entries.map_held.Goals as goal

pub returns-in-Map : goal.returns-in-Map
returns-in-Map c =
    sym
    (ap (λ (o : Option Content). entries_of (option_map content_view o)) c.in-Some.is
    ∙ ap (λ (h : Holding). entries_of (Some h)) (ap content_view c.in-Map.is ∙ content_view-Map c.in-Map.map))
