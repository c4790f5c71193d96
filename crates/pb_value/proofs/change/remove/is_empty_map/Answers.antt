use Rattle.std.proofs.Common.{sym}
use Rattle.pb_value.proofs.Views.{content_view-Map}
use Rattle.pb_value.proofs.Removed.{empty_map, no_map}
use Rattle.pb_value.proofs.change.remove.is_empty_map.Goals as goal

pub returns-in-Map : goal.returns-in-Map
returns-in-Map c = rw (c.in-Map.is, content_view-Map) (empty_map c.in-Map.entries.entries c.is_empty.result c.is_empty.ensures)

pub returns-in_default : goal.returns-in_default
returns-in_default c = sym (no_map c.args.content.now c.in_default.not-Map)
