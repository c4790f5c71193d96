-- What the parts of a decoder mean.
use Rattle.std.specs.Prelude.{option_map}
use Rattle.pb_wire.specs.Unknown.{records_of}
use Rattle.pb_value.specs.View.{body_view, key_view, value_view}
use Rattle.pb_decode_parts.specs.Open.Parents as parents
use Rattle.pb_decode_parts.specs.declared.open.part.Entry.{Entry}
use Rattle.pb_decode_parts.specs.declared.open.part.Part.{Part}
use Rattle.pb_decode_parts.specs.declared.open.part.Part.TheVariants as part
use Rattle.pb_decode_parts.specs.declared.open.part.Parent.{Parent}
use Rattle.pb_decode_parts.specs.declared.open.part.Scope.{Scope}
use Rattle.pb_decode_parts.specs.Open.Occurrences.{counts_view}

abbrev pub entry_view : Entry → parents.Part
entry_view e = parents.entry_part e.key_kind e.value_kind (option_map key_view e.key) (option_map value_view e.value)

abbrev pub part_view : Part → parents.Part
part_view (part.Message m b) = parents.message_part m.0 (body_view b)
part_view (part.Entry e) = entry_view e
part_view (part.Group v) = parents.group_part (records_of v.items)

abbrev pub scope_view : Scope → parents.Scope
scope_view s = record { depth_left = s.depth_left; end = s.end; counts = counts_view s.occurrences }

abbrev pub parent_view : Parent → parents.Parent
parent_view f = record { part = part_view f.part; number = f.number; slot = f.slot; group = f.group; scope = scope_view f.scope }
