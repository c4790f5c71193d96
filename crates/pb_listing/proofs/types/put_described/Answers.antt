use Rattle.std.proofs.Common.{map, string_bytes}
use Rattle.std.proofs.lemmas.List.Folds.{flat_map-map}
use Rattle.pb_output.proofs.SinkLemmas.{puts_then}
use Rattle.pb_schema.specs.View.{field_view}
use Rattle.pb_listing.specs.TypesListing.{field_line}
use Rattle.pb_listing.proofs.types.put_described.Goals as goal

pub returns : goal.returns
returns g c =
    let fields = rw c.as_slice.ensures.value at c.put_message_fields.ensures in
    let line = field_line c.args.pool.now c.args.full_name.now (map string_bytes c.args.message_type.now.oneofs.items) in
    rw (flat_map-map line field_view c.args.message_type.now.fields.items) (puts_then c.put_head.ensures fields)
