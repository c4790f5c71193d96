-- The fields of a message whose pool, full name and oneofs are given.
use Rattle.std.specs.Prelude.{ℕ, List, map, string_bytes}
use Rattle.pb_schema.specs.View.{field_view}
use Rattle.pb_schema.specs.declared.types.Field.{Field}
use Rattle.pb_listing.specs.TypesListing.{field_line}
use Rattle.pb_listing.specs.declared.types.Owner.{Owner}

abbrev pub field_line_of : Owner → Field → List ℕ
field_line_of o f = field_line o.pool.now o.full_name.now (map string_bytes o.oneofs.now.items) (field_view f)
