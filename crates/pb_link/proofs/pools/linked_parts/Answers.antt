use Rattle.std.proofs.Common.{map, refl}
use Rattle.pb_declarations.specs.View.{file_view}
use Rattle.pb_link.specs.declared.pools.tables.Tables.{Tables}
use Rattle.pb_link.proofs.ReadLemmas.{pool_read}
use Rattle.pb_link.proofs.pools.linked_parts.Goals as goal

pub returns : goal.returns
returns c = λ w is.
    let t : Tables = record { files = c.args.files; row = c.args.row; found = c.args.found; kinds = c.in_ok-kinds.field-0 } in
    pool_read (map file_view c.args.files.now) w is.is_world is.holds t is.row is.found c.in_ok-kinds.ensures refl c.in_ok-infos.infos.items c.in_ok-messages.messages.items c.in_ok-enums.enums.items c.in_ok-infos.ensures c.in_ok-messages.ensures c.in_ok-enums.ensures
