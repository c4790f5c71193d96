use Rattle.std.proofs.Common.{◌≡◌, map, take}
use Rattle.std.specs.Prelude.{string_bytes}
use Rattle.pb_schema.specs.Types.{FileView}
use Rattle.pb_schema.specs.View.{file_view}
use Rattle.pb_schema.specs.Names.{name_at}
use Rattle.pb_link.proofs.declaring.import_names.Given as goal

abbrev pub invariant-loop-import : goal.invariant-loop-import
invariant-loop-import l = map string_bytes l.names.items ≡ map (name_at (map (λ (f : FileView). f.name) (map file_view l.files))) (take l.import-index l.imports)
