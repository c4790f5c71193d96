use Rattle.std.proofs.Common.{◌≡◌, map, take}
use Rattle.pb_declarations.specs.View.{file_view}
use Rattle.pb_link_names.specs.Declarations.{declarations}
use Rattle.pb_link_names.specs.View.{declaration_view}
use Rattle.pb_link_names.proofs.declared.row.Given as goal

abbrev pub invariant-loop-index : goal.invariant-loop-index
invariant-loop-index l = map declaration_view l.row.items ≡ declarations (map file_view (take l.index l.files))
