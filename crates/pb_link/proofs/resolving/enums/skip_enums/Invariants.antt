use Rattle.std.proofs.Common.{◌≡◌, map, drop}
use Rattle.pb_declarations.specs.View.{enum_view}
use Rattle.pb_link.specs.Resolving.{coming, each_behind, behind_enum}
use Rattle.pb_link.proofs.resolving.enums.skip_enums.Given as goal

abbrev pub invariant-loop-entry : goal.invariant-loop-entry
invariant-loop-entry l = each_behind behind_enum (map enum_view (drop l.entry-index l.enums)) (coming l.names) ≡ each_behind behind_enum (map enum_view l.enums) (coming l.initial.names)
