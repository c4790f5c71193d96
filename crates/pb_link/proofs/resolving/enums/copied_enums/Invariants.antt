use Rattle.std.proofs.Common.{◌≡◌, map, take}
use Rattle.pb_declarations.specs.View.{enum_view}
use Rattle.pb_link.proofs.resolving.enums.copied_enums.Given as goal

abbrev pub invariant-loop-entry : goal.invariant-loop-entry
invariant-loop-entry l = map enum_view l.copies.items ≡ map enum_view (take l.entry-index l.enums)
