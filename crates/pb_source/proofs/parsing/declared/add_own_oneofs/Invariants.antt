use Rattle.std.proofs.Common.{◌≡◌, length, take, drop, map, string_bytes}
use Rattle.pb_declarations.specs.View.{field_view}
use Rattle.pb_source.proofs.PartSteps.{OwnAdded}
use Rattle.pb_source.proofs.parsing.declared.add_own_oneofs.Given as goal

abbrev pub invariant-loop-i : goal.invariant-loop-i
invariant-loop-i l =
    (length l.fields.items ≡ length l.fn.fields.items)
    × OwnAdded (map field_view l.fn.fields.items) (map string_bytes l.fn.oneofs.items) (map field_view (take l.i l.fields.items)) (map field_view (drop l.i l.fields.items)) (map string_bytes l.oneofs.items)
