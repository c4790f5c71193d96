use Rattle.std.proofs.Common.{◌≡◌, ◌++◌, take}
use Rattle.std.specs.Prelude.{flat_map}
use Rattle.pb_compat_lines.specs.Lines.{difference_line}
use Rattle.pb_compat_lines.proofs.lines.add_types.Given as goal

abbrev pub invariant-loop-difference : goal.invariant-loop-difference
invariant-loop-difference l =
    l.text.items ≡ l.initial.text.items ++ flat_map (difference_line l.prefix l.old l.new l.compared l.types) (take l.difference-index l.types.differences.items)
