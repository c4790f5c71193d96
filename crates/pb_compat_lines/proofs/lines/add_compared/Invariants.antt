use Rattle.std.proofs.Common.{◌≡◌, ◌++◌, take}
use Rattle.std.specs.Prelude.{flat_map}
use Rattle.pb_compat_lines.specs.Lines.{types_lines}
use Rattle.pb_compat_lines.proofs.lines.add_compared.Given as goal

abbrev pub invariant-loop-types : goal.invariant-loop-types
invariant-loop-types l = l.text.items ≡ l.initial.text.items ++ flat_map (types_lines l.prefix l.old l.new l.compared) (take l.types-index l.compared)
