use Rattle.std.proofs.Common.{◌≡◌, ℕ, pos, map, take}
use Rattle.std.specs.List.{enumerate_from}
use Rattle.pb_link.proofs.declaring.indexes.Given as goal

abbrev pub invariant-loop-index : goal.invariant-loop-index
invariant-loop-index l = l.indexes.items ≡ map (λ (e : ℕ × ℕ). pos e.0) (enumerate_from 0 (take l.index l.imports))
