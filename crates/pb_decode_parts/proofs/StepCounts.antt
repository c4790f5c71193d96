-- Counts of records as the occurrences of steps.
use Rattle.std.proofs.Common.{◌≡◌, ℕ, suc, ◌≤◌, eqb, List, [], ◌∷◌, ◌++◌, length, if◌then◌else◌, sym, arith}
use Rattle.std.proofs.lemmas.Bool.Decides.{nat_tests}
use Rattle.pb_wire.specs.Record.{Record}
use Rattle.pb_wire.specs.Fault.{step}
use Rattle.pb_decode_parts.specs.Open.Occurrences.{one_more_of, CountsOf}

-- before any record each count is 0
pub counts_of_none : (count : ℕ → ℕ) → ((k : ℕ) → count k ≡ 0) → CountsOf count []
counts_of_none count zeros k = zeros k

occurrence-push : (k : ℕ) (rs : List Record) (r : Record) → (step k (rs ++ r ∷ [])).occurrence ≡ (if eqb k r.number then suc (step k rs).occurrence else (step k rs).occurrence)
occurrence-push k [] r = grind (arith, nat_tests)
occurrence-push k (x ∷ rs) r = grind (arith, nat_tests, occurrence-push k rs r)

-- one more record
pub counts_of_push : (count : ℕ → ℕ) (rs : List Record) (r : Record) → CountsOf count rs → CountsOf (one_more_of r.number count) (rs ++ r ∷ [])
counts_of_push count rs r counts k = rw (counts k) (sym (occurrence-push k rs r))

-- no number occurs more often than there are records
pub occurrence-le-length : (k : ℕ) (rs : List Record) → (step k rs).occurrence ≤ length rs
occurrence-le-length k [] = omega arith
occurrence-le-length k (x ∷ rs) = grind (arith, nat_tests, occurrence-le-length k rs)
