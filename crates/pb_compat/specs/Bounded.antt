-- What a comparison answers of which the caller bounds the pairs: one, or none where more are reached.
use Rattle.std.specs.Prelude.{◌≤◌, ℕ, List, length, Option, IfSome, IfNone, Vec}
use Rattle.std.specs.declared.alloc.Global.{Global}
use Rattle.pb_schema.specs.Types.{Types}
use Rattle.pb_compat.specs.declared.difference.ComparedTypes.{ComparedTypes}
use Rattle.pb_compat.specs.Nested.{AreLinked}
use Rattle.pb_compat.specs.Pairs.{IsComparisonFrom, ReachesMore}

abbrev pub Compares : Types → Types → List (ℕ × ℕ) → Option (Vec ComparedTypes Global) → Type 0
Compares old new starts o = IfSome o (λ v. IsComparisonFrom old new starts v.items)

abbrev pub Links : Types → Types → Option (Vec ComparedTypes Global) → Type 0
Links old new o = IfSome o (λ v. AreLinked old new v.items)

abbrev pub IsWithinBound : ℕ → Option (Vec ComparedTypes Global) → Type 0
IsWithinBound most o = IfSome o (λ v. length v.items ≤ most)

abbrev pub Exceeds : Types → Types → List (ℕ × ℕ) → ℕ → Option (Vec ComparedTypes Global) → Type 0
Exceeds old new starts most o = IfNone o (ReachesMore old new starts most)
