-- Types of the same full name, in order.
use Rattle.std.proofs.Common.{◌≡◌, ◌+◌, ◌<◌, ℕ, zero, suc, List, [], ◌∷◌, ◌++◌, Option, Some, None, refl, ap, sym, subst, arith}
use native.Mathlib.Numerals.{unary_clauses}
use Rattle.std.specs.Prelude.{option_map}
use Rattle.std.specs.Option.{option_to_list}
use Rattle.std.proofs.lemmas.List.{append-nil}
use Rattle.std.specs.List.{AllByRecursion}
use Rattle.pb_schema.specs.Names.{AllDiffer}
use Rattle.pb_schema.specs.Types.{Types}
use Rattle.pb_schema.proofs.NameSetLemmas.{AllDiffer-push}
use Rattle.pb_compat.specs.Namesakes.{namesake, namesake_at, namesakes_below}
use Rattle.pb_compat.proofs.Lists.{all_contained, all_pushed}

pub pair_of_none : (old new : Types) (m : ℕ) → namesake old new m ≡ None → namesake_at old new m ≡ []
pair_of_none old new m is = ap (λ (o : Option ℕ). option_to_list (option_map (λ (k : ℕ). (m, k)) o)) is

pub below_more : (old new : Types) (m : ℕ) → namesakes_below old new (m + 1) ≡ namesakes_below old new m ++ namesake_at old new m
below_more old new m = simp unary_clauses refl

-- THEY DIFFER

below_all : (m : ℕ) (ps : List (ℕ × ℕ)) → AllByRecursion (λ p. p.0 < m) ps → AllByRecursion (λ p. p.0 < m + 1) ps
below_all m [] all = tt
below_all m (p ∷ ps) all = let less = all.0 in (omega (arith, less), below_all m ps all.1)

-- pairs of types below an index differ, and so they do with one more
pub record AreBelow (m : ℕ) (ps : List (ℕ × ℕ)) : Type 0 where
  pub below : AllByRecursion (λ p. p.0 < m) ps
  pub differ : AllDiffer ps

one_below : (m n : ℕ) (ps : List (ℕ × ℕ)) → AreBelow m ps → AreBelow (m + 1) (ps ++ (m, n) ∷ [])
one_below m n ps are = record {
  below = all_pushed (λ p. p.0 < m + 1) ps (m, n) (below_all m ps are.below) (omega arith);
  differ = AllDiffer-push ps (m, n) are.differ (λ h. let less = all_contained (λ p. p.0 < m) ps (m, n) are.below h in omega (arith, less));
}

maybe_below : (m : ℕ) (ps : List (ℕ × ℕ)) (o : Option ℕ) → AreBelow m ps → AreBelow (m + 1) (ps ++ option_to_list (option_map (λ (n : ℕ). (m, n)) o))
maybe_below m ps None are = subst (AreBelow (m + 1)) (sym (append-nil ps)) (record { below = below_all m ps are.below; differ = are.differ })
maybe_below m ps (Some n) are = one_below m n ps are

all_below : (old new : Types) (m : ℕ) → AreBelow m (namesakes_below old new m)
all_below old new zero = record { below = tt; differ = tt }
all_below old new (suc m) =
    let next : m + 1 ≡ suc m = omega arith in
    subst (λ (k : ℕ). AreBelow k (namesakes_below old new (suc m))) next (maybe_below m (namesakes_below old new m) (namesake old new m) (all_below old new m))

pub namesakes_differ : (old new : Types) (m : ℕ) (ps : List (ℕ × ℕ)) → ps ≡ namesakes_below old new m → AllDiffer ps
namesakes_differ old new m ps same = subst (λ (qs : List (ℕ × ℕ)). AllDiffer qs) (sym same) (all_below old new m).differ
