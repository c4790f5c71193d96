-- From what a comparison and its witness ensure to what a call answers of them.
use Rattle.std.proofs.Common.{◌≡◌, ℕ, List, [], ◌∷◌, Option, Some, None, refl, sym, ap, subst, ◌∙◌}
use Rattle.std.specs.Prelude.{◌↔◌, Bool, true, false, slice_get, IsSomeAnd}
use Rattle.pb_schema.specs.Types.{Types}
use Rattle.pb_compat.specs.Agrees.{break_among}
use Rattle.pb_compat.specs.Fields.{differences_at}
use Rattle.pb_value.specs.Dynamic.{Dynamic}
use Rattle.pb_compat.specs.Nested.{IsReachedFrom, IsFoundWhereNear, IsNestedWitness}
use Rattle.pb_compat.specs.Pairs.{types_of, IsComparison, IsWithinFields}
use Rattle.pb_compat.specs.Witness.{IsWitness}
use Rattle.pb_compat.specs.declared.difference.ComparedTypes.{ComparedTypes}
use Rattle.pb_compat.proofs.Lists.{index_of, mapped_got}
use Rattle.pb_compat.proofs.ReportedLemmas.{reached_by_fields}
use Rattle.pb_c.specs.Shown.{pair_of, breaks_at, IsPairAt, IsNear, IsShown, IsUnshown}
use Rattle.pb_c.specs.declared.compat.DifferenceReport.{DifferenceReport}

false_true : false ≡ true → ⊥
false_true z = cc

module _ (old new : Types) (m n : ℕ) (cs : List ComparedTypes) (d : DifferenceReport) (compared : IsComparison old new (m, n) cs) where
  abbrev IsFound : Bool → (ℕ × ℕ) → Type 0
  IsFound found p = (found ≡ true) ↔ ((break_among (differences_at old new p.0 p.1 d.number) ≡ true) × IsWithinFields old new ((m, n) ∷ []) 99 p)

  -- a message is found exactly where the field of the difference breaks and is near
  exactly : (i : ℕ) (found : Bool) → IsPairAt cs i d → IsFoundWhereNear old new cs i d.number found → (found ≡ true) ↔ ((breaks_at old new d ≡ true) × IsNear old new m n d)
  exactly i found at near = by (slice_get cs i) refl at
    where
      by : (o : Option ComparedTypes) → slice_get cs i ≡ o → IsSomeAnd o (λ c. types_of c ≡ pair_of d) → IsFound found (pair_of d)
      by None there is = absurd is
      by (Some c) there is = subst (IsFound found) is (near c ((m, n) ∷ []) compared there)

  -- the message of a pair of the comparison shows the difference
  pub shown_by : (i : ℕ) (w : Dynamic) → ((start : ℕ × ℕ) (k j : ℕ) → IsReachedFrom cs start k j → start ≡ (m, n)) → IsPairAt cs i d
      → IsFoundWhereNear old new cs i d.number true → w.pool ≡ old → IsNestedWitness old new cs i w.kind w.body → IsShown old new m n d w
  shown_by i w began at near pool nested =
      let begun = began nested.start nested.fields i nested.reached in
      let both = (exactly i true at near).0 refl in
      record {
        breaks = both.0;
        near = both.1;
        pool = pool;
        typed = nested.typed ∙ ap (λ p. p.0) begun;
        witness = subst (λ (p : ℕ × ℕ). IsWitness old new p.0 p.1 w.body) begun nested.witness;
      }

  -- where there is none, nothing breaks there or it is too far
  pub unshown_by : (i : ℕ) → IsPairAt cs i d → IsFoundWhereNear old new cs i d.number false → IsUnshown old new m n d
  unshown_by i at near both = false_true ((exactly i false at near).1 both)

  -- the comparison has each pair that fields lead to
  pub unshown_absent : ((i : ℕ) → ¬ IsPairAt cs i d) → IsUnshown old new m n d
  unshown_absent none both =
      let near = both.1 in
      let at = index_of _ (pair_of d) ((compared.reached (pair_of d)).1 (reached_by_fields old new ((m, n) ∷ []) near.start (pair_of d) near.fields near.given_start near.reached)) in
      let c = mapped_got types_of cs at.0 (pair_of d) at.1 in
      none at.0 (subst (λ (o : Option ComparedTypes). IsSomeAnd o (λ x. types_of x ≡ pair_of d)) (sym c.1) c.2)
