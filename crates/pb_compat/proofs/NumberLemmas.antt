-- Numbers that lead on are numbers of fields.
use Rattle.std.proofs.Common.{◌≡◌, ◌<◌, ℕ, Bool, true, false, cond, List, [], ◌∷◌, length, get_or, take, map, Option, Some, None, refl, subst, Contains, eqb}
use Rattle.std.specs.Prelude.{option_and_then}
use Rattle.std.proofs.lemmas.Bool.Decides.{Decides-eqb}
use Rattle.std.proofs.lemmas.List.Sorted.{Contains-permutation}
use Rattle.pb_graphs.proofs.ContainsLemmas.{Contains-first, Contains-later}
use Rattle.pb_schema.specs.Types.{FieldView, Types, message_fields, field_numbered}
use Rattle.pb_schema.specs.Kinds.{message_of_kind}
use Rattle.pb_compat.specs.Pairs.{leads, pair_of, message_at, AreRising}
use Rattle.pb_compat.specs.declared.pairs.Pairs.{Pairs}
use Rattle.pb_compat.specs.Walk.{Follows, FollowsAll}
use Rattle.pb_compat.proofs.Lists.{taken_least, taken_or_no_less}
use Rattle.pb_compat.proofs.WalkLemmas.{IsNext}

none_some : {X : Type 0} {x : X} → ◌≡◌ {A = Option X} None (Some x) → ⊥
none_some p = cc

pub found_number : (k : ℕ) (fs : List FieldView) (f : FieldView) → field_numbered k fs ≡ Some f → Contains (map (λ g. g.number) fs) k
found_number k [] f h = absurd (none_some h)
found_number k (g ∷ gs) f h = by (eqb g.number k) refl h (found_number k gs f)
  where
    by : (b : Bool) → eqb g.number k ≡ b → cond b (Some g) (field_numbered k gs) ≡ Some f → (field_numbered k gs ≡ Some f → Contains (map (λ x. x.number) gs) k) → Contains (map (λ x. x.number) (g ∷ gs)) k
    by true e h later = subst (Contains (map (λ x. x.number) (g ∷ gs))) ((Decides-eqb g.number k).0 e) (Contains-first g.number (map (λ x. x.number) gs))
    by false e h later = Contains-later k g.number (map (λ x. x.number) gs) (later h)

leading_number : (k : ℕ) (fs : List FieldView) (o : Option FieldView) (b : Option ℕ) (q : ℕ × ℕ) → field_numbered k fs ≡ o → pair_of (option_and_then (λ f. message_of_kind f.kind) o) b ≡ Some q → Contains (map (λ g. g.number) fs) k
leading_number k fs None b q e h = absurd (none_some h)
leading_number k fs (Some f) b q e h = found_number k fs f e

module _ (old new : Types) (p : ℕ × ℕ) (ns : List ℕ) (rising : AreRising (message_fields old p.0) ns) where
  pub every_number : (k : ℕ) (q : ℕ × ℕ) → leads old new p k ≡ Some q → Contains ns k
  every_number k q h =
      let fs = message_fields old p.0 in
      Contains-permutation (map (λ g. g.number) fs) ns k rising.all (leading_number k fs (field_numbered k fs) (message_at new p.1 k) q refl h)

  -- of numbers that rise, the one that comes next
  pub next_number : (j : ℕ) → j < length ns → IsNext ns (take j ns) (get_or ns j 0)
  next_number j inside = record {
    least = λ k h. taken_least ns j k rising.rising inside h;
    rest = λ k h. taken_or_no_less ns j k rising.rising h;
  }

  pub follow_all : (i : ℕ) (a b : Pairs) → Follows old new i p ns a b → FollowsAll old new i p a b
  follow_all i a b f = record { numbers = ns; all = every_number; follows = f }
