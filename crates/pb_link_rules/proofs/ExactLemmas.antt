-- There is one world for each list of files, and the walk tells exactly the least fault of all.
use Rattle.std.proofs.Common.{◌≡◌, ℕ, ◌<◌, ◌≤◌, ◌⊎◌, ⊎_elim, List, Bool, true, false, ◌==◌, Option, Some, None, refl, sym, ap, ◌∙◌, subst, arith, IsTrue}
use Rattle.std.specs.Prelude.{find}
use Rattle.pb_declarations.specs.Decls.{DeclaredFile}
use Rattle.pb_link_rules.specs.declared.cause.LinkCause.{LinkCause}
use Rattle.pb_link_rules.specs.declared.cause.LinkCause.TheVariants as cause
use Rattle.pb_link_rules.specs.Rules.{World}
use Rattle.pb_link_rules.specs.CauseName.{cause_number}
use Rattle.pb_link_rules.specs.Link.{all_causes, NothingFails, FailsFirst, first_fault, IsWorldOf, LinkOk, LinkFirst}
use Rattle.pb_link_rules.proofs.FirstLemmas.{first_fault-first, first_fault-none}

-- the cause of a number
abbrev cause_of : ℕ → Option LinkCause
cause_of n = find (λ c. cause_number c == n) all_causes

cause_of-number : (c : LinkCause) → cause_of (cause_number c) ≡ Some c
cause_of-number cause.TwoFiles = refl
cause_of-number cause.MissingImport = refl
cause_of-number cause.ImportCycle = refl
cause_of-number cause.BadName = refl
cause_of-number cause.NameTaken = refl
cause_of-number cause.NotFound = refl
cause_of-number cause.NotVisible = refl
cause_of-number cause.NotAType = refl
cause_of-number cause.BadNumber = refl
cause_of-number cause.NumberTaken = refl
cause_of-number cause.Reserved = refl
cause_of-number cause.BadOneof = refl
cause_of-number cause.BadMap = refl
cause_of-number cause.BadPacked = refl
cause_of-number cause.BadEnum = refl
cause_of-number cause.KindMismatch = refl
cause_of-number cause.BadRange = refl
cause_of-number cause.ClosedEnum = refl

some_same : {A : Type 0} (a b : A) → Some a ≡ Some b → a ≡ b
some_same a b h = cc

same_number : (c e : LinkCause) → cause_number c ≡ cause_number e → c ≡ e
same_number c e h = some_same c e (sym (cause_of-number c) ∙ ap cause_of h ∙ cause_of-number e)

-- one least fault
pub one_first : (w : World) (p q : ℕ) (c e : LinkCause) → FailsFirst w p c → FailsFirst w q e → (p ≡ q) × (c ≡ e)
one_first w p q c e one other = ⊎_elim (λ less. absurd (⊎_elim (λ more. omega (arith, less, more)) (λ both. omega (arith, less, both.0)) back)) (λ here. ⊎_elim (λ more. absurd (omega (arith, here.0, more))) (λ there. (here.0, same_number c e (omega (arith, here.1, there.1)))) back) forth
  where
    forth : (p < q) ⊎ ((p ≡ q) × (cause_number c ≤ cause_number e))
    forth = one.first q e other.fails

    back : (q < p) ⊎ ((q ≡ p) × (cause_number e ≤ cause_number c))
    back = other.first p c one.fails

pub first_fault-exact : (w : World) (p : ℕ) (c : LinkCause) → FailsFirst w p c → first_fault w 0 w.declared ≡ Some (p, c)
first_fault-exact w p c fails = step (first_fault w 0 w.declared) refl
  where
    step : (o : Option (ℕ × LinkCause)) → first_fault w 0 w.declared ≡ o → first_fault w 0 w.declared ≡ Some (p, c)
    step None told = absurd (first_fault-none w told p c fails.fails)
    step (Some (q, e)) told = let same = one_first w q p e c (first_fault-first w q e told) fails in told ∙ ap (λ n. Some (n, e)) same.0 ∙ ap (λ v. Some (p, v)) same.1

pub first_fault-silent : (w : World) → NothingFails w → first_fault w 0 w.declared ≡ None
first_fault-silent w nothing = step (first_fault w 0 w.declared) refl
  where
    step : (o : Option (ℕ × LinkCause)) → first_fault w 0 w.declared ≡ o → first_fault w 0 w.declared ≡ None
    step None told = told
    step (Some (q, e)) told = absurd (nothing q e (first_fault-first w q e told).fails)

-- ONE WORLD

same_test : (a b : Bool) → (IsTrue a → IsTrue b) → (IsTrue b → IsTrue a) → a ≡ b
same_test true b forth back = sym (forth refl)
same_test false true forth back = back refl
same_test false false forth back = refl

pub one_world : (files : List DeclaredFile) (v w : World) → IsWorldOf files v → IsWorldOf files w → v ≡ w
one_world files v w one other = λ i. record {
  declared = (one.declared ∙ sym other.declared) i;
  sight = record {
    sees = λ j k. (same_test (v.sight.sees j k) (w.sight.sees j k) (λ h. (other.sight.sees j k).1 ((one.sight.sees j k).0 h)) (λ h. (one.sight.sees j k).1 ((other.sight.sees j k).0 h))) i;
    is_cyclic = λ j. (same_test (v.sight.is_cyclic j) (w.sight.is_cyclic j) (λ h. (other.sight.is_cyclic j).1 ((one.sight.is_cyclic j).0 h)) (λ h. (one.sight.is_cyclic j).1 ((other.sight.is_cyclic j).0 h))) i;
  };
  files = (one.in_files ∙ sym other.in_files) i;
}

-- where files link, the walk over their one world tells nothing; and where they have a least fault, it tells that
pub linked-silent : (files : List DeclaredFile) (w : World) → IsWorldOf files w → LinkOk files → first_fault w 0 w.declared ≡ None
linked-silent files w world ok = first_fault-silent w (subst NothingFails (one_world files ok.0 w ok.1 world) ok.2)

pub first-told : (files : List DeclaredFile) (w : World) → IsWorldOf files w → (p : ℕ) (c : LinkCause) → LinkFirst files p c → first_fault w 0 w.declared ≡ Some (p, c)
first-told files w world p c fault = first_fault-exact w p c (subst (λ v. FailsFirst v p c) (one_world files fault.0 w fault.1 world) fault.2)
