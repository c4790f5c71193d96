-- Sets of names.
use Rattle.std.proofs.Common.{◌≡◌, ◌≢◌, ℕ, List, [], ◌∷◌, ◌++◌, Bool, true, false, not, ◌&&◌, ◌||◌, IsTrue, ◌↔◌, ⊎_elim, refl, sym, ◌∙◌, ap, subst, Contains, if◌then◌else◌, Vec, Global}
use Rattle.std.specs.List.{AllByRecursion, list_any}
use Rattle.std.specs.Str.{bytes_eq}
use Rattle.std.proofs.Math.Bool.{or-true}
use Rattle.std.proofs.lemmas.Bool.{false≢true}
use Rattle.std.proofs.lemmas.Map.Views.{Contains-from_any}
use Rattle.std.proofs.lemmas.Slice.Eq.{bytes_eq-Decides}
use Rattle.std.proofs.lemmas.List.Elements.{Contains-push, Contains-push_cases, Contains-append_left}
use Rattle.pb_names.specs.NameSets.{names_in, with_name}
use Rattle.pb_graphs.proofs.ContainsLemmas.{Contains-none, Contains-first, Contains-later, Contains-cases}
use Rattle.pb_schema.specs.declared.names.set.AddedNames.{AddedNames}
use Rattle.pb_schema.specs.View.{bytes_of}
use Rattle.pb_schema.specs.Names.{AllDiffer}
use Rattle.pb_schema.specs.Names.Set.{IsSetOf}

-- a test that finds a name
name_there : (x : List ℕ) (names : List (List ℕ)) → IsTrue (list_any (bytes_eq x) names) → Contains names x
name_there x names h = Contains-from_any (λ y z e. (bytes_eq-Decides y z).0 e) x names h

there_name : (x : List ℕ) (names : List (List ℕ)) → Contains names x → IsTrue (list_any (bytes_eq x) names)
there_name x [] h = Contains-none x h
there_name x (k ∷ ks) h =
    ⊎_elim (λ e. ap (λ b. b || list_any (bytes_eq x) ks) ((bytes_eq-Decides x k).1 (sym e))) (λ later. ap (λ b. bytes_eq x k || b) (there_name x ks later) ∙ or-true (bytes_eq x k))
    (Contains-cases x k ks h)

pub has_name : (x : List ℕ) (names : List (List ℕ)) → IsTrue (list_any (bytes_eq x) names) ↔ Contains names x
has_name x names = (name_there x names, there_name x names)

pub All-at : {X : Type 0} (P : X → Type 0) (xs : List X) (x : X) → AllByRecursion P xs → Contains xs x → P x
All-at P [] x all h = Contains-none x h
All-at P (y ∷ ys) x all h = ⊎_elim (λ e. subst P e all.0) (λ later. All-at P ys x all.1 later) (Contains-cases x y ys h)

pub bytes_of-append : (xs ys : List (Vec ℕ Global)) → bytes_of (xs ++ ys) ≡ bytes_of xs ++ bytes_of ys
bytes_of-append [] ys = refl
bytes_of-append (x ∷ xs) ys = ap (λ l. x.items ∷ l) (bytes_of-append xs ys)

-- names that differ, and one more
all_push : {X : Type 0} (P : X → Type 0) (xs : List X) (x : X) → AllByRecursion P xs → P x → AllByRecursion P (xs ++ x ∷ [])
all_push P [] x all p = (p, tt)
all_push P (y ∷ ys) x all p = (all.0, all_push P ys x all.1 p)

pub all_front : {X : Type 0} (P : X → Type 0) (xs ys : List X) → AllByRecursion P (xs ++ ys) → AllByRecursion P xs
all_front P [] ys all = tt
all_front P (x ∷ xs) ys all = (all.0, all_front P xs ys all.1)

pub all_back : {X : Type 0} (P : X → Type 0) (xs ys : List X) → AllByRecursion P (xs ++ ys) → AllByRecursion P ys
all_back P [] ys all = all
all_back P (x ∷ xs) ys all = all_back P xs ys all.1

pub AllDiffer-push : {X : Type 0} (xs : List X) (x : X) → AllDiffer xs → ¬ Contains xs x → AllDiffer (xs ++ x ∷ [])
AllDiffer-push [] x all new = (tt, tt)
AllDiffer-push (y ∷ ys) x all new =
    (all_push (λ z. y ≢ z) ys x all.0 (λ e. new (subst (Contains (y ∷ ys)) e (Contains-first y ys))), AllDiffer-push ys x all.1 (λ h. new (Contains-later x y ys h)))

pub AllDiffer-front : {X : Type 0} (xs ys : List X) → AllDiffer (xs ++ ys) → AllDiffer xs
AllDiffer-front [] ys all = tt
AllDiffer-front (x ∷ xs) ys all = (all_front (λ z. x ≢ z) xs ys all.0, AllDiffer-front xs ys all.1)

pub AllDiffer-back : {X : Type 0} (xs ys : List X) → AllDiffer (xs ++ ys) → AllDiffer ys
AllDiffer-back [] ys all = all
AllDiffer-back (x ∷ xs) ys all = AllDiffer-back xs ys all.1

pub AllDiffer-new : {X : Type 0} (xs : List X) (x : X) → AllDiffer (xs ++ x ∷ []) → ¬ Contains xs x
AllDiffer-new [] x all h = Contains-none x h
AllDiffer-new (y ∷ ys) x all h =
    ⊎_elim (λ e. (all_back (λ z. y ≢ z) ys (x ∷ []) all.0).0 e) (λ later. AllDiffer-new ys x all.1 later) (Contains-cases x y ys h)

module _ (s t : AddedNames) (name : List ℕ) (before : List (List ℕ)) (was : IsSetOf before s) where
  old : names_in t.set ≡ names_in s.set → IsTrue (list_any (bytes_eq name) (names_in s.set)) → t.differ ≡ false → IsSetOf (before ++ name ∷ []) t
  old names has differ =
      let known : Contains before name = (was.members name).0 ((has_name name (names_in s.set)).0 has) in
      record {
        members = λ x. (
          λ h. Contains-append_left before (name ∷ []) x ((was.members x).0 (subst (λ l. Contains l x) names h)),
          λ h. subst (λ l. Contains l x) (sym names) ((was.members x).1 (⊎_elim (λ b. b) (λ e. subst (Contains before) e known) (Contains-push_cases before name x h))),
        );
        differ = (λ e. absurd (false≢true (sym differ ∙ e)), λ all. absurd (AllDiffer-new before name all known));
        ordered = λ e. absurd (false≢true (sym differ ∙ e));
      }

  new : names_in t.set ≡ names_in s.set ++ name ∷ [] → ¬ IsTrue (list_any (bytes_eq name) (names_in s.set)) → t.differ ≡ s.differ → IsSetOf (before ++ name ∷ []) t
  new names hasnt differ =
      let unknown : ¬ Contains before name = λ h. hasnt ((has_name name (names_in s.set)).1 ((was.members name).1 h)) in
      record {
        members = λ x. (
          λ h.
              ⊎_elim (λ b. Contains-append_left before (name ∷ []) x ((was.members x).0 b)) (λ e. subst (Contains (before ++ name ∷ [])) e (Contains-push before name))
              (Contains-push_cases (names_in s.set) name x (subst (λ l. Contains l x) names h)),
          λ h.
              subst (λ l. Contains l x) (sym names)
              (⊎_elim (λ b. Contains-append_left (names_in s.set) (name ∷ []) x ((was.members x).1 b)) (λ e. subst (Contains (names_in s.set ++ name ∷ [])) e (Contains-push (names_in s.set) name)) (Contains-push_cases before name x h)),
        );
        differ =
            (λ e. AllDiffer-push before name (was.differ.0 (sym differ ∙ e)) unknown, λ all. differ ∙ was.differ.1 (AllDiffer-front before (name ∷ []) all));
        ordered = λ e. names ∙ ap (λ l. l ++ name ∷ []) (was.ordered (sym differ ∙ e));
      }

  and_false : (b : Bool) → (b && false) ≡ false
  and_false true = refl
  and_false false = refl

  and_true : (b : Bool) → (b && true) ≡ b
  and_true true = refl
  and_true false = refl

  by : (has : Bool) → list_any (bytes_eq name) (names_in s.set) ≡ has → names_in t.set ≡ (if has then names_in s.set else names_in s.set ++ name ∷ []) → t.differ ≡ (s.differ && not has) → IsSetOf (before ++ name ∷ []) t
  by true e names differ = old names e (differ ∙ and_false s.differ)
  by false e names differ = new names (λ t. false≢true (sym e ∙ t)) (differ ∙ and_true s.differ)

  pub IsSetOf-add : names_in t.set ≡ with_name name (names_in s.set) → t.differ ≡ (s.differ && not (list_any (bytes_eq name) (names_in s.set))) → IsSetOf (before ++ name ∷ []) t
  IsSetOf-add names differ = by (list_any (bytes_eq name) (names_in s.set)) refl names differ
