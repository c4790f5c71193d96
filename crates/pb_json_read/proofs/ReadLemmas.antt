-- What is read step by step, for the functions that read.
use Rattle.std.proofs.Common.{◌≡◌, ℕ, ◌+◌, ◌<◌, List, ◌∷◌, length, drop, get_or, map, Option, Some, None, Result, Ok, Err, OnOk, IfOk, IfErr, inl, inr, refl, sym, ap, ◌∙◌, subst}
use Rattle.std.proofs.lemmas.List.{drop_more}
use Rattle.std.specs.Prelude.{◌⊎◌}
use Rattle.pb_schema.specs.declared.types.Kind.{Kind}
use Rattle.pb_schema.specs.declared.types.Shape.{Shape}
use Rattle.pb_schema.specs.Types.{FieldView, Types}
use Rattle.pb_schema.specs.Kinds.{message_of_kind}
use Rattle.pb_value.specs.Data.{Datum, message, Datums, Holding}
use Rattle.pb_value.specs.View.{body_view}
use Rattle.pb_value.specs.declared.body.Body.{Body}
use Rattle.pb_json.specs.declared.well_known.WellKnown.{WellKnown}
use Rattle.pb_json.specs.Given.{NamesGiven}
use Rattle.pb_json.specs.WellKnown.{well_known}
use Rattle.pb_json_text.specs.Json.{Json, null, boolean, number, string, array, object, Elements, element, Members, member}
use Rattle.pb_json_text.specs.View.{Named, elements_view, members_view, members_from, elements_from, member_view, value_view, form_view}
use Rattle.pb_json_text.specs.declared.value.JsonMember.{JsonMember}
use Rattle.pb_json_text.specs.declared.value.JsonValue.{JsonValue}
use Rattle.pb_json_text.proofs.ViewLemmas.{value_view-parts, member_view-parts}
use Rattle.pb_json_read.specs.declared.error.JsonReadCause.TheVariants.{BadValue}
use Rattle.pb_json_read.specs.declared.error.JsonReadError.{JsonReadError}
use Rattle.pb_json_read.specs.declared.rules.JsonRules.{JsonRules}
use Rattle.pb_json_read.specs.Answers.{Answers, Changes, named}
use Rattle.pb_json_read.specs.Faults.{fault, out_of_memory}
use Rattle.pb_json_read.specs.Forms.{ReadsForm}
use Rattle.pb_json_read.specs.Steps.{Read, After, Then, Made, NoValue, Parts, Entered, with_datum}
use Rattle.pb_json_read.specs.Steps.{ReadsSingle, ReadsOf, ReadsShape, ReadsScalar}
use Rattle.pb_json_read.specs.Reads.{ReadsMember, ReadsMemberBeside, ReadsMemberEntry}
use Rattle.pb_json_read.specs.Reads.{ReadsMembers, ReadsBeside, ReadsEntries, ReadsElements, ReadsValue, ReadsContent, ReadsMessage, ReadsObject, ReadsList, ReadsMap}
use Rattle.pb_json_read.specs.Reads.{ReadsAnyObject}

-- ONE THING AFTER ANOTHER

pub made_ok : {A B : Type 0} (R : Read A → Type 0) (f : A → B) (x : A) (y : B) → y ≡ f x → R (Ok x) → Made R f (Ok y)
made_ok R f x y e r = (Ok x, r, ap Ok e)

pub made_err : {A B C : Type 0} (R : Read A → Type 0) (f : A → B) (e : JsonReadError) → C ⊎ R (Err e) → C ⊎ Made R f (Err e)
made_err R f e (inl c) = inl c
made_err R f e (inr r) = inr (Err e, r, refl)

pub after_ok : {A B : Type 0} (r : Read A) (x : A) (Next : A → Read B → Type 0) (o : Read B) → Ok x ≡ r → Next x o → After r Next o
after_ok r x Next o e n = subst (λ t. After t Next o) e n

pub after_err : {A B : Type 0} (r : Read A) (Next : A → Read B → Type 0) (e : JsonReadError) → Err e ≡ r → After r Next (Err e)
after_err r Next e h = subst (λ t. After t Next (Err e)) h refl

-- first this, and what comes next, unless out of memory
pub then_answers : {X A B : Type 0} (view : X → B) (First : Read A → Type 0) (Next : A → Read B → Type 0) (x : A) (r : Result X JsonReadError) → First (Ok x)
    → Answers view (Next x) r → Answers view (Then First Next) r
then_answers view First Next x (Ok y) first next = (Ok x, first, next)
then_answers view First Next x (Err e) first (inl none) = inl none
then_answers view First Next x (Err e) first (inr next) = inr (Ok x, first, next)

pub then_stops : {A B C : Type 0} (First : Read A → Type 0) (Next : A → Read B → Type 0) (e : JsonReadError) → C ⊎ First (Err e) → C ⊎ Then First Next (Err e)
then_stops First Next e (inl c) = inl c
then_stops First Next e (inr first) = inr (Err e, first, refl)

-- a fact of a fault, where memory may have run out
pub or_weaker : {C P Q : Type 0} → (P → Q) → C ⊎ P → C ⊎ Q
or_weaker f (inl c) = inl c
or_weaker f (inr p) = inr (f p)

-- THE PARTS OF ARRAYS AND OBJECTS

pub from_item : {X : Type 0} (xs : List X) (i : ℕ) (x : X) → i < length xs → x ≡ get_or xs i x → drop i xs ≡ x ∷ drop (i + 1) xs
from_item {X} xs i x below is = drop_more xs i x below ∙ ap (λ (y : X). y ∷ drop (i + 1) xs) (sym is)

pub members_next : (ms : List JsonMember) (i : ℕ) (m : JsonMember) → i < length ms → m ≡ get_or ms i m
    → members_view (drop i ms) ≡ member (named m).0 (named m).1 (named m).2.0 (named m).2.1 (members_view (drop (i + 1) ms))
members_next ms i m below is =
    ap members_view (from_item ms i m below is)
    ∙ ap (λ (p : Named). members_from (p ∷ map member_view (drop (i + 1) ms))) (member_view-parts m)

elements_next : (vs : List JsonValue) (i : ℕ) (v : JsonValue) → i < length vs → v ≡ get_or vs i v
    → elements_view (drop i vs) ≡ element v.at (form_view v.form) (elements_view (drop (i + 1) vs))
elements_next vs i v below is =
    ap elements_view (from_item vs i v below is)
    ∙ ap (λ p. elements_from (p ∷ map value_view (drop (i + 1) vs))) (value_view-parts v)

module _ (pool : Types) (rules : JsonRules) (names : NamesGiven) where
  pub members_step : (meant : List ℕ → Option FieldView) (p q : Parts) (ms : List JsonMember) (i : ℕ) (m : JsonMember) → i < length ms → m ≡ get_or ms i m
      → ReadsMember pool rules names (meant (named m).1) (named m) p (Ok q) → (o : Read Parts) → ReadsMembers pool rules names meant q (members_view (drop (i + 1) ms)) o
      → ReadsMembers pool rules names meant p (members_view (drop i ms)) o
  members_step meant p q ms i m below is first o rest =
      subst (λ (l : Members). ReadsMembers pool rules names meant p l o) (sym (members_next ms i m below is)) (Ok q, first, rest)

  pub members_stop : (meant : List ℕ → Option FieldView) (p : Parts) (ms : List JsonMember) (i : ℕ) (m : JsonMember) → i < length ms → m ≡ get_or ms i m → (e : JsonReadError)
      → ReadsMember pool rules names (meant (named m).1) (named m) p (Err e) → ReadsMembers pool rules names meant p (members_view (drop i ms)) (Err e)
  members_stop meant p ms i m below is e first =
      subst (λ (l : Members). ReadsMembers pool rules names meant p l (Err e)) (sym (members_next ms i m below is)) (Err e, first, refl)

  pub beside_step : (meant : List ℕ → Option FieldView) (p q : Parts) (ms : List JsonMember) (i : ℕ) (m : JsonMember) → i < length ms → m ≡ get_or ms i m
      → ReadsMemberBeside pool rules names meant (named m) p (Ok q) → (o : Read Parts) → ReadsBeside pool rules names meant q (members_view (drop (i + 1) ms)) o
      → ReadsBeside pool rules names meant p (members_view (drop i ms)) o
  beside_step meant p q ms i m below is first o rest =
      subst (λ (l : Members). ReadsBeside pool rules names meant p l o) (sym (members_next ms i m below is)) (Ok q, first, rest)

  pub beside_stop : (meant : List ℕ → Option FieldView) (p : Parts) (ms : List JsonMember) (i : ℕ) (m : JsonMember) → i < length ms → m ≡ get_or ms i m → (e : JsonReadError)
      → ReadsMemberBeside pool rules names meant (named m) p (Err e) → ReadsBeside pool rules names meant p (members_view (drop i ms)) (Err e)
  beside_stop meant p ms i m below is e first =
      subst (λ (l : Members). ReadsBeside pool rules names meant p l (Err e)) (sym (members_next ms i m below is)) (Err e, first, refl)

  pub entries_step : (key k : Kind) (es fs : Entered) (ms : List JsonMember) (i : ℕ) (m : JsonMember) → i < length ms → m ≡ get_or ms i m
      → ReadsMemberEntry pool rules names key k (named m) es (Ok fs) → (o : Read Entered) → ReadsEntries pool rules names key k fs (members_view (drop (i + 1) ms)) o
      → ReadsEntries pool rules names key k es (members_view (drop i ms)) o
  entries_step key k es fs ms i m below is first o rest =
      subst (λ (l : Members). ReadsEntries pool rules names key k es l o) (sym (members_next ms i m below is)) (Ok fs, first, rest)

  pub entries_stop : (key k : Kind) (es : Entered) (ms : List JsonMember) (i : ℕ) (m : JsonMember) → i < length ms → m ≡ get_or ms i m → (e : JsonReadError)
      → ReadsMemberEntry pool rules names key k (named m) es (Err e) → ReadsEntries pool rules names key k es (members_view (drop i ms)) (Err e)
  entries_stop key k es ms i m below is e first =
      subst (λ (l : Members). ReadsEntries pool rules names key k es l (Err e)) (sym (members_next ms i m below is)) (Err e, first, refl)

  pub elements_step : (k : Kind) (ds : Datums) (d : Option Datum) (vs : List JsonValue) (i : ℕ) (v : JsonValue) → i < length vs → v ≡ get_or vs i v
      → ReadsValue pool rules names k v.at (form_view v.form) (Ok d) → (o : Read Datums) → ReadsElements pool rules names k (with_datum ds d) (elements_view (drop (i + 1) vs)) o
      → ReadsElements pool rules names k ds (elements_view (drop i vs)) o
  elements_step k ds d vs i v below is first o rest =
      subst (λ (l : Elements). ReadsElements pool rules names k ds l o) (sym (elements_next vs i v below is)) (Ok d, first, rest)

  pub elements_stop : (k : Kind) (ds : Datums) (vs : List JsonValue) (i : ℕ) (v : JsonValue) → i < length vs → v ≡ get_or vs i v → (e : JsonReadError)
      → ReadsValue pool rules names k v.at (form_view v.form) (Err e) → ReadsElements pool rules names k ds (elements_view (drop i vs)) (Err e)
  elements_stop k ds vs i v below is e first =
      subst (λ (l : Elements). ReadsElements pool rules names k ds l (Err e)) (sym (elements_next vs i v below is)) (Err e, first, refl)

  -- A VALUE, BY HOW ITS PARTS ARE READ

  value_as : (k : Kind) (at : ℕ) (j : Json) (o : Read (Option Datum)) → ReadsSingle pool rules k at j (λ m r. ReadsMessage pool rules names m at j r) o
      → ReadsValue pool rules names k at j o
  value_as k at (object ms) o h = h
  value_as k at (array js) o h = h
  value_as k at null o h = h
  value_as k at (boolean b) o h = h
  value_as k at (number s) o h = h
  value_as k at (string s) o h = h

  pub value_plain : (k : Kind) (at : ℕ) (j : Json) (o : Read (Option Datum)) → message_of_kind k ≡ None → ReadsScalar pool rules k at j o → ReadsValue pool rules names k at j o
  value_plain k at j o is h =
      value_as k at j o (subst (λ (t : Option ℕ). ReadsOf t (ReadsScalar pool rules k at j) (λ m r. ReadsMessage pool rules names m at j r) o) (sym is) h)

  pub value_inside : (k : Kind) (at m : ℕ) (j : Json) (o : Read (Option Datum)) → message_of_kind k ≡ Some m → Made (ReadsMessage pool rules names m at j) (λ b. Some (message b)) o
      → ReadsValue pool rules names k at j o
  value_inside k at m j o is h =
      value_as k at j o (subst (λ (t : Option ℕ). ReadsOf t (ReadsScalar pool rules k at j) (λ n r. ReadsMessage pool rules names n at j r) o) (sym is) h)

  pub content_as : (s : Shape) (k : Kind) (at : ℕ) (j : Json) (o : Read (Option Holding))
      → ReadsShape s (λ r. ReadsValue pool rules names k at j r) (λ r. ReadsList pool rules names k at j r) (λ key r. ReadsMap pool rules names key k at j r) o
      → ReadsContent pool rules names s k at j o
  content_as s k at (object ms) o h = h
  content_as s k at (array js) o h = h
  content_as s k at null o h = h
  content_as s k at (boolean b) o h = h
  content_as s k at (number t) o h = h
  content_as s k at (string t) o h = h

  -- A MESSAGE, BY THE FORM OF ITS TYPE

  pub form_answers : (m at : ℕ) (j : Json) (w : WellKnown) → well_known pool m ≡ w → (r : Result Body JsonReadError)
      → Answers body_view (λ o. ReadsForm pool rules at j (λ key e q. ReadsMap pool rules names key e at j q) (λ e q. ReadsList pool rules names e at j q) w (λ q. ReadsObject pool rules names m at j q) (λ q. ReadsAnyObject pool rules names m at j q) m o) r
      → Answers body_view (ReadsMessage pool rules names m at j) r
  form_answers m at j w is r h =
      subst (λ (v : WellKnown). Answers body_view (λ o. ReadsForm pool rules at j (λ key e q. ReadsMap pool rules names key e at j q) (λ e q. ReadsList pool rules names e at j q) v (λ q. ReadsObject pool rules names m at j q) (λ q. ReadsAnyObject pool rules names m at j q) m o) r)
      (sym is) h

-- ANSWERS

abbrev refused_read : (A : Type 0) → JsonReadError → Read A
refused_read A e = Err e

-- no value of the field
pub none_answers : {X A : Type 0} (view : X → A) (at : ℕ) (e : JsonReadError) → e ≡ fault at BadValue → Answers view (λ o. NoValue at o) (Err e)
none_answers {X} {A} view at e is = inr (ap (refused_read A) is)

-- what is made of this, unless out of memory
pub answers_done : {X A B : Type 0} (view : X → B) (R : Read A → Type 0) (f : A → B) (x : A) (r : Result X JsonReadError) → IfOk r (λ y. view y ≡ f x)
    → IfErr r (λ e. e ≡ out_of_memory) → R (Ok x) → Answers view (Made R f) r
answers_done view R f x (Ok y) same memory h = made_ok R f x (view y) same h
answers_done view R f x (Err e) same memory h = inl memory

pub answers_weaker : {X A : Type 0} (view : X → A) (R S : Read A → Type 0) (r : Result X JsonReadError) → ((o : Read A) → R o → S o) → Answers view R r → Answers view S r
answers_weaker view R S (Ok x) f h = f _ h
answers_weaker view R S (Err e) f h = or_weaker (f _) h

pub changes_weaker : {X A : Type 0} (new : A) (R S : Read A → Type 0) (r : Result X JsonReadError) → ((o : Read A) → R o → S o) → Changes new R r → Changes new S r
changes_weaker new R S (Ok x) f h = f _ h
changes_weaker new R S (Err e) f h = or_weaker (f _) h

-- a change that fails only when out of memory
pub changes_done : {X A : Type 0} (new x : A) (R : Read A → Type 0) (r : Result X JsonReadError) → OnOk r (new ≡ x) → IfErr r (λ e. e ≡ out_of_memory) → R (Ok x) → Changes new R r
changes_done new x R (Ok y) same memory h = subst (λ z. R (Ok z)) (sym same) h
changes_done new x R (Err e) same memory h = inl memory
