-- The names of fields, as they are written, are read as these fields: as they are declared in each pool, in lowerCamelCase where these differ, and
-- as they are given where these differ.
use Rattle.std.proofs.Common.{◌≡◌, ◌≢◌, ℕ, zero, suc, ◌-◌, Bool, true, false, cond, eqb, List, [], ◌∷◌, ◌++◌, map, Option, Some, None, inl, inr, refl, sym, ap, ap₂, ◌∙◌, subst, arith, lt-ltb, le-ltb, ne_eqb}
use Rattle.std.specs.Prelude.{find, flat_map, slice_get, unwrap_or}
use Rattle.std.specs.Char.{to_ascii_uppercase}
use Rattle.std.specs.List.{AllByRecursion}
use Rattle.std.specs.Option.{option_or}
use Rattle.std.specs.Str.{bytes_eq}
use Rattle.std.proofs.lemmas.Bool.{cases_Bool, cases_lt}
use Rattle.std.proofs.lemmas.Slice.Eq.{bytes_eq-Decides}
use Rattle.pb_schema.specs.declared.types.Kind.{Kind}
use Rattle.pb_schema.specs.declared.types.Shape.{Shape}
use Rattle.pb_schema.specs.declared.types.Shape.TheVariants as shape
use Rattle.pb_schema.specs.Names.{AllDiffer, declared_by_enum, declared_by_message, entry_name, in_scope, message_name, names_in_message, names_of_field}
use Rattle.pb_schema.specs.Rules.{IsPool}
use Rattle.pb_schema.specs.Tables.{field_named}
use Rattle.pb_schema.specs.Types.{FieldView, MessageView, Types, fields_of_message, message_fields}
use Rattle.pb_schema.proofs.LookupLemmas.{AllDiffer-firsts, at_message}
use Rattle.pb_schema.proofs.NameSetLemmas.{AllDiffer-front}
use Rattle.pb_json.specs.declared.form.Names.TheVariants.{Declared, LowerCamel}
use Rattle.pb_json.specs.Given.{NamesGiven, name_given, none_given}
use Rattle.pb_json.specs.JsonNames.{camel_from, cased, json_name, lower_camel}
use Rattle.pb_json_read.specs.Names.{field_given, field_in_json, field_meant, is_given}
use Rattle.pb_json_round_trip.specs.Messages.{CamelNamesDiffer, DeclaredApart, GivenApart, GivenNamesAreRead, JsonNamesDiffer, NamesAreRead}
use Rattle.pb_json_read.proofs.NameLemmas.{not_given}
use Rattle.pb_json_round_trip.proofs.EnumLaws.{differ_at, differ_before}

-- ---- one of each name

name_at : (P : List ℕ → Type 0) (key : FieldView → List ℕ) (fs : List FieldView) (i : ℕ) (f : FieldView) → AllByRecursion P (map key fs) → slice_get fs i ≡ Some f → P (key f)
name_at P key [] i f all e = absurd (cc)
name_at P key (g ∷ gs) zero f all e = let same : g ≡ f = cc in subst (λ (h : FieldView). P (key h)) same all.0
name_at P key (g ∷ gs) (suc i) f all e = name_at P key gs i f all.1 e

found_by : (key : FieldView → List ℕ) (fs : List FieldView) (i : ℕ) (f : FieldView) → AllDiffer (map key fs) → slice_get fs i ≡ Some f
    → find (λ g. bytes_eq (key g) (key f)) fs ≡ Some f
found_by key [] i f differ e = absurd (cc)
found_by key (g ∷ gs) zero f differ e =
    let same : g ≡ f = cc in rw ((bytes_eq-Decides (key g) (key f)).1 (ap key same)) (ap (λ (h : FieldView). Some h) same)
found_by key (g ∷ gs) (suc i) f differ e =
    elim (cases_Bool (bytes_eq (key g) (key f))) [
      | inl is ↦ absurd (name_at (λ n. key g ≢ n) key gs i f differ.0 e ((bytes_eq-Decides (key g) (key f)).0 is))
      | inr is ↦ rw is (found_by key gs i f differ.1 e)
    ]

-- fields with one name are one
same_found : (key : FieldView → List ℕ) (fs : List FieldView) (i j : ℕ) (f g : FieldView) → AllDiffer (map key fs) → slice_get fs i ≡ Some f
    → slice_get fs j ≡ Some g → key g ≡ key f → ◌≡◌ {A = Option FieldView} (Some g) (Some f)
same_found key fs i j f g differ at_f at_g same =
    sym (found_by key fs j g differ at_g) ∙ ap (λ (n : List ℕ). find (λ h. bytes_eq (key h) n) fs) same ∙ found_by key fs i f differ at_f

-- what is found passes the test, and has a place
record IsFound (test : FieldView → Bool) (fs : List FieldView) (g : FieldView) : Type 0 where
  place : ℕ
  there : slice_get fs place ≡ Some g
  passes : test g ≡ true

found_is : (test : FieldView → Bool) (fs : List FieldView) (g : FieldView) → find test fs ≡ Some g → IsFound test fs g
found_is test [] g e = absurd (cc)
found_is test (f ∷ fs) g e = by_test (test f) refl (found_is test fs g) e
  where
    by_test : (b : Bool) → test f ≡ b → (find test fs ≡ Some g → IsFound test fs g) → cond b (Some f) (find test fs) ≡ Some g → IsFound test (f ∷ fs) g
    by_test true is next e = let same : f ≡ g = cc in record { place = 0; there = e; passes = subst (λ (h : FieldView). test h ≡ true) same is }
    by_test false is next e = let later = next e in record { place = suc later.place; there = later.there; passes = later.passes }

from_places : (P : FieldView → Type 0) (fs : List FieldView) → ((i : ℕ) (f : FieldView) → slice_get fs i ≡ Some f → P f) → AllByRecursion P fs
from_places P [] h = tt
from_places P (f ∷ fs) h = (h 0 f refl, from_places P fs (λ i g e. h (suc i) g e))

-- ---- where no field is given a name

none_is_given : (pool : Types) (m : ℕ) (name : List ℕ) → field_meant none_given pool m name
    ≡ option_or (field_named name (message_fields pool m)) (field_in_json none_given m (message_fields pool m) name)
none_is_given pool m name =
    ap (λ (o : Option FieldView). option_or o (option_or (field_named name (message_fields pool m)) (field_in_json none_given m (message_fields pool m) name)))
    (not_given m (message_fields pool m) name)

-- ---- names as they are declared

-- the other simple names that a field declares
abbrev later_names : Shape → List ℕ → List (List ℕ)
later_names (shape.Map key) name = entry_name name ∷ []
later_names shape.Implicit name = []
later_names shape.Explicit name = []
later_names (shape.OneofMember o) name = []
later_names (shape.List packed) name = []

pub first_name : (name : List ℕ) (number : ℕ) (k : Kind) (s : Shape)
    → names_of_field (record { name = name; number = number; kind = k; shape = s }) ≡ name ∷ later_names s name
first_name name number k (shape.Map key) = refl
first_name name number k shape.Implicit = refl
first_name name number k shape.Explicit = refl
first_name name number k (shape.OneofMember o) = refl
first_name name number k (shape.List packed) = refl

all_names : (fs : List FieldView) → flat_map names_of_field fs ≡ flat_map (λ f. f.name ∷ later_names f.shape f.name) fs
all_names [] = refl
all_names (f ∷ fs) = ap₂ (λ (a b : List (List ℕ)). a ++ b) (first_name f.name f.number f.kind f.shape) (all_names fs)

module _ (pool : Types) (is_pool : IsPool pool) where
  names_differ : (m : ℕ) → AllDiffer (map (λ f. f.name) (message_fields pool m))
  names_differ m = of_message (slice_get pool.messages m) refl
    where
      of_message : (o : Option MessageView) → slice_get pool.messages m ≡ o → AllDiffer (map (λ f. f.name) (fields_of_message o))
      of_message None is = tt
      of_message (Some t) is =
          let scope = message_name pool.files pool.messages t in
          let all =
          differ_at (declared_by_message pool.files pool.messages) pool.messages m t
          (AllDiffer-front (flat_map (declared_by_message pool.files pool.messages) pool.messages) (flat_map (declared_by_enum pool.files pool.messages) pool.enums)
          is_pool.names.names_differ) is in
          let simple = differ_before (in_scope scope) (names_in_message t) all.1 in
          let fields : AllDiffer (flat_map names_of_field t.fields) = AllDiffer-front (flat_map names_of_field t.fields) t.oneofs simple in
          AllDiffer-firsts (λ f. f.name) (λ (f : FieldView). later_names f.shape f.name) t.fields (subst AllDiffer (all_names t.fields) fields)

  pub declared_read : NamesAreRead Declared none_given pool
  declared_read m = from_places (λ f. field_meant none_given pool m f.name ≡ Some f) (message_fields pool m) each
    where
      each : (i : ℕ) (f : FieldView) → slice_get (message_fields pool m) i ≡ Some f → field_meant none_given pool m f.name ≡ Some f
      each i f e =
          none_is_given pool m f.name
          ∙ ap (λ (o : Option FieldView). option_or o (field_in_json none_given m (message_fields pool m) f.name))
          (found_by (λ g. g.name) (message_fields pool m) i f (names_differ m) e)

-- ---- the same beside names that are given

given_is : (o : Option (List ℕ)) (name : List ℕ) → is_given o name ≡ true → o ≡ Some name
given_is None name e = absurd (cc)
given_is (Some given) name e = ap (λ (n : List ℕ). Some n) ((bytes_eq-Decides given name).0 e)

module _ (pool : Types) (is_pool : IsPool pool) (given : NamesGiven) (apart : GivenApart given pool) where
  pub declared_beside : NamesAreRead Declared given pool
  declared_beside m = from_places (λ f. field_meant given pool m f.name ≡ Some f) (message_fields pool m) each
    where
      each : (i : ℕ) (f : FieldView) → slice_get (message_fields pool m) i ≡ Some f → field_meant given pool m f.name ≡ Some f
      each i f e = by_given (field_given given m (message_fields pool m) f.name) refl
        where
          by_given : (o : Option FieldView) → field_given given m (message_fields pool m) f.name ≡ o
              → option_or o (option_or (field_named f.name (message_fields pool m)) (field_in_json given m (message_fields pool m) f.name)) ≡ Some f
          by_given None is =
              ap (λ (o : Option FieldView). option_or o (field_in_json given m (message_fields pool m) f.name))
              (found_by (λ g. g.name) (message_fields pool m) i f (names_differ pool is_pool m) e)
          by_given (Some g) is =
              let found = found_is (λ h. is_given (name_given given m h.number) f.name) (message_fields pool m) g is in
              ap (λ (h : FieldView). Some h) (apart m i found.place f g e found.there (given_is (name_given given m g.number) f.name found.passes))

-- ---- names in lowerCamelCase

no_line : (c : ℕ) → eqb c 95 ≡ false → eqb (to_ascii_uppercase c) 95 ≡ false
no_line c h =
    elim (cases_lt c 97) [
      | inl low ↦ rw (lt-ltb c 97 low) h
      | inr high ↦ elim (cases_lt c 123) [
        | inl low ↦ rw (le-ltb c 97 high, lt-ltb c 123 low) (ne_eqb (c - 32) 95 (λ e. omega arith))
        | inr other ↦ rw (le-ltb c 97 high, le-ltb c 123 other) h
      ]
    ]

pub cased_no_line : (raised : Bool) (c : ℕ) → eqb c 95 ≡ false → eqb (cased raised c) 95 ≡ false
cased_no_line true c h = no_line c h
cased_no_line false c h = h

-- a name in lowerCamelCase is its own
camel_again : (raised : Bool) (s : List ℕ) → camel_from false (camel_from raised s) ≡ camel_from raised s
camel_again raised [] = refl
camel_again raised (c ∷ cs) =
    let later = camel_again (eqb c 95) cs in
    elim (cases_Bool (eqb c 95)) [
      | inl e ↦ rw e (rw e at later)
      | inr e ↦ rw (e, cased_no_line raised c e) (ap (λ (l : List ℕ). cased raised c ∷ l) (rw e at later))
    ]

module _ (pool : Types) (differ : CamelNamesDiffer pool) where
  camel_differ : (m : ℕ) → AllDiffer (map (λ f. lower_camel f.name) (message_fields pool m))
  camel_differ m = of_message (slice_get pool.messages m) refl
    where
      of_message : (o : Option MessageView) → slice_get pool.messages m ≡ o → AllDiffer (map (λ f. lower_camel f.name) (fields_of_message o))
      of_message None is = tt
      of_message (Some t) is = at_message (λ s. AllDiffer (map (λ f. lower_camel f.name) s.fields)) pool.messages m t differ is

  pub camel_read : NamesAreRead LowerCamel none_given pool
  camel_read m = from_places (λ f. field_meant none_given pool m (lower_camel f.name) ≡ Some f) (message_fields pool m) each
    where
      -- a field that is declared by a name in lowerCamelCase has it in lowerCamelCase too
      same_field : (i : ℕ) (f g : FieldView) → slice_get (message_fields pool m) i ≡ Some f
          → IsFound (λ h. bytes_eq h.name (lower_camel f.name)) (message_fields pool m) g → ◌≡◌ {A = Option FieldView} (Some g) (Some f)
      same_field i f g e found =
          let name : g.name ≡ lower_camel f.name = (bytes_eq-Decides g.name (lower_camel f.name)).0 found.passes in
          same_found (λ h. lower_camel h.name) (message_fields pool m) i found.place f g (camel_differ m) e found.there
          (ap lower_camel name ∙ camel_again false f.name)

      each : (i : ℕ) (f : FieldView) → slice_get (message_fields pool m) i ≡ Some f → field_meant none_given pool m (lower_camel f.name) ≡ Some f
      each i f e = none_is_given pool m (lower_camel f.name) ∙ by_name (field_named (lower_camel f.name) (message_fields pool m)) refl
        where
          by_name : (o : Option FieldView) → field_named (lower_camel f.name) (message_fields pool m) ≡ o
              → option_or o (field_in_json none_given m (message_fields pool m) (lower_camel f.name)) ≡ Some f
          by_name None is = found_by (λ h. lower_camel h.name) (message_fields pool m) i f (camel_differ m) e
          by_name (Some g) is = same_field i f g e (found_is (λ h. bytes_eq h.name (lower_camel f.name)) (message_fields pool m) g is)

-- ---- names that are given

given_name : (o : Option (List ℕ)) (other name : List ℕ) → is_given o name ≡ true → unwrap_or o other ≡ name
given_name None other name e = absurd (cc)
given_name (Some given) other name e = (bytes_eq-Decides given name).0 e

module _
    (pool : Types) (names : NamesGiven) (differ : JsonNamesDiffer names pool) (apart : DeclaredApart names pool) (m i : ℕ) (f : FieldView)
    (e : slice_get (message_fields pool m) i ≡ Some f) where
  abbrev all : List FieldView
  all = message_fields pool m

  abbrev name : List ℕ
  name = json_name names m f

  by_name : (o : Option FieldView) → field_named name all ≡ o → option_or o (field_in_json names m all name) ≡ Some f
  by_name None is = found_by (λ h. json_name names m h) all i f (differ m) e
  by_name (Some g) is =
      let found = found_is (λ h. bytes_eq h.name name) all g is in
      ap (λ (h : FieldView). Some h) (apart m i found.place f g e found.there ((bytes_eq-Decides g.name name).0 found.passes))

  by_given : (o : Option FieldView) → field_given names m all name ≡ o → option_or o (option_or (field_named name all) (field_in_json names m all name)) ≡ Some f
  by_given None is = by_name (field_named name all) refl
  by_given (Some g) is =
      let found = found_is (λ h. is_given (name_given names m h.number) name) all g is in
      same_found (λ h. json_name names m h) all i found.place f g (differ m) e found.there
      (given_name (name_given names m g.number) (lower_camel g.name) name found.passes)

  one_given : field_meant names pool m name ≡ Some f
  one_given = by_given (field_given names m all name) refl

pub given_read : (pool : Types) → GivenNamesAreRead pool
given_read pool names differ apart m =
    from_places (λ f. field_meant names.now pool m (json_name names.now m f) ≡ Some f) (message_fields pool m) (one_given pool names.now differ apart m)
