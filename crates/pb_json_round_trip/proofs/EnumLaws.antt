-- Values of enums, as they are written: by the name of the first value with the number, which no other value has.
use Rattle.std.proofs.Common.{◌≡◌, ◌≢◌, ℕ, Bool, true, false, cond, List, [], ◌∷◌, map, Option, Some, None, refl, ap, subst, ℤ, pos, FitsSigned, w32}
use Rattle.std.specs.Prelude.{find, flat_map, option_map, slice_get}
use Rattle.std.specs.Fmt.{signed_decimal}
use Rattle.std.specs.List.{AllByRecursion}
use Rattle.std.specs.Ordering.{int_eq}
use Rattle.std.specs.Str.{bytes_eq}
use Rattle.std.proofs.lemmas.Bool.Decides.{Decides-int_eq}
use Rattle.std.proofs.lemmas.Slice.Eq.{bytes_eq-Decides}
use Rattle.pb_schema.specs.declared.types.Kind.{Kind}
use Rattle.pb_schema.specs.declared.types.Kind.TheVariants as kind
use Rattle.pb_schema.specs.Closed.{is_declared}
use Rattle.pb_schema.specs.EnumValues.{enum_values, value_name, values_of_enum}
use Rattle.pb_schema.specs.Kinds.{IsOfKind}
use Rattle.pb_schema.specs.Names.{AllDiffer, declared_by_enum, declared_by_message, in_scope, scope_of}
use Rattle.pb_schema.specs.Rules.{IsPool}
use Rattle.pb_schema.specs.Scalar.{Scalar, enum}
use Rattle.pb_schema.specs.Types.{EnumView, Types}
use Rattle.pb_schema.proofs.NameSetLemmas.{AllDiffer-back, AllDiffer-front}
use Rattle.pb_value.specs.Data.{scalar}
use Rattle.pb_json.specs.Mapping.{named_json, scalar_json}
use Rattle.pb_json.specs.WellKnown.{is_null_enum}
use Rattle.pb_json_read.specs.Scalars.{IsEnumValue, number_named}
use Rattle.pb_json_read.specs.Scalars as scalars
use Rattle.pb_json_read.specs.Values.{IsScalar}
use Rattle.pb_json_text.specs.Json as read
use Rattle.pb_json_round_trip.specs.Scalars.{with_one_nan}
use Rattle.pb_json_round_trip.specs.Texts.{Means}
use Rattle.pb_json_round_trip.proofs.IntegerLaws.{key_is_integer, signed_key}
use Rattle.pb_json_round_trip.proofs.ScalarLaws.{scalar_read, wider}

-- ---- names that differ

abbrev Values : Type 0
Values = List (List ℕ × ℤ)

-- a name that is found is among those of which this holds
named_all : (P : List ℕ → Type 0) (z : ℤ) (name : List ℕ) (vs : Values) → AllByRecursion P (map (λ v. v.0) vs) → value_name z vs ≡ Some name → P name
named_all P z name [] all e = absurd (cc)
named_all P z name (v ∷ vs) all e = by_test (int_eq v.1 z) (named_all P z name vs all.1) e
  where
    by_test : (b : Bool) → (value_name z vs ≡ Some name → P name) → option_map (λ (w : List ℕ × ℤ). w.0) (cond b (Some v) (find (λ w. int_eq w.1 z) vs)) ≡ Some name → P name
    by_test true next e = let same : v.0 ≡ name = cc in subst P same all.0
    by_test false next e = next e

number_is : (z : ℤ) (name : List ℕ) (vs : Values) → AllDiffer (map (λ v. v.0) vs) → value_name z vs ≡ Some name → number_named name vs ≡ Some z
number_is z name [] differ e = absurd (cc)
number_is z name (v ∷ vs) differ e = by_test (int_eq v.1 z) refl (number_is z name vs differ.1) e
  where
    here : (n : ℤ) → v.0 ≡ name → v.1 ≡ z → option_map (λ (w : List ℕ × ℤ). w.1) (cond (bytes_eq v.0 name) (Some v) (find (λ w. bytes_eq w.0 name) vs)) ≡ Some z
    here n same number = rw ((bytes_eq-Decides v.0 name).1 same) (ap (λ (k : ℤ). Some k) number)

    later : (b : Bool) → bytes_eq v.0 name ≡ b → v.0 ≢ name → number_named name vs ≡ Some z
        → option_map (λ (w : List ℕ × ℤ). w.1) (cond b (Some v) (find (λ w. bytes_eq w.0 name) vs)) ≡ Some z
    later true is other found = absurd (other ((bytes_eq-Decides v.0 name).0 is))
    later false is other found = found

    by_test : (b : Bool) → int_eq v.1 z ≡ b → (value_name z vs ≡ Some name → number_named name vs ≡ Some z)
        → option_map (λ (w : List ℕ × ℤ). w.0) (cond b (Some v) (find (λ w. int_eq w.1 z) vs)) ≡ Some name
        → number_named name (v ∷ vs) ≡ Some z
    by_test true is next e = let same : v.0 ≡ name = cc in here z same ((Decides-int_eq v.1 z).0 is)
    by_test false is next e = later (bytes_eq v.0 name) refl (named_all (λ y. v.0 ≢ y) z name vs differ.0 e) (next e)

-- ---- the names of an enum's values differ in a pool

pub differ_at : {X : Type 0} (f : X → List (List ℕ)) (xs : List X) (i : ℕ) (x : X) → AllDiffer (flat_map f xs) → slice_get xs i ≡ Some x → AllDiffer (f x)
differ_at f [] i x differ e = absurd (cc)
differ_at f (y ∷ ys) ℕ.zero x differ e = let same : y ≡ x = cc in subst (λ z. AllDiffer (f z)) same (AllDiffer-front (f y) (flat_map f ys) differ)
differ_at f (y ∷ ys) (ℕ.suc i) x differ e = differ_at f ys i x (AllDiffer-back (f y) (flat_map f ys) differ) e

all_before : {X Y : Type 0} (f : X → Y) (x : X) (xs : List X) → AllByRecursion (λ y. f x ≢ y) (map f xs) → AllByRecursion (λ y. x ≢ y) xs
all_before f x [] h = tt
all_before f x (y ∷ ys) h = (λ e. h.0 (ap f e), all_before f x ys h.1)

pub differ_before : {X Y : Type 0} (f : X → Y) (xs : List X) → AllDiffer (map f xs) → AllDiffer xs
differ_before f [] h = tt
differ_before f (x ∷ xs) h = (all_before f x xs h.0, differ_before f xs h.1)

pub names_differ : (pool : Types) (e : ℕ) → IsPool pool → AllDiffer (map (λ v. v.0) (enum_values pool e))
names_differ pool e is_pool = of_enum (slice_get pool.enums e) refl
  where
    of_enum : (o : Option EnumView) → slice_get pool.enums e ≡ o → AllDiffer (map (λ v. v.0) (values_of_enum o))
    of_enum None is = tt
    of_enum (Some t) is =
        let all =
        differ_at (declared_by_enum pool.files pool.messages) pool.enums e t
        (AllDiffer-back (flat_map (declared_by_message pool.files pool.messages) pool.messages) (flat_map (declared_by_enum pool.files pool.messages) pool.enums)
        is_pool.names.names_differ) is in
        (differ_before (in_scope (scope_of pool.files pool.messages t.file t.parent)) (t.name ∷ map (λ v. v.0) t.values) all).1

-- ---- values

module _ (pool : Types) (is_pool : IsPool pool) where
  named_value : (e : ℕ) (z : ℤ) (j : read.Json) (o : Option (List ℕ)) → value_name z (enum_values pool e) ≡ o → FitsSigned w32 z → Means (named_json o z) j
      → IsEnumValue pool e j z
  named_value e z j None is fits means = rw means (key_is_integer (signed_decimal z) z (signed_key z (wider z fits)), fits)
  named_value e z j (Some name) is fits means =
      rw means (rw (number_is z name (enum_values pool e) (names_differ pool e is_pool) is) refl)

  enum_value : (e : ℕ) (z : ℤ) (j : read.Json) (b : Bool) → scalars.is_null_enum pool e ≡ b → (b ≡ true → z ≡ pos 0) → FitsSigned w32 z
      → Means (cond b Rattle.pb_json.specs.Json.null (named_json (value_name z (enum_values pool e)) z)) j → IsEnumValue pool e j z
  enum_value e z j true is zero fits means = rw means (is, zero refl)
  enum_value e z j false is zero fits means = named_value e z j (value_name z (enum_values pool e)) refl fits means

  number_of : (y z : ℤ) → ◌≡◌ {A = Scalar} (enum y) (enum z) → y ≡ z
  number_of y z e = cc

  -- a value of any kind that is no message
  pub value_read : (k : Kind) (x : Scalar) (j : read.Json) → IsOfKind k x → is_declared pool k x ≡ true → (is_null_enum pool k ≡ true → x ≡ enum (pos 0))
      → Means (scalar_json pool k x) j → IsScalar pool k j (scalar (with_one_nan x))
  value_read (kind.Enum e) (enum z) j fits declared zero means =
      (z, enum_value e.0 z j (scalars.is_null_enum pool e.0) refl (λ is. number_of z (pos 0) (zero is)) fits means, refl)
  value_read (kind.ClosedEnum e) (enum z) j fits declared zero means =
      (z, (enum_value e.0 z j (scalars.is_null_enum pool e.0) refl (λ is. number_of z (pos 0) (zero is)) fits means, declared), refl)
  value_read (kind.Enum e) x j fits declared zero means = absurd fits
  value_read (kind.ClosedEnum e) x j fits declared zero means = absurd fits
  value_read (kind.Message m) x j fits declared zero means = absurd fits
  value_read (kind.Group m) x j fits declared zero means = absurd fits
  value_read k x j fits declared zero means = scalar_read pool k x j tt fits means
