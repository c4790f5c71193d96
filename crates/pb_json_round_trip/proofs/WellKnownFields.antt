-- What well-formed messages hold whose types are as Google's files declare them.
use Rattle.std.proofs.Common.{◌≡◌, ℕ, ◌+◌, ◌≤◌, Bool, true, false, cond, eqb, List, [], ◌∷◌, Option, Some, None, IsSomeAnd, IfSome, inl, inr, ◌⊎◌, refl, sym, ap, ◌∙◌, subst, arith, ap₂, eqb-true, ℤ, pos, negsuc, FitsSigned, w64, codes, IsUtf8}
use Rattle.std.specs.Prelude.{option_and_then}
use Rattle.std.specs.Option.{option_map_or}
use Rattle.std.proofs.lemmas.Bool.{cases_Bool}
use Rattle.pb_wire.specs.Ranges.{IsByte}
use Rattle.std.specs.List.{AllByRecursion, list_all}
use Rattle.std.specs.Str.{is_utf8}
use Rattle.std.proofs.lemmas.Str.{is_utf8-from_IsUtf8}
use Rattle.pb_schema.specs.declared.types.EnumId.{EnumId}
use Rattle.pb_schema.specs.declared.types.Kind.{Kind}
use Rattle.pb_schema.specs.declared.types.Kind.TheVariants as kind
use Rattle.pb_schema.specs.declared.types.MessageId.{MessageId}
use Rattle.pb_schema.specs.declared.types.Shape.TheVariants as shape
use Rattle.pb_schema.specs.Kinds.{IsOfKind, default_of, message_of_kind}
use Rattle.pb_schema.specs.Scalar.{Scalar, int32, int64, text, bytes, is_default}
use Rattle.pb_schema.specs.Types.{FieldView, Types, field_numbered}
use Rattle.pb_value.specs.Data.{scalar, message, Datums, no_datums, datum, Holding, one, list, map, Fields, no_fields, field, body, get_field}
use Rattle.pb_value.specs.WellFormed.{AreDatums, AreFields, HasNoMember, HasOneMemberEach, IsBody, IsHeld, IsOfShape, RisesFrom, holds_declared, oneof_at, oneof_of}
use Rattle.pb_value.proofs.ElementLemmas.{IsOfKind-default_of}
use Rattle.pb_value.proofs.JudgeLemmas.{found_in}
use Rattle.pb_value.proofs.Options.{some_of}
use Rattle.pb_json.specs.Held.{bytes_at, bytes_held, integer_at, integer_held, string_at, string_held, strings_at, strings_of}
use Rattle.pb_json_read.specs.Steps.{nothing, with_held}
use Rattle.pb_json_read.specs.WellKnown.{texts}
use Rattle.pb_json_round_trip.specs.Messages.{datums_with_one_nan, fields_with_one_nan}
use Rattle.pb_json_round_trip.specs.Scalars.{with_one_nan}
use Rattle.pb_json_round_trip.specs.WellKnown.{any_value, choices, declared, nanos, paths, seconds, type_url}

-- ---- fields of a number

-- what a field may hold
abbrev pub Holds : Types → Holding → FieldView → Type 0
Holds pool h f = IsOfShape f.shape h × IsHeld pool f.shape f.kind h × (holds_declared pool f.kind h ≡ true)

first_or : (P : FieldView → Type 0) (n : ℕ) (f : FieldView) (fs : List FieldView) → IsSomeAnd (field_numbered n (f ∷ fs)) P
    → ((f.number ≡ n) × P f) ⊎ IsSomeAnd (field_numbered n fs) P
first_or P n f fs h = by_test (eqb f.number n) refl h
  where
    by_test : (b : Bool) → eqb f.number n ≡ b → IsSomeAnd (cond b (Some f) (field_numbered n fs)) P → ((f.number ≡ n) × P f) ⊎ IsSomeAnd (field_numbered n fs) P
    by_test true e h = inl (eqb-true f.number n e, h)
    by_test false e h = inr h

only_one : (P : FieldView → Type 0) (n : ℕ) (f : FieldView) → IsSomeAnd (field_numbered n (f ∷ [])) P → (f.number ≡ n) × P f
only_one P n f h = elim (first_or P n f [] h) [ inl r ↦ r | inr other ↦ absurd other ]

pub same_field : (m n : ℕ) (g h : Holding) (fs gs : Fields) → m ≡ n → g ≡ h → fs ≡ gs → field m g fs ≡ field n h gs
same_field m n g h fs gs a b c = ap (λ (k : ℕ). field k g fs) a ∙ ap (λ (x : Holding). field n x fs) b ∙ ap (λ (x : Fields). field n h x) c

-- a message of a type with one field has none, or that one
pub record IsHeldIn (pool : Types) (f : FieldView) (fs : Fields) : Type 0 where
  pub held : Holding
  pub is : fs ≡ field f.number held no_fields
  pub holds : Holds pool held f

pub only_field : (pool : Types) (f : FieldView) (fs : Fields) → AreFields pool (f ∷ []) fs → RisesFrom 0 fs → (fs ≡ no_fields) ⊎ IsHeldIn pool f fs
only_field pool f no_fields are rise = inl refl
only_field pool f (field n h no_fields) are rise =
    let r = only_one (Holds pool h) n f are.0 in inr (record { held = h; is = ap (λ (k : ℕ). field k h no_fields) (sym r.0); holds = r.1 })
only_field pool f (field n h (field k g fs)) are rise =
    let a = (only_one (Holds pool h) n f are.0).0 in
    let b = (only_one (Holds pool g) k f are.1.0).0 in
    let l : n + 1 ≤ k = rise.1.0 in
    absurd (omega (arith, a, b, l))

-- ---- single values

pub record IsSingle (k : Kind) (h : Holding) : Type 0 where
  pub value : Scalar
  pub is : h ≡ one (scalar value)
  pub of_kind : IsOfKind k value
  pub set : is_default value ≡ false

pub single_held : (pool : Types) (k : Kind) (h : Holding) → message_of_kind k ≡ None → IsOfShape shape.Implicit h → IsHeld pool shape.Implicit k h → IsSingle k h
single_held pool k (one (scalar x)) none is held = record { value = x; is = refl; of_kind = held; set = is }
single_held pool k (one (message b)) none is held = absurd (subst (λ (o : Option ℕ). IsSomeAnd o (λ m. IsBody pool m b)) none held)
single_held pool k (list ds) none is held = absurd is
single_held pool k (map es) none is held = absurd is

-- ---- two single values

-- a value in a field, which is left out where it is the default
abbrev unless_default : Bool → ℕ → Scalar → Fields → Fields
unless_default b n x fs = cond b fs (field n (one (scalar x)) fs)

abbrev pair_by : Bool → Bool → Scalar → Scalar → Fields
pair_by b c x y = unless_default b 1 x (unless_default c 2 y no_fields)

abbrev pub pair : Scalar → Scalar → Fields
pair x y = pair_by (is_default x) (is_default y) x y

pub record IsPair (first_kind second_kind : Kind) (fs : Fields) : Type 0 where
  pub first : Scalar
  pub second : Scalar
  pub is : fs ≡ pair first second
  pub of_first : IsOfKind first_kind first
  pub of_second : IsOfKind second_kind second

-- a kind that is no message, whose default is left out
pub record IsLeftOut (k : Kind) : Type 0 where
  pub no_message : message_of_kind k ≡ None
  pub default_is : is_default (default_of k) ≡ true

module _ (pool : Types) (first_name second_name : List ℕ) (k l : Kind) (first_left : IsLeftOut k) (second_left : IsLeftOut l) where
  abbrev both : List FieldView
  both = declared first_name 1 k shape.Implicit ∷ declared second_name 2 l shape.Implicit ∷ []

  -- the second field alone, or none
  record IsSecond (fs : Fields) : Type 0 where
    second : Scalar
    is : fs ≡ unless_default (is_default second) 2 second no_fields
    of_second : IsOfKind l second

  none_later : (low : ℕ) (fs : Fields) → AreFields pool both fs → RisesFrom low fs → 3 ≤ low → fs ≡ no_fields
  none_later low no_fields are rise late = refl
  none_later low (field n h fs) are rise late =
      elim (first_or (Holds pool h) n (declared first_name 1 k shape.Implicit) (declared second_name 2 l shape.Implicit ∷ []) are.0) [
        | inl r ↦ absurd (let e : 1 ≡ n = r.0 in let over : low ≤ n = rise.0 in omega (arith, e, over, late))
        | inr r ↦
            absurd (let e : 2 ≡ n = (only_one (Holds pool h) n (declared second_name 2 l shape.Implicit) r).0 in let over : low ≤ n = rise.0 in omega (arith, e, over, late))
      ]

  second_in : (n : ℕ) (h : Holding) (fs : Fields) → 2 ≡ n → IsSingle l h → fs ≡ no_fields → IsSecond (field n h fs)
  second_in n h fs number single none = record {
    second = single.value;
    is =
        same_field n 2 h (one (scalar single.value)) fs no_fields (sym number) single.is none
        ∙ sym (ap (λ (b : Bool). unless_default b 2 single.value no_fields) single.set);
    of_second = single.of_kind;
  }

  second_held : (low : ℕ) (fs : Fields) → AreFields pool both fs → RisesFrom low fs → 2 ≤ low → IsSecond fs
  second_held low no_fields are rise late = record {
    second = default_of l;
    is = sym (ap (λ (b : Bool). unless_default b 2 (default_of l) no_fields) second_left.default_is);
    of_second = IsOfKind-default_of l second_left.no_message;
  }
  second_held low (field n h fs) are rise late =
      elim (first_or (Holds pool h) n (declared first_name 1 k shape.Implicit) (declared second_name 2 l shape.Implicit ∷ []) are.0) [
        | inl r ↦ absurd (let e : 1 ≡ n = r.0 in let over : low ≤ n = rise.0 in omega (arith, e, over, late))
        | inr r ↦
            let s = only_one (Holds pool h) n (declared second_name 2 l shape.Implicit) r in
            let e : 2 ≡ n = s.0 in
            second_in n h fs e (single_held pool l h second_left.no_message s.1.0 s.1.1) (none_later (n + 1) fs are.1 rise.1 (omega (arith, e)))
      ]

  first_in : (n : ℕ) (h : Holding) (fs : Fields) → 1 ≡ n → IsSingle k h → IsSecond fs → IsPair k l (field n h fs)
  first_in n h fs number single later =
      let rest : Fields = unless_default (is_default later.second) 2 later.second no_fields in
      record {
        first = single.value;
        second = later.second;
        is =
            same_field n 1 h (one (scalar single.value)) fs rest (sym number) single.is later.is
            ∙ sym (ap (λ (b : Bool). unless_default b 1 single.value rest) single.set);
        of_first = single.of_kind;
        of_second = later.of_second;
      }

  without_first : (fs : Fields) → IsSecond fs → IsPair k l fs
  without_first fs later = record {
    first = default_of k;
    second = later.second;
    is =
        later.is
        ∙ sym (ap (λ (b : Bool). unless_default b 1 (default_of k) (unless_default (is_default later.second) 2 later.second no_fields)) first_left.default_is);
    of_first = IsOfKind-default_of k first_left.no_message;
    of_second = later.of_second;
  }

  -- the first alone, the second alone, both or none
  pub pair_held : (fs : Fields) → AreFields pool both fs → RisesFrom 0 fs → IsPair k l fs
  pair_held no_fields are rise = without_first no_fields (second_held 2 no_fields tt tt (omega arith))
  pair_held (field n h fs) are rise =
      elim (first_or (Holds pool h) n (declared first_name 1 k shape.Implicit) (declared second_name 2 l shape.Implicit ∷ []) are.0) [
        | inl r ↦
            let e : 1 ≡ n = r.0 in
            first_in n h fs e (single_held pool k h first_left.no_message r.1.0 r.1.1) (second_held (n + 1) fs are.1 rise.1 (omega (arith, e)))
        | inr r ↦
            let s = only_one (Holds pool h) n (declared second_name 2 l shape.Implicit) r in
            let e : 2 ≡ n = s.0 in
            without_first (field n h fs)
            (second_in n h fs e (single_held pool l h second_left.no_message s.1.0 s.1.1) (none_later (n + 1) fs are.1 rise.1 (omega (arith, e))))
      ]

-- each of them in its field
pub pair_put : (x y : Scalar) → (with_held shape.Implicit 2 (Some (one (scalar y))) (with_held shape.Implicit 1 (Some (one (scalar x))) nothing)).message ≡ body (pair x y) []
pair_put x y =
    elim (cases_Bool (is_default x)) [
      | inl e ↦ elim (cases_Bool (is_default y)) [ inl f ↦ rw (e, f) refl | inr f ↦ rw (e, f) refl ]
      | inr e ↦ elim (cases_Bool (is_default y)) [ inl f ↦ rw (e, f) refl | inr f ↦ rw (e, f) refl ]
    ]

pub pair_stays : (x y : Scalar) → with_one_nan x ≡ x → with_one_nan y ≡ y → fields_with_one_nan (pair x y) ≡ pair x y
pair_stays x y a b = by_tests (is_default x) (is_default y)
  where
    second_stays : field 2 (one (scalar (with_one_nan y))) no_fields ≡ field 2 (one (scalar y)) no_fields
    second_stays = ap (λ (v : Scalar). field 2 (one (scalar v)) no_fields) b

    by_tests : (c d : Bool) → fields_with_one_nan (pair_by c d x y) ≡ pair_by c d x y
    by_tests true true = refl
    by_tests true false = second_stays
    by_tests false true = ap (λ (v : Scalar). field 1 (one (scalar v)) no_fields) a
    by_tests false false =
        ap (λ (v : Scalar). field 1 (one (scalar v)) (field 2 (one (scalar (with_one_nan y))) no_fields)) a ∙ ap (λ (fs : Fields). field 1 (one (scalar x)) fs) second_stays

-- what is in the first and in the second field, or else the default
first_there : (x y : Scalar) → is_default x ≡ false → get_field 1 (pair x y) ≡ Some (one (scalar x))
first_there x y e = ap (λ (b : Bool). get_field 1 (unless_default b 1 x (unless_default (is_default y) 2 y no_fields))) e

first_none : (x y : Scalar) → is_default x ≡ true → get_field 1 (pair x y) ≡ None
first_none x y e = ap (λ (b : Bool). get_field 1 (unless_default b 1 x (unless_default (is_default y) 2 y no_fields))) e ∙ by_test (is_default y)
  where
    by_test : (b : Bool) → get_field 1 (unless_default b 2 y no_fields) ≡ None
    by_test true = refl
    by_test false = refl

second_there : (x y : Scalar) → is_default y ≡ false → get_field 2 (pair x y) ≡ Some (one (scalar y))
second_there x y e = by_test (is_default x) (is_default y) e
  where
    by_test : (b c : Bool) → c ≡ false → get_field 2 (pair_by b c x y) ≡ Some (one (scalar y))
    by_test b true h = absurd (cc)
    by_test true false h = refl
    by_test false false h = refl

second_none : (x y : Scalar) → is_default y ≡ true → get_field 2 (pair x y) ≡ None
second_none x y e = by_test (is_default x) (is_default y) e
  where
    by_test : (b c : Bool) → c ≡ true → get_field 2 (pair_by b c x y) ≡ None
    by_test b false h = absurd (cc)
    by_test true true h = refl
    by_test false true h = refl

-- ---- times

int32_of : (x : Scalar) → IsOfKind kind.Int32 x → (z : ℤ) × (x ≡ int32 z)
int32_of (int32 z) is = (z, refl)
int32_of x is = absurd is

int64_of : (x : Scalar) → IsOfKind kind.Int64 x → (z : ℤ) × (x ≡ int64 z) × FitsSigned w64 z
int64_of (int64 z) is = (z, refl, is)
int64_of x is = absurd is

abbrev pub times : ℤ → ℤ → Fields
times s n = pair (int64 s) (int32 n)

pub record AreTimes (fs : Fields) : Type 0 where
  pub seconds_are : ℤ
  pub nanos_are : ℤ
  pub is : fs ≡ times seconds_are nanos_are
  pub fits : FitsSigned w64 seconds_are

pub times_held : (pool : Types) (fs : Fields) → AreFields pool (seconds ∷ nanos ∷ []) fs → RisesFrom 0 fs → AreTimes fs
times_held pool fs are rise =
    let left_64 : IsLeftOut kind.Int64 = record { no_message = refl; default_is = refl } in
    let left_32 : IsLeftOut kind.Int32 = record { no_message = refl; default_is = refl } in
    let p = pair_held pool (codes "seconds") (codes "nanos") kind.Int64 kind.Int32 left_64 left_32 fs are rise in
    let s = int64_of p.first p.of_first in
    let n = int32_of p.second p.of_second in
    record { seconds_are = s.0; nanos_are = n.0; is = p.is ∙ ap₂ pair s.1 n.1; fits = s.2 }

int64_zero : (s : ℤ) → is_default (int64 s) ≡ true → pos 0 ≡ s
int64_zero (pos n) e = ap (λ (k : ℕ). pos k) (sym (eqb-true n 0 e))
int64_zero (negsuc n) e = absurd (cc)

int32_zero : (s : ℤ) → is_default (int32 s) ≡ true → pos 0 ≡ s
int32_zero (pos n) e = ap (λ (k : ℕ). pos k) (sym (eqb-true n 0 e))
int32_zero (negsuc n) e = absurd (cc)

pub seconds_back : (s n : ℤ) → integer_at 1 (times s n) ≡ s
seconds_back s n =
    elim (cases_Bool (is_default (int64 s))) [
      | inl e ↦ ap (λ (o : Option Holding). option_map_or integer_held o (pos 0)) (first_none (int64 s) (int32 n) e) ∙ int64_zero s e
      | inr e ↦ ap (λ (o : Option Holding). option_map_or integer_held o (pos 0)) (first_there (int64 s) (int32 n) e)
    ]

pub nanos_back : (s n : ℤ) → integer_at 2 (times s n) ≡ n
nanos_back s n =
    elim (cases_Bool (is_default (int32 n))) [
      | inl e ↦ ap (λ (o : Option Holding). option_map_or integer_held o (pos 0)) (second_none (int64 s) (int32 n) e) ∙ int32_zero n e
      | inr e ↦ ap (λ (o : Option Holding). option_map_or integer_held o (pos 0)) (second_there (int64 s) (int32 n) e)
    ]

-- ---- an Any

text_of : (x : Scalar) → IsOfKind kind.Text x → (s : List ℕ) × (x ≡ text s) × IsUtf8 s
text_of (text s) is = (s, refl, is)
text_of x is = absurd is

bytes_of : (x : Scalar) → IsOfKind kind.Bytes x → (s : List ℕ) × (x ≡ bytes s) × AllByRecursion IsByte s
bytes_of (bytes s) is = (s, refl, is)
bytes_of x is = absurd is

text_none : (s : List ℕ) → is_default (text s) ≡ true → [] ≡ s
text_none [] e = refl
text_none (c ∷ cs) e = absurd (cc)

bytes_none : (s : List ℕ) → is_default (bytes s) ≡ true → [] ≡ s
bytes_none [] e = refl
bytes_none (c ∷ cs) e = absurd (cc)

url_back : (s b : List ℕ) → string_at 1 (pair (text s) (bytes b)) ≡ s
url_back s b =
    elim (cases_Bool (is_default (text s))) [
      | inl e ↦ ap (λ (o : Option Holding). option_map_or string_held o []) (first_none (text s) (bytes b) e) ∙ text_none s e
      | inr e ↦ ap (λ (o : Option Holding). option_map_or string_held o []) (first_there (text s) (bytes b) e)
    ]

bytes_back : (s b : List ℕ) → bytes_at 2 (pair (text s) (bytes b)) ≡ b
bytes_back s b =
    elim (cases_Bool (is_default (bytes b))) [
      | inl e ↦ ap (λ (o : Option Holding). option_map_or bytes_held o []) (second_none (text s) (bytes b) e) ∙ bytes_none b e
      | inr e ↦ ap (λ (o : Option Holding). option_map_or bytes_held o []) (second_there (text s) (bytes b) e)
    ]

pub record IsAny (fs : Fields) : Type 0 where
  pub is : fs ≡ pair (text (string_at 1 fs)) (bytes (bytes_at 2 fs))
  pub url_utf8 : IsUtf8 (string_at 1 fs)
  pub are_bytes : AllByRecursion IsByte (bytes_at 2 fs)

pub any_held : (pool : Types) (fs : Fields) → AreFields pool (type_url ∷ any_value ∷ []) fs → RisesFrom 0 fs → IsAny fs
any_held pool fs are rise =
    let left_text : IsLeftOut kind.Text = record { no_message = refl; default_is = refl } in
    let left_bytes : IsLeftOut kind.Bytes = record { no_message = refl; default_is = refl } in
    let p = pair_held pool (codes "type_url") (codes "value") kind.Text kind.Bytes left_text left_bytes fs are rise in
    let s = text_of p.first p.of_first in
    let b = bytes_of p.second p.of_second in
    let same : fs ≡ pair (text s.0) (bytes b.0) = p.is ∙ ap₂ pair s.1 b.1 in
    let url : string_at 1 fs ≡ s.0 = ap (string_at 1) same ∙ url_back s.0 b.0 in
    let held : bytes_at 2 fs ≡ b.0 = ap (bytes_at 2) same ∙ bytes_back s.0 b.0 in
    record {
      is = same ∙ sym (ap₂ (λ (u v : List ℕ). pair (text u) (bytes v)) url held);
      url_utf8 = subst IsUtf8 (sym url) s.2;
      are_bytes = subst (λ (v : List ℕ). AllByRecursion IsByte v) (sym held) b.2;
    }

-- ---- paths

abbrev pub mask : List (List ℕ) → Fields
mask [] = no_fields
mask (p ∷ ps) = field 1 (list (texts (p ∷ ps))) no_fields

pub record IsMask (fs : Fields) : Type 0 where
  pub all : List (List ℕ)
  pub is : fs ≡ mask all
  pub utf8 : list_all is_utf8 all ≡ true

record AreTexts (ds : Datums) : Type 0 where
  all : List (List ℕ)
  are : ds ≡ texts all
  utf8 : list_all is_utf8 all ≡ true

text_before : (s : List ℕ) (ds : Datums) → IsUtf8 s → AreTexts ds → AreTexts (datum (scalar (text s)) ds)
text_before s ds is more = record {
  all = s ∷ more.all;
  are = ap (λ (x : Datums). datum (scalar (text s)) x) more.are;
  utf8 = rw (is_utf8-from_IsUtf8 s is) more.utf8;
}

texts_held : (pool : Types) (ds : Datums) → AreDatums pool kind.Text ds → AreTexts ds
texts_held pool no_datums are = record { all = []; are = refl; utf8 = refl }
texts_held pool (datum (scalar (text s)) ds) are = text_before s ds are.0 (texts_held pool ds are.1)
texts_held pool (datum (scalar x) ds) are = absurd are.0
texts_held pool (datum (message b) ds) are = absurd are.0

list_mask : (ds : Datums) → AreTexts ds → IsOfShape (shape.List false) (list ds) → IsMask (field 1 (list ds) no_fields)
list_mask ds all is = of_texts all.all all.are all.utf8
  where
    of_texts : (ps : List (List ℕ)) → ds ≡ texts ps → list_all is_utf8 ps ≡ true → IsMask (field 1 (list ds) no_fields)
    of_texts [] e utf8 = absurd (subst (λ (x : Datums). IsOfShape (shape.List false) (list x)) e is)
    of_texts (p ∷ ps) e utf8 = record { all = p ∷ ps; is = ap (λ (x : Datums). field 1 (list x) no_fields) e; utf8 = utf8 }

pub mask_held : (pool : Types) (fs : Fields) → AreFields pool (paths ∷ []) fs → RisesFrom 0 fs → IsMask fs
mask_held pool fs are rise =
    elim (only_field pool paths fs are rise) [
      | inl e ↦ record { all = []; is = e; utf8 = refl }
      | inr h ↦ of_held h.held h.is h.holds
    ]
  where
    of_held : (h : Holding) → fs ≡ field 1 h no_fields → Holds pool h paths → IsMask fs
    of_held (list ds) e holds = let m = list_mask ds (texts_held pool ds holds.1) holds.0 in record { all = m.all; is = e ∙ m.is; utf8 = m.utf8 }
    of_held (one d) e holds = absurd holds.0
    of_held (map es) e holds = absurd holds.0

strings_are : (ps : List (List ℕ)) → strings_of (texts ps) ≡ ps
strings_are [] = refl
strings_are (p ∷ ps) = ap (λ (l : List (List ℕ)). p ∷ l) (strings_are ps)

pub paths_back : (ps : List (List ℕ)) → strings_at 1 (mask ps) ≡ ps
paths_back [] = refl
paths_back (p ∷ ps) = ap (λ (l : List (List ℕ)). p ∷ l) (strings_are ps)

texts_stay : (ps : List (List ℕ)) → datums_with_one_nan (texts ps) ≡ texts ps
texts_stay [] = refl
texts_stay (p ∷ ps) = ap (λ (ds : Datums). datum (scalar (text p)) ds) (texts_stay ps)

pub mask_stays : (ps : List (List ℕ)) → fields_with_one_nan (mask ps) ≡ mask ps
mask_stays [] = refl
mask_stays (p ∷ ps) = ap (λ (ds : Datums). field 1 (list (datum (scalar (text p)) ds)) no_fields) (texts_stay ps)

-- ---- the choices of a Value

-- a Value that holds a kind of value holds one
pub record IsChosen (pool : Types) (all : List FieldView) (n : ℕ) (h : Holding) (fs : Fields) : Type 0 where
  pub no_other : fs ≡ no_fields
  pub choice : FieldView
  pub found : field_numbered n all ≡ Some choice
  pub holds : Holds pool h choice

one_oneof : (e : EnumId) (s l : MessageId) → AllByRecursion (λ f. oneof_of f.shape ≡ Some 0) (choices e s l)
one_oneof e s l = (refl, (refl, (refl, (refl, (refl, (refl, tt))))))

in_oneof : (all : List FieldView) (n : ℕ) (f : FieldView) → AllByRecursion (λ f. oneof_of f.shape ≡ Some 0) all → field_numbered n all ≡ Some f
    → oneof_at all n ≡ Some 0
in_oneof all n f each found =
    ap (λ (o : Option FieldView). option_and_then (λ g. oneof_of g.shape) o) found ∙ found_in (λ g. oneof_of g.shape ≡ Some 0) n all f each found

pub chosen : (pool : Types) (e : EnumId) (s l : MessageId) (n : ℕ) (h : Holding) (fs : Fields) → AreFields pool (choices e s l) (field n h fs)
    → HasOneMemberEach (choices e s l) (field n h fs) → IsChosen pool (choices e s l) n h fs
chosen pool e s l n h no_fields are alone =
    let f = some_of (field_numbered n (choices e s l)) (Holds pool h) are.0 in record { no_other = refl; choice = f.0; found = f.1; holds = f.2 }
chosen pool e s l n h (field k g fs) are alone =
    let all = choices e s l in
    let f = some_of (field_numbered n all) (Holds pool h) are.0 in
    let second = some_of (field_numbered k all) (Holds pool g) are.1.0 in
    let none : HasNoMember all 0 (field k g fs) =
    subst (λ (o : Option ℕ). IfSome o (λ i. HasNoMember all i (field k g fs))) (in_oneof all n f.0 (one_oneof e s l) f.1) alone.0 in
    absurd (none.0 (in_oneof all k second.0 (one_oneof e s l) second.1))
