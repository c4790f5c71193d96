-- A JSON value means one thing at most.
use Rattle.std.proofs.Common.{◌≡◌, ℕ, List, [], ◌++◌, Bool, true, false, eqb, get_or, Option, Some, None, inl, inr, refl, sym, ap, ap₂, ◌∙◌, append-nil, to_bits}
use Rattle.std.specs.Prelude.{◌⊎◌, ℤ, pos}
use Rattle.std.specs.Option.{IsSomeAnd}
use Rattle.std.specs.Float.{Float, Format, float_is_finite}
use Rattle.std.specs.Str.Parse.{digits_value}
use Rattle.std.proofs.lemmas.Bool.{cases_Bool, false≢true}
use Rattle.fast_float.specs.Text.{scan, nearest as nearest_to_parts}
use Rattle.pb_json_scalars.specs.Numbers.{Number, IsNumber, IsInt, none, IsIntegerText, IsFloatText, IsFloatString, float_word, minus_text, signed}
use Rattle.pb_json_scalars.specs.Scanned.{ScannedAs, without_minus}
use Rattle.pb_json_scalars.specs.Keys.{IsKeyText}
use Rattle.pb_json_scalars.proofs.ScanLemmas.{number_found, minus_of}
use Rattle.pb_json_scalars.proofs.WorthLemmas.{size_found}
use Rattle.pb_json_scalars.proofs.FloatLemmas.{float_found}
use Rattle.pb_schema.specs.declared.types.Kind.{Kind}
use Rattle.pb_schema.specs.declared.types.Kind.TheVariants as kind
use Rattle.pb_schema.specs.Types.{Types}
use Rattle.pb_schema.specs.EnumValues.{enum_values}
use Rattle.pb_schema.specs.Scalar.{Scalar, int32, int64, uint32, uint64, boolean, float, double, enum, text, bytes}
use Rattle.pb_value.specs.Data.{Datum, scalar}
use Rattle.pb_json_text.specs.Json as json
use Rattle.pb_json_text.specs.Json.{Json}
use Rattle.pb_json_read.specs.Scalars.{IsInteger, IsFloat, IsBool, IsString, IsBytes, IsEnumValue, IsClosedEnumValue, IsNamed, characters, number_named}
use Rattle.pb_json_read.specs.Values.{IsScalar}
use Rattle.pb_json_read.specs.Keys.{IsKey}

-- at most one
abbrev pub IsOne : {A : Type 0} → (A → Type 0) → Type 0
IsOne {A} P = (x y : A) → P x → P y → x ≡ y

some_same : {A : Type 0} (x y : A) → Some x ≡ Some y → x ≡ y
some_same x y e = cc

-- NUMBERS

scanned : (s : List ℕ) (n : Number) → IsNumber s n → ScannedAs n (eqb (get_or s 0 0) 45) (scan (without_minus s))
scanned s n is = number_found s (without_minus s) (eqb (get_or s 0 0) 45) (scan (without_minus s)) n refl refl refl is

integer_one : (s : List ℕ) → IsOne (IsIntegerText s)
integer_one s y z (n, is, same) (m, also, equal) =
    let a = size_found (eqb (get_or s 0 0) 45) (scan (without_minus s)) n y s is (scanned s n is) same in
    let b = size_found (eqb (get_or s 0 0) 45) (scan (without_minus s)) m z s also (scanned s m also) equal in
    a.1 ∙ sym b.1

float_one : (f : Format) (s : List ℕ) → IsOne (IsFloatText f s)
float_one f s y z a b = by_finite (cases_Bool (float_is_finite near))
  where
    near : Float
    near = nearest_to_parts f (eqb (get_or s 0 0) 45) (scan (without_minus s))

    by_finite : (float_is_finite near ≡ true) ⊎ (float_is_finite near ≡ false) → y ≡ z
    by_finite (inl e) =
        let found = float_found (Some (to_bits f near)) f s (eqb (get_or s 0 0) 45) (scan (without_minus s)) near y (scanned s) refl (e, refl) a in
        let also = float_found (Some (to_bits f near)) f s (eqb (get_or s 0 0) 45) (scan (without_minus s)) near z (scanned s) refl (e, refl) b in
        some_same y z (sym found ∙ also)
    by_finite (inr e) =
        let found = float_found None f s (eqb (get_or s 0 0) 45) (scan (without_minus s)) near y (scanned s) refl (λ t. false≢true (sym e ∙ t)) a in
        absurd (cc)

string_one : (f : Format) (s : List ℕ) → IsOne (IsFloatString f s)
string_one f s y z a b = by_word (float_word s) refl a b
  where
    by_word : (w : Option Float) → float_word s ≡ w → IsFloatString f s y → IsFloatString f s z → y ≡ z
    by_word None e a b = float_one f s y z (rw e at a) (rw e at b)
    by_word (Some x) e a b = let p = rw e at a in let q = rw e at b in p ∙ sym q

-- ---- keys

key_parts : (s : List ℕ) (negative : Bool) (ds : List ℕ) → IsInt ds → s ≡ minus_text negative ++ ds → (eqb (get_or s 0 0) 45 ≡ negative) × (without_minus s ≡ ds)
key_parts s negative ds is e =
    let n : Number = record { negative = negative; whole = ds; fraction = []; upper = false; sign = none; exponent = [] } in
    let number : IsNumber s n = record { whole = is; fraction = tt; exponent = tt; text = e ∙ ap (λ (l : List ℕ). minus_text negative ++ l) (sym (append-nil ds)) } in
    let parts = minus_of s n number in
    (parts.0, parts.1 ∙ append-nil ds)

key_one : (s : List ℕ) → IsOne (IsKeyText s)
key_one s y z (b, ds, is, e, worth) (c, es, also, f, equal) =
    let p = key_parts s b ds is e in
    let q = key_parts s c es also f in
    worth ∙ ap₂ (λ (x : Bool) (l : List ℕ). signed x (digits_value 10 l)) (sym p.0 ∙ q.0) (sym p.1 ∙ q.1) ∙ sym equal

-- ---- what is made of one thing

made_one : {A B : Type 0} (P : A → Type 0) (f : A → B) → IsOne P → IsOne (λ (d : B). (x : A) × P x × (d ≡ f x))
made_one P f one c d (x, p, e) (y, q, g) = e ∙ ap f (one x y p q) ∙ sym g

both_one : {A : Type 0} (P Q : A → Type 0) → IsOne P → IsOne (λ (x : A). P x × Q x)
both_one P Q one x y a b = one x y a.0 b.0

whole_one : (j : Json) → IsOne (IsInteger j)
whole_one j y z a b = by_characters (characters j) a b
  where
    by_characters : (o : Option (List ℕ)) → IsSomeAnd o (λ s. IsIntegerText s y) → IsSomeAnd o (λ s. IsIntegerText s z) → y ≡ z
    by_characters None a b = absurd a
    by_characters (Some s) a b = integer_one s y z a b

pos_same : (n m : ℕ) → pos n ≡ pos m → n ≡ m
pos_same n m e = cc

natural_one : (j : Json) → IsOne (λ n. IsInteger j (pos n))
natural_one j n m a b = pos_same n m (whole_one j (pos n) (pos m) a b)

float_value_one : (f : Format) (j : Json) → IsOne (IsFloat f j)
float_value_one f (json.number s) y z a b = float_one f s y z a b
float_value_one f (json.string s) y z a b = string_one f s y z a b
float_value_one f json.null y z a b = absurd a
float_value_one f (json.boolean c) y z a b = absurd a
float_value_one f (json.array js) y z a b = absurd a
float_value_one f (json.object ms) y z a b = absurd a

bool_one : (j : Json) → IsOne (IsBool j)
bool_one (json.boolean c) y z a b = a ∙ sym b
bool_one (json.number s) y z a b = absurd a
bool_one (json.string s) y z a b = absurd a
bool_one json.null y z a b = absurd a
bool_one (json.array js) y z a b = absurd a
bool_one (json.object ms) y z a b = absurd a

text_one : (j : Json) → IsOne (IsString j)
text_one (json.string s) y z a b = a.1 ∙ sym b.1
text_one (json.boolean c) y z a b = absurd a
text_one (json.number s) y z a b = absurd a
text_one json.null y z a b = absurd a
text_one (json.array js) y z a b = absurd a
text_one (json.object ms) y z a b = absurd a

bytes_one : (j : Json) → IsOne (IsBytes j)
bytes_one (json.string s) y z a b = some_same y z (sym a ∙ b)
bytes_one (json.boolean c) y z a b = absurd a
bytes_one (json.number s) y z a b = absurd a
bytes_one json.null y z a b = absurd a
bytes_one (json.array js) y z a b = absurd a
bytes_one (json.object ms) y z a b = absurd a

named_one : (o : Option ℤ) (s : List ℕ) → IsOne (IsNamed o s)
named_one None s y z a b = integer_one s y z a.0 b.0
named_one (Some n) s y z a b = a ∙ sym b

enum_one : (pool : Types) (e : ℕ) (j : Json) → IsOne (IsEnumValue pool e j)
enum_one pool e (json.string s) y z a b = named_one (number_named s (enum_values pool e)) s y z a b
enum_one pool e (json.number s) y z a b = integer_one s y z a.0 b.0
enum_one pool e json.null y z a b = a.1 ∙ sym b.1
enum_one pool e (json.boolean c) y z a b = absurd a
enum_one pool e (json.array js) y z a b = absurd a
enum_one pool e (json.object ms) y z a b = absurd a

-- ---- by kinds

int32_one : (j : Json) (F : ℤ → Type 0) (f : ℤ → Datum) → IsOne (λ (d : Datum). (z : ℤ) × (IsInteger j z × F z) × (d ≡ f z))
int32_one j F f = made_one (λ z. IsInteger j z × F z) f (both_one (IsInteger j) F (whole_one j))

uint32_one : (j : Json) (F : ℕ → Type 0) (f : ℕ → Datum) → IsOne (λ (d : Datum). (n : ℕ) × (IsInteger j (pos n) × F n) × (d ≡ f n))
uint32_one j F f = made_one (λ n. IsInteger j (pos n) × F n) f (both_one (λ n. IsInteger j (pos n)) F (natural_one j))

pub scalar_one : (pool : Types) (k : Kind) (j : Json) → IsOne (IsScalar pool k j)
scalar_one pool kind.Int32 j c d a b = int32_one j _ (λ z. scalar (int32 z)) c d a b
scalar_one pool kind.Sint32 j c d a b = int32_one j _ (λ z. scalar (int32 z)) c d a b
scalar_one pool kind.Sfixed32 j c d a b = int32_one j _ (λ z. scalar (int32 z)) c d a b
scalar_one pool kind.Int64 j c d a b = int32_one j _ (λ z. scalar (int64 z)) c d a b
scalar_one pool kind.Sint64 j c d a b = int32_one j _ (λ z. scalar (int64 z)) c d a b
scalar_one pool kind.Sfixed64 j c d a b = int32_one j _ (λ z. scalar (int64 z)) c d a b
scalar_one pool kind.Uint32 j c d a b = uint32_one j _ (λ n. scalar (uint32 n)) c d a b
scalar_one pool kind.Fixed32 j c d a b = uint32_one j _ (λ n. scalar (uint32 n)) c d a b
scalar_one pool kind.Uint64 j c d a b = uint32_one j _ (λ n. scalar (uint64 n)) c d a b
scalar_one pool kind.Fixed64 j c d a b = uint32_one j _ (λ n. scalar (uint64 n)) c d a b
scalar_one pool kind.Bool j c d a b = made_one (IsBool j) (λ x. scalar (boolean x)) (bool_one j) c d a b
scalar_one pool kind.Float j c d a b = made_one (IsFloat _ j) (λ n. scalar (float n)) (float_value_one _ j) c d a b
scalar_one pool kind.Double j c d a b = made_one (IsFloat _ j) (λ n. scalar (double n)) (float_value_one _ j) c d a b
scalar_one pool kind.Text j c d a b = made_one (IsString j) (λ s. scalar (text s)) (text_one j) c d a b
scalar_one pool kind.Bytes j c d a b = made_one (IsBytes j) (λ s. scalar (bytes s)) (bytes_one j) c d a b
scalar_one pool (kind.Enum e) j c d a b = made_one (IsEnumValue pool e.0 j) (λ z. scalar (enum z)) (enum_one pool e.0 j) c d a b
scalar_one pool (kind.ClosedEnum e) j c d a b =
    made_one (IsClosedEnumValue pool e.0 j) (λ z. scalar (enum z)) (both_one (IsEnumValue pool e.0 j) _ (enum_one pool e.0 j)) c d a b
scalar_one pool (kind.Message m) j c d a b = absurd a
scalar_one pool (kind.Group m) j c d a b = absurd a

signed_key_one : (s : List ℕ) (F : ℤ → Type 0) (f : ℤ → Scalar) → IsOne (λ (x : Scalar). (z : ℤ) × (IsKeyText s z × F z) × (x ≡ f z))
signed_key_one s F f = made_one (λ z. IsKeyText s z × F z) f (both_one (IsKeyText s) F (key_one s))

natural_key_one : (s : List ℕ) (F : ℕ → Type 0) (f : ℕ → Scalar) → IsOne (λ (x : Scalar). (n : ℕ) × (IsKeyText s (pos n) × F n) × (x ≡ f n))
natural_key_one s F f =
    made_one (λ n. IsKeyText s (pos n) × F n) f (both_one (λ n. IsKeyText s (pos n)) F (λ n m a b. pos_same n m (key_one s (pos n) (pos m) a b)))

pub key_of_one : (k : Kind) (s : List ℕ) → IsOne (IsKey k s)
key_of_one kind.Int32 s x y a b = signed_key_one s _ int32 x y a b
key_of_one kind.Sint32 s x y a b = signed_key_one s _ int32 x y a b
key_of_one kind.Sfixed32 s x y a b = signed_key_one s _ int32 x y a b
key_of_one kind.Int64 s x y a b = signed_key_one s _ int64 x y a b
key_of_one kind.Sint64 s x y a b = signed_key_one s _ int64 x y a b
key_of_one kind.Sfixed64 s x y a b = signed_key_one s _ int64 x y a b
key_of_one kind.Uint32 s x y a b = natural_key_one s _ uint32 x y a b
key_of_one kind.Fixed32 s x y a b = natural_key_one s _ uint32 x y a b
key_of_one kind.Uint64 s x y a b = natural_key_one s _ uint64 x y a b
key_of_one kind.Fixed64 s x y a b = natural_key_one s _ uint64 x y a b
key_of_one kind.Bool s x y a b = made_one (λ (c : Bool). _) boolean (λ c d p q. some_same c d (sym p ∙ q)) x y a b
key_of_one kind.Text s x y (t, p, e) (u, q, f) = e ∙ ap text (p.1 ∙ sym q.1) ∙ sym f
key_of_one kind.Float s x y a b = absurd a
key_of_one kind.Double s x y a b = absurd a
key_of_one kind.Bytes s x y a b = absurd a
key_of_one (kind.Enum e) s x y a b = absurd a
key_of_one (kind.ClosedEnum e) s x y a b = absurd a
key_of_one (kind.Message m) s x y a b = absurd a
key_of_one (kind.Group m) s x y a b = absurd a
