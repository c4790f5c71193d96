-- Single values of each kind but enums, and keys, as they are written.
use Rattle.std.proofs.Common.{◌≡◌, ℕ, zero, suc, Bool, true, false, List, [], ◌∷◌, Some, refl, arith, ℤ, pos, FitsSigned, w32, w64, to_bits}
use Rattle.std.proofs.lemmas.Int.{ints}
use Rattle.std.specs.Float.{Float, Format, binary32, binary64, nan, inf, fin, float_is_finite}
use Rattle.std.specs.Prelude.{from_bits}
use Rattle.std.specs.List.{AllByRecursion}
use Rattle.base64.specs.GeneralPurpose.{IsBytes}
use Rattle.pb_wire.specs.Ranges.{IsByte}
use Rattle.pb_schema.specs.declared.types.Kind.{Kind}
use Rattle.pb_schema.specs.declared.types.Kind.TheVariants as kind
use Rattle.pb_schema.specs.Kinds.{IsOfKind}
use Rattle.pb_schema.specs.Scalar.{Scalar, int32, int64, uint32, uint64, boolean, float, double, text, bytes}
use Rattle.pb_schema.specs.Types.{Types}
use Rattle.pb_value.specs.Data.{scalar}
use Rattle.pb_json.specs.Mapping.{float_json, key_name, scalar_json}
use Rattle.pb_json.specs.JsonText.{bool_text}
use Rattle.pb_json_read.specs.Keys.{IsKey}
use Rattle.pb_json_read.specs.Scalars.{IsFloat}
use Rattle.pb_json_read.specs.Values.{IsScalar}
use Rattle.pb_json_scalars.specs.Keys.{bool_key}
use Rattle.pb_json_text.specs.Json as read
use Rattle.pb_json_round_trip.specs.Texts.{Means}
use Rattle.pb_json_round_trip.specs.Scalars.{IsKeyKind, IsNoEnum, with_one_nan}
use Rattle.pb_json_round_trip.proofs.BytesLaws.{standard_read}
use Rattle.pb_json_round_trip.proofs.FloatLaws.{float_read}
use Rattle.pb_json_round_trip.proofs.IntegerLaws.{key_is_integer, natural_key, signed_key}

-- 32 bits are 64 too
pub wider : (z : ℤ) → FitsSigned w32 z → FitsSigned w64 z
wider z fits = omega (arith, ints, fits)

float_is : (f : Format) (x : Float) (j : read.Json) → Means (float_json f x) j → IsFloat f j (to_bits f x)
unfolding float_is_finite
float_is f nan j is = rw is refl
float_is f (inf false) j is = rw is refl
float_is f (inf true) j is = rw is refl
float_is f (fin negative m e) j (s, is, plain, parses) = rw is (float_read f (fin negative m e) s plain parses refl)

pub bytes_are : (s : List ℕ) → AllByRecursion IsByte s → IsBytes s
bytes_are [] h i = omega arith
bytes_are (b ∷ bs) h zero = h.0
bytes_are (b ∷ bs) h (suc i) = bytes_are bs h.1 i

bool_is : (b : Bool) → bool_key (bool_text b) ≡ Some b
bool_is true = refl
bool_is false = refl

module _ (pool : Types) where
  pub scalar_read :
      (k : Kind) (x : Scalar) (j : read.Json) → IsNoEnum k → IsOfKind k x → Means (scalar_json pool k x) j → IsScalar pool k j (scalar (with_one_nan x))
  scalar_read kind.Int32 (int32 z) j single fits is = (z, (rw is (key_is_integer _ z (signed_key z (wider z fits))), fits), refl)
  scalar_read kind.Sint32 (int32 z) j single fits is = (z, (rw is (key_is_integer _ z (signed_key z (wider z fits))), fits), refl)
  scalar_read kind.Sfixed32 (int32 z) j single fits is = (z, (rw is (key_is_integer _ z (signed_key z (wider z fits))), fits), refl)
  scalar_read kind.Int64 (int64 z) j single fits is = (z, (rw is (key_is_integer _ z (signed_key z fits)), fits), refl)
  scalar_read kind.Sint64 (int64 z) j single fits is = (z, (rw is (key_is_integer _ z (signed_key z fits)), fits), refl)
  scalar_read kind.Sfixed64 (int64 z) j single fits is = (z, (rw is (key_is_integer _ z (signed_key z fits)), fits), refl)
  scalar_read kind.Uint32 (uint32 n) j single fits is = (n, (rw is (key_is_integer _ (pos n) (natural_key n (omega (arith, fits)))), fits), refl)
  scalar_read kind.Fixed32 (uint32 n) j single fits is = (n, (rw is (key_is_integer _ (pos n) (natural_key n (omega (arith, fits)))), fits), refl)
  scalar_read kind.Uint64 (uint64 n) j single fits is = (n, (rw is (key_is_integer _ (pos n) (natural_key n fits)), fits), refl)
  scalar_read kind.Fixed64 (uint64 n) j single fits is = (n, (rw is (key_is_integer _ (pos n) (natural_key n fits)), fits), refl)
  scalar_read kind.Bool (boolean b) j single fits is = (b, rw is refl, refl)
  scalar_read kind.Float (float n) j single fits is = (_, float_is binary32 (from_bits binary32 n) j is, refl)
  scalar_read kind.Double (double n) j single fits is = (_, float_is binary64 (from_bits binary64 n) j is, refl)
  scalar_read kind.Text (text s) j single fits is = (s, rw is (fits, refl), refl)
  scalar_read kind.Bytes (bytes s) j single fits is = (s, rw is (standard_read s (bytes_are s fits)), refl)
  scalar_read (kind.Enum e) x j single fits is = absurd single
  scalar_read (kind.ClosedEnum e) x j single fits is = absurd single
  scalar_read (kind.Message m) x j single fits is = absurd fits
  scalar_read (kind.Group m) x j single fits is = absurd fits
  scalar_read k x j single fits is = absurd fits

pub key_read : (k : Kind) (x : Scalar) → IsKeyKind k → IsOfKind k x → IsKey k (key_name x) x
key_read kind.Int32 (int32 z) may fits = (z, (signed_key z (wider z fits), fits), refl)
key_read kind.Sint32 (int32 z) may fits = (z, (signed_key z (wider z fits), fits), refl)
key_read kind.Sfixed32 (int32 z) may fits = (z, (signed_key z (wider z fits), fits), refl)
key_read kind.Int64 (int64 z) may fits = (z, (signed_key z fits, fits), refl)
key_read kind.Sint64 (int64 z) may fits = (z, (signed_key z fits, fits), refl)
key_read kind.Sfixed64 (int64 z) may fits = (z, (signed_key z fits, fits), refl)
key_read kind.Uint32 (uint32 n) may fits = (n, (natural_key n (omega (arith, fits)), fits), refl)
key_read kind.Fixed32 (uint32 n) may fits = (n, (natural_key n (omega (arith, fits)), fits), refl)
key_read kind.Uint64 (uint64 n) may fits = (n, (natural_key n fits, fits), refl)
key_read kind.Fixed64 (uint64 n) may fits = (n, (natural_key n fits, fits), refl)
key_read kind.Bool (boolean b) may fits = (b, bool_is b, refl)
key_read kind.Text (text s) may fits = (s, (fits, refl), refl)
key_read kind.Double x may fits = absurd may
key_read kind.Float x may fits = absurd may
key_read kind.Bytes x may fits = absurd may
key_read (kind.Enum e) x may fits = absurd may
key_read (kind.ClosedEnum e) x may fits = absurd may
key_read (kind.Message m) x may fits = absurd may
key_read (kind.Group m) x may fits = absurd may
key_read k x may fits = absurd fits
