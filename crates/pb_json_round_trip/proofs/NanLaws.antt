-- A float by the bits of its value: the same bits, unless it is a NaN.
use Rattle.std.proofs.Common.{◌≡◌, ℕ, ◌*◌, ◌<◌, Bool, true, false, eqb, refl, sym, ap, ◌∙◌, subst, inl, inr, ◌⊎◌, to_bits}
use Rattle.std.specs.Prelude.{from_bits, not}
use Rattle.std.specs.Float.{Float, Format, binary32, binary64, nan, inf, fin}
use Rattle.std.proofs.lemmas.Bool.{cases_Bool}
use lib.Ieee.{is_nan, top}
use lib.Ieee.Bits.{to_bits-of_bits}
use Rattle.pb_schema.specs.declared.types.Kind.{Kind}
use Rattle.pb_schema.specs.declared.types.Kind.TheVariants as kind
use Rattle.pb_schema.specs.Kinds.{IsOfKind}
use Rattle.pb_schema.specs.Scalar.{Scalar, int32, int64, uint32, uint64, boolean, float, double, enum, text, bytes, is_default}
use Rattle.pb_schema.specs.Types.{Types}
use Rattle.pb_value.specs.Data.{Datum, scalar, message}
use Rattle.pb_value.specs.Judge.{is_default_datum}
use Rattle.pb_value.specs.WellFormed.{IsDatum}
use Rattle.pb_json_round_trip.specs.Messages.{datum_with_one_nan}
use Rattle.pb_json_round_trip.specs.Scalars.{with_one_nan}

nan_is : (x : Float) → is_nan x ≡ true → x ≡ nan
unfolding is_nan
nan_is nan e = refl
nan_is (inf s) e = absurd (cc)
nan_is (fin s m e) h = absurd (cc)

-- the bits stay, or are those of the one NaN
pub bits_back : (f : Format) (n : ℕ) → n < 2 * top f → (to_bits f (from_bits f n) ≡ n) ⊎ (to_bits f (from_bits f n) ≡ to_bits f nan)
bits_back f n small =
    elim (cases_Bool (is_nan (from_bits f n))) [
      | inl e ↦ inr (ap (to_bits f) (nan_is (from_bits f n) e))
      | inr e ↦ inl (to_bits-of_bits f n small (subst (λ (b : Bool). lib.Dec.T (not b)) (sym e) tt))
    ]

still_none : (f : Format) (n : ℕ) → n < 2 * top f → eqb (to_bits f nan) 0 ≡ false → eqb n 0 ≡ false → eqb (to_bits f (from_bits f n)) 0 ≡ false
still_none f n small one h =
    elim (bits_back f n small) [
      | inl e ↦ ap (λ (k : ℕ). eqb k 0) e ∙ h
      | inr e ↦ ap (λ (k : ℕ). eqb k 0) e ∙ one
    ]

some_nan : (eqb (to_bits binary32 nan) 0 ≡ false) × (eqb (to_bits binary64 nan) 0 ≡ false)
unfolding lib.Ieee.to_bits
some_nan = (refl, refl)

scalar_still : (k : Kind) (x : Scalar) → IsOfKind k x → is_default x ≡ false → is_default (with_one_nan x) ≡ false
scalar_still kind.Float (float n) is h = still_none binary32 n is some_nan.0 h
scalar_still kind.Double (double n) is h = still_none binary64 n is some_nan.1 h
scalar_still k (float n) is h = absurd is
scalar_still k (double n) is h = absurd is
scalar_still k (int32 z) is h = h
scalar_still k (int64 z) is h = h
scalar_still k (uint32 n) is h = h
scalar_still k (uint64 n) is h = h
scalar_still k (boolean b) is h = h
scalar_still k (enum z) is h = h
scalar_still k (text s) is h = h
scalar_still k (bytes s) is h = h

pub still_default : (pool : Types) (k : Kind) (d : Datum) → is_default_datum d ≡ false → IsDatum pool k d → is_default_datum (datum_with_one_nan d) ≡ false
still_default pool k (scalar x) h is = scalar_still k x is h
still_default pool k (message b) h is = refl
