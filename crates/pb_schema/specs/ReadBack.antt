-- Each kind reads back what it wrote.
use Rattle.std.specs.Prelude.{◌≡◌, ℕ, ◌%◌, ◌^◌, ◌<◌, ℤ, pos, negsuc, Bool, true, false, not, cond, ◌==◌, Some, refl}
use Rattle.std.specs.Int.{cast_signed, cast_unsigned, w32, w64}
use Rattle.std.specs.Int.RustNames.{FitsSigned}
use Rattle.std.proofs.Common.{ap, arith}
use Rattle.std.proofs.lemmas.Int.{ints, to_z-of_z}
use Rattle.std.proofs.lemmas.Bool.Decides.{nat_tests}
use Rattle.pb_wire.specs.Zigzag.{zigzag, unzigzag}
use Rattle.pb_schema.specs.declared.types.Kind.{Kind}
use Rattle.pb_schema.specs.declared.types.Kind.TheVariants as kind
use Rattle.pb_schema.specs.Scalar.{Scalar, int32, int64, uint32, uint64, boolean, float, double, enum, text, bytes}
use Rattle.pb_schema.specs.Kinds.{read, written, IsOfKind}

low-int32 : (z : ℤ) → FitsSigned w32 z → cast_signed w32 (cast_unsigned w64 z % 2 ^ 32) ≡ z
low-int32 z f = grind (arith, ints)

low-small : (n : ℕ) → n < 2 ^ 32 → n % 2 ^ 32 ≡ n
low-small n f = grind arith

unzigzag-zigzag : (z : ℤ) → unzigzag (zigzag z) ≡ z
unzigzag-zigzag (pos n) = grind (arith, nat_tests)
unzigzag-zigzag (negsuc n) = grind (arith, nat_tests)

unzigzag-low : (z : ℤ) → FitsSigned w32 z → unzigzag (zigzag z % 2 ^ 32) ≡ z
unzigzag-low (pos n) f = grind (arith, ints, nat_tests)
unzigzag-low (negsuc n) f = grind (arith, ints, nat_tests)

bool-bits : (b : Bool) → not (cond b 1 0 == 0) ≡ b
bool-bits true = refl
bool-bits false = refl

pub read-written : (k : Kind) (x : Scalar) → IsOfKind k x → read k (written k x) ≡ Some x
read-written kind.Int32 (int32 z) f = ap (λ y. Some (int32 y)) (low-int32 z f)
read-written kind.Int64 (int64 z) f = ap (λ y. Some (int64 y)) (to_z-of_z w64 z f)
read-written kind.Uint32 (uint32 n) f = ap (λ y. Some (uint32 y)) (low-small n f)
read-written kind.Uint64 (uint64 n) f = refl
read-written kind.Sint32 (int32 z) f = ap (λ y. Some (int32 y)) (unzigzag-low z f)
read-written kind.Sint64 (int64 z) f = ap (λ y. Some (int64 y)) (unzigzag-zigzag z)
read-written kind.Bool (boolean b) f = ap (λ y. Some (boolean y)) (bool-bits b)
read-written (kind.Enum e) (enum z) f = ap (λ y. Some (enum y)) (low-int32 z f)
read-written (kind.ClosedEnum e) (enum z) f = ap (λ y. Some (enum y)) (low-int32 z f)
read-written kind.Fixed64 (uint64 n) f = refl
read-written kind.Sfixed64 (int64 z) f = ap (λ y. Some (int64 y)) (to_z-of_z w64 z f)
read-written kind.Double (double n) f = refl
read-written kind.Fixed32 (uint32 n) f = refl
read-written kind.Sfixed32 (int32 z) f = ap (λ y. Some (int32 y)) (to_z-of_z w32 z f)
read-written kind.Float (float n) f = refl
read-written kind.Text (text s) f = refl
read-written kind.Bytes (bytes s) f = refl
read-written k x f = absurd f
