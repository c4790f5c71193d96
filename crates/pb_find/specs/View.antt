-- The scalars of borrowed ones.
use Rattle.std.specs.Prelude.{Option, option_map}
use Rattle.pb_schema.specs.Scalar.{Scalar, int32, int64, uint32, uint64, boolean, float, double, enum, text, bytes}
use Rattle.pb_find.specs.declared.scalar_ref.ScalarRef.{ScalarRef}
use Rattle.pb_find.specs.declared.scalar_ref.ScalarRef.TheVariants as ref

abbrev pub scalar_view : ScalarRef → Scalar
scalar_view (ref.I32 z) = int32 z
scalar_view (ref.I64 z) = int64 z
scalar_view (ref.U32 n) = uint32 n
scalar_view (ref.U64 n) = uint64 n
scalar_view (ref.Bool b) = boolean b
scalar_view (ref.F32 n) = float n
scalar_view (ref.F64 n) = double n
scalar_view (ref.Enum z) = enum z
scalar_view (ref.Text s) = text s.now
scalar_view (ref.Bytes s) = bytes s.now

abbrev pub found_view : Option ScalarRef → Option Scalar
found_view x = option_map scalar_view x
