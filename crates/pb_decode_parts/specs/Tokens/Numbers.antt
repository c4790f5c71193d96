-- Numbers at the start of bytes.
use Rattle.std.specs.Prelude.{◌≡◌, ◌≢◌, ◌≤◌, length, ℕ, []}
use Rattle.pb_wire.specs.Record.{wire_type}
use Rattle.pb_wire.specs.Fault.{fault, Place, input_end, VarintFault}
use Rattle.pb_wire.specs.Scan.{passed, number_view}
use Rattle.pb_wire.specs.declared.fault.Cause.TheVariants.{Truncated}
use Rattle.pb_wire.specs.declared.scan.Number.{Number}
use Rattle.pb_wire.specs.declared.scan.Scanned.{Scanned}
use Rattle.pb_wire.specs.declared.scan.Scanned.TheVariants as scanned
pub use Rattle.pb_wire.specs.Scan.{Follows, NumberFault, a_varint, eight_bytes, four_bytes}

-- the input ends inside the varint that begins here
abbrev pub IsCutVarint : Place → Type 0
IsCutVarint p = VarintFault p (fault (input_end p) [] Truncated)

-- or inside the number, after a tag of this wire type
abbrev pub IsCutNumber : ℕ → Place → Type 0
IsCutNumber w p = NumberFault w p (fault (input_end p) [] Truncated)

-- the number at p, after a tag of this wire type, is this one and takes this many bytes; or the input ends inside it; or it has another fault
abbrev pub TellsNumber : ℕ → Place → Scanned Number → Type 0
TellsNumber w p (scanned.Whole a size) = (wire_type (number_view a) ≡ w) × (size ≤ length p.rest) × Follows p (number_view a) (passed p size)
TellsNumber w p scanned.Short = IsCutNumber w p
TellsNumber w p (scanned.Fault c) = (c ≢ Truncated) × NumberFault w p (fault p.at [] c)
