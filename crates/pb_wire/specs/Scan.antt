-- What is answered about the front of bytes that others may follow, up to a known end.
use Rattle.std.specs.Prelude.{◌≡◌, ◌≢◌, ◌⊎◌, ℕ, ◌+◌, ◌-◌, ◌≤◌, List, [], length, drop, Option, option_map}
use Rattle.pb_wire.specs.Record.{Payload, varint, fixed64, fixed32, wire_type}
use Rattle.pb_wire.specs.Spell.{Body}
use Rattle.pb_wire.specs.Fault.{Fault, fault, Place, input_end, Leads, Reads, HasTag, HasLength, VarintFault, FixedFault, TagFault, LengthFault}
use Rattle.pb_wire.specs.declared.fault.Cause.TheVariants.{Truncated}
use Rattle.pb_wire.specs.declared.scan.Scanned.{Scanned}
use Rattle.pb_wire.specs.declared.scan.Scanned.TheVariants as scanned
use Rattle.pb_wire.specs.declared.scan.Tag.{Tag}
use Rattle.pb_wire.specs.declared.scan.Number.{Number}
use Rattle.pb_wire.specs.declared.scan.Number.TheVariants as number

-- the place of some bytes, with this many before the known end
abbrev pub given_at : ℕ → Option ℕ → List ℕ → Place
given_at at known rest = record { at = at; known = known; rest = rest }

-- the place after this many of the bytes
abbrev pub passed : Place → ℕ → Place
passed p size = record { at = p.at + size; known = option_map (λ e. e - size) p.known; rest = drop size p.rest }

-- the place at this index of b, with the known end at this index, if there is one
abbrev pub here : List ℕ → ℕ → Option ℕ → Place
here b at to = given_at at (option_map (λ e. e - at) to) (drop at b)

-- The front is this value, and takes this many bytes; or it has the fault that the input ends inside it; or another fault.
abbrev pub Tells : {A : Type 0} → (A → Place → Type 0) → (Fault → Type 0) → Place → Scanned A → Type 0
Tells IsWhole Fails p (scanned.Whole a size) = (size ≤ length p.rest) × IsWhole a (passed p size)
Tells IsWhole Fails p scanned.Short = Fails (fault (input_end p) [] Truncated)
Tells IsWhole Fails p (scanned.Fault c) = (c ≢ Truncated) × Fails (fault p.at [] c)

abbrev pub TellsVarint : Place → Scanned ℕ → Type 0
TellsVarint p s = Tells (λ n q. Reads p n q) (λ f. VarintFault p f) p s

-- ---- the numbers after a tag
abbrev pub number_view : Number → Payload
number_view (number.Varint n) = varint n
number_view (number.I64 n) = fixed64 n
number_view (number.I32 n) = fixed32 n

-- VARINT, I64 or I32
abbrev pub IsNumberType : ℕ → Type 0
IsNumberType w = (w ≡ 0) ⊎ (w ≡ 1) ⊎ (w ≡ 5)

-- the bytes of a number lead from p to q
abbrev pub Follows : Place → Payload → Place → Type 0
Follows p x q = Leads (Body 0 x) p q

abbrev pub TellsFixed64 : Place → Scanned ℕ → Type 0
TellsFixed64 p s = Tells (λ n q. Follows p (fixed64 n) q) (λ f. FixedFault 8 p f) p s

abbrev pub TellsFixed32 : Place → Scanned ℕ → Type 0
TellsFixed32 p s = Tells (λ n q. Follows p (fixed32 n) q) (λ f. FixedFault 4 p f) p s

-- the number that begins here, after a tag of this wire type, has this fault
pub data NumberFault (w : ℕ) (p : Place) (f : Fault) : Type 0 where
  a_varint : w ≡ 0 → VarintFault p f → NumberFault w p f
  eight_bytes : w ≡ 1 → FixedFault 8 p f → NumberFault w p f
  four_bytes : w ≡ 5 → FixedFault 4 p f → NumberFault w p f

abbrev pub TellsNumber : ℕ → Place → Scanned Number → Type 0
TellsNumber w p s = Tells (λ n q. (wire_type (number_view n) ≡ w) × Follows p (number_view n) q) (λ f. NumberFault w p f) p s

-- ---- tags and lengths
-- whatever group is open innermost
abbrev pub TellsTag : Place → Scanned Tag → Type 0
TellsTag p s = Tells (λ t q. HasTag p t.number t.wire_type q) (λ f. (innermost : Option ℕ) → TagFault innermost p f) p s

abbrev pub TellsLength : Place → Scanned ℕ → Type 0
TellsLength p s = Tells (λ n q. HasLength p n q) (λ f. LengthFault p f) p s
