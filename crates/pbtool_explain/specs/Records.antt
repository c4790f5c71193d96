-- Where the record of a step is in the bytes that it is in: after whole records of them.
use Rattle.std.specs.Prelude.{◌≡◌, ◌≢◌, ℕ, ◌+◌, ◌-◌, ◌^◌, ◌<◌, List, Option, None, Some, SomeIff, length, min, option_map}
use Rattle.pb_wire.specs.Record.{Record}
use Rattle.pb_wire.specs.Fault.{Fault, Place, HasTag, Moves, Reads, VarintFault, place, step}
use Rattle.pb_wire.specs.Reading.{Front}
use Rattle.pb_wire.specs.Schema.{blank}
use Rattle.pb_wire.specs.Sound.{Sound}
use Rattle.pb_wire.specs.Spell.{Spells}
use Rattle.pb_wire.specs.declared.fault.PathStep.{PathStep}
use Rattle.pbtool_explain.specs.declared.find.Found.{Found}
use Rattle.pbtool_explain.specs.declared.steps.Span.{Span}

-- The record of a step begins at p, after these records of what it is in: its tag has the number and this wire type, which ends no group. The tag ends at q.
pub record IsStepAt (s : PathStep) (before : List Record) (w : ℕ) (p q : Place) : Type 0 where
  pub counted : (step s.number before).occurrence ≡ s.occurrence
  pub tag : HasTag p s.number w q
  pub no_end : w ≢ 4

-- a whole record begins at p, which has fewer than 2 ^ 31 bytes and in which groups nest at most 100 deep
pub record IsWholeAt (p : Place) : Type 0 where
  pub it : Record
  pub bytes : List ℕ
  pub end : Place
  pub spelled : Spells it bytes
  pub sound : Sound blank tt 100 it.number it.payload
  pub moves : Moves p bytes end
  pub small : length bytes < 2 ^ 31

-- The value at q of a record of this wire type: its payload begins at some index, and the record ends before some index. No end is given of a group, of a
-- varint or length that is not whole, and where 64 bits do not hold it.
pub data IsValueAt (w : ℕ) (q : Place) (payload : ℕ) (end : Option ℕ) : Type 0 where
  number : {n : ℕ} {r : Place} → w ≡ 0 → Reads q n r → payload ≡ q.at → end ≡ Some r.at → IsValueAt w q payload end
  no_number : {f : Fault} → w ≡ 0 → VarintFault q f → payload ≡ q.at → end ≡ None → IsValueAt w q payload end
  eight_bytes : w ≡ 1 → payload ≡ q.at → end ≡ Some (q.at + 8) → IsValueAt w q payload end
  some_bytes : {n : ℕ} {r : Place} → w ≡ 2 → Reads q n r → payload ≡ r.at → SomeIff end (r.at + n < 2 ^ 64) (r.at + n) → IsValueAt w q payload end
  no_length : {f : Fault} → w ≡ 2 → VarintFault q f → payload ≡ q.at → end ≡ None → IsValueAt w q payload end
  a_group : w ≡ 3 → payload ≡ q.at → end ≡ None → IsValueAt w q payload end
  four_bytes : w ≡ 5 → payload ≡ q.at → end ≡ Some (q.at + 4) → IsValueAt w q payload end

-- The record of a step in the bytes from an index on: whole records lead to its tag; or they lead to where neither it begins nor a whole record.
pub data IsFound (b : List ℕ) (from : ℕ) (s : PathStep) (found : Option Found) : Type 0 where
  here :
      {before : List Record} {w : ℕ} {q : Place} {f : Found} → Front 100 (place b from) before (place b f.start) → IsStepAt s before w (place b f.start) q
      → IsValueAt w q f.payload f.end → found ≡ Some f → IsFound b from s found
  nowhere :
      {before : List Record} {at : ℕ} → Front 100 (place b from) before (place b at) → ((w : ℕ) (q : Place) → IsStepAt s before w (place b at) q → ⊥)
      → (IsWholeAt (place b at) → ⊥) → found ≡ None → IsFound b from s found

-- in a payload that was not found nothing is found
abbrev pub IsFoundIn : List ℕ → Option ℕ → PathStep → Option Found → Type 0
IsFoundIn b None s found = found ≡ None
IsFoundIn b (Some from) s found = IsFound b from s found

abbrev pub payload_in : Option Found → Option ℕ
payload_in found = option_map (λ f. f.payload) found

-- a number, or the greatest that 64 bits hold
abbrev pub at_most_64_bits : ℕ → ℕ
at_most_64_bits n = min n (2 ^ 64 - 1)

-- the bytes of a record in a file, where these bytes begin at an offset of it
abbrev pub span_in : ℕ → Option Found → Option Span
span_in offset found =
    option_map (λ f. record { first = at_most_64_bits (offset + f.start); last = option_map (λ e. at_most_64_bits (offset + e) - 1) f.end }) found
