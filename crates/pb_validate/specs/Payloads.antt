-- What is after a tag, a number or a length and its payload, and what is wrong with them.
use Rattle.std.specs.Prelude.{◌≡◌, ℕ, ◌+◌, ◌≤◌, List, [], length, take, IsUtf8}
use Rattle.std.specs.Str.Lossy.{utf8_valid_len}
use Rattle.pb_wire.specs.declared.fault.Cause.TheVariants.{BadText}
use Rattle.pb_wire.specs.Fault.{Fault, fault, Place, Leads, HasLength, LengthFault, CutFault}
use Rattle.pb_wire.specs.Record.{len, wire_type}
use Rattle.pb_wire.specs.Spell.{Body}
use Rattle.pb_wire.specs.Scan.{Follows, number_view}
use Rattle.pb_wire.specs.declared.scan.Number.{Number}
use Rattle.pb_wire.specs.Schema.{Schema, Element, records}
use Rattle.pb_wire.specs.Grammar.{Bad, BadElements, payload_at}

-- a number of a wire type leads from p to q
abbrev pub IsNumberOfType : ℕ → Place → Place → Type 0
IsNumberOfType w p q = (x : Number) × (wire_type (number_view x) ≡ w) × Follows p (number_view x) q

-- a length and a payload of which this holds lead from p to q
abbrev pub ReadsPayload : (List ℕ → Type 0) → Place → Place → Type 0
ReadsPayload Holds p q = (s : List ℕ) × Holds s × ((k : ℕ) → Leads (Body k (len s)) p q)

pub data UnreadFault (p : Place) (f : Fault) : Type 0 where
  a_length : LengthFault p f → UnreadFault p f
  cut : CutFault p f → UnreadFault p f

pub data TextFault (p : Place) (f : Fault) : Type 0 where
  unread : UnreadFault p f → TextFault p f
  bad_text :
      {n : ℕ} {r : Place} → HasLength p n r → n ≤ length r.rest → ¬ IsUtf8 (take n r.rest)
      → f ≡ fault (r.at + utf8_valid_len (take n r.rest)) [] BadText → TextFault p f

pub data ListFault (e : Element) (p : Place) (f : Fault) : Type 0 where
  a_length : LengthFault p f → ListFault e p f
  elements : {n : ℕ} {r : Place} → HasLength p n r → BadElements e (payload_at r n) f → ListFault e p f

-- the same of a payload of records
pub data MessageFault (S : Schema) (c : S.Context) (levels : ℕ) (p : Place) (f : Fault) : Type 0 where
  a_length : LengthFault p f → MessageFault S c levels p f
  inside : {n : ℕ} {r : Place} → HasLength p n r → Bad S (records c) levels (payload_at r n) f → MessageFault S c levels p f
