-- What is found of an encoding is the scalar of its message.
use Rattle.std.proofs.Common.{◌≡◌, ℕ, ◌≤◌, List, length, refl, sym, ap, ◌∙◌, None, Option}
use Rattle.pb_wire.specs.Ranges.{AreBytes}
use Rattle.pb_wire.specs.Record.{Record}
use Rattle.pb_wire.specs.Spell.{AreRecords}
use Rattle.pb_wire.specs.Sound.{AllSound}
use Rattle.pb_wire.specs.Schema.{records}
use Rattle.pb_wire.specs.Exact.{IsRead}
use Rattle.pb_wire.specs.Limits.{Bounds}
use Rattle.pb_wire.specs.Fault.{Fault}
use Rattle.pb_wire.specs.Grammar.{HasFault}
use Rattle.pb_wire.proofs.ExactLemmas.{text_not_both}
use Rattle.pb_wire.proofs.Unique.{same_records}
use Rattle.pb_wire.proofs.RangeLemmas.{spelled_in_range, spelled_writable}
use Rattle.pb_schema.specs.Types.{Types}
use Rattle.pb_schema.specs.Rules.{IsPool}
use Rattle.pb_schema.specs.Scalar.{Scalar}
use Rattle.pb_schema.specs.Context.{a_message, schema_of}
use Rattle.pb_value.specs.Data.{Message}
use Rattle.pb_value.specs.Derives.{Text}
use Rattle.pb_value.specs.Value.{value}
use Rattle.pb_validate.specs.Here.{here}
use Rattle.pb_find.specs.ScalarAt.{IsFound}
use Rattle.pb_find.specs.Found.{found}
use Rattle.pb_find.proofs.FoundLemmas.{found_is_scalar_at}
use Rattle.pb_find.proofs.WalkLemmas.{whole_read}

pub is_found :
    (pool : Types) (m : ℕ) (limits : Bounds) (b path : List ℕ) (rs : List Record) (x : Option Scalar) → IsPool pool → AreBytes b → length b ≤ limits.bytes
    → limits.depth ≤ 100 → AreRecords rs b → AllSound (schema_of pool) (a_message m) limits.depth rs → x ≡ found pool path m None rs → IsFound pool m limits b path x
is_found pool m limits b path rs x rules range size depth spelled sound is = (
  value pool m rs,
  record { size = size; derives = record { records = rs; spelled = spelled; sound = sound; valued = refl } },
  is
      ∙ found_is_scalar_at pool rules m limits.depth rs path depth
      (record { in_range = spelled_in_range rs b spelled range; writable = spelled_writable rs b spelled; sound = sound }),
)

pub text_is_read :
    (pool : Types) (m : ℕ) (limits : Bounds) (b : List ℕ) (v : Message) → Text pool m limits b v
    → IsRead (schema_of pool) (records (a_message m)) limits.depth (here b 0 None)
text_is_read pool m limits b v t = whole_read pool m limits.depth b (t.derives.records, t.derives.spelled, t.derives.sound)

-- an encoding is of one message, and has no fault
pub same_value : {pool : Types} {m : ℕ} {limits : Bounds} {b : List ℕ} {v w : Message} → Text pool m limits b v → Text pool m limits b w → v ≡ w
same_value {pool} {m} {limits} {b} t u =
    t.derives.valued ∙ ap (value pool m) (same_records t.derives.records u.derives.records b t.derives.spelled u.derives.spelled) ∙ sym u.derives.valued

pub no_fault : {pool : Types} {m : ℕ} {limits : Bounds} {b : List ℕ} {v : Message} {f : Fault} → Text pool m limits b v → HasFault (schema_of pool) (a_message m) limits b f → ⊥
no_fault t fault = text_not_both fault (t.derives.records, record { size = t.size; spelled = t.derives.spelled; sound = t.derives.sound })
