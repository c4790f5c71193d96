-- What a reader has read of the bytes from where it began.
use Rattle.std.specs.Prelude.{◌≡◌, ℕ, ◌+◌, List, [], ◌++◌, length, Option}
use Rattle.pb_wire.specs.Record.{Record}
use Rattle.pb_wire.specs.Spell.{AreRecords}
use Rattle.pb_wire.specs.Sound.{AllSound}
use Rattle.pb_wire.specs.Fault.{Fault, Place, Moves, input_end}
use Rattle.pb_wire.specs.Scan.{given_at}
use Rattle.pb_wire.specs.Exact.{IsOver, longer}
use Rattle.pb_wire.specs.Schema.{records as in_records}
use Rattle.pb_wire.specs.Grammar.{Bad}
use Rattle.pb_schema.specs.Types.{Types}
use Rattle.pb_schema.specs.Context.{a_message, schema_of}
use Rattle.pb_value.specs.Data.{Message}
use Rattle.pb_value.specs.Value.{value}
use Rattle.pb_decode_parts.specs.declared.tokens.step.Step.TheVariants as step
use Rattle.pb_decode.specs.Reader.{State, here, Reads, Stops, Reported}

-- where a reader began: a message of a type with this many levels, onto what the base gives, at a place
pub record Start : Type 0 where
  pub kind : ℕ
  pub depth : ℕ
  pub base : List Record
  pub place : Place

-- at position 0, up to the known end if there is one, with no byte given yet
abbrev pub starting : ℕ → ℕ → List Record → Option ℕ → Start
starting k d rs end = record { kind = k; depth = d; base = rs; place = given_at 0 end [] }

-- with more bytes given
abbrev pub further : Start → List ℕ → Start
further o more = record o { place = longer o.place more }

-- A reader has read what is given from its start on, but for the bytes that it holds, of which no more can be taken.
pub record TookFrom (pool : Types) (o : Start) (s : State) (held : List ℕ) : Type 0 where
  pub reads : Reads pool o.kind o.depth 101 o.base o.place s held
  pub stops : Stops pool o.kind o.depth o.place s held
  pub at : s.at + length held ≡ input_end o.place

-- nothing is open but the message, which ends here
pub record IsOverAt (s : State) (held : List ℕ) : Type 0 where
  pub parents : s.parents ≡ []
  pub next : s.next ≡ step.Tag
  pub over : IsOver (here s held)

-- Whole sound records lead from the start to the end of the message, and after the base they make it v.
pub record IsWhole (pool : Types) (o : Start) (v : Message) : Type 0 where
  pub records : List Record
  pub front : List ℕ
  pub after : Place
  pub spelled : AreRecords records front
  pub sound : AllSound (schema_of pool) (a_message o.kind) o.depth records
  pub moves : Moves o.place front after
  pub over : IsOver after
  pub valued : v ≡ value pool o.kind (o.base ++ records)

-- the bytes from the start on have this fault
abbrev pub BadFrom : Types → Start → Fault → Type 0
BadFrom pool o f = Bad (schema_of pool) (in_records (a_message o.kind)) o.depth o.place f

-- and no more bytes change it
abbrev pub ReportedFrom : Types → Start → Fault → Type 0
ReportedFrom pool o f = Reported pool o.kind o.depth o.place f
