-- What the parts of the reader say of one another: places of an input that has no known end.
use Rattle.std.specs.Prelude.{◌≡◌, ℕ, ◌+◌, ◌*◌, List, ◌∷◌, reverse, Option, Some, None}
use Rattle.pb_wire.specs.Record.{Payload, wire_type, Record}
use Rattle.pb_wire.specs.Spell.{Body, AreRecords}
use Rattle.pb_wire.specs.Fault.{Fault, fault, step, Place, Leads, Reads, HasTag}
use Rattle.pb_wire.specs.Schema.{blank, Open, records, in_group}
use Rattle.pb_wire.specs.Sound.{Sound, AllSound}
use Rattle.pb_wire.specs.Grammar.{Bad, RecordFault}
use Rattle.pb_wire.specs.declared.fault.PathStep.{PathStep}
use Rattle.pb_wire.specs.declared.fault.WireFault.{WireFault}
use Rattle.pb_wire.specs.declared.fault.RawError.{RawError}
use Rattle.pb_wire.specs.declared.fault.RawError.TheVariants as raw
use Rattle.pb_wire.specs.declared.fault.ReadError.{ReadError}
use Rattle.pb_wire.specs.declared.fault.ReadError.TheVariants as errors

abbrev pub opened : Option ℕ → Open (Unit {0})
opened None = records tt
opened (Some k) = in_group k tt

-- whole sound records lead from p to q
pub record Front (depth_left : ℕ) (p : Place) (rs : List Record) (q : Place) : Type 0 where
  pub spelled : Leads (AreRecords rs) p q
  pub sound : AllSound blank tt depth_left rs

-- the records of a context, and the end tag if it is a group
abbrev pub ReadsAll : ℕ → Option ℕ → Place → List Record → Place → Type 0
ReadsAll depth_left None p rs q = Front depth_left p rs q
ReadsAll depth_left (Some k) p rs q = (end : Place) × Front depth_left p rs end × Reads end (8 * k + 4) q

-- what follows the tag
pub record ReadsValue (depth_left k code : ℕ) (p : Place) (payload : Payload) (q : Place) : Type 0 where
  pub type : wire_type payload ≡ code
  pub spelled : Leads (Body k payload) p q
  pub sound : Sound blank tt depth_left k payload

-- a fact of a fault, if it is one
abbrev pub IfFault : ReadError → (WireFault → Type 0) → Type 0
IfFault (errors.Fault w) P = P w
IfFault errors.Memory P = Unit {0}

-- the value that begins at q, after a tag of the field number k, has a fault below these steps of the path, the last of them first
abbrev pub BadValue : ℕ → ℕ → ℕ → Place → List PathStep → WireFault → Type 0
BadValue depth_left k code q steps w =
    (o : Open (Unit {0})) (before : List Record) (p : Place) → HasTag p k code q
    → RecordFault blank o before depth_left p (fault w.byte (step k before ∷ reverse steps) w.cause)

-- the record of this number whose tag begins at p has a fault below these steps of the path, the last of them first
abbrev pub BadRecord : ℕ → ℕ → Place → List PathStep → WireFault → Type 0
BadRecord depth_left k p steps w =
    (o : Open (Unit {0})) (before : List Record)
    → RecordFault blank o before depth_left p (fault w.byte (step k before ∷ reverse steps) w.cause)

-- reading from p fails below these steps of the path, the last of them first
abbrev pub BadFrom : ℕ → Option ℕ → Place → List PathStep → WireFault → Type 0
BadFrom depth_left innermost p steps w = Bad blank (opened innermost) depth_left p (fault w.byte (reverse steps) w.cause)

-- a fact of a fault as a reader reports it, if it is one
abbrev pub IfRawFault : RawError → (Fault → Type 0) → Type 0
IfRawFault (raw.Fault byte path cause) P = P (fault byte path.items cause)
IfRawFault raw.Memory P = Unit {0}
