-- What the parts of the judge say of one another.
use Rattle.std.specs.Prelude.{◌≡◌, ℕ, ◌<◌, ◌≤◌, ◌^◌, List, [], ◌∷◌, length, reverse, Option, Some, None}
use Rattle.pb_wire.specs.Record.{Payload, wire_type, Record}
use Rattle.pb_wire.specs.Spell.{Body, AreRecords}
use Rattle.pb_wire.specs.Fault.{Fault, fault, step, Place, Leads, HasTag}
use Rattle.pb_wire.specs.Schema.{Schema, Open, records, in_group}
use Rattle.pb_wire.specs.Sound.{Sound, AllSound}
use Rattle.pb_wire.specs.Grammar.{Bad, RecordFault}
use Rattle.pb_wire.specs.Exact.{IsOver}
use Rattle.pb_wire.specs.declared.fault.PathStep.{PathStep}
use Rattle.pb_wire.specs.declared.fault.RawError.{RawError}
use Rattle.pb_wire.specs.declared.fault.RawError.TheVariants as raw
use Rattle.pb_schema.specs.Context.{Context, schema_of}
use Rattle.pb_validate.specs.declared.refusal.Refusal.{Refusal}
use Rattle.pb_validate.specs.declared.refusal.Refusal.TheVariants as refusal
use Rattle.pb_validate.specs.declared.scope.Scope.{Scope}
use Rattle.pb_validate.specs.Contexts.{context_view, CanRead}

-- ---- records

-- whole sound records lead from p to q
pub record Front (S : Schema) (c : S.Context) (levels : ℕ) (p : Place) (rs : List Record) (q : Place) : Type 0 where
  pub spelled : Leads (AreRecords rs) p q
  pub sound : AllSound S c levels rs

-- the records of a context up to their end, and the end tag if it is a group
abbrev pub ReadsAll : (S : Schema) → Open S.Context → ℕ → Place → List Record → Place → Type 0
ReadsAll S (records c) levels p rs q = Front S c levels p rs q × IsOver q
ReadsAll S (in_group k c) levels p rs q = (end : Place) × Front S c levels p rs end × HasTag end k 4 q

-- what follows the tag
pub record ReadsValue (S : Schema) (c : S.Context) (levels k code : ℕ) (p : Place) (payload : Payload) (q : Place) : Type 0 where
  pub type : wire_type payload ≡ code
  pub spelled : Leads (Body k payload) p q
  pub sound : Sound S c levels k payload

-- a record of a number and a wire type goes from p, after its tag, to q
abbrev pub ReadsRecord : (S : Schema) → S.Context → (levels k code : ℕ) → Place → Place → Type 0
ReadsRecord S c levels k code p q = (payload : Payload) × ReadsValue S c levels k code p payload q

-- what is open innermost: a group of a number, if there is one, or all else
abbrev pub opened : Option ℕ → Context → Open Context
opened None c = records c
opened (Some k) c = in_group k c

-- ---- in a scope

abbrev pub open_view : Scope → Open Context
open_view f = opened f.group (context_view f.context)

-- records of this scope can be judged from an index of the bytes on, where no step is reported so far
pub record CanJudge (f : Scope) (bytes : List ℕ) (at : ℕ) (steps : List PathStep) : Type 0 where
  pub of_pool : CanRead f.pool.now (context_view f.context)
  pub levels : f.levels ≤ 100
  pub small : length bytes < 2 ^ 31
  pub at_in_bounds : at ≤ length bytes
  pub no_steps : steps ≡ []

abbrev pub ReadsRecords : Scope → Place → Place → Type 0
ReadsRecords f p q = (rs : List Record) × ReadsAll (schema_of f.pool.now) (open_view f) f.levels p rs q

abbrev pub ReadsOne : Scope → (k code : ℕ) → Place → Place → Type 0
ReadsOne f k code p q = ReadsRecord (schema_of f.pool.now) (context_view f.context) f.levels k code p q

-- ---- refusals

-- The fault has these steps above it, the last of them first. Where memory is refused there is a fault too.
abbrev pub Refuses : Refusal → List PathStep → (Fault → Type 0) → Type 0
Refuses (refusal.Fault w) steps P = P (fault w.byte (reverse steps) w.cause)
Refuses refusal.Memory steps P = (f : Fault) × P f

-- the same below one more step, the first of the path
abbrev pub RefusesBelow : Refusal → PathStep → List PathStep → (Fault → Type 0) → Type 0
RefusesBelow (refusal.Fault w) first steps P = P (fault w.byte (first ∷ reverse steps) w.cause)
RefusesBelow refusal.Memory first steps P = (f : Fault) × P f

-- the records of a scope from p on are refused
abbrev pub RefusesRecords : Scope → Place → Refusal → List PathStep → Type 0
RefusesRecords f p e steps = Refuses e steps (Bad (schema_of f.pool.now) (open_view f) f.levels p)

-- the record of a number that begins at p is refused, whatever records come before it
abbrev pub RefusesRecord : Scope → ℕ → Place → Refusal → List PathStep → Type 0
RefusesRecord f k p e steps =
    (before : List Record) → RefusesBelow e (step k before) steps (RecordFault (schema_of f.pool.now) (open_view f) before f.levels p)

-- the error is a fault of which this holds, or there is one where memory is refused
abbrev pub IsRefusal : RawError → (Fault → Type 0) → Type 0
IsRefusal (raw.Fault byte path cause) P = P (fault byte path.items cause)
IsRefusal raw.Memory P = (f : Fault) × P f

-- the error is a fault of which this holds, and memory is not refused
abbrev pub IsFault : RawError → (Fault → Type 0) → Type 0
IsFault (raw.Fault byte path cause) P = P (fault byte path.items cause)
IsFault raw.Memory P = ⊥
