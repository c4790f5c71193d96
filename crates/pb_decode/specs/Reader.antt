-- What a reader of a part has, and what it has found of the bytes given.
pub mod Waiting
pub mod Start
pub mod Steps
pub mod Pieces
pub mod Ended
pub mod Lengths
use Rattle.std.specs.Prelude.{◌≡◌, ℕ, ◌+◌, ◌*◌, ◌-◌, ◌<◌, ◌≤◌, ◌^◌, List, [], ◌∷◌, ◌++◌, map, reverse, drop, length, Option, Some, None, option_map}
use Rattle.pb_wire.specs.Record.{Record}
use Rattle.pb_wire.specs.declared.fault.PathStep.{PathStep}
use Rattle.pb_wire.specs.Fault.{Fault, fault, Place}
use Rattle.pb_wire.specs.Scan.{given_at}
use Rattle.pb_wire.specs.Exact.{IsOver}
use Rattle.pb_wire.specs.Schema.{records}
use Rattle.pb_wire.specs.Grammar.{Bad}
use Rattle.pb_wire.specs.declared.fault.Cause.TheVariants.{Truncated}
use Rattle.pb_schema.specs.Types.{Types}
use Rattle.pb_schema.specs.Rules.{IsPool}
use Rattle.pb_schema.specs.Context.{a_message, schema_of}
use Rattle.pb_decode.specs.declared.error.DecodeError.{DecodeError}
use Rattle.pb_decode.specs.declared.error.DecodeError.TheVariants as error
use Rattle.pb_decode_parts.specs.declared.open.part.Parent.{Parent as ParentKept}
use Rattle.pb_decode.specs.declared.reader.state.State.{State as StateKept}
use Rattle.pb_decode_parts.specs.declared.tokens.step.Step.{Step}
use Rattle.pb_decode_parts.specs.declared.tokens.step.Step.TheVariants as step
use Rattle.pb_decode_parts.specs.Open.Parents.{Part, Scope, Parent, path_of, path_to, next_step, Reached}
use Rattle.pb_decode_parts.specs.Open.PartView.{part_view, scope_view, parent_view}
use Rattle.pb_decode_parts.specs.Tokens.After.{After}

-- where a reader is: the innermost part with its scope, its parents, innermost first, and what comes next at a position
pub record State : Type 0 where
  pub at : ℕ
  pub now : Part
  pub scope : Scope
  pub parents : List Parent
  pub next : Step

-- parents are kept outermost first
abbrev pub parents_view : List ParentKept → List Parent
parents_view fs = reverse (map parent_view fs)

abbrev pub state_view : StateKept → State
state_view r = record { at = r.at; now = part_view r.part; scope = scope_view r.scope; parents = parents_view r.parents.items; next = r.step }

-- how many bytes are left before the known end of the part
abbrev pub left_of : State → Option ℕ
left_of s = option_map (λ e. e - s.at) s.scope.end

-- where the bytes that are not taken yet begin
abbrev pub here : State → List ℕ → Place
here s rest = given_at s.at (left_of s) rest

-- the step into the record that is begun, if one is
abbrev pub own_step : Step → Scope → List PathStep
own_step step.Tag scope = []
own_step (step.Varint n p) scope = next_step n scope ∷ []
own_step (step.I64 n p) scope = next_step n scope ∷ []
own_step (step.I32 n p) scope = next_step n scope ∷ []
own_step (step.Length n p) scope = next_step n scope ∷ []
own_step (step.Payload n p size) scope = next_step n scope ∷ []
own_step (step.Elements n k outer) scope = next_step n scope ∷ []

-- the steps to where a reader is
abbrev pub path_here : State → List PathStep
path_here s = path_of s.parents ++ own_step s.next s.scope

-- the steps to the record of a number that comes next at its position
abbrev pub path_inside : State → ℕ → List PathStep
path_inside s n = path_to s.parents s.scope n

-- the reader has read everything from p0 up to these bytes
abbrev pub Reads : Types → ℕ → ℕ → ℕ → List Record → Place → State → List ℕ → Type 0
Reads pool m depth levels base p0 s rest = After pool m depth levels base p0 s.parents s.next s.now s.scope (here s rest)

-- a whole record ends at this place, and the reader is after it
abbrev pub HasReached : Types → ℕ → ℕ → ℕ → List Record → Place → State → Place → Type 0
HasReached pool m depth levels base p0 s w = Reached pool m depth levels base p0 s.parents s.now s.scope w

-- what the reader has begun goes on at this place
abbrev pub AfterAt : Types → ℕ → ℕ → ℕ → List Record → Place → State → Place → Type 0
AfterAt pool m depth levels base p0 s w = After pool m depth levels base p0 s.parents s.next s.now s.scope w

-- it has read some input up to these bytes, whose positions are small
pub record IsReading (pool : Types) (s : State) (rest : List ℕ) : Type 0 where
  pub m : ℕ
  pub depth : ℕ
  pub levels : ℕ
  pub base : List Record
  pub p0 : Place
  pub reads : Reads pool m depth levels base p0 s rest
  pub small : s.at + length rest < 2 ^ 31

-- and the pool by which it reads keeps the rules
pub record CanRead (pool : Types) (state : StateKept) (rest : List ℕ) : Type 0 where
  pub rules : IsPool pool
  pub reading : IsReading pool (state_view state) rest

-- no more of these bytes can be taken: nothing is open and nothing is left, or the input ends too early
pub data Stops (pool : Types) (m depth : ℕ) (p0 : Place) (s : State) (rest : List ℕ) : Type 0 where
  over : s.parents ≡ [] → s.next ≡ step.Tag → IsOver (here s rest) → Stops pool m depth p0 s rest
  cut : Bad (schema_of pool) (records (a_message m)) depth p0 (fault (s.at + length rest) (path_here s) Truncated) → Stops pool m depth p0 s rest

-- a payload may take no byte
abbrev pub weight : Step → ℕ
weight step.Tag = 0
weight (step.Varint n p) = 0
weight (step.I64 n p) = 0
weight (step.I32 n p) = 0
weight (step.Length n p) = 0
weight (step.Payload n p size) = 1
weight (step.Elements n k outer) = 0

-- from these bytes a reader takes this many, or none where they end too early
abbrev pub Taken : Types → ℕ → ℕ → ℕ → List Record → Place → State → List ℕ → Option ℕ → Type 0
Taken pool m depth levels base p0 s rest (Some used) = Reads pool m depth levels base p0 s (drop used rest)
Taken pool m depth levels base p0 s rest None = Reads pool m depth levels base p0 s rest × Stops pool m depth p0 s rest

-- how far a reader has come by taking this many of these bytes
abbrev pub Passes : State → List ℕ → State → Option ℕ → Type 0
Passes old rest new (Some used) = (used ≤ length rest) × (new.at ≡ old.at + used) × (weight new.next < 2 * used + weight old.next)
Passes old rest new None = new.at ≡ old.at

-- the error reports a fault of which this holds; or memory ran out
abbrev pub IfFault : DecodeError → (Fault → Type 0) → Type 0
IfFault (error.Fault byte path cause) P = P (fault byte path.items cause)
IfFault error.Memory P = Unit {0}
IfFault error.Device P = ⊥
IfFault error.Finished P = ⊥

-- a fault of the bytes from p0 on that no more bytes change
pub record Reported (pool : Types) (m depth : ℕ) (p0 : Place) (f : Fault) : Type 0 where
  pub bad : Bad (schema_of pool) (records (a_message m)) depth p0 f
  pub settled : f.cause ≡ Truncated → ⊥
