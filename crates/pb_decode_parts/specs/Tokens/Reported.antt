-- What is reported of whole tokens, wherever the reader is: what comes next after them, or that they are the fault of what is read, of any type, any levels,
-- any records before and any first place.
use Rattle.std.specs.Prelude.{◌≡◌, ℕ, ◌+◌, List, length, Option, IfSome, IfNone}
use Rattle.pb_wire.specs.Record.{Record}
use Rattle.pb_wire.specs.declared.fault.Cause.{Cause}
use Rattle.pb_wire.specs.declared.fault.Cause.TheVariants.{TooDeep}
use Rattle.pb_wire.specs.Fault.{Fault, fault, Place, HasTag, HasLength}
use Rattle.pb_wire.specs.Schema.{records}
use Rattle.pb_wire.specs.Grammar.{Bad, payload_at}
use Rattle.pb_schema.specs.declared.types.Kind.{Kind}
use Rattle.pb_schema.specs.Types.{Types}
use Rattle.pb_schema.specs.Context.{a_message, schema_of}
use Rattle.pb_decode_parts.specs.declared.open.part.Part.{Part as PartKept}
use Rattle.pb_decode_parts.specs.declared.open.part.Scope.{Scope as ScopeKept}
use Rattle.pb_decode_parts.specs.declared.open.target.Target.{Target}
use Rattle.pb_decode_parts.specs.declared.open.target.Target.TheVariants as target
use Rattle.pb_decode_parts.specs.declared.tokens.step.Step.{Step}
use Rattle.pb_decode_parts.specs.declared.tokens.step.Step.TheVariants as step
use Rattle.pb_decode_parts.specs.Open.Parents.{Part, Scope, Parent, path_to, Reached}
use Rattle.pb_decode_parts.specs.Open.PartView.{part_view, scope_view}
use Rattle.pb_decode_parts.specs.Tokens.After.{tag, After}
use Rattle.pb_decode_parts.specs.Values.PayloadValue.{IsBytesTarget}

-- this is the fault of the bytes from p0 on
abbrev pub IsBad : Types → ℕ → ℕ → Place → Fault → Type 0
IsBad pool m depth p0 f = Bad (schema_of pool) (records (a_message m)) depth p0 f

-- ---- tags
-- the first tag of a group that is refused, where this many levels are left
abbrev pub RefusesGroup : ℕ → Option Cause → Type 0
RefusesGroup depth_left result =
    (pool : Types) (m depth levels number : ℕ) (base : List Record) (p0 q u : Place) (parents : List Parent) (scope : Scope) (now : Part)
    → Reached pool m depth levels base p0 parents now scope q → scope.depth_left ≡ depth_left → HasTag q number 3 u
    → IfSome result (λ c. IsBad pool m depth p0 (fault q.at (path_to parents scope number) c))

-- what comes next after a tag in a part, where this many levels are left
abbrev pub GoesOnAfterTag : Types → PartKept → ℕ → ℕ → ℕ → Option Step → Type 0
GoesOnAfterTag pool part depth_left number type result =
    (m depth levels : ℕ) (base : List Record) (p0 q u : Place) (parents : List Parent) (scope : Scope)
    → Reached pool m depth levels base p0 parents (part_view part) scope q → scope.depth_left ≡ depth_left → HasTag q number type u
    → IfSome result (λ next. After pool m depth levels base p0 parents next (part_view part) scope u)

-- or what it begins is one level too many
abbrev pub IsTooDeep : Types → PartKept → ℕ → ℕ → ℕ → Option Step → Type 0
IsTooDeep pool part depth_left number type result =
    (m depth levels : ℕ) (base : List Record) (p0 q u : Place) (parents : List Parent) (scope : Scope)
    → Reached pool m depth levels base p0 parents (part_view part) scope q → scope.depth_left ≡ depth_left → HasTag q number type u
    → IfNone result (IsBad pool m depth p0 (fault q.at (path_to parents scope number) TooDeep))

-- ---- lengths
-- after the length of a packed list its elements come next, in a scope that ends with the list
abbrev pub BeginsList : ℕ → Kind → ℕ → ScopeKept → ScopeKept → Step → Type 0
BeginsList number kind end old new result =
    (pool : Types) (m depth levels n : ℕ) (base : List Record) (p0 u t : Place) (parents : List Parent) (now : Part)
    → After pool m depth levels base p0 parents (step.Length number (target.Packed kind)) now (scope_view old) u → HasLength u n t → end ≡ t.at + n
    → After pool m depth levels base p0 parents result now (scope_view new) (payload_at t n)

-- after a length that opens nothing its payload comes next
abbrev pub BeginsPayload : ℕ → Target → ℕ → Step → Type 0
BeginsPayload number meant size result =
    (pool : Types) (m depth levels : ℕ) (base : List Record) (p0 u t : Place) (parents : List Parent) (scope : Scope) (now : Part)
    → IsBytesTarget meant → After pool m depth levels base p0 parents (step.Length number meant) now scope u → HasLength u size t
    → After pool m depth levels base p0 parents result now scope t
