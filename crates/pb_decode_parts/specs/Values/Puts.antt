-- What a value that comes next does, wherever the reader is: it goes into the part that its record belongs to, and the reader is after it. Each holds of any type,
-- any levels, any records before and any first place.
use Rattle.std.specs.Prelude.{◌≡◌, ℕ, ◌+◌, List, [], ◌∷◌, length, map, take, Option, Some, Result, IfOk, IfErr, OnOk}
use Rattle.pb_wire.specs.Record.{Record, wire_type}
use Rattle.pb_wire.specs.declared.fault.Cause.TheVariants.{BadText}
use Rattle.pb_wire.specs.Fault.{fault, Place, Moves}
use Rattle.pb_wire.specs.Scan.{given_at, passed}
use Rattle.pb_wire.specs.Schema.{records}
use Rattle.pb_wire.specs.Grammar.{Bad}
use Rattle.pb_schema.specs.declared.types.Kind.{Kind}
use Rattle.pb_value.specs.declared.body.Value.{Value}
use Rattle.pb_value.specs.View.{value_view}
use Rattle.pb_schema.specs.Types.{Types}
use Rattle.pb_schema.specs.Kinds.{wire_type_of}
use Rattle.pb_schema.specs.Context.{a_message, schema_of}
use Rattle.pb_decode_parts.specs.declared.open.part.Part.{Part}
use Rattle.pb_decode_parts.specs.declared.open.target.Target.{Target}
use Rattle.pb_wire.specs.declared.scan.Number.{Number}
use Rattle.pb_decode_parts.specs.declared.tokens.step.Step.{Step}
use Rattle.pb_decode_parts.specs.declared.tokens.step.Step.TheVariants.{Payload, Elements}
use Rattle.pb_decode_parts.specs.declared.values.payload_value.PayloadError.{PayloadError}
use Rattle.pb_decode_parts.specs.declared.values.run.Run.{Run}
use Rattle.pb_decode_parts.specs.Open.Parents.{Part as PartView, Scope, Parent, path_of, next_step, one_more_in, Reached}
use Rattle.pb_decode_parts.specs.Open.Opened.{below}
use Rattle.pb_decode_parts.specs.Open.PartView.{part_view}
use Rattle.pb_decode_parts.specs.Tokens.Number.{number_view}
use Rattle.pb_decode_parts.specs.Tokens.Numbers.{Follows}
use Rattle.pb_decode_parts.specs.Tokens.After.{tag, awaited, After}
use Rattle.pb_decode_parts.specs.Values.PayloadValue.{IfBadText}
use Rattle.pb_decode_parts.specs.Values.Run.{put_run, put_each}

-- a number of a record with this target
abbrev pub PutsNumber : {A E : Type 0} → Types → ℕ → Target → Number → Part → Part → Result A E → Type 0
PutsNumber pool number meant value old new result =
    (m depth levels : ℕ) (base : List Record) (p0 u w : Place) (parents : List Parent) (scope : Scope) (next : Step)
    → After pool m depth levels base p0 parents next (part_view old) scope u → awaited next ≡ Some (tag number (wire_type (number_view value)) meant)
    → Follows u (number_view value) w → OnOk result (Reached pool m depth levels base p0 parents (part_view new) (one_more_in number scope) w)

-- an element of a packed list, which then goes on
abbrev pub PutsElement : {A E : Type 0} → Types → ℕ → Kind → Number → Part → Part → Result A E → Type 0
PutsElement pool number kind value old new result =
    (m depth levels : ℕ) (end : Option ℕ) (base : List Record) (p0 u w : Place) (parents : List Parent) (scope : Scope)
    → After pool m depth levels base p0 parents (Elements number kind end) (part_view old) scope u → wire_type (number_view value) ≡ wire_type_of kind
    → Follows u (number_view value) w → OnOk result (After pool m depth levels base p0 parents (Elements number kind end) (part_view new) scope w)

-- the payload of a record with this target, whose bytes are these
abbrev pub PutsPayload : {A E : Type 0} → Types → ℕ → Target → List ℕ → Part → Part → Result A E → Type 0
PutsPayload pool number meant bytes old new result =
    (m depth levels n : ℕ) (base : List Record) (p0 u w : Place) (parents : List Parent) (scope : Scope)
    → After pool m depth levels base p0 parents (Payload number meant n) (part_view old) scope u → length bytes ≡ n → Moves u bytes w
    → OnOk result (Reached pool m depth levels base p0 parents (part_view new) (one_more_in number scope) w)

-- or they are no UTF-8, which is the fault of what is read
abbrev pub RefusesPayload : {A : Type 0} → Types → ℕ → Target → List ℕ → Part → Result A PayloadError → Type 0
RefusesPayload pool number meant bytes old result =
    (m depth levels n : ℕ) (base : List Record) (p0 u w : Place) (parents : List Parent) (scope : Scope)
    → After pool m depth levels base p0 parents (Payload number meant n) (part_view old) scope u → length bytes ≡ n → Moves u bytes w
    → IfErr result (λ e. IfBadText e (λ valid.
    Bad (schema_of pool) (records (a_message m)) depth p0 (below (path_of parents) (fault (u.at + valid) (next_step number scope ∷ []) BadText))))

-- where a packed list is at the start of these bytes, with this many before the known end, it goes on after this many of them: the part has one thing in it
-- at their start, and another after them
abbrev pub ElementsGoOn : Types → ℕ → Kind → List ℕ → Option ℕ → (PartView → PartView) → (PartView → PartView) → ℕ → Type 0
ElementsGoOn pool number kind bytes left before after used =
    (m depth levels at : ℕ) (outer : Option ℕ) (base : List Record) (p0 : Place) (parents : List Parent) (scope : Scope) (now : PartView)
    → After pool m depth levels base p0 parents (Elements number kind outer) (before now) scope (given_at at left bytes)
    → After pool m depth levels base p0 parents (Elements number kind outer) (after now) scope (passed (given_at at left bytes) used)

-- so with one run and then with the other
abbrev pub GoesOn : Types → ℕ → Kind → List ℕ → Option ℕ → Run → Run → ℕ → Type 0
GoesOn pool number kind bytes left old new used = ElementsGoOn pool number kind bytes left (put_run number old) (put_run number new) used

-- the elements of a run at the start of these bytes, in a list of this number
abbrev pub TellsRun : {E : Type 0} → Types → ℕ → Kind → List ℕ → Option ℕ → Result (Run × ℕ) E → Type 0
TellsRun pool number kind bytes left result =
    (m depth levels at : ℕ) (outer : Option ℕ) (base : List Record) (p0 : Place) (parents : List Parent) (scope : Scope) (now : PartView)
    → After pool m depth levels base p0 parents (Elements number kind outer) now scope (given_at at left bytes)
    → IfOk result (λ r.
    After pool m depth levels base p0 parents (Elements number kind outer) (put_run number r.0 now) scope (passed (given_at at left bytes) r.1))

-- so with one list of values and then with the other, where these bytes are what is there of a packed list, whatever its number, and whatever follows
abbrev pub ListGoesOn : Kind → List ℕ → List Value → List Value → ℕ → Type 0
ListGoesOn kind there old new used =
    (pool : Types) (number size : ℕ) (bytes : List ℕ) → there ≡ take size bytes
    → ElementsGoOn pool number kind bytes (Some size) (put_each number (map value_view old)) (put_each number (map value_view new)) used
