-- What a step of the reader does that has read everything up to these bytes. Each holds wherever it began: of any type, any levels, any records before
-- and any first place.
use Rattle.std.specs.Prelude.{◌≡◌, ◌+◌, ◌≤◌, ℕ, List, drop, length, Option, Some, None, Result, IfOk, IfErr, IfSome, OnOk}
use Rattle.pb_wire.specs.Record.{Record}
use Rattle.pb_wire.specs.Fault.{Place, HasTag}
use Rattle.pb_wire.specs.Scan.{passed}
use Rattle.pb_schema.specs.Types.{Types}
use Rattle.pb_schema.specs.Rules.{IsPool}
use Rattle.pb_decode.specs.declared.error.DecodeError.{DecodeError}
use Rattle.pb_decode.specs.declared.reader.state.State.{State as StateKept}
use Rattle.pb_decode_parts.specs.declared.open.target.Target.{Target}
use Rattle.pb_decode_parts.specs.declared.tokens.record_tag.RecordTag.{RecordTag}
use Rattle.pb_decode_parts.specs.declared.tokens.step.Step.TheVariants.{Tag}
use Rattle.pb_decode_parts.specs.Open.PartView.{part_view}
use Rattle.pb_decode_parts.specs.Open.Targets.{Means, part_context}
use Rattle.pb_decode.specs.Reader.{State, state_view, here, IsReading, Reads, Stops, Taken, IfFault, Reported}

-- these bytes begin with a tag of this many bytes
abbrev pub HasTagHere : State → List ℕ → ℕ → ℕ → ℕ → Type 0
HasTagHere s rest number type size = HasTag (here s rest) number type (passed (here s rest) size)

-- a reader reads up to these bytes, a tag comes next, and a whole one begins them
pub record IsAtTag (pool : Types) (state : StateKept) (rest : List ℕ) (tag : RecordTag) : Type 0 where
  pub rules : IsPool pool
  pub reading : IsReading pool (state_view state) rest
  pub step : state.step ≡ Tag
  pub within : tag.size ≤ length rest
  pub there : HasTagHere (state_view state) rest tag.number tag.wire_type tag.size

-- the tag has a length after it, and its record is for this
pub record IsAtLengthTag (pool : Types) (state : StateKept) (rest : List ℕ) (tag : RecordTag) (target : Target) : Type 0 where
  pub at_tag : IsAtTag pool state rest tag
  pub bytes : tag.wire_type ≡ 2
  pub means : Means pool (part_context (part_view state.part)) tag.number 2 target

-- the error, if there is one, reports a fault that no more bytes change
abbrev pub TellsFault : {A : Type 0} → Types → StateKept → List ℕ → Result A DecodeError → Type 0
TellsFault pool old rest result =
    (m depth levels : ℕ) (base : List Record) (p0 : Place)
    → Reads pool m depth levels base p0 (state_view old) rest → IfErr result (λ e. IfFault e (Reported pool m depth p0))

-- and does so whatever bytes follow
abbrev pub TellsFaultAnyway : {A : Type 0} → Types → StateKept → Result A DecodeError → Type 0
TellsFaultAnyway pool old result =
    (m depth levels : ℕ) (base : List Record) (p0 : Place) (rest : List ℕ)
    → Reads pool m depth levels base p0 (state_view old) rest → IfErr result (λ e. IfFault e (Reported pool m depth p0))

-- ---- what is taken
-- what comes next is taken, or none where the bytes end too early
abbrev pub TakesNext : Types → StateKept → StateKept → List ℕ → Result (Option ℕ) DecodeError → Type 0
TakesNext pool old new rest result =
    (m depth levels : ℕ) (base : List Record) (p0 : Place)
    → Reads pool m depth levels base p0 (state_view old) rest → IfOk result (λ o. Taken pool m depth levels base p0 (state_view new) rest o)

-- at least this many of these bytes are taken, or nothing is done
abbrev pub PassesWhole : ℕ → StateKept → StateKept → List ℕ → Option ℕ → Type 0
PassesWhole least old new rest (Some n) = (least ≤ n) × (n ≤ length rest) × (new.at ≡ old.at + n)
PassesWhole least old new rest None = new ≡ old

-- what is complete at the start is taken, if anything is
abbrev pub TakesWhole : {E : Type 0} → Types → StateKept → StateKept → List ℕ → Result (Option ℕ) E → Type 0
TakesWhole pool old new rest result =
    (m depth levels : ℕ) (base : List Record) (p0 : Place)
    → Reads pool m depth levels base p0 (state_view old) rest
    → IfOk result (λ o. IfSome o (λ n. Reads pool m depth levels base p0 (state_view new) (drop n rest)))

-- this many bytes are taken
abbrev pub TakesMany : Types → StateKept → StateKept → List ℕ → Result ℕ DecodeError → Type 0
TakesMany pool old new rest result =
    (m depth levels : ℕ) (base : List Record) (p0 : Place)
    → Reads pool m depth levels base p0 (state_view old) rest → IfOk result (λ n. Reads pool m depth levels base p0 (state_view new) (drop n rest))

-- and no more can be
abbrev pub TakesAll : Types → StateKept → StateKept → List ℕ → Result ℕ DecodeError → Type 0
TakesAll pool old new rest result =
    (m depth levels : ℕ) (base : List Record) (p0 : Place)
    → Reads pool m depth levels base p0 (state_view old) rest
    → IfOk result (λ n. Reads pool m depth levels base p0 (state_view new) (drop n rest) × Stops pool m depth p0 (state_view new) (drop n rest))

-- no byte is taken, and what was read is read
abbrev pub KeepsReading : {A E : Type 0} → Types → StateKept → StateKept → Result A E → Type 0
KeepsReading pool old new result =
    (m depth levels : ℕ) (base : List Record) (p0 : Place) (rest : List ℕ)
    → Reads pool m depth levels base p0 (state_view old) rest → OnOk result (Reads pool m depth levels base p0 (state_view new) rest)

-- ---- after a tag
abbrev pub PassesTag : {A E : Type 0} → Types → StateKept → StateKept → RecordTag → Result A E → Type 0
PassesTag pool old new tag result =
    (m depth levels : ℕ) (base : List Record) (p0 : Place) (rest : List ℕ)
    → Reads pool m depth levels base p0 (state_view old) rest → HasTagHere (state_view old) rest tag.number tag.wire_type tag.size
    → OnOk result (Reads pool m depth levels base p0 (state_view new) (drop tag.size rest))

abbrev pub TellsTagFault : {A : Type 0} → Types → StateKept → RecordTag → Result A DecodeError → Type 0
TellsTagFault pool old tag result =
    (m depth levels : ℕ) (base : List Record) (p0 : Place) (rest : List ℕ)
    → Reads pool m depth levels base p0 (state_view old) rest → HasTagHere (state_view old) rest tag.number tag.wire_type tag.size
    → IfErr result (λ e. IfFault e (Reported pool m depth p0))
