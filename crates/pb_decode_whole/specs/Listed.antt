-- Records of one list that are read at once, wherever the message is open that holds it.
use Rattle.std.specs.Prelude.{◌≡◌, ◌<◌, ◌≤◌, ◌^◌, ℕ, Some, length, List, [], ◌∷◌, map, Option, Vec, Result, IfOk, IfSome}
use Rattle.std.specs.declared.alloc.Global.{Global}
use Rattle.pb_schema.specs.declared.types.Kind.{Kind}
use Rattle.pb_schema.specs.declared.types.MessageId.{MessageId}
use Rattle.pb_schema.specs.Types.{Types}
use Rattle.pb_schema.specs.Rules.{IsPool}
use Rattle.pb_schema.specs.Kinds.{wire_type_of}
use Rattle.pb_value.specs.declared.body.Value.{Value}
use Rattle.pb_value.specs.Data.{Datum}
use Rattle.pb_value.specs.View.{value_view}
use Rattle.pb_decode_parts.specs.declared.open.part.Slot.TheVariants.{List as ListSlot}
use Rattle.pb_decode_parts.specs.declared.open.target.Target.{Target}
use Rattle.pb_decode_parts.specs.declared.open.target.Target.TheVariants.{Element, Message}
use Rattle.pb_decode_parts.specs.Open.Targets.{Means, part_context}
use Rattle.pb_decode_parts.specs.Open.Parents.{Part}
use Rattle.pb_decode_parts.specs.Tokens.Number.{IsNumberType}
use Rattle.pb_decode_parts.specs.Values.Run.{put_each}
use Rattle.pb_decode_whole.specs.declared.reader.AtTag.{AtTag}
use Rattle.pb_decode_whole.specs.Reads.{IsOpen, HasTagAt, ReadsTo}

-- where the records of a number are for a list's values, this many bytes are records that put these values at the end of the list
abbrev pub ReadsRun : Types → ℕ → ℕ → Target → List Datum → List ℕ → ℕ → ℕ → ℕ → Type 0
ReadsRun pool number type target values bytes left depth_left used =
    (now : Part) → Means pool (part_context now) number type target → ReadsTo pool now (put_each number values now) bytes left depth_left used

-- where they are for elements of this kind, at any level
abbrev pub ReadsList : Types → Kind → ℕ → List Datum → List ℕ → ℕ → ℕ → Type 0
ReadsList pool kind number values bytes left used = (depth_left : ℕ) → ReadsRun pool number (wire_type_of kind) (Element kind) values bytes left depth_left used

-- a tag with the wire type of this kind begins the bytes
pub record IsAtElement (pool : Types) (kind : Kind) (at : AtTag) : Type 0 where
  pub rules : IsPool pool
  pub number : IsNumberType at.tag.wire_type
  pub own : at.tag.wire_type ≡ wire_type_of kind
  pub within : at.tag.size ≤ length at.bytes.now
  pub small : length at.bytes.now < 2 ^ 31
  pub there : HasTagAt at.bytes.now (Some at.left.remaining) at.tag.number at.tag.wire_type at.tag.size

-- the value of one record, and its size
abbrev pub IsElement : Types → Kind → AtTag → Option (Value × ℕ) → Type 0
IsElement pool kind at result = IfSome result (λ r. ReadsList pool kind at.tag.number (value_view r.0 ∷ []) at.bytes.now at.left.remaining r.1)

-- the values of several, and their size
abbrev pub AreElements : {E : Type 0} → Types → Kind → AtTag → Result (Vec Value Global × ℕ) E → Type 0
AreElements pool kind at result = IfOk result (λ r. ReadsList pool kind at.tag.number (map value_view r.0.items) at.bytes.now at.left.remaining r.1)

-- somewhere a part is open in which the records of a number and a wire type are messages of a list, and these bytes come next in it
pub record IsListOpen (pool : Types) (number type : ℕ) (of_type : MessageId) (bytes : List ℕ) (left depth_left : ℕ) : Type 0 where
  pub now : Part
  pub there : IsOpen pool now bytes left depth_left
  pub means : Means pool (part_context now) number type (Message of_type (ListSlot number))

-- such a list's tag begins the bytes, and a level is left
pub record IsAtListed (pool : Types) (of_type : MessageId) (at : AtTag) : Type 0 where
  pub rules : IsPool pool
  pub is_open : IsListOpen pool at.tag.number at.tag.wire_type of_type at.bytes.now at.left.remaining at.left.depth_left
  pub level : 0 < at.left.depth_left
  pub small : length at.bytes.now < 2 ^ 31
  pub some : 0 < at.tag.size
  pub within : at.tag.size ≤ length at.bytes.now
  pub there : HasTagAt at.bytes.now (Some at.left.remaining) at.tag.number at.tag.wire_type at.tag.size

-- these messages are read for it, from these bytes
abbrev pub ReadsListed : Types → MessageId → AtTag → List Datum → ℕ → Type 0
ReadsListed pool of_type at messages used =
    ReadsRun pool at.tag.number at.tag.wire_type (Message of_type (ListSlot at.tag.number)) messages at.bytes.now at.left.remaining at.left.depth_left used

-- the message of one record, and its size
abbrev pub IsMessage : {E : Type 0} → Types → MessageId → AtTag → Result (Value × ℕ) E → Type 0
IsMessage pool of_type at result = IfOk result (λ r. ReadsListed pool of_type at (value_view r.0 ∷ []) r.1)

-- the messages of several, and their size
abbrev pub AreMessages : {E : Type 0} → Types → MessageId → AtTag → Result (Vec Value Global × ℕ) E → Type 0
AreMessages pool of_type at result = IfOk result (λ r. ReadsListed pool of_type at (map value_view r.0.items) r.1)
