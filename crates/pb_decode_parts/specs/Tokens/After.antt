-- What is begun after the last whole record.
use Rattle.std.specs.Prelude.{◌≡◌, ◌<◌, Bool, true, false, if◌then◌else◌, ℕ, List, [], ◌∷◌, map, Option, Some, None}
use Rattle.pb_wire.specs.Record.{Payload, len, Record}
use Rattle.pb_wire.specs.Fault.{Place, Moves, HasTag, HasLength}
use Rattle.pb_wire.specs.Schema.{Element}
use Rattle.pb_wire.specs.Sound.{AreElements}
use Rattle.pb_wire.specs.Grammar.{payload_at}
use Rattle.pb_schema.specs.declared.types.Kind.{Kind}
use Rattle.pb_schema.specs.declared.types.Kind.TheVariants as kind
use Rattle.pb_schema.specs.Types.{Types}
use Rattle.pb_schema.specs.Kinds.{closed_enum}
use Rattle.pb_schema.specs.Packed.{elements, numbers_of}
use Rattle.pb_schema.specs.Closed.{is_undeclared}
use Rattle.pb_schema.specs.Context.{element_of}
use Rattle.pb_value.specs.Data.{Message, scalar}
use Rattle.pb_decode_parts.specs.declared.open.part.Slot.TheVariants as slot
use Rattle.pb_decode_parts.specs.declared.open.target.Target.{Target}
use Rattle.pb_decode_parts.specs.declared.open.target.Target.TheVariants as target
use Rattle.pb_decode_parts.specs.declared.tokens.step.Step.{Step}
use Rattle.pb_decode_parts.specs.declared.tokens.step.Step.TheVariants as step
use Rattle.pb_decode_parts.specs.Open.Parents.{Part, message_part, Scope, Parent, EndsAt, Reached}
use Rattle.pb_decode_parts.specs.Open.Targets.{Means, part_context}
use Rattle.pb_decode_parts.specs.Values.PayloadValue.{IsBytesTarget}
use Rattle.pb_decode_parts.specs.Values.Put.{with_record}
use Rattle.pb_decode_parts.specs.Values.Run.{with_each}

-- a tag's number, its wire type and what its record is for
pub record Tag : Type 0 where
  pub number : ℕ
  pub type : ℕ
  pub meant : Target

abbrev pub tag : ℕ → ℕ → Target → Tag
tag n w p = record { number = n; type = w; meant = p }

-- the tag whose value or length comes next
abbrev pub awaited : Step → Option Tag
awaited (step.Varint n p) = Some (tag n 0 p)
awaited (step.I64 n p) = Some (tag n 1 p)
awaited (step.I32 n p) = Some (tag n 5 p)
awaited (step.Length n p) = Some (tag n 2 p)
awaited step.Tag = None
awaited (step.Payload n p size) = None
awaited (step.Elements n k outer) = None

-- whole elements of a list lead from its payload's first byte to u
pub record Elements (e : Element) (p : Place) (u : Place) (front : List ℕ) : Type 0 where
  pub whole : AreElements e front
  pub moves : Moves p front u

-- the message with a number at the end of the list of number n; one that a closed enum doesn't declare goes among the unknown records
abbrev pub with_number : Types → ℕ → Kind → Message → Payload → Message
with_number pool n k v p =
    if is_undeclared pool (closed_enum k) p then with_record n p v else with_each n (map scalar (elements k p)) v

abbrev pub with_numbers : Types → ℕ → Kind → List Payload → Message → Message
with_numbers pool n k [] v = v
with_numbers pool n k (p ∷ ps) v = with_numbers pool n k ps (with_number pool n k v p)

-- the message with the elements that these bytes spell at the end of the list of number n, each number of a closed enum where it belongs
abbrev pub with_elements : Types → ℕ → Kind → List ℕ → Message → Message
with_elements pool n (kind.ClosedEnum e) front v = with_numbers pool n (kind.ClosedEnum e) (numbers_of 0 front) v
with_elements pool n k front v = with_each n (map scalar (elements k (len front))) v

-- what a record of this target opens is a level below; the value of an entry is at the level of the entry
abbrev pub goes_down : Target → Bool
goes_down (target.Message j slot.Entry) = false
goes_down (target.Message j (slot.One s n)) = true
goes_down (target.Message j (slot.List n)) = true
goes_down (target.Message j (slot.Map n)) = true
goes_down (target.Message j (slot.Unknown n)) = true
goes_down (target.Entry key k) = true
goes_down (target.One k s) = false
goes_down (target.Element k) = false
goes_down (target.Packed k) = false
goes_down (target.Key k) = false
goes_down (target.EntryValue k) = false
goes_down target.Unknown = false

-- there is a level left for what a record of this target opens
abbrev pub HasLevelFor : ℕ → Target → Type 0
HasLevelFor depth_left p = goes_down p ≡ true → 0 < depth_left

-- where the part has its known end: inside a packed list that is where the list's end leads back to
abbrev pub end_of_part : Step → Option ℕ → Option ℕ
end_of_part step.Tag end = end
end_of_part (step.Varint n p) end = end
end_of_part (step.I64 n p) end = end
end_of_part (step.I32 n p) end = end
end_of_part (step.Length n p) end = end
end_of_part (step.Payload n p size) end = end
end_of_part (step.Elements n k outer) end = outer

abbrev pub part_scope : Step → Scope → Scope
part_scope next scope = record scope { end = end_of_part next scope.end }

-- After the last whole record, which ends at q, and where the part was v with this many levels left: what comes next is `next`, the reader is at u, and
-- the part is now `now`.
pub data Underway (pool : Types) (depth_left : ℕ) (v : Part) (q : Place) : Step → Part → Place → Type 0 where
  nothing : {next : Step} {now : Part} {u : Place} → next ≡ step.Tag → now ≡ v → u ≡ q → Underway pool depth_left v q next now u
  a_tag :
      {next : Step} {now : Part} {u : Place} (t : Tag)
      → awaited next ≡ Some t → HasTag q t.number t.type u → Means pool (part_context v) t.number t.type t.meant
      → HasLevelFor depth_left t.meant → now ≡ v → Underway pool depth_left v q next now u
  a_length :
      {next : Step} {now : Part} {r u : Place} {k n : ℕ} {p : Target}
      → next ≡ step.Payload k p n → HasTag q k 2 r → HasLength r n u → Means pool (part_context v) k 2 p
      → HasLevelFor depth_left p → IsBytesTarget p → now ≡ v → Underway pool depth_left v q next now u
  some_elements :
      {next : Step} {now : Part} {r t u : Place} {k n m : ℕ} {outer : Option ℕ} {kd : Kind} {w : Message} {front : List ℕ}
      → next ≡ step.Elements k kd outer → HasTag q k 2 r → HasLength r n t → Means pool (part_context v) k 2 (target.Packed kd)
      → Elements (element_of kd) (payload_at t n) u front → v ≡ message_part m w
      → now ≡ message_part m (with_elements pool k kd front w) → Underway pool depth_left v q next now u

-- These parents and this part are what there is of the bytes from p0 on, and the reader is at u, where `next` comes. The scope is that of the part; inside
-- a packed list its end is the list's.
pub record After
    (pool : Types) (m depth levels : ℕ) (base : List Record) (p0 : Place) (parents : List Parent) (next : Step) (now : Part) (scope : Scope)
    (u : Place) : Type 0 where
  pub before : Part
  pub place : Place
  pub reached : Reached pool m depth levels base p0 parents before (part_scope next scope) place
  pub begun : Underway pool scope.depth_left before place next now u
  pub ends : EndsAt u scope.end
