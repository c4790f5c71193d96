-- What a decoder has of each thing that is open, and what it is worth.
use Rattle.std.specs.Prelude.{◌≡◌, ◌<◌, ◌+◌, ◌-◌, ℕ, Bool, false, if◌then◌else◌, List, [], ◌∷◌, ◌++◌, Option, Some, None, IsTrue, unwrap_or, length, option_map}
use Rattle.pb_wire.specs.Record.{Payload, group, group_of, Record, wire_type}
use Rattle.pb_wire.specs.Inside.{records_inside}
use Rattle.pb_wire.specs.Ranges.{AreBytes}
use Rattle.pb_wire.specs.Fault.{Place, step}
use Rattle.pb_wire.specs.declared.fault.PathStep.{PathStep}
use Rattle.pb_wire.specs.Schema.{Open, records, in_group, context_of}
use Rattle.pb_schema.specs.declared.types.Kind.{Kind}
use Rattle.pb_schema.specs.Types.{Types, message_fields}
use Rattle.pb_schema.specs.Rules.{NamesType}
use Rattle.pb_schema.specs.Scalar.{Scalar}
use Rattle.pb_schema.specs.Kinds.{default_of, is_key_kind, is_of_proto2}
use Rattle.pb_schema.specs.Fits.{fitting}
use Rattle.pb_schema.specs.Context.{Context, a_message, an_entry, unknown_group, key_field, value_field, schema_of}
use Rattle.pb_value.specs.Data.{Datum, message, one, Message, body, fields_of, unknown_of, get_field, empty, message_depth}
use Rattle.pb_value.specs.Value.{last_of, all_elements, one_value, missing, value_within}
use Rattle.pb_value.specs.WellFormed.{HasOneMemberEach, IsBody}
use Rattle.pb_value.specs.Change.{stored_at, push_at, insert_at, with_fields, entries_of, AreKeys}
use Rattle.pb_decode_parts.specs.declared.open.part.Slot.{Slot}
use Rattle.pb_decode_parts.specs.declared.open.part.Slot.TheVariants as slot
use Rattle.pb_decode_parts.specs.Open.Occurrences.{one_more_of, CountsOf}
use Rattle.pb_decode_parts.specs.Open.Opened.{SoFar, Begun}

-- what there is of a message of a type, of a map entry with these kinds, or of a group
pub data Part : Type 0 where
  message_part : ℕ → Message → Part
  entry_part : Kind → Kind → Option Scalar → Option Datum → Part
  group_part : List Record → Part

-- A message into a slot of a part. A slot of another part takes none, and neither does a map or the unknown records.
abbrev pub put_message : Types → Slot → Part → Message → Part
put_message pool (slot.One s n) (message_part m v) w = message_part m (with_fields v (stored_at (message_fields pool m) s n (one (message w)) (fields_of v)))
put_message pool (slot.One s n) (entry_part key k x d) w = entry_part key k x d
put_message pool (slot.One s n) (group_part us) w = group_part us
put_message pool (slot.List n) (message_part m v) w = message_part m (with_fields v (push_at n (message w) (fields_of v)))
put_message pool (slot.List n) (entry_part key k x d) w = entry_part key k x d
put_message pool (slot.List n) (group_part us) w = group_part us
put_message pool slot.Entry (message_part m v) w = message_part m v
put_message pool slot.Entry (entry_part key k x d) w = entry_part key k x (Some (message w))
put_message pool slot.Entry (group_part us) w = group_part us
put_message pool (slot.Map n) p w = p
put_message pool (slot.Unknown n) p w = p

-- A group among the unknown records of a part; those of an entry are dropped. No other slot takes one.
abbrev pub put_group : Slot → Part → List Record → Part
put_group (slot.Unknown n) (message_part m v) us =
    message_part m (body (fields_of v) (unknown_of v ++ record { number = n; payload = group (group_of us) } ∷ []))
put_group (slot.Unknown n) (entry_part key k x d) us = entry_part key k x d
put_group (slot.Unknown n) (group_part vs) us = group_part (vs ++ record { number = n; payload = group (group_of us) } ∷ [])
put_group (slot.One s n) p us = p
put_group (slot.List n) p us = p
put_group (slot.Map n) p us = p
put_group slot.Entry p us = p

-- An entry into a map. A missing key or value is the default. Messages alone have maps, and no other slot takes an entry.
abbrev pub put_entry : Slot → Part → Kind → Kind → Option Scalar → Option Datum → Part
put_entry (slot.Map n) (message_part m v) key k x d =
    message_part m (with_fields v (insert_at n (unwrap_or x (default_of key)) (unwrap_or d (missing (λ _ _. empty) k)) (fields_of v)))
put_entry (slot.Map n) (entry_part key2 k2 y e) key k x d = entry_part key2 k2 y e
put_entry (slot.Map n) (group_part us) key k x d = group_part us
put_entry (slot.One s n) p key k x d = p
put_entry (slot.List n) p key k x d = p
put_entry slot.Entry p key k x d = p
put_entry (slot.Unknown n) p key k x d = p

abbrev pub put_child : Types → Slot → Part → Part → Part
put_child pool s p (message_part k w) = put_message pool s p w
put_child pool s p (entry_part key k x d) = put_entry s p key k x d
put_child pool s p (group_part us) = put_group s p us

-- what the changes of a part ask: of a message that its type is one of the pool and that at most one member of each oneof is set, of an entry
-- that its key is of a kind that keys have
abbrev pub CanHold : Types → Part → Type 0
CanHold pool (message_part m v) = (m < length pool.messages) × HasOneMemberEach (message_fields pool m) (fields_of v)
CanHold pool (entry_part key k x d) = IsTrue (is_key_kind key)
CanHold pool (group_part us) = Unit {0}

-- a part is what these records make of it
abbrev pub IsWorth : Types → ℕ → Part → List Record → Type 0
IsWorth pool levels (message_part m v) rs = v ≡ value_within pool levels m rs
IsWorth pool levels (entry_part key k x d) rs =
    (x ≡ last_of (all_elements key (fitting (key_field key) rs))) × (d ≡ one_value (value_within pool levels) k (fitting (value_field k) rs))
IsWorth pool levels (group_part us) rs = us ≡ rs

-- the part has this form
abbrev pub IsSameForm : Part → Part → Type 0
IsSameForm (message_part m v) (message_part k w) = m ≡ k
IsSameForm (message_part m v) (entry_part key k x d) = ⊥
IsSameForm (message_part m v) (group_part us) = ⊥
IsSameForm (entry_part key k x d) (message_part m v) = ⊥
IsSameForm (entry_part key k x d) (entry_part key2 k2 x2 d2) = (key ≡ key2) × (k ≡ k2)
IsSameForm (entry_part key k x d) (group_part us) = ⊥
IsSameForm (group_part us) (message_part m v) = ⊥
IsSameForm (group_part us) (entry_part key k x d) = ⊥
IsSameForm (group_part us) (group_part vs) = Unit {0}

-- what is kept of an open part beside what there is of it: the levels left, where its known end is, and how many whole records of each number
-- are in it so far
pub record Scope : Type 0 where
  pub depth_left : ℕ
  pub end : Option ℕ
  pub counts : ℕ → ℕ

-- one more record of a number
abbrev pub one_more_in : ℕ → Scope → Scope
one_more_in k scope = record scope { counts = one_more_of k scope.counts }

-- the step into the record of this number that comes next
abbrev pub next_step : ℕ → Scope → PathStep
next_step k scope = record { number = k; occurrence = scope.counts k }

-- a part that holds the open part inside it, the number of that record, where that goes, whether an end tag ends it, and the scope of the part up to that
-- record
pub record Parent : Type 0 where
  pub part : Part
  pub number : ℕ
  pub slot : Slot
  pub group : Bool
  pub scope : Scope

abbrev pub parent_of : Part → ℕ → Slot → Bool → Scope → Parent
parent_of p n s g scope = record { part = p; number = n; slot = s; group = g; scope = scope }

-- the wire type of a record that has a group open, or a payload after a length
abbrev pub opening_type : Bool → ℕ
opening_type g = if g then 3 else 2

-- and that of the open part
abbrev pub open_type : Open Context → ℕ
open_type (records c) = 2
open_type (in_group k c) = 3

-- the steps into the records that are open, outermost first
abbrev pub path_of : List Parent → List PathStep
path_of [] = []
path_of (parent ∷ parents) = path_of parents ++ next_step parent.number parent.scope ∷ []

-- and on to the record of a number that comes next in the innermost part
abbrev pub path_to : List Parent → Scope → ℕ → List PathStep
path_to parents scope n = path_of parents ++ next_step n scope ∷ []

-- the known end of this place is at this position
abbrev pub EndsAt : Place → Option ℕ → Type 0
EndsAt p None = p.known ≡ None
EndsAt p (Some e) = (left : ℕ) × (p.known ≡ Some left) × (p.at + left ≡ e)

-- the same place in what has its known end at this position
abbrev pub up_to : Option ℕ → Place → Place
up_to end p = record p { known = option_map (λ e. e - p.at) end }

-- the part is one of this context
abbrev pub IsPartOf : Part → Context → Type 0
IsPartOf (message_part m v) c = c ≡ a_message m
IsPartOf (entry_part key k x d) c = c ≡ an_entry key k
IsPartOf (group_part us) c = c ≡ unknown_group

-- Whatever the payload comes to be, with its part in the slot the outer part is worth the records with that record too.
abbrev pub Completes : Types → ℕ → ℕ → Parent → List Record → Part → List Record → Type 0
Completes pool levels inner parent rs now earlier =
    (p : Payload) (q : Part) → wire_type p ≡ opening_type parent.group → IsSameForm now q → IsWorth pool inner q (earlier ++ records_inside p)
    → IsWorth pool levels (put_child pool parent.slot parent.part q) (rs ++ record { number = parent.number; payload = p } ∷ [])

-- What a part of this form goes on from: its types are those of the pool; the value of the earlier records of a message is well formed and less deep than
-- may be; an entry and a group have none, and no value of an entry is a group or of a closed enum.
abbrev pub GoesOnFrom : Types → ℕ → Part → List Record → Type 0
GoesOnFrom pool inner (message_part m v) earlier =
    (m < length pool.messages) × IsBody pool m (value_within pool inner m earlier) × (message_depth (value_within pool inner m earlier) < inner)
GoesOnFrom pool inner (entry_part key k x d) earlier =
    (earlier ≡ []) × IsTrue (is_key_kind key) × NamesType (length pool.messages) (length pool.enums) k × (is_of_proto2 k ≡ false)
GoesOnFrom pool inner (group_part us) earlier = earlier ≡ []

-- A slot of the first part takes the second: a message goes into a field, a list or an entry, an entry into a map whose keys are of the kind of its
-- key, and a group among unknown records.
abbrev pub Takes : Slot → Part → Part → Type 0
Takes (slot.One s n) (message_part m v) (message_part k w) = Unit {0}
Takes (slot.One s n) (message_part m v) (entry_part key k x d) = ⊥
Takes (slot.One s n) (message_part m v) (group_part us) = ⊥
Takes (slot.One s n) (entry_part key k x d) q = ⊥
Takes (slot.One s n) (group_part vs) q = ⊥
Takes (slot.List n) (message_part m v) (message_part k w) = Unit {0}
Takes (slot.List n) (message_part m v) (entry_part key k x d) = ⊥
Takes (slot.List n) (message_part m v) (group_part us) = ⊥
Takes (slot.List n) (entry_part key k x d) q = ⊥
Takes (slot.List n) (group_part vs) q = ⊥
Takes slot.Entry (message_part m v) q = ⊥
Takes slot.Entry (entry_part key k x d) (message_part m v) = Unit {0}
Takes slot.Entry (entry_part key k x d) (entry_part key2 k2 y e) = ⊥
Takes slot.Entry (entry_part key k x d) (group_part us) = ⊥
Takes slot.Entry (group_part vs) q = ⊥
Takes (slot.Map n) (message_part m v) (message_part k w) = ⊥
Takes (slot.Map n) (message_part m v) (entry_part key k x d) = AreKeys key (entries_of (get_field n (fields_of v)))
Takes (slot.Map n) (message_part m v) (group_part us) = ⊥
Takes (slot.Map n) (entry_part key k x d) q = ⊥
Takes (slot.Map n) (group_part vs) q = ⊥
Takes (slot.Unknown n) (message_part m v) (message_part k w) = ⊥
Takes (slot.Unknown n) (message_part m v) (entry_part key k x d) = ⊥
Takes (slot.Unknown n) (message_part m v) (group_part us) = Unit {0}
Takes (slot.Unknown n) (entry_part key k x d) (message_part m v) = ⊥
Takes (slot.Unknown n) (entry_part key k x d) (entry_part key2 k2 y e) = ⊥
Takes (slot.Unknown n) (entry_part key k x d) (group_part us) = Unit {0}
Takes (slot.Unknown n) (group_part vs) (message_part m v) = ⊥
Takes (slot.Unknown n) (group_part vs) (entry_part key k x d) = ⊥
Takes (slot.Unknown n) (group_part vs) (group_part us) = Unit {0}

-- These parents, innermost first, hold the open part: it has this many levels left and may hold this many levels of values, is below this path, begins at p,
-- and goes on from the earlier records.
pub data Held (pool : Types) (m depth levels : ℕ) (base : List Record) (p0 : Place) :
    List Parent → Part → Open Context → ℕ → ℕ → List PathStep → Place → List Record → Type 0 where
  at_top :
      {now : Part} {o : Open Context} {depth_left inner : ℕ} {path : List PathStep} {p : Place} {earlier : List Record}
      → (v : Message) → IsSameForm now (message_part m v) → o ≡ records (a_message m) → depth_left ≡ depth → inner ≡ levels
      → path ≡ [] → p ≡ p0 → earlier ≡ base → GoesOnFrom pool inner now earlier
      → Held pool m depth levels base p0 [] now o depth_left inner path p earlier
  inside :
      {parent : Parent} {parents : List Parent} {now : Part} {o a : Open Context} {below outer inner : ℕ}
      {path steps : List PathStep} {p q u : Place} {rs before earlier : List Record}
      → Held pool m depth levels base p0 parents parent.part a parent.scope.depth_left outer steps p before → SoFar (schema_of pool) a parent.scope.depth_left p rs q
      → Begun (schema_of pool) a parent.scope.depth_left parent.number q o below u → IsPartOf parent.part (context_of a) → CanHold pool parent.part
      → parent.scope.depth_left < outer → Completes pool outer inner parent (before ++ rs) now earlier → path ≡ steps ++ step parent.number rs ∷ []
      → CountsOf parent.scope.counts rs → EndsAt q parent.scope.end
      → GoesOnFrom pool inner now earlier → Takes parent.slot parent.part now × (opening_type parent.group ≡ open_type o)
      → Held pool m depth levels base p0 (parent ∷ parents) now o below inner path u earlier

-- What there is of the innermost part is worth the earlier records and those after the reader's position, and its scope says what is left there
-- and what was there.
pub record Reached
    (pool : Types) (m depth levels : ℕ) (base : List Record) (p0 : Place) (parents : List Parent) (now : Part) (scope : Scope) (q : Place) : Type 0 where
  pub open_now : Open Context
  pub inner : ℕ
  pub path : List PathStep
  pub begin : Place
  pub earlier : List Record
  pub records_so_far : List Record
  pub held : Held pool m depth levels base p0 parents now open_now scope.depth_left inner path begin earlier
  pub form : IsPartOf now (context_of open_now)
  pub deep : scope.depth_left < inner
  pub so_far : SoFar (schema_of pool) open_now scope.depth_left begin records_so_far q
  pub counted : CountsOf scope.counts records_so_far
  pub ends : EndsAt q scope.end
  pub bytes : AreBytes p0.rest
  pub worth : IsWorth pool inner now (earlier ++ records_so_far)
