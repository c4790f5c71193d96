-- The open part is well formed wherever the reader is: its bytes are bytes, and what it goes on from is well formed.
use Rattle.std.proofs.Common.{◌≡◌, ℕ, zero, suc, ◌<◌, ◌≤◌, List, [], ◌∷◌, ◌++◌, length, refl, sym, subst, arith, Option, Some, None, IfSome, IsTrue}
use Rattle.std.specs.Prelude.{false, unwrap_or, IsSomeAnd}
use Rattle.std.specs.List.{AllByRecursion}
use Rattle.pb_wire.specs.Record.{Record}
use Rattle.pb_wire.specs.Ranges.{IsByte, AreBytes}
use Rattle.pb_wire.specs.declared.fault.PathStep.{PathStep}
use Rattle.pb_wire.specs.Fault.{Place, Moves}
use Rattle.pb_wire.specs.Schema.{Schema, Open, context_of}
use Rattle.pb_wire.proofs.RangeLemmas.{spelled_in_range, spelled_writable}
use Rattle.pb_schema.specs.declared.types.Kind.{Kind}
use Rattle.pb_schema.specs.declared.types.Kind.TheVariants as kind
use Rattle.pb_schema.specs.declared.types.MessageId.{MessageId}
use Rattle.pb_schema.specs.declared.types.Shape.{Shape}
use Rattle.pb_schema.specs.declared.types.Shape.TheVariants as shape
use Rattle.pb_schema.specs.Types.{FieldView, Types, message_fields, field_numbered}
use Rattle.pb_schema.specs.Rules.{IsPool, NamesType}
use Rattle.pb_schema.specs.Scalar.{Scalar}
use Rattle.pb_schema.specs.Kinds.{is_of_proto2, message_of_kind, IsOfKind, is_key_kind, default_of}
use Rattle.pb_schema.specs.Fits.{fits, fitting}
use Rattle.pb_schema.specs.Context.{Context, a_message as in_message, an_entry, value_field}
use Rattle.pb_value.specs.Data.{Datum, scalar, message, Holding, one, list, map, Message, body, fields_of, get_field, message_depth}
use Rattle.pb_value.specs.Value.{joined, value_within}
use Rattle.pb_value.specs.WellFormed.{HasOneMemberEach, IsBody}
use Rattle.pb_value.specs.Change.{entries_of, AreKeys, FitsKeys}
use Rattle.pb_value.proofs.ListLemmas.{all_filter}
use Rattle.pb_value.proofs.FittingLemmas.{IsGood, AllGood, AllCount, all_good, all_count}
use Rattle.pb_value.proofs.HeldLemmas.{IsStored, joined-good_entry, entry-good}
use Rattle.pb_value.proofs.PartLemmas.{AreKeys-entries}
use Rattle.pb_value.proofs.ValueLemmas.{within-good}
use Rattle.pb_value.proofs.MergedWell.{stored_in}
use Rattle.pb_value.proofs.OntoWell.{within_onward}
use Rattle.pb_value.proofs.ShapeSteps.{held_message}
use Rattle.pb_decode_parts.specs.declared.open.part.Slot.{Slot}
use Rattle.pb_decode_parts.specs.declared.open.part.Slot.TheVariants as slot
use Rattle.pb_decode_parts.specs.Open.Opened.{Begun}
use Rattle.pb_decode_parts.specs.Open.Opened as opened
use Rattle.pb_decode_parts.specs.Open.Parents.{Part, message_part, entry_part, group_part, CanHold, Scope, Parent, GoesOnFrom, Takes, Held, at_top, inside, Reached}

-- THE BYTES

all_parts : {X : Type 0} (P : X → Type 0) (xs ys : List X) → AllByRecursion P (xs ++ ys) → AllByRecursion P xs × AllByRecursion P ys
all_parts P [] ys h = (tt, h)
all_parts P (x ∷ xs) ys h = let rest = all_parts P xs ys h.1 in ((h.0, rest.0), rest.1)

moved_bytes : {p q : Place} (front : List ℕ) → Moves p front q → AreBytes p.rest → AreBytes front × AreBytes q.rest
moved_bytes {p} {q} front m h = all_parts IsByte front q.rest (subst AreBytes m.given h)

begun_bytes : {S : Schema} {a o : Open S.Context} {depth_left below k : ℕ} {q u : Place} → Begun S a depth_left k q o below u → AreBytes q.rest → AreBytes u.rest
begun_bytes (opened.a_message levels tag re l is_open is_place) h =
    subst (λ (z : Place). AreBytes z.rest) (sym is_place) (moved_bytes l.length_is.0 l.length_is.2 (moved_bytes tag.tag.0 tag.tag.2 h).1).1
begun_bytes (opened.a_value levels tag re l is_open is_place) h =
    subst (λ (z : Place). AreBytes z.rest) (sym is_place) (moved_bytes l.length_is.0 l.length_is.2 (moved_bytes tag.tag.0 tag.tag.2 h).1).1
begun_bytes (opened.a_group levels tag is_open is_place) h = subst (λ (z : Place). AreBytes z.rest) (sym is_place) (moved_bytes tag.tag.0 tag.tag.2 h).1

-- the bytes of the open part
pub held_bytes :
    {pool : Types} {m depth levels : ℕ} {base : List Record} {p0 : Place} {parents : List Parent} {now : Part} {o : Open Context} {depth_left inner : ℕ} {path : List PathStep} {p : Place} {earlier : List Record}
    → Held pool m depth levels base p0 parents now o depth_left inner path p earlier → AreBytes p0.rest → AreBytes p.rest
held_bytes (at_top v form is_open is_depth is_inner is_path is_place is_base goes_on) h = subst (λ (z : Place). AreBytes z.rest) (sym is_place) h
held_bytes (inside up b begun form can deep completes is_path counts ends goes_on takes) h = begun_bytes begun (moved_bytes b.front b.moves (held_bytes up h)).1

pub goes_on_held :
    {pool : Types} {m depth levels : ℕ} {base : List Record} {p0 : Place} {parents : List Parent} {now : Part} {o : Open Context} {depth_left inner : ℕ} {path : List PathStep} {p : Place} {earlier : List Record}
    → Held pool m depth levels base p0 parents now o depth_left inner path p earlier → GoesOnFrom pool inner now earlier
goes_on_held (at_top v form is_open is_depth is_inner is_path is_place is_base goes_on) = goes_on
goes_on_held (inside up b begun form can deep completes is_path counts ends goes_on takes) = goes_on

-- the records so far are in range, can be written, and are sound
records_good :
    {pool : Types} {m depth levels : ℕ} {base : List Record} {p0 : Place} {parents : List Parent} {scope : Scope} {now : Part} {q : Place} (s : Reached pool m depth levels base p0 parents now scope q)
    → AllGood pool (context_of s.open_now) scope.depth_left s.records_so_far
records_good {pool} {scope = scope} s =
    all_good pool (context_of s.open_now) scope.depth_left s.records_so_far
    (spelled_in_range s.records_so_far s.so_far.front s.so_far.spelled (moved_bytes s.so_far.front s.so_far.moves (held_bytes s.held s.bytes)).0)
    (spelled_writable s.records_so_far s.so_far.front s.so_far.spelled) s.so_far.sound

-- A MESSAGE is well formed, and less deep than it may be
pub message_good :
    {pool : Types} {m depth levels : ℕ} {base : List Record} {p0 : Place} {parents : List Parent} {scope : Scope} {q : Place} (ok : IsPool pool) (k : ℕ) (v : Message)
    → (s : Reached pool m depth levels base p0 parents (message_part k v) scope q) → IsBody pool k v × (message_depth v < s.inner)
message_good {pool} {scope = scope} ok k v s = by_level s.inner s.deep (goes_on_held s.held) s.worth
  where
    good : AllGood pool (in_message k) scope.depth_left s.records_so_far
    good = subst (λ (c : Context). AllGood pool c scope.depth_left s.records_so_far) s.form (records_good s)

    by_level : (l : ℕ) → scope.depth_left < l → (k < length pool.messages) × IsBody pool k (value_within pool l k s.earlier) × (message_depth (value_within pool l k s.earlier) < l) → v ≡ value_within pool l k (s.earlier ++ s.records_so_far)
        → IsBody pool k v × (message_depth v < l)
    by_level zero deep h w = absurd (omega (arith, deep))
    by_level (suc l) deep h w =
        let low = h.2 in
        let made = within_onward pool ok (suc l) k l scope.depth_left s.earlier s.records_so_far (omega arith) (omega (arith, deep)) h.1 (omega (arith, low)) good in
        let shallow = made.1 in
        subst (λ (z : Message). IsBody pool k z × (message_depth z < suc l)) (sym w) (made.0, omega (arith, shallow))

-- what a field of it holds
field_stored : (pool : Types) (k l : ℕ) (v : Message) (f : FieldView) → field_numbered f.number (message_fields pool k) ≡ Some f → IsBody pool k v → message_depth v < suc l
    → IfSome (get_field f.number (fields_of v)) (IsStored pool f.shape f.kind l)
field_stored pool k l (body fs us) f found good low = stored_in pool l (message_fields pool k) f fs found good.0 (omega (arith, low))

-- the message of a field of one value
pub held_good :
    (pool : Types) (k l : ℕ) (v : Message) (f : FieldView) (j : MessageId) → field_numbered f.number (message_fields pool k) ≡ Some f → message_of_kind f.kind ≡ Some j.0 → 0 < l → IsBody pool k v → message_depth v < suc l
    → IsBody pool j.0 (held_message (get_field f.number (fields_of v))) × (message_depth (held_message (get_field f.number (fields_of v))) < l)
held_good pool k l v f j found is some good low = by_holding (get_field f.number (fields_of v)) (field_stored pool k l v f found good low)
  where
    by_holding : (o : Option Holding) → IfSome o (IsStored pool f.shape f.kind l) → IsBody pool j.0 (held_message o) × (message_depth (held_message o) < l)
    by_holding None h = ((tt, tt, tt, tt), omega (arith, some))
    by_holding (Some (one (scalar x))) h = ((tt, tt, tt, tt), omega (arith, some))
    by_holding (Some (one (message w))) h = let deep = h.depth in (subst (λ (z : Option ℕ). IsSomeAnd z (λ i. IsBody pool i w)) is h.held, omega (arith, deep))
    by_holding (Some (list ds)) h = ((tt, tt, tt, tt), omega (arith, some))
    by_holding (Some (map es)) h = ((tt, tt, tt, tt), omega (arith, some))

-- the keys of a map that it holds
pub keys_good :
    (pool : Types) (k l : ℕ) (v : Message) (f : FieldView) (key : Kind) → field_numbered f.number (message_fields pool k) ≡ Some f → f.shape ≡ shape.Map key → IsBody pool k v → message_depth v < suc l
    → AreKeys key (entries_of (get_field f.number (fields_of v)))
keys_good pool k l v f key found is good low = by_holding (get_field f.number (fields_of v)) (subst (λ (z : Shape). IfSome (get_field f.number (fields_of v)) (IsStored pool z f.kind l)) is (field_stored pool k l v f found good low))
  where
    by_holding : (o : Option Holding) → IfSome o (IsStored pool (shape.Map key) f.kind l) → AreKeys key (entries_of o)
    by_holding None h = tt
    by_holding (Some (one d)) h = tt
    by_holding (Some (list ds)) h = tt
    by_holding (Some (map es)) h = AreKeys-entries pool key f.kind es h.held.0

-- its type is one of the pool
pub type_in_pool :
    {pool : Types} {m depth levels : ℕ} {base : List Record} {p0 : Place} {parents : List Parent} {scope : Scope} {q : Place} (k : ℕ) (v : Message)
    → Reached pool m depth levels base p0 parents (message_part k v) scope q → k < length pool.messages
type_in_pool k v s = (goes_on_held s.held).0

-- as are those of an entry
pub kinds_in_pool :
    {pool : Types} {m depth levels : ℕ} {base : List Record} {p0 : Place} {parents : List Parent} {scope : Scope} {q : Place} (key kd : Kind) (x : Option Scalar) (d : Option Datum)
    → Reached pool m depth levels base p0 parents (entry_part key kd x d) scope q → IsTrue (is_key_kind key) × NamesType (length pool.messages) (length pool.enums) kd
kinds_in_pool key kd x d s = let from = goes_on_held s.held in (from.1, from.2)

pub value_no_proto2 :
    {pool : Types} {m depth levels : ℕ} {base : List Record} {p0 : Place} {parents : List Parent} {scope : Scope} {q : Place} (key kd : Kind) (x : Option Scalar) (d : Option Datum)
    → Reached pool m depth levels base p0 parents (entry_part key kd x d) scope q → is_of_proto2 kd ≡ false
value_no_proto2 key kd x d s = (goes_on_held s.held).3

-- A PART MAY BE CHANGED wherever the reader is
pub can_hold :
    {pool : Types} {m depth levels : ℕ} {base : List Record} {p0 : Place} {parents : List Parent} {scope : Scope} {q : Place} (ok : IsPool pool) (now : Part)
    → Reached pool m depth levels base p0 parents now scope q → CanHold pool now
can_hold {pool} ok (message_part k v) s = (type_in_pool k v s, one_each v (message_good ok k v s).0)
  where
    one_each : (v : Message) → IsBody pool k v → HasOneMemberEach (message_fields pool k) (fields_of v)
    one_each (body fs us) good = good.2
can_hold ok (entry_part key kd x d) s = (kinds_in_pool key kd x d s).0
can_hold ok (group_part us) s = tt

-- AN ENTRY

module _ {pool : Types} {m depth levels : ℕ} {base : List Record} {p0 : Place} {parents : List Parent} {scope : Scope} {q : Place} (ok : IsPool pool) (key kd : Kind) (x : Option Scalar) (d : Option Datum)
    (s : Reached pool m depth levels base p0 parents (entry_part key kd x d) scope q) where
  entry_records : AllGood pool (an_entry key kd) scope.depth_left (s.earlier ++ s.records_so_far)
  entry_records =
      let none : s.earlier ≡ [] = (goes_on_held s.held).0 in
      subst (λ (z : List Record). AllGood pool (an_entry key kd) scope.depth_left (z ++ s.records_so_far)) (sym none)
      (subst (λ (c : Context). AllGood pool c scope.depth_left s.records_so_far) s.form (records_good s))

  inside_good : (m depth_left : ℕ) (rs : List Record) → depth_left < s.inner → AllGood pool (in_message m) depth_left rs → IsBody pool m (value_within pool s.inner m rs) × (message_depth (value_within pool s.inner m rs) ≤ depth_left)
  inside_good m depth_left rs l h = within-good pool ok s.inner m depth_left rs l h

  -- its key, or the default, is of the kind of its keys
  pub key_good : IsOfKind key (unwrap_or x (default_of key))
  key_good =
      subst (λ (z : Option Scalar). IsOfKind key (unwrap_or z (default_of key))) (sym s.worth.0)
      (entry-good pool (value_within pool s.inner) s.inner inside_good key kd scope.depth_left (s.earlier ++ s.records_so_far) s.deep (goes_on_held s.held).1 (goes_on_held s.held).3 entry_records).first

  -- the message that its value goes on from
  pub entry_value_good :
      (j : MessageId) → kd ≡ kind.Message j
      → IsBody pool j.0 (value_within pool s.inner j.0 (joined (fitting (value_field kd) (s.earlier ++ s.records_so_far))))
      × (message_depth (value_within pool s.inner j.0 (joined (fitting (value_field kd) (s.earlier ++ s.records_so_far)))) < s.inner)
  entry_value_good j is =
      let all = all_count pool (an_entry key kd) scope.depth_left (value_field kd) refl (fitting (value_field kd) (s.earlier ++ s.records_so_far))
      (all_filter (IsGood pool (an_entry key kd) scope.depth_left) (fits (value_field kd)) (s.earlier ++ s.records_so_far) entry_records) in
      let good = joined-good_entry pool (value_within pool s.inner) s.inner inside_good key kd scope.depth_left shape.Explicit j (fitting (value_field kd) (s.earlier ++ s.records_so_far)) refl
      (subst (λ (z : Kind). AllCount pool (an_entry key kd) scope.depth_left shape.Explicit z (fitting (value_field kd) (s.earlier ++ s.records_so_far))) is all) in
      let made = inside_good j.0 scope.depth_left (joined (fitting (value_field kd) (s.earlier ++ s.records_so_far))) s.deep good in
      let low = made.1 in
      let deep = s.deep in
      (made.0, omega (arith, low, deep))

-- AN ENTRY THAT GOES INTO A MAP: its key is of the kind of those that are there
pub fits_keys :
    {pool : Types} {m depth levels : ℕ} {base : List Record} {p0 : Place} {parent : Parent} {parents : List Parent} {scope : Scope} {q : Place} (ok : IsPool pool) (key kd : Kind) (x : Option Scalar) (d : Option Datum) (k n : ℕ) (v : Message)
    → Reached pool m depth levels base p0 (parent ∷ parents) (entry_part key kd x d) scope q → parent.part ≡ message_part k v → parent.slot ≡ slot.Map n
    → FitsKeys (unwrap_or x (default_of key)) (entries_of (get_field n (fields_of v)))
fits_keys {pool} {m} {depth} {levels} {base} {p0} {parent} {parents} {scope} {q} ok key kd x d k n v s is_part is_slot =
    (key, key_good ok key kd x d s, subst (λ (z : Slot). Takes z (message_part k v) (entry_part key kd x d)) is_slot (subst (λ (z : Part). Takes parent.slot z (entry_part key kd x d)) is_part (keys_held s.held)))
  where
    keys_held : {o : Open Context} {depth_left inner : ℕ} {path : List PathStep} {p : Place} {earlier : List Record} → Held pool m depth levels base p0 (parent ∷ parents) (entry_part key kd x d) o depth_left inner path p earlier
        → Takes parent.slot parent.part (entry_part key kd x d)
    keys_held (inside up b begun form can deep completes is_path counts ends goes_on takes) = takes.0
