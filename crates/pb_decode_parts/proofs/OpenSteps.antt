-- What a length or the tag of a group opens, by what its record is for.
use Rattle.std.proofs.Common.{◌≡◌, ℕ, suc, ◌+◌, ◌-◌, ◌<◌, List, ◌∷◌, refl, sym, ap, ◌∙◌, subst, arith, Option, Some, None}
use Rattle.std.specs.Prelude.{Bool, true, false, ◌==◌}
use Rattle.std.proofs.lemmas.Bool.{false≢true}
use Rattle.pb_wire.specs.Record.{Record}
use Rattle.pb_wire.specs.Fault.{Place, HasTag, HasLength}
use Rattle.pb_wire.specs.Schema.{message as message_reading}
use Rattle.pb_wire.specs.Grammar.{payload_at}
use Rattle.pb_schema.specs.declared.types.Kind.{Kind}
use Rattle.pb_schema.specs.declared.types.Kind.TheVariants as kind
use Rattle.pb_schema.specs.declared.types.MessageId.{MessageId}
use Rattle.pb_schema.specs.declared.types.Shape.{Shape}
use Rattle.pb_schema.specs.declared.types.Shape.TheVariants as shape
use Rattle.pb_schema.specs.Types.{FieldView, Types, message_fields, field_numbered}
use Rattle.pb_schema.specs.Rules.{IsPool}
use Rattle.pb_schema.specs.Scalar.{Scalar}
use Rattle.pb_schema.specs.Kinds.{wire_type_of, message_of_kind, is_of_proto2}
use Rattle.pb_decode_parts.proofs.KindLemmas.{by_length, listed_by_length, by_group, listed_by_group}
use Rattle.pb_schema.specs.Fits.{fits_shape, fits_type}
use Rattle.pb_schema.specs.Context.{Context, a_message as in_message, an_entry, read_field, read_shaped, group_shaped, group_of_field, schema_of}
use Rattle.pb_value.specs.Data.{Datum, scalar, message, Holding, one, list, map, Message, empty, fields_of, get_field, drop_field}
use Rattle.pb_value.specs.Change.{IsSingle, with_fields}
use Rattle.pb_value.proofs.StepLemmas.{found_number}
use Rattle.pb_value.proofs.ShapeSteps.{held_message}
use Rattle.pb_decode_parts.specs.declared.open.part.Slot.{Slot}
use Rattle.pb_decode_parts.specs.declared.open.part.Slot.TheVariants as slot
use Rattle.pb_decode_parts.specs.declared.open.target.Target.TheVariants as target
use Rattle.pb_decode_parts.specs.declared.tokens.step.Step.{Step}
use Rattle.pb_decode_parts.specs.Open.Parents.{Part, message_part, entry_part, group_part, opening_type, CanHold, Parent, Scope, EndsAt, Reached}
use Rattle.pb_decode_parts.specs.Open.Targets.{OfShape, AtField, Means, part_context}
use Rattle.pb_decode_parts.specs.Tokens.After.{tag, awaited, HasLevelFor, After}
use Rattle.pb_decode_parts.specs.Open.Openings.{message_given, message_held, taken_message, without_message, depth_left_in}
use Rattle.pb_decode_parts.proofs.AfterLemmas.{at_tag}
use Rattle.pb_decode_parts.proofs.ParentLemmas.{ends_along}
use Rattle.pb_decode_parts.proofs.WellLemmas.{value_no_proto2}
use Rattle.pb_decode_parts.proofs.OpenLemmas.{payload_scope, Opens, length_opens, group_opens, opens_message}
use Rattle.pb_decode_parts.proofs.OpenMore.{opens_listed, opens_entry}
use Rattle.pb_decode_parts.proofs.EntrySteps.{entry_message, opens_entry_message}

held_same : (h : Option Holding) → held_message h ≡ message_held h
held_same None = refl
held_same (Some (one (scalar x))) = refl
held_same (Some (one (message w))) = refl
held_same (Some (list ds)) = refl
held_same (Some (map es)) = refl

given_same : (d : Option Datum) → entry_message d ≡ message_given d
given_same None = refl
given_same (Some (scalar x)) = refl
given_same (Some (message w)) = refl

-- the level below one that is left
level_below : (depth_left : ℕ) → 0 < depth_left → depth_left ≡ suc (depth_left - 1)
level_below depth_left some = omega (arith, some)

-- WHAT A RECORD IS FOR THAT OPENS A MESSAGE

-- the field of one value that is a message
record OneMessage (pool : Types) (t k w : ℕ) (j : MessageId) (s : Shape) (n : ℕ) : Type 0 where
  field : FieldView
  found : field_numbered field.number (message_fields pool t) ≡ Some field
  own : field.number ≡ k
  slot_number : n ≡ k
  kind_is : message_of_kind field.kind ≡ Some j.0
  type_is : (w == wire_type_of field.kind) ≡ true
  shape_is : s ≡ field.shape
  single : IsSingle field.shape
  fitted : fits_type field w ≡ true

one_message : (pool : Types) (t k w : ℕ) (j : MessageId) (s : Shape) (n : ℕ) → AtField (field_numbered k (message_fields pool t)) k w (target.Message j (slot.One s n)) → OneMessage pool t k w j s n
one_message pool t k w j s n h = at_field (field_numbered k (message_fields pool t)) refl h
  where
    by_shape : (f : FieldView) → field_numbered f.number (message_fields pool t) ≡ Some f → f.number ≡ k → fits_type f w ≡ true → (x : Shape) → f.shape ≡ x → fits_shape x f.kind w ≡ true → OfShape f.kind x k w (target.Message j (slot.One s n)) → OneMessage pool t k w j s n
    by_shape f found own fit (shape.Map key) is e h = absurd h
    by_shape f found own fit (shape.List p) is e h = absurd h
    by_shape f found own fit shape.Implicit is e (a, b, c) = record { field = f; found = found; own = own; slot_number = c; kind_is = a; type_is = e; shape_is = b ∙ sym is; single = subst IsSingle (sym is) tt; fitted = fit }
    by_shape f found own fit shape.Explicit is e (a, b, c) = record { field = f; found = found; own = own; slot_number = c; kind_is = a; type_is = e; shape_is = b ∙ sym is; single = subst IsSingle (sym is) tt; fitted = fit }
    by_shape f found own fit (shape.OneofMember o) is e (a, b, c) = record { field = f; found = found; own = own; slot_number = c; kind_is = a; type_is = e; shape_is = b ∙ sym is; single = subst IsSingle (sym is) tt; fitted = fit }

    at_field : (o : Option FieldView) → field_numbered k (message_fields pool t) ≡ o → AtField o k w (target.Message j (slot.One s n)) → OneMessage pool t k w j s n
    at_field None found h = absurd (cc)
    at_field (Some f) found (e, h) =
        let own : f.number ≡ k = found_number k (message_fields pool t) f found in
        by_shape f (ap (λ (z : ℕ). field_numbered z (message_fields pool t)) own ∙ found) own e f.shape refl e h

-- the list of messages
record ListMessage (pool : Types) (t k w : ℕ) (j : MessageId) (n : ℕ) : Type 0 where
  field : FieldView
  found : field_numbered field.number (message_fields pool t) ≡ Some field
  own : field.number ≡ k
  slot_number : n ≡ k
  kind_is : message_of_kind field.kind ≡ Some j.0
  packed : Bool
  shape_is : field.shape ≡ shape.List packed
  type_is : fits_shape (shape.List packed) field.kind w ≡ true
  fitted : fits_type field w ≡ true

list_message : (pool : Types) (t k w : ℕ) (j : MessageId) (n : ℕ) → AtField (field_numbered k (message_fields pool t)) k w (target.Message j (slot.List n)) → ListMessage pool t k w j n
list_message pool t k w j n h = at_field (field_numbered k (message_fields pool t)) refl h
  where
    by_shape : (f : FieldView) → field_numbered f.number (message_fields pool t) ≡ Some f → f.number ≡ k → fits_type f w ≡ true → (x : Shape) → f.shape ≡ x → fits_shape x f.kind w ≡ true → OfShape f.kind x k w (target.Message j (slot.List n)) → ListMessage pool t k w j n
    by_shape f found own fit (shape.Map key) is e h = absurd h
    by_shape f found own fit (shape.List p) is e (a, c) = record { field = f; found = found; own = own; slot_number = c; kind_is = a; packed = p; shape_is = is; type_is = e; fitted = fit }
    by_shape f found own fit shape.Implicit is e h = absurd h
    by_shape f found own fit shape.Explicit is e h = absurd h
    by_shape f found own fit (shape.OneofMember o) is e h = absurd h

    at_field : (o : Option FieldView) → field_numbered k (message_fields pool t) ≡ o → AtField o k w (target.Message j (slot.List n)) → ListMessage pool t k w j n
    at_field None found h = absurd (cc)
    at_field (Some f) found (e, h) =
        let own : f.number ≡ k = found_number k (message_fields pool t) f found in
        by_shape f (ap (λ (z : ℕ). field_numbered z (message_fields pool t)) own ∙ found) own e f.shape refl e h

-- the map
record MapEntry (pool : Types) (t k : ℕ) (key kd : Kind) : Type 0 where
  field : FieldView
  found : field_numbered field.number (message_fields pool t) ≡ Some field
  own : field.number ≡ k
  kind_is : kd ≡ field.kind
  shape_is : field.shape ≡ shape.Map key
  fits_length : fits_type field 2 ≡ true

map_entry : (pool : Types) (t k : ℕ) (key kd : Kind) → AtField (field_numbered k (message_fields pool t)) k 2 (target.Entry key kd) → MapEntry pool t k key kd
map_entry pool t k key kd h = at_field (field_numbered k (message_fields pool t)) refl h
  where
    by_shape : (f : FieldView) → field_numbered f.number (message_fields pool t) ≡ Some f → f.number ≡ k → fits_type f 2 ≡ true → (x : Shape) → f.shape ≡ x → OfShape f.kind x k 2 (target.Entry key kd) → MapEntry pool t k key kd
    by_shape f found own e (shape.Map key2) is (a, b) = record { field = f; found = found; own = own; kind_is = b; shape_is = is ∙ ap shape.Map (sym a); fits_length = e }
    by_shape f found own e (shape.List p) is h = absurd h
    by_shape f found own e shape.Implicit is h = absurd h
    by_shape f found own e shape.Explicit is h = absurd h
    by_shape f found own e (shape.OneofMember o) is h = absurd h

    at_field : (o : Option FieldView) → field_numbered k (message_fields pool t) ≡ o → AtField o k 2 (target.Entry key kd) → MapEntry pool t k key kd
    at_field None found h = absurd (cc)
    at_field (Some f) found (e, h) =
        let own : f.number ≡ k = found_number k (message_fields pool t) f found in
        by_shape f (ap (λ (z : ℕ). field_numbered z (message_fields pool t)) own ∙ found) own e f.shape refl h

-- WHAT A MESSAGE IS OPENED BY

-- a field takes a message into its one value or into its list
abbrev IsFieldSlot : Slot → Type 0
IsFieldSlot (slot.One s n) = Unit {0}
IsFieldSlot (slot.List n) = Unit {0}
IsFieldSlot (slot.Map n) = ⊥
IsFieldSlot slot.Entry = ⊥
IsFieldSlot (slot.Unknown n) = ⊥

field_slot : (o : Option FieldView) (k w : ℕ) (j : MessageId) (s : Slot) → AtField o k w (target.Message j s) → IsFieldSlot s
field_slot None k w j s h = absurd (cc)
field_slot (Some f) k w j s (e, h) = by_shape f.shape s h
  where
    by_shape : (x : Shape) (s : Slot) → OfShape f.kind x k w (target.Message j s) → IsFieldSlot s
    by_shape x (slot.One t n) h = tt
    by_shape x (slot.List n) h = tt
    by_shape (shape.Map key) (slot.Map n) h = h
    by_shape (shape.List p) (slot.Map n) h = h
    by_shape shape.Implicit (slot.Map n) h = h
    by_shape shape.Explicit (slot.Map n) h = h
    by_shape (shape.OneofMember o) (slot.Map n) h = h
    by_shape (shape.Map key) slot.Entry h = h
    by_shape (shape.List p) slot.Entry h = h
    by_shape shape.Implicit slot.Entry h = h
    by_shape shape.Explicit slot.Entry h = h
    by_shape (shape.OneofMember o) slot.Entry h = h
    by_shape (shape.Map key) (slot.Unknown n) h = h
    by_shape (shape.List p) (slot.Unknown n) h = h
    by_shape shape.Implicit (slot.Unknown n) h = h
    by_shape shape.Explicit (slot.Unknown n) h = h
    by_shape (shape.OneofMember o) (slot.Unknown n) h = h

read_single : (c : ℕ) (s : Shape) (j : MessageId) → IsSingle s → read_shaped (in_message c) s (kind.Message j) ≡ message_reading (in_message j.0)
read_single c shape.Implicit j single = refl
read_single c shape.Explicit j single = refl
read_single c (shape.OneofMember o) j single = refl
read_single c (shape.List p) j single = absurd single
read_single c (shape.Map key) j single = absurd single

group_single : (s : Shape) (j : MessageId) → IsSingle s → group_shaped s (kind.Group j) ≡ in_message j.0
group_single shape.Implicit j single = refl
group_single shape.Explicit j single = refl
group_single (shape.OneofMember o) j single = refl
group_single (shape.List p) j single = absurd single
group_single (shape.Map key) j single = absurd single

-- its length is read as that of a message
means_reading : (pool : Types) (c k : ℕ) (j : MessageId) (s : Slot) → AtField (field_numbered k (message_fields pool c)) k 2 (target.Message j s) → (schema_of pool).reading (in_message c) k ≡ message_reading (in_message j.0)
means_reading pool c k j (slot.One s n) means =
    let at = one_message pool c k 2 j s n means in
    ap (λ (z : ℕ). read_field (in_message c) (field_numbered z (message_fields pool c))) (sym at.own) ∙ ap (read_field (in_message c)) at.found
    ∙ ap (read_shaped (in_message c) at.field.shape) (by_length at.field.kind j at.kind_is at.type_is) ∙ read_single c at.field.shape j at.single
means_reading pool c k j (slot.List n) means =
    let at = list_message pool c k 2 j n means in
    ap (λ (z : ℕ). read_field (in_message c) (field_numbered z (message_fields pool c))) (sym at.own) ∙ ap (read_field (in_message c)) at.found
    ∙ ap (λ (z : Shape). read_shaped (in_message c) z at.field.kind) at.shape_is ∙ ap (read_shaped (in_message c) (shape.List at.packed)) (listed_by_length at.packed at.field.kind j at.kind_is at.type_is)
means_reading pool c k j (slot.Map n) means = absurd (field_slot (field_numbered k (message_fields pool c)) k 2 j (slot.Map n) means)
means_reading pool c k j slot.Entry means = absurd (field_slot (field_numbered k (message_fields pool c)) k 2 j slot.Entry means)
means_reading pool c k j (slot.Unknown n) means = absurd (field_slot (field_numbered k (message_fields pool c)) k 2 j (slot.Unknown n) means)

-- its group has its records
means_group : (pool : Types) (c k : ℕ) (j : MessageId) (s : Slot) → AtField (field_numbered k (message_fields pool c)) k 3 (target.Message j s) → (schema_of pool).group_context (in_message c) k ≡ in_message j.0
means_group pool c k j (slot.One s n) means =
    let at = one_message pool c k 3 j s n means in
    ap (λ (z : ℕ). group_of_field (field_numbered z (message_fields pool c))) (sym at.own) ∙ ap group_of_field at.found
    ∙ ap (group_shaped at.field.shape) (by_group at.field.kind j at.kind_is at.type_is) ∙ group_single at.field.shape j at.single
means_group pool c k j (slot.List n) means =
    let at = list_message pool c k 3 j n means in
    ap (λ (z : ℕ). group_of_field (field_numbered z (message_fields pool c))) (sym at.own) ∙ ap group_of_field at.found
    ∙ ap (λ (z : Shape). group_shaped z at.field.kind) at.shape_is ∙ ap (group_shaped (shape.List at.packed)) (listed_by_group at.packed at.field.kind j at.kind_is at.type_is)
means_group pool c k j (slot.Map n) means = absurd (field_slot (field_numbered k (message_fields pool c)) k 3 j (slot.Map n) means)
means_group pool c k j slot.Entry means = absurd (field_slot (field_numbered k (message_fields pool c)) k 3 j slot.Entry means)
means_group pool c k j (slot.Unknown n) means = absurd (field_slot (field_numbered k (message_fields pool c)) k 3 j (slot.Unknown n) means)

-- A MESSAGE

-- what holds once the message is open that goes into a slot
abbrev IsOpen : Types → ℕ → ℕ → ℕ → List Record → Place → List Parent → Scope → ℕ → MessageId → Bool → Scope → Place → Part → Part → Slot → Type 0
IsOpen pool m depth levels base p0 parents scope k j group inner u now left s =
    Reached pool m depth levels base p0 (record { part = left; number = k; slot = s; group = group; scope = scope } ∷ parents) (message_part j.0 (taken_message s now)) inner u

module _ {pool : Types} {m depth levels : ℕ} {base : List Record} {p0 : Place} {parents : List Parent} {scope : Scope} {q : Place} (ok : IsPool pool) (k : ℕ) (j : MessageId) (group : Bool) (inner : Scope) (u : Place) where
  into_field :
      (c : ℕ) (v : Message) (s : Shape) (number : ℕ) (st : Reached pool m depth levels base p0 parents (message_part c v) scope q) → Opens pool st.open_now scope.depth_left k q j.0 group inner u
      → OneMessage pool c k (opening_type group) j s number → IsOpen pool m depth levels base p0 parents scope k j group inner u (message_part c v) (without_message (slot.One s number) (message_part c v)) (slot.One s number)
  into_field c v s number st opens at =
      let opened = opens_message c v st ok at.field j group at.found at.kind_is at.single at.fitted inner u (subst (λ (z : ℕ). Opens pool st.open_now scope.depth_left z q j.0 group inner u) (sym at.own) opens) in
      let named = subst (λ (z : ℕ).
      Reached pool m depth levels base p0 (record { part = message_part c (with_fields v (drop_field z (fields_of v))); number = z; slot = slot.One at.field.shape z; group = group; scope = scope } ∷ parents)
      (message_part j.0 (held_message (get_field z (fields_of v)))) inner u) at.own opened in
      let placed = subst (λ (z : ℕ).
      Reached pool m depth levels base p0 (record { part = message_part c (with_fields v (drop_field z (fields_of v))); number = k; slot = slot.One at.field.shape z; group = group; scope = scope } ∷ parents)
      (message_part j.0 (held_message (get_field z (fields_of v)))) inner u) (sym at.slot_number) named in
      let shaped = subst (λ (z : Shape).
      Reached pool m depth levels base p0 (record { part = message_part c (with_fields v (drop_field number (fields_of v))); number = k; slot = slot.One z number; group = group; scope = scope } ∷ parents)
      (message_part j.0 (held_message (get_field number (fields_of v)))) inner u) (sym at.shape_is) placed in
      subst (λ (z : Message).
      Reached pool m depth levels base p0 (record { part = message_part c (with_fields v (drop_field number (fields_of v))); number = k; slot = slot.One s number; group = group; scope = scope } ∷ parents)
      (message_part j.0 z) inner u) (held_same (get_field number (fields_of v))) shaped

  into_list :
      (c : ℕ) (v : Message) (number : ℕ) (st : Reached pool m depth levels base p0 parents (message_part c v) scope q) → Opens pool st.open_now scope.depth_left k q j.0 group inner u
      → ListMessage pool c k (opening_type group) j number → IsOpen pool m depth levels base p0 parents scope k j group inner u (message_part c v) (message_part c v) (slot.List number)
  into_list c v number st opens at =
      let opened = opens_listed c v st ok at.field j at.packed group at.found at.kind_is at.shape_is at.fitted inner u (subst (λ (z : ℕ). Opens pool st.open_now scope.depth_left z q j.0 group inner u) (sym at.own) opens) in
      let named = subst (λ (z : ℕ).
      Reached pool m depth levels base p0 (record { part = message_part c v; number = z; slot = slot.List z; group = group; scope = scope } ∷ parents)
      (message_part j.0 empty) inner u) at.own opened in
      subst (λ (z : ℕ).
      Reached pool m depth levels base p0 (record { part = message_part c v; number = k; slot = slot.List z; group = group; scope = scope } ∷ parents)
      (message_part j.0 empty) inner u) (sym at.slot_number) named

  into_message :
      (c : ℕ) (v : Message) (s : Slot) (st : Reached pool m depth levels base p0 parents (message_part c v) scope q) → Opens pool st.open_now scope.depth_left k q j.0 group inner u
      → AtField (field_numbered k (message_fields pool c)) k (opening_type group) (target.Message j s) → IsOpen pool m depth levels base p0 parents scope k j group inner u (message_part c v) (without_message s (message_part c v)) s
  into_message c v (slot.One s number) st opens means = into_field c v s number st opens (one_message pool c k (opening_type group) j s number means)
  into_message c v (slot.List number) st opens means = into_list c v number st opens (list_message pool c k (opening_type group) j number means)
  into_message c v (slot.Map number) st opens means = absurd (field_slot (field_numbered k (message_fields pool c)) k (opening_type group) j (slot.Map number) means)
  into_message c v slot.Entry st opens means = absurd (field_slot (field_numbered k (message_fields pool c)) k (opening_type group) j slot.Entry means)
  into_message c v (slot.Unknown number) st opens means = absurd (field_slot (field_numbered k (message_fields pool c)) k (opening_type group) j (slot.Unknown number) means)

-- the message of an entry's value, after its length
into_entry :
    {pool : Types} {m depth levels : ℕ} {base : List Record} {p0 : Place} {parents : List Parent} {scope : Scope} {q r t : Place} (ok : IsPool pool) (k : ℕ) (j : MessageId) (n : ℕ) (counts : ℕ → ℕ) → ((i : ℕ) → counts i ≡ 0)
    → (key kd : Kind) (x : Option Scalar) (d : Option Datum) → Reached pool m depth levels base p0 parents (entry_part key kd x d) scope q → HasTag q k 2 r → HasLength r n t
    → kd ≡ kind.Message j → k ≡ 2 → IsOpen pool m depth levels base p0 parents scope k j false (payload_scope scope.depth_left t n counts) (payload_at t n) (entry_part key kd x d) (entry_part key kd x None) slot.Entry
into_entry {pool} {m} {depth} {levels} {base} {p0} {parents} {scope} {q} {r} {t} ok k j n counts none key kd x d st has l is two =
    let opened = opens_entry_message key kd x d st j n counts ok none is (subst (λ (z : ℕ). HasTag q z 2 r) two has) l (ap (read_shaped (an_entry key kd) shape.Explicit) is)
    (λ p type. (refl, ap (λ (z : ℕ). z == wire_type_of kd) type ∙ ap (λ (z : Kind). 2 == wire_type_of z) is)) in
    let named = subst (λ (z : ℕ).
    Reached pool m depth levels base p0 (record { part = entry_part key kd x None; number = z; slot = slot.Entry; group = false; scope = scope } ∷ parents)
    (message_part j.0 (entry_message d)) (payload_scope scope.depth_left t n counts) (payload_at t n)) (sym two) opened in
    subst (λ (z : Message).
    Reached pool m depth levels base p0 (record { part = entry_part key kd x None; number = k; slot = slot.Entry; group = false; scope = scope } ∷ parents)
    (message_part j.0 z) (payload_scope scope.depth_left t n counts) (payload_at t n)) (given_same d) named

-- a field's message is a level below
depth_left_below : (s : Slot) (depth_left : ℕ) → IsFieldSlot s → depth_left_in s depth_left ≡ depth_left - 1
depth_left_below (slot.One s n) depth_left h = refl
depth_left_below (slot.List n) depth_left h = refl
depth_left_below (slot.Map n) depth_left h = refl
depth_left_below slot.Entry depth_left h = absurd h
depth_left_below (slot.Unknown n) depth_left h = refl

some_below : (s : Slot) (j : MessageId) (depth_left : ℕ) → IsFieldSlot s → HasLevelFor depth_left (target.Message j s) → 0 < depth_left
some_below (slot.One s n) j depth_left h some = some refl
some_below (slot.List n) j depth_left h some = some refl
some_below (slot.Map n) j depth_left h some = some refl
some_below slot.Entry j depth_left h some = absurd h
some_below (slot.Unknown n) j depth_left h some = some refl

-- AFTER ITS LENGTH
pub message_opened :
    {pool : Types} {m depth levels : ℕ} {base : List Record} {p0 : Place} {parents : List Parent} {scope : Scope} {next : Step} {now : Part} {u t : Place} (k : ℕ) (j : MessageId) (s : Slot) (n : ℕ) (inner : Scope) (left : Part) (w : Message) → IsPool pool → CanHold pool now
    → After pool m depth levels base p0 parents next now scope u → awaited next ≡ Some (tag k 2 (target.Message j s)) → HasLength u n t → left ≡ without_message s now → w ≡ taken_message s now
    → inner.depth_left ≡ depth_left_in s scope.depth_left → inner.end ≡ Some (t.at + n) → ((i : ℕ) → inner.counts i ≡ 0)
    → Reached pool m depth levels base p0 (record { part = left; number = k; slot = s; group = false; scope = scope } ∷ parents) (message_part j.0 w) inner (payload_at t n)
message_opened {pool} {m} {depth} {levels} {base} {p0} {parents} {scope} {next} {now} {u} {t} k j s n inner left w ok can a is l is_left is_taken is_depth is_end none =
    let after = at_tag (tag k 2 (target.Message j s)) a is in
    subst (λ (z : Part). Reached pool m depth levels base p0 (record { part = z; number = k; slot = s; group = false; scope = scope } ∷ parents) (message_part j.0 w) inner (payload_at t n)) (sym is_left)
    (subst (λ (z : Message). Reached pool m depth levels base p0 (record { part = without_message s now; number = k; slot = s; group = false; scope = scope } ∷ parents) (message_part j.0 z) inner (payload_at t n)) (sym is_taken)
    (from_part s now after.reached after.has after.means after.has_level is_depth))
  where
    from_part : {q : Place} (s : Slot) (now : Part) → Reached pool m depth levels base p0 parents now scope q → HasTag q k 2 u → Means pool (part_context now) k 2 (target.Message j s) → HasLevelFor scope.depth_left (target.Message j s)
        → inner.depth_left ≡ depth_left_in s scope.depth_left → IsOpen pool m depth levels base p0 parents scope k j false inner (payload_at t n) now (without_message s now) s
    from_part s (message_part c v) st has means some depth_left =
        let plain = field_slot (field_numbered k (message_fields pool c)) k 2 j s means in
        let below : inner.depth_left ≡ scope.depth_left - 1 = depth_left ∙ depth_left_below s scope.depth_left plain in
        let level : scope.depth_left ≡ suc inner.depth_left = level_below scope.depth_left (some_below s j scope.depth_left plain some) ∙ ap (λ (z : ℕ). suc z) (sym below) in
        into_message ok k j false inner (payload_at t n) c v s st
        (length_opens pool inner (ap (λ (z : Context). (schema_of pool).reading z k) st.form ∙ means_reading pool c k j s means) has l level is_end none) means
    from_part slot.Entry (entry_part key kd x d) st has means some depth_left =
        let opened = into_entry ok k j n inner.counts none key kd x d st has l (by_length kd j means.0 (ap (λ (z : ℕ). 2 == z) (sym means.2))) means.1 in
        subst (λ (z : Option ℕ). IsOpen pool m depth levels base p0 parents scope k j false (record inner { end = z }) (payload_at t n) (entry_part key kd x d) (entry_part key kd x None) slot.Entry) (sym is_end)
        (subst (λ (z : ℕ). IsOpen pool m depth levels base p0 parents scope k j false (payload_scope z t n inner.counts) (payload_at t n) (entry_part key kd x d) (entry_part key kd x None) slot.Entry) (sym depth_left) opened)
    from_part (slot.One s number) (entry_part key kd x d) st has means some depth_left = absurd means
    from_part (slot.List number) (entry_part key kd x d) st has means some depth_left = absurd means
    from_part (slot.Map number) (entry_part key kd x d) st has means some depth_left = absurd means
    from_part (slot.Unknown number) (entry_part key kd x d) st has means some depth_left = absurd means
    from_part s (group_part us) st has means some depth_left = absurd (cc)

-- AFTER THE FIRST TAG OF ITS GROUP

no_group_value : (kd : Kind) (j : ℕ) → message_of_kind kd ≡ Some j → 3 ≡ wire_type_of kd → is_of_proto2 kd ≡ false → ⊥
no_group_value (kind.Group i) j is type none = false≢true (sym none)
no_group_value (kind.Message i) j is type none = omega (arith, type)
no_group_value kd j is type none = cc

pub message_group_opened :
    {pool : Types} {m depth levels : ℕ} {base : List Record} {p0 : Place} {parents : List Parent} {scope : Scope} {now : Part} {q u : Place} (k : ℕ) (j : MessageId) (s : Slot) (inner : Scope) (left : Part) (w : Message) → IsPool pool → CanHold pool now
    → Means pool (part_context now) k 3 (target.Message j s) → Reached pool m depth levels base p0 parents now scope q → 0 < scope.depth_left → HasTag q k 3 u → left ≡ without_message s now → w ≡ taken_message s now
    → inner.depth_left ≡ scope.depth_left - 1 → inner.end ≡ scope.end → ((i : ℕ) → inner.counts i ≡ 0)
    → Reached pool m depth levels base p0 (record { part = left; number = k; slot = s; group = true; scope = scope } ∷ parents) (message_part j.0 w) inner u
message_group_opened {pool} {m} {depth} {levels} {base} {p0} {parents} {scope} {now} {q} {u} k j s inner left w ok can means st some has is_left is_taken is_depth is_end none =
    subst (λ (z : Part). Reached pool m depth levels base p0 (record { part = z; number = k; slot = s; group = true; scope = scope } ∷ parents) (message_part j.0 w) inner u) (sym is_left)
    (subst (λ (z : Message). Reached pool m depth levels base p0 (record { part = without_message s now; number = k; slot = s; group = true; scope = scope } ∷ parents) (message_part j.0 z) inner u) (sym is_taken)
    (from_part s now st means))
  where
    from_part : (s : Slot) (now : Part) → Reached pool m depth levels base p0 parents now scope q → Means pool (part_context now) k 3 (target.Message j s) → IsOpen pool m depth levels base p0 parents scope k j true inner u now (without_message s now) s
    from_part s (message_part c v) st means =
        let level : scope.depth_left ≡ suc inner.depth_left = level_below scope.depth_left some ∙ ap (λ (z : ℕ). suc z) (sym is_depth) in
        into_message ok k j true inner u c v s st
        (group_opens pool inner (ap (λ (z : Context). (schema_of pool).group_context z k) st.form ∙ means_group pool c k j s means) has level
        (subst (λ (z : Option ℕ). EndsAt u z) (sym is_end) (ends_along has.tag.0 scope.end has.tag.2 st.ends)) none) means
    from_part slot.Entry (entry_part key kd x d) st means = absurd (no_group_value kd j.0 means.0 means.2 (value_no_proto2 key kd x d st))
    from_part (slot.One t number) (entry_part key kd x d) st means = absurd means
    from_part (slot.List number) (entry_part key kd x d) st means = absurd means
    from_part (slot.Map number) (entry_part key kd x d) st means = absurd means
    from_part (slot.Unknown number) (entry_part key kd x d) st means = absurd means
    from_part s (group_part us) st means = absurd (cc)

-- AN ENTRY

pub entry_opened :
    {pool : Types} {m depth levels : ℕ} {base : List Record} {p0 : Place} {parents : List Parent} {scope : Scope} {next : Step} {now : Part} {u t : Place} (k : ℕ) (key kd : Kind) (n : ℕ) (inner : Scope) → IsPool pool → CanHold pool now
    → After pool m depth levels base p0 parents next now scope u → awaited next ≡ Some (tag k 2 (target.Entry key kd)) → HasLength u n t
    → inner.depth_left ≡ scope.depth_left - 1 → inner.end ≡ Some (t.at + n) → ((i : ℕ) → inner.counts i ≡ 0)
    → Reached pool m depth levels base p0 (record { part = now; number = k; slot = slot.Map k; group = false; scope = scope } ∷ parents) (entry_part key kd None None) inner (payload_at t n)
entry_opened {pool} {m} {depth} {levels} {base} {p0} {parents} {scope} {next} {now} {u} {t} k key kd n inner ok can a is l is_depth is_end none =
    let after = at_tag (tag k 2 (target.Entry key kd)) a is in
    from_part now can after.reached after.has after.means (after.has_level refl)
  where
    from_part : {q : Place} (now : Part) → CanHold pool now → Reached pool m depth levels base p0 parents now scope q → HasTag q k 2 u → Means pool (part_context now) k 2 (target.Entry key kd) → 0 < scope.depth_left
        → Reached pool m depth levels base p0 (record { part = now; number = k; slot = slot.Map k; group = false; scope = scope } ∷ parents) (entry_part key kd None None) inner (payload_at t n)
    from_part {q} (message_part c v) can st has means some =
        let at = map_entry pool c k key kd means in
        let reading : (schema_of pool).reading (in_message c) at.field.number ≡ message_reading (an_entry key at.field.kind) =
        ap (read_field (in_message c)) at.found ∙ ap (λ (z : Shape). read_shaped (in_message c) z at.field.kind) at.shape_is in
        let opened = opens_entry c v st ok u t (scope.depth_left - 1) n inner.counts (level_below scope.depth_left some) none at.field key at.found at.shape_is at.fits_length reading (subst (λ (z : ℕ). HasTag q z 2 u) (sym at.own) has) l in
        let named = subst (λ (z : ℕ).
        Reached pool m depth levels base p0 (record { part = message_part c v; number = z; slot = slot.Map z; group = false; scope = scope } ∷ parents)
        (entry_part key at.field.kind None None) (payload_scope (scope.depth_left - 1) t n inner.counts) (payload_at t n)) at.own opened in
        let kinds = subst (λ (z : Kind).
        Reached pool m depth levels base p0 (record { part = message_part c v; number = k; slot = slot.Map k; group = false; scope = scope } ∷ parents)
        (entry_part key z None None) (payload_scope (scope.depth_left - 1) t n inner.counts) (payload_at t n)) (sym at.kind_is) named in
        let at_depth = subst (λ (z : ℕ).
        Reached pool m depth levels base p0 (record { part = message_part c v; number = k; slot = slot.Map k; group = false; scope = scope } ∷ parents)
        (entry_part key kd None None) (payload_scope z t n inner.counts) (payload_at t n)) (sym is_depth) kinds in
        subst (λ (z : Option ℕ).
        Reached pool m depth levels base p0 (record { part = message_part c v; number = k; slot = slot.Map k; group = false; scope = scope } ∷ parents)
        (entry_part key kd None None) (record inner { end = z }) (payload_at t n)) (sym is_end) at_depth
    from_part (entry_part key2 k2 x d) can st has means some = absurd means
    from_part (group_part us) can st has means some = absurd (cc)
