-- What the kind of a field says of a record that fits it: whether it opens a message by a length or a group, and that it counts where no enum is closed.
use Rattle.std.proofs.Common.{◌≡◌, ℕ, List, refl, ap, ◌∙◌, subst, sym, Option, Some, None}
use Rattle.std.specs.Prelude.{Bool, true, false, not, ◌==◌, ◌&&◌, ◌||◌}
use Rattle.std.proofs.lemmas.Bool.{false≢true}
use Rattle.pb_wire.specs.Record.{Payload, varint, fixed64, len, group, fixed32, Record, wire_type}
use Rattle.pb_schema.specs.declared.types.Kind.{Kind}
use Rattle.pb_schema.specs.declared.types.Kind.TheVariants as kind
use Rattle.pb_schema.specs.declared.types.MessageId.{MessageId}
use Rattle.pb_schema.specs.declared.types.Shape.{Shape}
use Rattle.pb_schema.specs.declared.types.Shape.TheVariants as shape
use Rattle.pb_schema.specs.Types.{FieldView, Types, field_numbered}
use Rattle.pb_schema.specs.Kinds.{wire_type_of, message_of_kind, closed_enum}
use Rattle.pb_schema.specs.Fits.{fits, fits_any, fits_shape}
use Rattle.pb_schema.specs.Closed.{closed_shaped, closed_of, is_list, is_list_field, is_undeclared}
use Rattle.pb_value.proofs.KnownLemmas.{IsUncut, IsWhole, IsKnown}
use Rattle.pb_value.proofs.OneofBack.{any_of_all}

-- a message is after a length or between the tags of a group
abbrev pub is_deep : ℕ → Bool
is_deep w = (w == 2) || (w == 3)

pub by_two : (a b : Bool) → a ≡ true → (a || b) ≡ true
by_two true b e = refl
by_two false b e = absurd (false≢true e)

pub by_three : (a b : Bool) → b ≡ true → (a || b) ≡ true
by_three true b e = refl
by_three false b e = e

pub never_packed : (a b : Bool) → (a || (false && b)) ≡ true → a ≡ true
never_packed true b e = refl
never_packed false b e = absurd (false≢true e)

pub deep_kind : (k : Kind) (j w : ℕ) → message_of_kind k ≡ Some j → (w == wire_type_of k) ≡ true → is_deep w ≡ true
deep_kind (kind.Message m) j w is e = by_two (w == 2) (w == 3) e
deep_kind (kind.Group m) j w is e = by_three (w == 2) (w == 3) e
deep_kind k j w is e = absurd (cc)

pub deep_list : (p : Bool) (k : Kind) (j w : ℕ) → message_of_kind k ≡ Some j → fits_shape (shape.List p) k w ≡ true → is_deep w ≡ true
deep_list p (kind.Message m) j w is e = by_two (w == 2) (w == 3) (never_packed (w == 2) (w == 2) e)
deep_list p (kind.Group m) j w is e = by_three (w == 2) (w == 3) (never_packed (w == 3) (w == 2) e)
deep_list p k j w is e = absurd (cc)

-- a message type after lengths
pub by_length : (k : Kind) (j : MessageId) → message_of_kind k ≡ Some j.0 → (2 == wire_type_of k) ≡ true → k ≡ kind.Message j
by_length (kind.Message m) j is e = let same : m.0 ≡ j.0 = cc in ap (λ (z : ℕ). kind.Message (record { 0 = z })) same
by_length (kind.Group m) j is e = absurd (false≢true e)
by_length k j is e = absurd (cc)

pub listed_by_length : (p : Bool) (k : Kind) (j : MessageId) → message_of_kind k ≡ Some j.0 → fits_shape (shape.List p) k 2 ≡ true → k ≡ kind.Message j
listed_by_length p (kind.Message m) j is e = let same : m.0 ≡ j.0 = cc in ap (λ (z : ℕ). kind.Message (record { 0 = z })) same
listed_by_length p (kind.Group m) j is e = absurd (false≢true e)
listed_by_length p k j is e = absurd (cc)

-- and of messages between the tags of groups
pub by_group : (k : Kind) (j : MessageId) → message_of_kind k ≡ Some j.0 → (3 == wire_type_of k) ≡ true → k ≡ kind.Group j
by_group (kind.Group m) j is e = let same : m.0 ≡ j.0 = cc in ap (λ (z : ℕ). kind.Group (record { 0 = z })) same
by_group (kind.Message m) j is e = absurd (false≢true e)
by_group k j is e = absurd (cc)

pub listed_by_group : (p : Bool) (k : Kind) (j : MessageId) → message_of_kind k ≡ Some j.0 → fits_shape (shape.List p) k 3 ≡ true → k ≡ kind.Group j
listed_by_group p (kind.Group m) j is e = let same : m.0 ≡ j.0 = cc in ap (λ (z : ℕ). kind.Group (record { 0 = z })) same
listed_by_group p (kind.Message m) j is e = absurd (false≢true e)
listed_by_group p k j is e = absurd (cc)

-- WHERE NO ENUM IS CLOSED

no_closed : (s : Shape) (k : Kind) → closed_enum k ≡ None → closed_shaped s k ≡ None
no_closed (shape.Map key) k none = refl
no_closed (shape.List p) k none = none
no_closed shape.Implicit k none = none
no_closed shape.Explicit k none = none
no_closed (shape.OneofMember o) k none = none

pub message_open : (s : Shape) (k : Kind) (m : ℕ) → message_of_kind k ≡ Some m → closed_shaped s k ≡ None
message_open s k m is = no_closed s k (no_closed_kind k is)
  where
    no_closed_kind : (k : Kind) → message_of_kind k ≡ Some m → closed_enum k ≡ None
    no_closed_kind (kind.ClosedEnum e) is = absurd (cc)
    no_closed_kind k is = refl

pub map_open : (s : Shape) (k key : Kind) → s ≡ shape.Map key → closed_shaped s k ≡ None
map_open s k key is = ap (λ (z : Shape). closed_shaped z k) is

uncut_open : (p : Payload) (b : Bool) → IsUncut p b None
uncut_open (varint n) b = tt
uncut_open (fixed64 n) b = tt
uncut_open (group g) b = tt
uncut_open (fixed32 n) b = tt
uncut_open (len s) true = tt
uncut_open (len s) false = tt

-- a record that fits a field counts, and is whole
pub open_known :
    (pool : Types) (fs : List FieldView) (f : FieldView) (p : Payload) → field_numbered f.number fs ≡ Some f → closed_shaped f.shape f.kind ≡ None → fits f (record { number = f.number; payload = p }) ≡ true
    → IsKnown pool fs (record { number = f.number; payload = p })
open_known pool fs f p found is_open fit = record {
  whole =
      subst (λ (o : Option FieldView). IsUncut p (is_list_field o) (closed_of o)) (sym found)
      (subst (λ (e : Option ℕ). IsUncut p (is_list f.shape) e) (sym is_open) (uncut_open p (is_list f.shape)));
  counting =
      let r : Record = record { number = f.number; payload = p } in
      let some : fits_any fs r ≡ true = any_of_all (λ (g : FieldView). g.number == f.number) (λ (g : FieldView). fits g r) fs f found fit in
      ap (λ (b : Bool). b && not (is_undeclared pool (closed_of (field_numbered f.number fs)) p)) some
      ∙ ap (λ (o : Option FieldView). not (is_undeclared pool (closed_of o) p)) found
      ∙ ap (λ (e : Option ℕ). not (is_undeclared pool e p)) is_open;
}

-- WHERE AN ENUM MAY BE CLOSED

uncut_single : (p : Payload) (e : Option ℕ) → IsUncut p false e
uncut_single (varint n) e = tt
uncut_single (fixed64 n) e = tt
uncut_single (group g) e = tt
uncut_single (fixed32 n) e = tt
uncut_single (len s) e = tt

-- a record of its kind's own wire type is whole
uncut_own : (s : Shape) (k : Kind) (p : Payload) → (wire_type p == wire_type_of k) ≡ true → IsUncut p (is_list s) (closed_shaped s k)
uncut_own (shape.List b) (kind.ClosedEnum e) (len t) h = absurd (false≢true h)
uncut_own (shape.List b) (kind.ClosedEnum e) (varint n) h = tt
uncut_own (shape.List b) (kind.ClosedEnum e) (fixed64 n) h = tt
uncut_own (shape.List b) (kind.ClosedEnum e) (group g) h = tt
uncut_own (shape.List b) (kind.ClosedEnum e) (fixed32 n) h = tt
uncut_own (shape.List b) k p h = uncut_open p true
uncut_own s k p h = uncut_single p (closed_shaped s k)

-- and so is one that doesn't fit: a packed list of a closed enum fits
uncut_unfit : (s : Shape) (k : Kind) (p : Payload) → fits_shape s k (wire_type p) ≡ false → IsUncut p (is_list s) (closed_shaped s k)
uncut_unfit (shape.List b) (kind.ClosedEnum e) (len t) h = absurd (false≢true (sym h))
uncut_unfit (shape.List b) (kind.ClosedEnum e) (varint n) h = tt
uncut_unfit (shape.List b) (kind.ClosedEnum e) (fixed64 n) h = tt
uncut_unfit (shape.List b) (kind.ClosedEnum e) (group g) h = tt
uncut_unfit (shape.List b) (kind.ClosedEnum e) (fixed32 n) h = tt
uncut_unfit (shape.List b) k p h = uncut_open p true
uncut_unfit s k p h = uncut_single p (closed_shaped s k)

undeclared_shaped : (pool : Types) (s : Shape) (k : Kind) (p : Payload) → is_undeclared pool (closed_enum k) p ≡ false → is_undeclared pool (closed_shaped s k) p ≡ false
undeclared_shaped pool (shape.Map key) k p h = refl
undeclared_shaped pool (shape.List b) k p h = h
undeclared_shaped pool shape.Implicit k p h = h
undeclared_shaped pool shape.Explicit k p h = h
undeclared_shaped pool (shape.OneofMember o) k p h = h

pub undeclared_len : (pool : Types) (o : Option ℕ) (s : List ℕ) → is_undeclared pool o (len s) ≡ false
undeclared_len pool None s = refl
undeclared_len pool (Some e) s = refl

-- a record of its kind's own wire type with a declared number
pub declared_known :
    (pool : Types) (fs : List FieldView) (f : FieldView) (p : Payload) → field_numbered f.number fs ≡ Some f → (wire_type p == wire_type_of f.kind) ≡ true → is_undeclared pool (closed_enum f.kind) p ≡ false
    → fits f (record { number = f.number; payload = p }) ≡ true → IsKnown pool fs (record { number = f.number; payload = p })
declared_known pool fs f p found own declared fit = record {
  whole = subst (λ (o : Option FieldView). IsUncut p (is_list_field o) (closed_of o)) (sym found) (uncut_own f.shape f.kind p own);
  counting =
      let r : Record = record { number = f.number; payload = p } in
      let some : fits_any fs r ≡ true = any_of_all (λ (g : FieldView). g.number == f.number) (λ (g : FieldView). fits g r) fs f found fit in
      ap (λ (b : Bool). b && not (is_undeclared pool (closed_of (field_numbered f.number fs)) p)) some
      ∙ ap (λ (o : Option FieldView). not (is_undeclared pool (closed_of o) p)) found
      ∙ ap not (undeclared_shaped pool f.shape f.kind p declared);
}

pub unfit_whole : (o : Option FieldView) (p : Payload) → ((f : FieldView) → o ≡ Some f → fits_shape f.shape f.kind (wire_type p) ≡ false) → IsUncut p (is_list_field o) (closed_of o)
unfit_whole None p h = uncut_single p None
unfit_whole (Some f) p h = uncut_unfit f.shape f.kind p (h f refl)

pub own_whole : (fs : List FieldView) (n : ℕ) (f : FieldView) (p : Payload) → field_numbered n fs ≡ Some f → (wire_type p == wire_type_of f.kind) ≡ true → IsWhole fs (record { number = n; payload = p })
own_whole fs n f p found own = subst (λ (o : Option FieldView). IsUncut p (is_list_field o) (closed_of o)) (sym found) (uncut_own f.shape f.kind p own)
