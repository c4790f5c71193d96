-- The records of an old field's content: which of them count for the new field, and what it holds of them.
use Rattle.std.proofs.Common.{◌≡◌, ℕ, ◌≤◌, ◌<◌, List, [], ◌∷◌, ◌++◌, Bool, true, false, not, ◌&&◌, ◌||◌, Option, Some, None, refl, sym, ◌∙◌, ap, subst, arith, append-nil}
use Rattle.std.specs.Prelude.{◌==◌}
use Rattle.std.specs.List.{AllByRecursion}
use Rattle.pb_wire.specs.Record.{Payload, varint, fixed64, len, group, fixed32, Record, wire_type}
use Rattle.pb_schema.specs.declared.types.Kind.{Kind}
use Rattle.pb_schema.specs.declared.types.Kind.TheVariants as kind
use Rattle.pb_schema.specs.declared.types.Shape.{Shape}
use Rattle.pb_schema.specs.declared.types.Shape.TheVariants as shape
use Rattle.pb_schema.specs.Types.{FieldView, Types, field_numbered}
use Rattle.pb_schema.specs.Kinds.{wire_type_of, is_packable, message_of_kind, closed_enum, written}
use Rattle.pb_schema.specs.Packed.{numbers_of}
use Rattle.pb_schema.specs.Closed.{closed_shaped, closed_of, is_list_field, is_undeclared, is_declared, numbered, cut_as, cut_at, settled}
use Rattle.pb_schema.specs.Fits.{fits_shape}
use Rattle.pb_schema.specs.Rules.{MayBePacked, MayBeValue, HasKeyKind}
use Rattle.pb_schema.proofs.PackedLemmas.{numbers_back}
use Rattle.pb_value.specs.Data.{Datum, scalar, message, Datums, no_datums, datum, Entries, no_entries, entry, Holding, one, list, map as map_of, Message, levels_of, datums_depth, entries_depth, holding_depth, message_depth}
use Rattle.pb_value.specs.Value.{held_as}
use Rattle.pb_value.specs.Canon.{payload_of, packed_bytes, canon, canon_each, canon_entries, canon_holding, record_of}
use Rattle.pb_value.specs.WellFormed.{IsOfShape, IsDatum, AreDatums, AreEntries, IsHeld, IsBody, datum_declared, datums_declared, holds_declared}
use Rattle.pb_value.proofs.CanonLemmas.{AreGood}
use Rattle.pb_value.proofs.HeldBack.{field_with}
use Rattle.pb_value.proofs.FieldBack.{AllNumbered, holding_numbered}
use Rattle.pb_value.proofs.KnownLemmas.{IsUncut, IsWhole, settled-same}
use Rattle.pb_value.proofs.OpenedLemmas.{opened_shape}
use Rattle.pb_value.proofs.Numbers.{self_equal}
use Rattle.pb_value.proofs.WrittenLemmas.{payloads, packed_numbers, no_message, no_message_of}
use Rattle.pb_compat.specs.Fields.{keeps_kind, keeps_shape, is_map, is_list}
use Rattle.pb_compat.specs.Agrees.{HoldsSame, Agrees, HasNoUnknown, ValueHasNoUnknown, ValuesHaveNoUnknown, EntriesHaveNoUnknown, HoldsNoUnknown}
use Rattle.pb_compat.proofs.FieldLemmas.{and_both, kept_scalars, packable_too, same_wire}
use Rattle.pb_compat.proofs.ConvertLemmas.{Reads, LeadToPair, value_read}
use Rattle.pb_compat.proofs.HoldingLemmas.{AllRead, AllEntriesRead, open_declared, key_scalar, no_closed_value, entry_level, single_read, packed_read, unpacked_read, map_read}

-- THE CONTENT IS READ, VALUE BY VALUE

module _ (old new : Types) (inner : ℕ → List Record → Message) (a b : Kind) where
  abbrev pub ContentRead : Holding → Type 0
  ContentRead (one d) = Reads old new inner a b d
  ContentRead (list ds) = AllRead old new inner a b ds
  ContentRead (map_of es) = AllEntriesRead old new inner a b es

module _ (old new : Types) (inner : ℕ → List Record → Message) (Pair : ℕ → ℕ → Type 0) (levels : ℕ)
    (inside : (m n : ℕ) (v : Message) → Pair m n → IsBody old m v → HasNoUnknown v → message_depth v < levels → Agrees old new m n v (inner n (canon old m v)))
    (good : (m : ℕ) (v : Message) → IsBody old m v → AreGood (canon old m v))
    (a b : Kind) (keeps : keeps_kind old new a b ≡ true) (pair : LeadToPair old new inner Pair levels inside good a b) where
  read_one : (d : Datum) → IsDatum old a d → datum_declared old a d ≡ true → ValueHasNoUnknown d → levels_of d ≤ levels → Reads old new inner a b d
  read_one d w declared none l = value_read old new inner Pair levels inside good a b d keeps pair w declared none l

  read_all : (ds : Datums) → AreDatums old a ds → datums_declared old a ds ≡ true → ValuesHaveNoUnknown ds → datums_depth ds ≤ levels → AllRead old new inner a b ds
  read_all no_datums w declared none l = tt
  read_all (datum d ds) w declared none l =
      let each = and_both (datum_declared old a d) (datums_declared old a ds) declared in
      (read_one d w.0 each.0 none.0 (omega (arith, l)), read_all ds w.1 each.1 none.1 (omega (arith, l)))

  read_entries : (key : Kind) (es : Entries) → closed_enum a ≡ None → AreEntries old key a es → EntriesHaveNoUnknown es → entries_depth es ≤ levels → AllEntriesRead old new inner a b es
  read_entries key no_entries unclosed w none l = tt
  read_entries key (entry x d es) unclosed w none l =
      (read_one d w.1 (open_declared old a d unclosed) none.0 (entry_level d levels (omega (arith, l))), read_entries key es unclosed w.2 none.1 (omega (arith, l)))

  pub content_read : (s : Shape) (h : Holding) → MayBeValue s a → IsHeld old s a h → holds_declared old a h ≡ true → HoldsNoUnknown h → holding_depth h ≤ levels → ContentRead old new inner a b h
  content_read s (one d) may w declared none l = read_one d w declared none l
  content_read s (list ds) may w declared none l = read_all ds w declared none l
  content_read (shape.Map key) (map_of es) may w declared none l = read_entries key es (no_closed_value a may) w.0 none l
  content_read s (map_of es) may w declared none l = absurd w

-- WHAT THE NEW FIELD HOLDS

module _ (old new : Types) (inner : ℕ → List Record → Message) (good : (m : ℕ) (v : Message) → IsBody old m v → AreGood (canon old m v)) (a b : Kind) (keeps : keeps_kind old new a b ≡ true) (name : List ℕ) (n : ℕ) where
  pub holding_read : (s t : Shape) (h : Holding) → MayBePacked s a → HasKeyKind s → HasKeyKind t → keeps_shape old new s t ≡ true → IsOfShape s h → IsHeld old s a h → holds_declared old a h ≡ true → ContentRead old new inner a b h
      → HoldsSame old new a b t h (held_as inner t b (canon_holding old (field_with name n a s) h))
  holding_read shape.Implicit t (one d) can ks kt fit shaped w declared r = single_read old new inner a b name n shape.Implicit t d fit r
  holding_read shape.Explicit t (one d) can ks kt fit shaped w declared r = single_read old new inner a b name n shape.Explicit t d fit r
  holding_read (shape.OneofMember o) t (one d) can ks kt fit shaped w declared r = single_read old new inner a b name n (shape.OneofMember o) t d fit r
  holding_read (shape.List true) (shape.List p) (list (datum d ds)) can ks kt fit shaped w declared r = packed_read old new inner a b name n (shape.List p) d ds p refl can keeps w declared
  holding_read (shape.List false) (shape.List p) (list (datum d ds)) can ks kt fit shaped w declared r = unpacked_read old new inner a b name n p d ds r
  holding_read (shape.List q) t (list (datum d ds)) can ks kt fit shaped w declared r = absurd (cc)
  holding_read (shape.Map key) (shape.Map l) (map_of (entry x d es)) can ks kt fit shaped w declared r =
      map_read old new inner a b name n good key l ks (kept_scalars old new key l (key_scalar key ks) fit) kt x d es w.0 w.1 r
  holding_read (shape.Map key) t (map_of (entry x d es)) can ks kt fit shaped w declared r = absurd (cc)
  holding_read s t h can ks kt fit shaped w declared r = absurd shaped

-- WHICH RECORDS COUNT

fits_shape_one : (t : Shape) (b : Kind) (w : ℕ) → not (is_map t) ≡ true → w ≡ wire_type_of b → fits_shape t b w ≡ true
fits_shape_one (shape.Map key) b w plain e = absurd (cc)
fits_shape_one (shape.List p) b w plain e =
    ap (λ (v : ℕ). (v == wire_type_of b) || (is_packable b && (v == 2))) e ∙ ap (λ (t : Bool). t || (is_packable b && (wire_type_of b == 2))) (self_equal (wire_type_of b))
fits_shape_one t b w plain e = ap (λ (v : ℕ). v == wire_type_of b) e ∙ self_equal (wire_type_of b)

fits_packed : (t : Shape) (b : Kind) → is_list t ≡ true → is_packable b ≡ true → fits_shape t b 2 ≡ true
fits_packed (shape.List p) b listed can = ap (λ (c : Bool). (2 == wire_type_of b) || (c && (2 == 2))) can ∙ either (2 == wire_type_of b)
  where
    either : (c : Bool) → (c || true) ≡ true
    either true = refl
    either false = refl
fits_packed shape.Implicit b listed can = absurd (cc)
fits_packed shape.Explicit b listed can = absurd (cc)
fits_packed (shape.OneofMember o) b listed can = absurd (cc)
fits_packed (shape.Map key) b listed can = absurd (cc)

list_no_map : (t : Shape) → is_list t ≡ true → not (is_map t) ≡ true
list_no_map (shape.Map key) e = absurd (cc)
list_no_map t e = refl

-- of number n, with a payload that fits, and no number that a closed enum does not declare
abbrev pub IsCounted : Types → ℕ → Shape → Kind → Record → Type 0
IsCounted new n t b r = (r.number ≡ n) × (fits_shape t b (wire_type r.payload) ≡ true) × (is_undeclared new (closed_shaped t b) r.payload ≡ false)

shaped_declared : (new : Types) (t : Shape) (b : Kind) (p : Payload) → not (is_map t) ≡ true → is_undeclared new (closed_enum b) p ≡ false → is_undeclared new (closed_shaped t b) p ≡ false
shaped_declared new shape.Implicit b p plain e = e
shaped_declared new shape.Explicit b p plain e = e
shaped_declared new (shape.OneofMember o) b p plain e = e
shaped_declared new (shape.List q) b p plain e = e
shaped_declared new (shape.Map key) b p plain e = absurd (cc)

bytes_declared : (new : Types) (o : Option ℕ) (s : List ℕ) → is_undeclared new o (len s) ≡ false
bytes_declared new None s = refl
bytes_declared new (Some e) s = refl

pub one_counted : (old new : Types) (inner : ℕ → List Record → Message) (a b : Kind) (n : ℕ) (t : Shape) (d : Datum) → not (is_map t) ≡ true → Reads old new inner a b d → IsCounted new n t b (record_of n (payload_of old a d))
one_counted old new inner a b n t d plain r = (refl, fits_shape_one t b (wire_type (payload_of old a d)) plain r.wire, shaped_declared new t b (payload_of old a d) plain r.declared)

module _ (old new : Types) (inner : ℕ → List Record → Message) (a b : Kind) (keeps : keeps_kind old new a b ≡ true) (name : List ℕ) (n : ℕ) where
  each_counted : (s t : Shape) (ds : Datums) → not (is_map t) ≡ true → AllRead old new inner a b ds → AllByRecursion (IsCounted new n t b) (canon_each old (field_with name n a s) ds)
  each_counted s t no_datums plain r = tt
  each_counted s t (datum d ds) plain r = (one_counted old new inner a b n t d plain r.0, each_counted s t ds plain r.1)

  packed_counted : (t : Shape) (d : Datum) (ds : Datums) → is_list t ≡ true → is_packable a ≡ true → AreDatums old a (datum d ds) → datums_declared old a (datum d ds) ≡ true → IsCounted new n t b (record_of n (len (packed_bytes a (datum d ds))))
  packed_counted t (scalar x) ds listed can w declared =
      let scalars = kept_scalars old new a b (no_message a can) keeps in (
        refl,
        fits_packed t b listed (packable_too old new a b scalars x w.0 (and_both (is_declared old a x) (datums_declared old a ds) declared).0 can),
        bytes_declared new (closed_shaped t b) (packed_bytes a (datum (scalar x) ds)),
      )
  packed_counted t (message v) ds listed can w declared = absurd (no_message_of old a v (no_message a can) w.0)

  entries_counted : (key l : Kind) (es : Entries) → AllByRecursion (IsCounted new n (shape.Map l) b) (canon_entries old (field_with name n a (shape.Map key)) es)
  entries_counted key l no_entries = tt
  entries_counted key l (entry x d es) = ((refl, refl, refl), entries_counted key l es)

  pub holding_counted : (s t : Shape) (h : Holding) → MayBePacked s a → keeps_shape old new s t ≡ true → IsOfShape s h → IsHeld old s a h → holds_declared old a h ≡ true → ContentRead old new inner a b h
      → AllByRecursion (IsCounted new n t b) (canon_holding old (field_with name n a s) h)
  holding_counted shape.Implicit t (one d) can fit shaped w declared r = (one_counted old new inner a b n t d fit r, tt)
  holding_counted shape.Explicit t (one d) can fit shaped w declared r = (one_counted old new inner a b n t d fit r, tt)
  holding_counted (shape.OneofMember o) t (one d) can fit shaped w declared r = (one_counted old new inner a b n t d fit r, tt)
  holding_counted (shape.List true) t (list (datum d ds)) can fit shaped w declared r = (packed_counted t d ds fit can w declared, tt)
  holding_counted (shape.List false) t (list (datum d ds)) can fit shaped w declared r = each_counted (shape.List false) t (datum d ds) (list_no_map t fit) r
  holding_counted (shape.Map key) (shape.Map l) (map_of (entry x d es)) can fit shaped w declared r = entries_counted key l (entry x d es)
  holding_counted (shape.Map key) t (map_of (entry x d es)) can fit shaped w declared r = absurd (cc)
  holding_counted s t h can fit shaped w declared r = absurd shaped

-- PACKED LISTS THAT ARE CUT

-- the old shape as if the list were not packed, where the new field is a list of a closed enum
abbrev pub opened_for : Shape → Kind → Shape → Shape
opened_for (shape.List q) b s = opened_shape (closed_enum b) s
opened_for shape.Implicit b s = s
opened_for shape.Explicit b s = s
opened_for (shape.OneofMember o) b s = s
opened_for (shape.Map key) b s = s

pub varint_uncut : (p : Payload) (t : Bool) (o : Option ℕ) → wire_type p ≡ 0 → IsUncut p t o
varint_uncut (varint i) t o e = tt
varint_uncut (fixed64 i) t o e = absurd (omega (arith, e))
varint_uncut (len s) t o e = absurd (omega (arith, e))
varint_uncut (group g) t o e = absurd (omega (arith, e))
varint_uncut (fixed32 i) t o e = absurd (omega (arith, e))

closed_wire : (k : Kind) (e : ℕ) → closed_enum k ≡ Some e → wire_type_of k ≡ 0
closed_wire (kind.ClosedEnum i) e h = refl
closed_wire k e h = absurd (cc)

-- what is no list, or of no closed enum, is not cut
not_cut : (p : Payload) (o : Option FieldView) → is_list_field o ≡ false → IsUncut p (is_list_field o) (closed_of o)
not_cut (varint i) o e = tt
not_cut (fixed64 i) o e = tt
not_cut (group g) o e = tt
not_cut (fixed32 i) o e = tt
not_cut (len s) o e = subst (λ (t : Bool). IsUncut (len s) t (closed_of o)) (sym e) tt

not_closed : (p : Payload) (o : Option FieldView) → closed_of o ≡ None → IsUncut p (is_list_field o) (closed_of o)
not_closed (varint i) o e = tt
not_closed (fixed64 i) o e = tt
not_closed (group g) o e = tt
not_closed (fixed32 i) o e = tt
not_closed (len s) o e = subst (λ (c : Option ℕ). IsUncut (len s) (is_list_field o) c) (sym e) (either (is_list_field o))
  where
    either : (t : Bool) → IsUncut (len s) t None
    either true = tt
    either false = tt

-- records of a number that the field of the number does not cut
pub whole_of : (gs : List FieldView) (n : ℕ) (o : Option FieldView) (rs : List Record) → field_numbered n gs ≡ o → ((p : Payload) → IsUncut p (is_list_field o) (closed_of o)) → AllNumbered n rs → AllByRecursion (IsWhole gs) rs
unfolding AllNumbered
whole_of gs n o [] found uncut h = tt
whole_of gs n o (r ∷ rs) found uncut h =
    (subst (λ (x : Option FieldView). IsUncut r.payload (is_list_field x) (closed_of x)) (sym (ap (λ (i : ℕ). field_numbered i gs) h.0 ∙ found)) (uncut r.payload), whole_of gs n o rs found uncut h.1)

module _ (old new : Types) (inner : ℕ → List Record → Message) (a b : Kind) (keeps : keeps_kind old new a b ≡ true) (name other : List ℕ) (n j : ℕ) (gs : List FieldView) where
  payload_whole : (o : Option FieldView) (p : Payload) → field_numbered n gs ≡ o → IsUncut p (is_list_field o) (closed_of o) → IsWhole gs (record_of n p)
  payload_whole o p found h = subst (λ (x : Option FieldView). IsUncut p (is_list_field x) (closed_of x)) (sym found) h

  each_whole : (o : Option FieldView) (s : Shape) (ds : Datums) → field_numbered n gs ≡ o → wire_type_of b ≡ 0 → AllRead old new inner a b ds → AllByRecursion (IsWhole gs) (canon_each old (field_with name n a s) ds)
  each_whole o s no_datums found zero_wire r = tt
  each_whole o s (datum d ds) found zero_wire r =
      (payload_whole o (payload_of old a d) found (varint_uncut (payload_of old a d) (is_list_field o) (closed_of o) (r.0.wire ∙ zero_wire)), each_whole o s ds found zero_wire r.1)

  numbered_each : (s : Shape) (ds : Datums) → message_of_kind a ≡ None → AreDatums old a ds → numbered n (payloads a ds) ≡ canon_each old (field_with name n a s) ds
  numbered_each s no_datums none h = refl
  numbered_each s (datum (scalar x) ds) none h = ap (λ (l : List Record). record_of n (written a x) ∷ l) (numbered_each s ds none h.1)
  numbered_each s (datum (message v) ds) none h = absurd (no_message_of old a v none h.0)

  -- a packed list is cut into its elements
  cut_packed : (q : Bool) (e : ℕ) (s : Shape) (ds : Datums) → field_numbered n gs ≡ Some (field_with other j b (shape.List q)) → closed_enum b ≡ Some e → wire_type_of a ≡ 0 → is_packable a ≡ true → AreDatums old a ds
      → settled gs (record_of n (len (packed_bytes a ds)) ∷ []) ≡ canon_each old (field_with name n a s) ds
  cut_packed q e s ds found closed zero_wire can h =
      ap (λ (o : Option FieldView). cut_at o (record_of n (len (packed_bytes a ds))) ++ []) found
      ∙ ap (λ (c : Option ℕ). cut_as true c n (len (packed_bytes a ds)) ++ []) closed
      ∙ append-nil (numbered n (numbers_of 0 (packed_bytes a ds)))
      ∙ ap (λ (w : ℕ). numbered n (numbers_of w (packed_bytes a ds))) (sym zero_wire)
      ∙ ap (numbered n) (numbers_back a (payloads a ds) (packed_bytes a ds) can (packed_numbers old a ds can h))
      ∙ numbered_each s ds (no_message a can) h

  closed_settled : (q : Bool) (e : ℕ) (s : Shape) (h : Holding) → field_numbered n gs ≡ Some (field_with other j b (shape.List q)) → closed_enum b ≡ Some e → MayBePacked s a → keeps_shape old new s (shape.List q) ≡ true
      → IsOfShape s h → IsHeld old s a h → holds_declared old a h ≡ true → ContentRead old new inner a b h
      → settled gs (canon_holding old (field_with name n a s) h) ≡ canon_holding old (field_with name n a (opened_shape (Some e) s)) h
  closed_settled q e shape.Implicit (one d) found closed can fit shaped w declared r = settled-same gs _ (each_whole (Some (field_with other j b (shape.List q))) shape.Implicit (datum d no_datums) found (closed_wire b e closed) (r, tt))
  closed_settled q e shape.Explicit (one d) found closed can fit shaped w declared r = settled-same gs _ (each_whole (Some (field_with other j b (shape.List q))) shape.Explicit (datum d no_datums) found (closed_wire b e closed) (r, tt))
  closed_settled q e (shape.OneofMember o) (one d) found closed can fit shaped w declared r = settled-same gs _ (each_whole (Some (field_with other j b (shape.List q))) (shape.OneofMember o) (datum d no_datums) found (closed_wire b e closed) (r, tt))
  closed_settled q e (shape.List false) (list (datum d ds)) found closed can fit shaped w declared r = settled-same gs _ (each_whole (Some (field_with other j b (shape.List q))) (shape.List false) (datum d ds) found (closed_wire b e closed) r)
  closed_settled q e (shape.List true) (list (datum (scalar x) ds)) found closed can fit shaped w declared r =
      let scalars = kept_scalars old new a b (no_message a can) keeps in
      let wire : wire_type_of a ≡ 0 = sym (same_wire old new a b scalars x w.0 (and_both (is_declared old a x) (datums_declared old a ds) declared).0) ∙ closed_wire b e closed in
      cut_packed q e (shape.List false) (datum (scalar x) ds) found closed wire can w
  closed_settled q e (shape.List true) (list (datum (message v) ds)) found closed can fit shaped w declared r = absurd (no_message_of old a v (no_message a can) w.0)
  closed_settled q e (shape.Map key) h found closed can fit shaped w declared r = absurd (cc)
  closed_settled q e s h found closed can fit shaped w declared r = absurd shaped

  single_settled : (t s : Shape) (h : Holding) → field_numbered n gs ≡ Some (field_with other j b t) → is_list_field (Some (field_with other j b t)) ≡ false → settled gs (canon_holding old (field_with name n a s) h) ≡ canon_holding old (field_with name n a s) h
  single_settled t s h found single = settled-same gs _ (whole_of gs n (Some (field_with other j b t)) _ found (λ p. not_cut p (Some (field_with other j b t)) single) (holding_numbered old (field_with name n a s) h))

  pub holding_settled : (s t : Shape) (h : Holding) → field_numbered n gs ≡ Some (field_with other j b t) → MayBePacked s a → keeps_shape old new s t ≡ true
      → IsOfShape s h → IsHeld old s a h → holds_declared old a h ≡ true → ContentRead old new inner a b h
      → settled gs (canon_holding old (field_with name n a s) h) ≡ canon_holding old (field_with name n a (opened_for t b s)) h
  holding_settled s shape.Implicit h found can fit shaped w declared r = single_settled shape.Implicit s h found refl
  holding_settled s shape.Explicit h found can fit shaped w declared r = single_settled shape.Explicit s h found refl
  holding_settled s (shape.OneofMember o) h found can fit shaped w declared r = single_settled (shape.OneofMember o) s h found refl
  holding_settled s (shape.Map key) h found can fit shaped w declared r = single_settled (shape.Map key) s h found refl
  holding_settled s (shape.List q) h found can fit shaped w declared r = by (closed_enum b) refl
    where
      by : (o : Option ℕ) → closed_enum b ≡ o → settled gs (canon_holding old (field_with name n a s) h) ≡ canon_holding old (field_with name n a (opened_shape o s)) h
      by None e = settled-same gs _ (whole_of gs n (Some (field_with other j b (shape.List q))) _ found (λ p. not_closed p (Some (field_with other j b (shape.List q))) e) (holding_numbered old (field_with name n a s) h))
      by (Some c) e = closed_settled q c s h found e can fit shaped w declared r
