-- The canonical records of a message as they count: those of a packed list of a closed enum are its elements, each a record of its own, as if the
-- list were not packed. Unknown records stay unknown.
use Rattle.std.proofs.Common.{◌≡◌, ℕ, List, [], ◌∷◌, ◌++◌, map, append-nil, refl, ap, sym, ◌∙◌, subst, Option, Some, None, IfSome, IsSomeAnd, option_map}
use Rattle.std.proofs.lemmas.List.Elements.{filter-append}
use Rattle.std.specs.Prelude.{ℤ, ◌%◌, ◌^◌, Bool, true, false, not, filter, is_some, ◌==◌, ◌&&◌, ◌||◌, option_and_then, if◌then◌else◌}
use Rattle.std.specs.List.{AllByRecursion, list_any}
use Rattle.std.specs.Int.{cast_signed, cast_unsigned, w32, w64}
use Rattle.pb_wire.specs.Record.{Payload, varint, fixed64, len, group, fixed32, Record, wire_type}
use Rattle.pb_schema.specs.declared.types.EnumId.{EnumId}
use Rattle.pb_schema.specs.declared.types.Kind.{Kind}
use Rattle.pb_schema.specs.declared.types.Kind.TheVariants as kind
use Rattle.pb_schema.specs.declared.types.Shape.{Shape}
use Rattle.pb_schema.specs.declared.types.Shape.TheVariants as shape
use Rattle.pb_schema.specs.Types.{FieldView, Types, field_numbered}
use Rattle.pb_schema.specs.Names.{AllDiffer}
use Rattle.pb_schema.specs.Scalar.{enum}
use Rattle.pb_schema.specs.Kinds.{closed_enum, written, IsOfKind}
use Rattle.pb_schema.specs.ReadBack.{read-written}
use Rattle.pb_schema.specs.Packed.{numbers_of}
use Rattle.pb_schema.specs.Fits.{fits, fits_any, fits_shape}
use Rattle.pb_schema.specs.Oneofs.{is_member, members}
use Rattle.pb_schema.specs.Closed.{declares, closed_shaped, closed_of, is_list_field, is_undeclared, numbered, cut_at, settled, counts, known, unknown}
use Rattle.pb_schema.specs.Rules.{MayBePacked}
use Rattle.pb_schema.proofs.PackedLemmas.{numbers_back}
use Rattle.pb_value.specs.Data.{Datum, scalar, message, Datums, no_datums, datum, Holding, one, list, map as map_of, Fields, no_fields, field, Message, get_field, put_some}
use Rattle.pb_value.specs.Value.{last_run, counting, counting_as, held, held_as, fields_held}
use Rattle.pb_value.specs.Canon.{payload_of, packed_bytes, canon_each, canon_holding, canon_fields, by_field, record_of}
use Rattle.pb_value.specs.Merge.{sets_oneof, merged_at, merged_fields}
use Rattle.pb_value.specs.WellFormed.{IsOfShape, datum_declared, datums_declared, holds_declared, IsDatum, AreDatums, IsHeld, AreFields, AreUnknown, oneof_of, oneof_at, HasNoMember, HasOneMemberEach}
use Rattle.pb_value.proofs.BytesLemmas.{both}
use Rattle.pb_value.proofs.Lists.{AllPass, NonePasses, filter_all, filter_none}
use Rattle.pb_value.proofs.ListLemmas.{all_append}
use Rattle.pb_value.proofs.Numbers.{self_equal, found_number}
use Rattle.pb_value.proofs.WrittenLemmas.{payloads, packed_numbers}
use Rattle.pb_value.proofs.HeldBack.{field_with}
use Rattle.pb_value.proofs.FieldBack.{AllNumbered, holding_numbered, CanPack, first_records, field_at, holding_fits}
use Rattle.pb_value.proofs.OneofBack.{AllFound, any_of_all}
use Rattle.pb_value.proofs.KnownLemmas.{IsUncut, IsWhole, settled-append, settled-same}

-- FIELDS AS IF NO LIST OF A CLOSED ENUM WERE PACKED

abbrev pub opened_shape : Option ℕ → Shape → Shape
opened_shape (Some e) (shape.List p) = shape.List false
opened_shape (Some e) shape.Implicit = shape.Implicit
opened_shape (Some e) shape.Explicit = shape.Explicit
opened_shape (Some e) (shape.OneofMember o) = shape.OneofMember o
opened_shape (Some e) (shape.Map key) = shape.Map key
opened_shape None s = s

abbrev pub opened : FieldView → FieldView
opened f = record { name = f.name; number = f.number; kind = f.kind; shape = opened_shape (closed_enum f.kind) f.shape }

abbrev pub opened_all : List FieldView → List FieldView
opened_all fs = map opened fs

same_shape : {A : Type 0} (P : Shape → A) → ((p : Bool) → P (shape.List false) ≡ P (shape.List p)) → (e : Option ℕ) (s : Shape) → P (opened_shape e s) ≡ P s
same_shape P same (Some e) (shape.List p) = same p
same_shape P same (Some e) shape.Implicit = refl
same_shape P same (Some e) shape.Explicit = refl
same_shape P same (Some e) (shape.OneofMember o) = refl
same_shape P same (Some e) (shape.Map key) = refl
same_shape P same None s = refl

carry_shape : (P : Shape → Type 0) → ((p : Bool) → P (shape.List p) → P (shape.List false)) → (e : Option ℕ) (s : Shape) → P s → P (opened_shape e s)
carry_shape P carry (Some e) (shape.List p) h = carry p h
carry_shape P carry (Some e) shape.Implicit h = h
carry_shape P carry (Some e) shape.Explicit h = h
carry_shape P carry (Some e) (shape.OneofMember o) h = h
carry_shape P carry (Some e) (shape.Map key) h = h
carry_shape P carry None s h = h

pub numbered_opened : (n : ℕ) (fs : List FieldView) → field_numbered n (opened_all fs) ≡ option_map opened (field_numbered n fs)
numbered_opened n [] = refl
numbered_opened n (f ∷ fs) = by_test (f.number == n) (numbered_opened n fs)
  where
    by_test : (b : Bool) → field_numbered n (opened_all fs) ≡ option_map opened (field_numbered n fs) → (if b then Some (opened f) else field_numbered n (opened_all fs)) ≡ option_map opened (if b then Some f else field_numbered n fs)
    by_test true later = refl
    by_test false later = later

from_opened : (o : Option FieldView) (f : FieldView) → option_map opened o ≡ Some f → (g : FieldView) × (o ≡ Some g) × (opened g ≡ f)
from_opened None f e = absurd (cc)
from_opened (Some g) f e = (g, refl, cc)

pub opened_pack : (all : List FieldView) → CanPack all → CanPack (opened_all all)
opened_pack all can n f e =
    let g = from_opened (field_numbered n all) f (sym (numbered_opened n all) ∙ e) in
    subst (λ (x : FieldView). MayBePacked x.shape x.kind) g.2 (carry_shape (λ s. MayBePacked s g.0.kind) (λ p h. tt) (closed_enum g.0.kind) g.0.shape (can n g.0 g.1))

pub opened_found : (all fs : List FieldView) → AllFound all fs → AllFound (opened_all all) (opened_all fs)
opened_found all [] h = tt
opened_found all (f ∷ fs) h = (numbered_opened f.number all ∙ ap (option_map opened) h.0, opened_found all fs h.1)

-- the numbers are the same
pub opened_differ : (fs : List FieldView) → AllDiffer (map (λ (f : FieldView). f.number) fs) → AllDiffer (map (λ (f : FieldView). f.number) (opened_all fs))
opened_differ fs h = subst AllDiffer (sym (same_numbers fs)) h
  where
    same_numbers : (gs : List FieldView) → map (λ (f : FieldView). f.number) (opened_all gs) ≡ map (λ (f : FieldView). f.number) gs
    same_numbers [] = refl
    same_numbers (g ∷ gs) = ap (λ (l : List ℕ). g.number ∷ l) (same_numbers gs)

list_shape : (p : Bool) (h : Holding) → IsOfShape (shape.List p) h → IsOfShape (shape.List false) h
list_shape p (one d) w = w
list_shape p (list no_datums) w = w
list_shape p (list (datum d ds)) w = tt
list_shape p (map_of es) w = w

list_held : (pool : Types) (k : Kind) (p : Bool) (h : Holding) → IsHeld pool (shape.List p) k h → IsHeld pool (shape.List false) k h
list_held pool k p (one d) w = w
list_held pool k p (list ds) w = w
list_held pool k p (map_of es) w = w

shaped_open : (k : Kind) (s : Shape) (h : Holding) → IsOfShape s h → IsOfShape (opened_shape (closed_enum k) s) h
shaped_open k s h w = carry_shape (λ t. IsOfShape t h) (λ p v. list_shape p h v) (closed_enum k) s w

held_open : (pool : Types) (k : Kind) (s : Shape) (h : Holding) → IsHeld pool s k h → IsHeld pool (opened_shape (closed_enum k) s) k h
held_open pool k s h w = carry_shape (λ t. IsHeld pool t k h) (λ p v. list_held pool k p h v) (closed_enum k) s w

pub opened_fields : (pool : Types) (all : List FieldView) (fs : Fields) → AreFields pool all fs → AreFields pool (opened_all all) fs
opened_fields pool all no_fields w = tt
opened_fields pool all (field n h fs) w =
    (subst (λ (o : Option FieldView). IsSomeAnd o (λ f. IsOfShape f.shape h × IsHeld pool f.shape f.kind h × (holds_declared pool f.kind h ≡ true))) (sym (numbered_opened n all)) (at (field_numbered n all) w.0), opened_fields pool all fs w.1)
  where
    at : (o : Option FieldView) → IsSomeAnd o (λ f. IsOfShape f.shape h × IsHeld pool f.shape f.kind h × (holds_declared pool f.kind h ≡ true))
        → IsSomeAnd (option_map opened o) (λ f. IsOfShape f.shape h × IsHeld pool f.shape f.kind h × (holds_declared pool f.kind h ≡ true))
    at None v = v
    at (Some g) v = (shaped_open g.kind g.shape h v.0, held_open pool g.kind g.shape h v.1, v.2)

opened_oneof : (all : List FieldView) (n : ℕ) → oneof_at (opened_all all) n ≡ oneof_at all n
opened_oneof all n = ap (option_and_then (λ (f : FieldView). oneof_of f.shape)) (numbered_opened n all) ∙ at (field_numbered n all)
  where
    at : (o : Option FieldView) → option_and_then (λ (f : FieldView). oneof_of f.shape) (option_map opened o) ≡ option_and_then (λ (f : FieldView). oneof_of f.shape) o
    at None = refl
    at (Some g) = same_shape oneof_of (λ p. refl) (closed_enum g.kind) g.shape

opened_no_member : (all : List FieldView) (o : ℕ) (fs : Fields) → HasNoMember all o fs → HasNoMember (opened_all all) o fs
opened_no_member all o no_fields w = tt
opened_no_member all o (field n h fs) w = (λ e. w.0 (sym (opened_oneof all n) ∙ e), opened_no_member all o fs w.1)

pub opened_members : (all : List FieldView) (fs : Fields) → HasOneMemberEach all fs → HasOneMemberEach (opened_all all) fs
opened_members all no_fields w = tt
opened_members all (field n h fs) w =
    (subst (λ (x : Option ℕ). IfSome x (λ o. HasNoMember (opened_all all) o fs)) (sym (opened_oneof all n)) (at (oneof_at all n) w.0), opened_members all fs w.1)
  where
    at : (x : Option ℕ) → IfSome x (λ o. HasNoMember all o fs) → IfSome x (λ o. HasNoMember (opened_all all) o fs)
    at None v = tt
    at (Some o) v = opened_no_member all o fs v

-- WHAT THEY HOLD

fits_opened : (f : FieldView) (r : Record) → fits (opened f) r ≡ fits f r
fits_opened f r = ap (λ (b : Bool). (r.number == f.number) && b) (same_shape (λ s. fits_shape s f.kind (wire_type r.payload)) (λ p. refl) (closed_enum f.kind) f.shape)

any_opened : (o : ℕ) (fs : List FieldView) (r : Record) → fits_any (members o (opened_all fs)) r ≡ fits_any (members o fs) r
any_opened o [] r = refl
any_opened o (f ∷ fs) r =
    ap (λ (b : Bool). fits_any (if b then opened f ∷ members o (opened_all fs) else members o (opened_all fs)) r) (same_shape (is_member o) (λ p. refl) (closed_enum f.kind) f.shape)
    ∙ by_test (is_member o f.shape) (any_opened o fs r)
  where
    by_test : (b : Bool) → fits_any (members o (opened_all fs)) r ≡ fits_any (members o fs) r
        → fits_any (if b then opened f ∷ members o (opened_all fs) else members o (opened_all fs)) r ≡ fits_any (if b then f ∷ members o fs else members o fs) r
    by_test true later = ap (λ (b : Bool). b || fits_any (members o (opened_all fs)) r) (fits_opened f r) ∙ ap (λ (b : Bool). fits f r || b) later
    by_test false later = later

module _ (inner : ℕ → List Record → Message) (all : List FieldView) (rs : List Record) where
  counting_opened : (s : Shape) (f : FieldView) → counting_as inner s (opened_all all) (opened f) rs ≡ counting_as inner s all f rs
  counting_opened (shape.OneofMember o) f =
      ap (λ (p : Record → Bool). last_run p (filter (fits_any (members o (opened_all all))) rs)) (λ i r. fits_opened f r i)
      ∙ ap (λ (p : Record → Bool). last_run (fits f) (filter p rs)) (λ i r. any_opened o all r i)
  counting_opened shape.Implicit f = ap (λ (p : Record → Bool). filter p rs) (λ i r. fits_opened f r i)
  counting_opened shape.Explicit f = ap (λ (p : Record → Bool). filter p rs) (λ i r. fits_opened f r i)
  counting_opened (shape.List q) f = ap (λ (p : Record → Bool). filter p rs) (λ i r. fits_opened f r i)
  counting_opened (shape.Map key) f = ap (λ (p : Record → Bool). filter p rs) (λ i r. fits_opened f r i)

  held_opened : (f : FieldView) → held inner (opened f) (counting inner (opened_all all) (opened f) rs) ≡ held inner f (counting inner all f rs)
  held_opened f =
      same_shape (λ s. held_as inner s f.kind (counting_as inner s (opened_all all) (opened f) rs)) (λ p. refl) (closed_enum f.kind) f.shape
      ∙ ap (held_as inner f.shape f.kind) (counting_opened f.shape f)

  opened_each : (fs : List FieldView) → fields_held inner (opened_all all) (opened_all fs) rs ≡ fields_held inner all fs rs
  opened_each [] = refl
  opened_each (f ∷ fs) =
      ap (λ (o : Option Holding). put_some f.number o (fields_held inner (opened_all all) (opened_all fs) rs)) (held_opened f) ∙ ap (put_some f.number (held inner f (counting inner all f rs))) (opened_each fs)

  pub opened_held : fields_held inner all all rs ≡ fields_held inner (opened_all all) (opened_all all) rs
  opened_held = sym (opened_each all)

-- merging by them is the same
module _ (merge : ℕ → Message → Message → Message) (all : List FieldView) (gs : Fields) where
  sets_opened : (s : Shape) → sets_oneof (opened_all all) gs s ≡ sets_oneof all gs s
  sets_opened (shape.OneofMember o) = each all
    where
      each : (fs : List FieldView) → list_any (λ f. is_some (get_field f.number gs)) (members o (opened_all fs)) ≡ list_any (λ f. is_some (get_field f.number gs)) (members o fs)
      each [] = refl
      each (f ∷ fs) =
          ap (λ (b : Bool). list_any (λ (x : FieldView). is_some (get_field x.number gs)) (if b then opened f ∷ members o (opened_all fs) else members o (opened_all fs))) (same_shape (is_member o) (λ p. refl) (closed_enum f.kind) f.shape)
          ∙ by_test (is_member o f.shape) (each fs)
        where
          by_test : (b : Bool) → list_any (λ f. is_some (get_field f.number gs)) (members o (opened_all fs)) ≡ list_any (λ f. is_some (get_field f.number gs)) (members o fs)
              → list_any (λ (x : FieldView). is_some (get_field x.number gs)) (if b then opened f ∷ members o (opened_all fs) else members o (opened_all fs))
              ≡ list_any (λ (x : FieldView). is_some (get_field x.number gs)) (if b then f ∷ members o fs else members o fs)
          by_test true later = ap (λ (b : Bool). is_some (get_field f.number gs) || b) later
          by_test false later = later
  sets_opened shape.Implicit = refl
  sets_opened shape.Explicit = refl
  sets_opened (shape.List p) = refl
  sets_opened (shape.Map key) = refl

  merged_at_opened : (f : FieldView) (g h : Option Holding) → merged_at merge (opened_all all) (opened f) gs g h ≡ merged_at merge all f gs g h
  merged_at_opened f None h = refl
  merged_at_opened f (Some g) (Some h) = refl
  merged_at_opened f (Some g) None =
      ap (λ (b : Bool). if b then None else Some g) (same_shape (sets_oneof (opened_all all) gs) (λ p. refl) (closed_enum f.kind) f.shape ∙ sets_opened f.shape)

  pub merged_opened : (hs : Fields) (fs : List FieldView) → merged_fields merge (opened_all all) (opened_all fs) hs gs ≡ merged_fields merge all fs hs gs
  merged_opened hs [] = refl
  merged_opened hs (f ∷ fs) =
      ap (λ (o : Option Holding). put_some f.number o (merged_fields merge (opened_all all) (opened_all fs) hs gs)) (merged_at_opened f (get_field f.number hs) (get_field f.number gs))
      ∙ ap (put_some f.number (merged_at merge all f gs (get_field f.number hs) (get_field f.number gs))) (merged_opened hs fs)

-- THE RECORDS OF A CONTENT, SETTLED

uncut_open : (p : Payload) (b : Bool) → IsUncut p b None
uncut_open (varint i) b = tt
uncut_open (fixed64 i) b = tt
uncut_open (group g) b = tt
uncut_open (fixed32 i) b = tt
uncut_open (len s) true = tt
uncut_open (len s) false = tt

uncut_single : (p : Payload) (e : Option ℕ) → IsUncut p false e
uncut_single (varint i) e = tt
uncut_single (fixed64 i) e = tt
uncut_single (group g) e = tt
uncut_single (fixed32 i) e = tt
uncut_single (len s) e = tt

open_whole : (all : List FieldView) (n : ℕ) (rs : List Record) → closed_of (field_numbered n all) ≡ None → AllNumbered n rs → AllByRecursion (IsWhole all) rs
unfolding AllNumbered
open_whole all n [] e h = tt
open_whole all n (r ∷ rs) e h =
    (subst (IsUncut r.payload (is_list_field (field_numbered r.number all))) (sym (ap (λ (i : ℕ). closed_of (field_numbered i all)) h.0 ∙ e)) (uncut_open r.payload (is_list_field (field_numbered r.number all))), open_whole all n rs e h.1)

single_whole : (all : List FieldView) (n : ℕ) (rs : List Record) → is_list_field (field_numbered n all) ≡ false → AllNumbered n rs → AllByRecursion (IsWhole all) rs
unfolding AllNumbered
single_whole all n [] e h = tt
single_whole all n (r ∷ rs) e h =
    (subst (λ (b : Bool). IsUncut r.payload b (closed_of (field_numbered r.number all))) (sym (ap (λ (i : ℕ). is_list_field (field_numbered i all)) h.0 ∙ e)) (uncut_single r.payload (closed_of (field_numbered r.number all))), single_whole all n rs e h.1)

module _ (pool : Types) (all : List FieldView) where
  -- elements that are records of their own
  number_whole : (e : EnumId) (b : Bool) (o : Option ℕ) (d : Datum) → IsDatum pool (kind.ClosedEnum e) d → IsUncut (payload_of pool (kind.ClosedEnum e) d) b o
  number_whole e b o (scalar (enum z)) w = tt
  number_whole e b o (scalar x) w = absurd w
  number_whole e b o (message v) w = absurd w

  each_whole : (f : FieldView) (e : EnumId) (ds : Datums) → f.kind ≡ kind.ClosedEnum e → AreDatums pool (kind.ClosedEnum e) ds → AllByRecursion (IsWhole all) (canon_each pool f ds)
  each_whole f e no_datums is h = tt
  each_whole f e (datum d ds) is h =
      (subst (λ (k : Kind). IsUncut (payload_of pool k d) (is_list_field (field_numbered f.number all)) (closed_of (field_numbered f.number all))) (sym is) (number_whole e (is_list_field (field_numbered f.number all)) (closed_of (field_numbered f.number all)) d h.0), each_whole f e ds is h.1)

  -- the elements of a packed list are those of one that isn't packed
  numbered_each : (name : List ℕ) (n : ℕ) (e : EnumId) (s : Shape) (ds : Datums) → AreDatums pool (kind.ClosedEnum e) ds → numbered n (payloads (kind.ClosedEnum e) ds) ≡ canon_each pool (field_with name n (kind.ClosedEnum e) s) ds
  numbered_each name n e s no_datums h = refl
  numbered_each name n e s (datum (scalar x) ds) h = ap (λ (l : List Record). record_of n (written (kind.ClosedEnum e) x) ∷ l) (numbered_each name n e s ds h.1)
  numbered_each name n e s (datum (message v) ds) h = absurd h.0

  cut_packed : (name : List ℕ) (n : ℕ) (e : EnumId) (p : Bool) (ds : Datums) → field_numbered n all ≡ Some (field_with name n (kind.ClosedEnum e) (shape.List true)) → AreDatums pool (kind.ClosedEnum e) ds
      → settled all (record_of n (len (packed_bytes (kind.ClosedEnum e) ds)) ∷ []) ≡ canon_each pool (field_with name n (kind.ClosedEnum e) (shape.List p)) ds
  cut_packed name n e p ds found h =
      ap (λ (o : Option FieldView). cut_at o (record_of n (len (packed_bytes (kind.ClosedEnum e) ds))) ++ []) found
      ∙ append-nil (numbered n (numbers_of 0 (packed_bytes (kind.ClosedEnum e) ds)))
      ∙ ap (numbered n) (numbers_back (kind.ClosedEnum e) (payloads (kind.ClosedEnum e) ds) (packed_bytes (kind.ClosedEnum e) ds) refl (packed_numbers pool (kind.ClosedEnum e) ds refl h))
      ∙ numbered_each name n e (shape.List p) ds h

  settled_with :
      (name : List ℕ) (n : ℕ) (k : Kind) (s : Shape) (h : Holding) → field_numbered n all ≡ Some (field_with name n k s) → IsOfShape s h → IsHeld pool s k h
      → settled all (canon_holding pool (field_with name n k s) h) ≡ canon_holding pool (field_with name n k (opened_shape (closed_enum k) s)) h
  settled_with name n (kind.ClosedEnum e) (shape.List true) (list (datum d ds)) found shaped w = cut_packed name n e false (datum d ds) found w
  settled_with name n (kind.ClosedEnum e) (shape.List false) (list (datum d ds)) found shaped w =
      settled-same all (canon_each pool (field_with name n (kind.ClosedEnum e) (shape.List false)) (datum d ds)) (each_whole (field_with name n (kind.ClosedEnum e) (shape.List false)) e (datum d ds) refl w)
  settled_with name n (kind.ClosedEnum e) (shape.List p) h found shaped w = absurd shaped
  settled_with name n (kind.ClosedEnum e) shape.Implicit h found shaped w =
      settled-same all _ (single_whole all n (canon_holding pool (field_with name n (kind.ClosedEnum e) shape.Implicit) h) (ap is_list_field found) (holding_numbered pool (field_with name n (kind.ClosedEnum e) shape.Implicit) h))
  settled_with name n (kind.ClosedEnum e) shape.Explicit h found shaped w =
      settled-same all _ (single_whole all n (canon_holding pool (field_with name n (kind.ClosedEnum e) shape.Explicit) h) (ap is_list_field found) (holding_numbered pool (field_with name n (kind.ClosedEnum e) shape.Explicit) h))
  settled_with name n (kind.ClosedEnum e) (shape.OneofMember o) h found shaped w =
      settled-same all _ (single_whole all n (canon_holding pool (field_with name n (kind.ClosedEnum e) (shape.OneofMember o)) h) (ap is_list_field found) (holding_numbered pool (field_with name n (kind.ClosedEnum e) (shape.OneofMember o)) h))
  settled_with name n (kind.ClosedEnum e) (shape.Map key) h found shaped w =
      settled-same all _ (single_whole all n (canon_holding pool (field_with name n (kind.ClosedEnum e) (shape.Map key)) h) (ap is_list_field found) (holding_numbered pool (field_with name n (kind.ClosedEnum e) (shape.Map key)) h))
  settled_with name n k s h found shaped w =
      settled-same all _ (open_whole all n (canon_holding pool (field_with name n k s) h) (ap closed_of found ∙ open_shaped s) (holding_numbered pool (field_with name n k s) h))
    where
      open_shaped : (s : Shape) → closed_shaped s k ≡ None
      open_shaped shape.Implicit = refl
      open_shaped shape.Explicit = refl
      open_shaped (shape.OneofMember o) = refl
      open_shaped (shape.List p) = refl
      open_shaped (shape.Map key) = refl

  -- their numbers are declared
  low_number : (e : EnumId) (z : ℤ) → IsOfKind (kind.ClosedEnum e) (enum z) → cast_signed w32 (cast_unsigned w64 z % 2 ^ 32) ≡ z
  low_number e z w = let back = read-written (kind.ClosedEnum e) (enum z) w in cc

  number_declared : (e : EnumId) (d : Datum) → IsDatum pool (kind.ClosedEnum e) d → datum_declared pool (kind.ClosedEnum e) d ≡ true → is_undeclared pool (Some e.0) (payload_of pool (kind.ClosedEnum e) d) ≡ false
  number_declared e (scalar (enum z)) w h = ap not (ap (declares pool e.0) (low_number e z w) ∙ h)
  number_declared e (scalar x) w h = absurd w
  number_declared e (message v) w h = absurd w

  each_declared : (name : List ℕ) (n : ℕ) (e : EnumId) (s : Shape) (ds : Datums) → AreDatums pool (kind.ClosedEnum e) ds → datums_declared pool (kind.ClosedEnum e) ds ≡ true
      → AllByRecursion (λ r. is_undeclared pool (Some e.0) r.payload ≡ false) (canon_each pool (field_with name n (kind.ClosedEnum e) s) ds)
  each_declared name n e s no_datums w h = tt
  each_declared name n e s (datum d ds) w h =
      let each = both (datum_declared pool (kind.ClosedEnum e) d) (datums_declared pool (kind.ClosedEnum e) ds) h in
      (number_declared e d w.0 each.0, each_declared name n e s ds w.1 each.1)

  all_open : (o : Option ℕ) (rs : List Record) → o ≡ None → AllByRecursion (λ r. is_undeclared pool o r.payload ≡ false) rs
  all_open o [] e = tt
  all_open o (r ∷ rs) e = (ap (λ (x : Option ℕ). is_undeclared pool x r.payload) e, all_open o rs e)

  declared_with :
      (name : List ℕ) (n : ℕ) (k : Kind) (s : Shape) (h : Holding) → IsOfShape s h → IsHeld pool s k h → holds_declared pool k h ≡ true
      → AllByRecursion (λ r. is_undeclared pool (closed_shaped s k) r.payload ≡ false) (canon_holding pool (field_with name n k (opened_shape (closed_enum k) s)) h)
  declared_with name n (kind.ClosedEnum e) (shape.List p) (list (datum d ds)) shaped w h = each_declared name n e (shape.List false) (datum d ds) w h
  declared_with name n (kind.ClosedEnum e) (shape.List p) x shaped w h = absurd shaped
  declared_with name n (kind.ClosedEnum e) shape.Implicit (one d) shaped w h = (number_declared e d w h, tt)
  declared_with name n (kind.ClosedEnum e) shape.Implicit x shaped w h = absurd shaped
  declared_with name n (kind.ClosedEnum e) shape.Explicit (one d) shaped w h = (number_declared e d w h, tt)
  declared_with name n (kind.ClosedEnum e) shape.Explicit x shaped w h = absurd shaped
  declared_with name n (kind.ClosedEnum e) (shape.OneofMember o) (one d) shaped w h = (number_declared e d w h, tt)
  declared_with name n (kind.ClosedEnum e) (shape.OneofMember o) x shaped w h = absurd shaped
  declared_with name n (kind.ClosedEnum e) (shape.Map key) x shaped w h = all_open None (canon_holding pool (field_with name n (kind.ClosedEnum e) (shape.Map key)) x) refl
  declared_with name n k s x shaped w h = all_open (closed_shaped s k) (canon_holding pool (field_with name n k s) x) (open_shaped s)
    where
      open_shaped : (s : Shape) → closed_shaped s k ≡ None
      open_shaped shape.Implicit = refl
      open_shaped shape.Explicit = refl
      open_shaped (shape.OneofMember o) = refl
      open_shaped (shape.List p) = refl
      open_shaped (shape.Map key) = refl

  -- THEY ALL COUNT

  count_each : (f : FieldView) (rs : List Record) → field_numbered f.number all ≡ Some f → AllNumbered f.number rs → AllPass (fits (opened f)) rs → AllByRecursion (λ r. is_undeclared pool (closed_of (Some f)) r.payload ≡ false) rs
      → AllPass (counts pool all) rs
  unfolding AllNumbered
  count_each f [] found n fit undeclared = tt
  count_each f (r ∷ rs) found n fit undeclared =
      let some : fits_any all r ≡ true = any_of_all (λ (g : FieldView). g.number == f.number) (λ (g : FieldView). fits g r) all f found (sym (fits_opened f r) ∙ fit.0) in
      let here : field_numbered r.number all ≡ Some f = ap (λ (i : ℕ). field_numbered i all) n.0 ∙ found in (
        ap (λ (b : Bool). b && not (is_undeclared pool (closed_of (field_numbered r.number all)) r.payload)) some
            ∙ ap (λ (o : Option FieldView). not (is_undeclared pool (closed_of o) r.payload)) here ∙ ap not undeclared.0,
        count_each f rs found n.1 fit.1 undeclared.1,
      )

  holding_counts : (f : FieldView) (h : Holding) → field_numbered f.number all ≡ Some f → MayBePacked f.shape f.kind → IsOfShape f.shape h → IsHeld pool f.shape f.kind h → holds_declared pool f.kind h ≡ true
      → AllPass (counts pool all) (canon_holding pool (opened f) h)
  holding_counts f h found can shaped w declared =
      count_each f (canon_holding pool (opened f) h) found (holding_numbered pool (opened f) h)
      (holding_fits pool (opened f) h (carry_shape (λ s. MayBePacked s f.kind) (λ p v. tt) (closed_enum f.kind) f.shape can) (shaped_open f.kind f.shape h shaped) (held_open pool f.kind f.shape h w))
      (declared_with f.name f.number f.kind f.shape h shaped w declared)

  -- ALL FIELDS

  module _ (can : CanPack all) where
    opened_records : (n : ℕ) (h : Holding) (g : FieldView) → field_numbered n all ≡ Some g → by_field (field_numbered n (opened_all all)) (λ (f : FieldView). canon_holding pool f h) ≡ canon_holding pool (opened g) h
    opened_records n h g e = ap (λ (o : Option FieldView). by_field o (λ (f : FieldView). canon_holding pool f h)) (numbered_opened n all ∙ ap (option_map opened) e)

    settled_fields : (fs : Fields) → AreFields pool all fs → settled all (canon_fields pool all fs) ≡ canon_fields pool (opened_all all) fs
    settled_fields no_fields w = refl
    settled_fields (field n h fs) w =
        let at = field_at pool all can n h fs w in
        let g = at.0 in
        let own : field_numbered g.number all ≡ Some g = ap (λ (i : ℕ). field_numbered i all) (found_number n all g at.1) ∙ at.1 in
        settled-append all (by_field (field_numbered n all) (λ (f : FieldView). canon_holding pool f h)) (canon_fields pool all fs)
        ∙ ap (λ (rs : List Record). settled all rs ++ settled all (canon_fields pool all fs)) (first_records pool all can n h g at.1)
        ∙ ap (λ (rs : List Record). rs ++ settled all (canon_fields pool all fs)) (settled_with g.name g.number g.kind g.shape h own at.2.0 at.2.1 ∙ sym (opened_records n h g at.1))
        ∙ ap (λ (rs : List Record). by_field (field_numbered n (opened_all all)) (λ (f : FieldView). canon_holding pool f h) ++ rs) (settled_fields fs w.1)

    fields_count : (fs : Fields) → AreFields pool all fs → AllPass (counts pool all) (canon_fields pool (opened_all all) fs)
    fields_count no_fields w = tt
    fields_count (field n h fs) w =
        let at = field_at pool all can n h fs w in
        let g = at.0 in
        let own : field_numbered g.number all ≡ Some g = ap (λ (i : ℕ). field_numbered i all) (found_number n all g at.1) ∙ at.1 in
        all_append (λ r. counts pool all r ≡ true) (by_field (field_numbered n (opened_all all)) (λ (f : FieldView). canon_holding pool f h)) (canon_fields pool (opened_all all) fs)
        (subst (AllPass (counts pool all)) (sym (opened_records n h g at.1)) (holding_counts g h own (can n g at.1) at.2.0 at.2.1 at.2.2)) (fields_count fs w.1)

    -- UNKNOWN RECORDS

    -- what doesn't count is no packed list of a closed enum: such a list fits its field
    unknown_whole : (r : Record) → counts pool all r ≡ false → IsWhole all r
    unknown_whole r none = by_field_of (field_numbered r.number all) refl r.payload refl
      where
        closed_list : (f : FieldView) (s : List ℕ) → field_numbered r.number all ≡ Some f → r.payload ≡ len s → (t : Shape) → f.shape ≡ t → (k : Kind) → f.kind ≡ k → IsUncut (len s) (is_list_field (Some (field_with f.name f.number k t))) (closed_of (Some (field_with f.name f.number k t)))
        closed_list f s found is (shape.List p) at (kind.ClosedEnum e) of =
            let own : (r.number == f.number) ≡ true = ap (λ (i : ℕ). r.number == i) (found_number r.number all f found) ∙ self_equal r.number in
            let fit : fits f r ≡ true =
            ap (λ (b : Bool). b && fits_shape f.shape f.kind (wire_type r.payload)) own ∙ ap (λ (x : Payload). fits_shape f.shape f.kind (wire_type x)) is ∙ ap (λ (x : Shape). fits_shape x f.kind 2) at ∙ ap (λ (x : Kind). fits_shape (shape.List p) x 2) of in
            let some : fits_any all r ≡ true = any_of_all (λ (g : FieldView). g.number == r.number) (λ (g : FieldView). fits g r) all f found fit in
            let known_it : counts pool all r ≡ true =
            ap (λ (b : Bool). b && not (is_undeclared pool (closed_of (field_numbered r.number all)) r.payload)) some
            ∙ ap (λ (x : Payload). not (is_undeclared pool (closed_of (field_numbered r.number all)) x)) is ∙ no_number (closed_of (field_numbered r.number all)) in
            absurd (cc)
          where
            no_number : (o : Option ℕ) → not (is_undeclared pool o (len s)) ≡ true
            no_number None = refl
            no_number (Some i) = refl
        closed_list f s found is (shape.List p) at k of = tt
        closed_list f s found is t at k of = tt

        by_field_of : (o : Option FieldView) → field_numbered r.number all ≡ o → (p : Payload) → r.payload ≡ p → IsUncut p (is_list_field o) (closed_of o)
        by_field_of o found (varint i) is = tt
        by_field_of o found (fixed64 i) is = tt
        by_field_of o found (group g) is = tt
        by_field_of o found (fixed32 i) is = tt
        by_field_of None found (len s) is = tt
        by_field_of (Some f) found (len s) is = closed_list f s found is f.shape refl f.kind refl

    unknown_all_whole : (us : List Record) → AreUnknown pool all us → AllByRecursion (IsWhole all) us
    unknown_all_whole [] h = tt
    unknown_all_whole (u ∷ us) h = (unknown_whole u h.0.3, unknown_all_whole us h.1)

    none_counts : (us : List Record) → AreUnknown pool all us → NonePasses (counts pool all) us
    none_counts [] h = tt
    none_counts (u ∷ us) h = (h.0.3, none_counts us h.1)

    not_each : (b : Bool) (rs : List Record) → AllByRecursion (λ r. counts pool all r ≡ b) rs → AllByRecursion (λ r. not (counts pool all r) ≡ not b) rs
    not_each b [] h = tt
    not_each b (r ∷ rs) h = (ap not h.0, not_each b rs h.1)

    both_settled : (fs : Fields) (us : List Record) → AreFields pool all fs → AreUnknown pool all us → settled all (canon_fields pool all fs ++ us) ≡ canon_fields pool (opened_all all) fs ++ us
    both_settled fs us w h =
        settled-append all (canon_fields pool all fs) us ∙ ap (λ (rs : List Record). rs ++ settled all us) (settled_fields fs w)
        ∙ ap (λ (rs : List Record). canon_fields pool (opened_all all) fs ++ rs) (settled-same all us (unknown_all_whole us h))

    pub known_canon : (fs : Fields) (us : List Record) → AreFields pool all fs → AreUnknown pool all us → known pool all (canon_fields pool all fs ++ us) ≡ canon_fields pool (opened_all all) fs ++ []
    known_canon fs us w h =
        ap (filter (counts pool all)) (both_settled fs us w h) ∙ filter-append (counts pool all) (canon_fields pool (opened_all all) fs) us
        ∙ ap (λ (rs : List Record). rs ++ filter (counts pool all) us) (filter_all (counts pool all) (canon_fields pool (opened_all all) fs) (fields_count fs w))
        ∙ ap (λ (rs : List Record). canon_fields pool (opened_all all) fs ++ rs) (filter_none (counts pool all) us (none_counts us h))

    pub unknown_canon : (fs : Fields) (us : List Record) → AreFields pool all fs → AreUnknown pool all us → unknown pool all (canon_fields pool all fs ++ us) ≡ us
    unknown_canon fs us w h =
        ap (filter (λ (r : Record). not (counts pool all r))) (both_settled fs us w h) ∙ filter-append (λ (r : Record). not (counts pool all r)) (canon_fields pool (opened_all all) fs) us
        ∙ ap (λ (rs : List Record). rs ++ filter (λ (r : Record). not (counts pool all r)) us) (filter_none (λ (r : Record). not (counts pool all r)) (canon_fields pool (opened_all all) fs) (not_each true (canon_fields pool (opened_all all) fs) (fields_count fs w)))
        ∙ filter_all (λ (r : Record). not (counts pool all r)) us (not_each false us (none_counts us h))
