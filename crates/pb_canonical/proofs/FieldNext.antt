-- What is to be found where a field or a message comes first.
use Rattle.std.proofs.Common.{◌≡◌, ◌≢◌, ℕ, ◌+◌, ◌^◌, ◌<◌, ◌≤◌, List, [], ◌∷◌, ◌++◌, length, refl, ap, sym, subst, ◌∙◌, append_assoc, append-nil, length-append, arith, inl, inr, Option, Some, None}
use Rattle.std.specs.Prelude.{Bool, true, false, not, ◌&&◌, ◌||◌, ◌==◌, ◌⊎◌, IsTrue, IsSomeAnd}
use Rattle.std.specs.Int.{IsBitSet}
use Rattle.pb_wire.specs.Record.{Payload, len, Record, wire_type, records_depth}
use Rattle.pb_wire.specs.Ranges.{IsNumber, IsInRange, AreInRange}
use Rattle.pb_wire.specs.Spell.{shortest_record, shortest_records}
use Rattle.pb_schema.specs.declared.types.Kind.{Kind}
use Rattle.pb_schema.specs.declared.types.Kind.TheVariants as kind
use Rattle.pb_schema.specs.declared.types.EnumId.{EnumId}
use Rattle.pb_schema.specs.declared.types.Shape.{Shape}
use Rattle.pb_schema.specs.declared.types.Shape.TheVariants as shape
use Rattle.pb_schema.specs.Types.{FieldView, Types, message_fields, field_numbered}
use Rattle.pb_schema.specs.Kinds.{wire_type_of, is_packable, is_of_proto2, closed_enum, message_of_kind}
use Rattle.pb_schema.specs.Fits.{fits_shape, fits_type}
use Rattle.pb_schema.specs.Closed.{counts, closed_shaped, is_undeclared}
use Rattle.pb_schema.specs.Rules.{IsPool, IsFieldOf, MayBeImplicit, MayBePacked, MayBeValue}
use Rattle.pb_schema.proofs.LookupLemmas.{found_field}
use Rattle.pb_value.specs.Data.{Datum, Datums, no_datums, datum, Entries, no_entries, entry, Holding, one, list, map, Fields, no_fields, field, Message, body, holding_depth, fields_depth, message_depth}
use Rattle.pb_value.specs.Canon.{sealed, record_of, is_packed, key_kind, by_field, payload_of, packed_bytes, canon_each, canon_entries, canon_holding, canon_fields, canon_bytes}
use Rattle.pb_value.specs.WellFormed.{IsOfShape, IsHeld, AreFields, AreEntries, KeysRise, IsBody, RisesFrom, HasNoMember, HasOneMemberEach, holds_declared, datum_declared, datums_declared, oneof_of}
use Rattle.pb_value.specs.Judge.Forms.{is_default_datum}
use Rattle.pb_value.proofs.BytesLemmas.{both}
use Rattle.pb_value.proofs.Options.{some_of}
use Rattle.pb_value.proofs.Numbers.{found_number, self_equal}
use Rattle.pb_value.proofs.ChangeLemmas.{oneof_at-shape}
use Rattle.pb_value.proofs.HeldBack.{field_with, wire_type-payload_of}
use Rattle.pb_canonical.specs.Canonical.{IsCanonical}
use Rattle.pb_canonical.specs.Parts.{tagged, payload_bytes, IsPayloadAt, IsStop, IsEnd, EndsAt, GoesNoFurther, record_type, GoesTogether, entry_records, ValueFirst, PackedFirst, SomeEach, SomeEntries, HeldFirst, OneMemberEach, FieldsFirst, UnknownsFirst, MessageFirst, InnerFirst, GroupFirst, IsMarked, IsTaken}
use Rattle.pb_canonical.proofs.SplitLemmas.{record_shorter, shortest_records-append}
use Rattle.pb_canonical.proofs.SameLemmas.{FirstTag, front_at, record_at, record_tag, all_left}
use Rattle.pb_canonical.proofs.UnknownLemmas.{counts_found, unknown_next, unknown_at, unknown_tag}
use Rattle.pb_canonical.proofs.ScalarLemmas.{default_off}
use Rattle.pb_canonical.proofs.OneofLemmas.{of_each, none_set, readable_fields}
use Rattle.pb_canonical.proofs.ValueNext.{wire_known, GivenNext, value_given, packed_next, datum_known}

-- RULES OF A FIELD

pub goes_together : (pool : Types) (m : ℕ) (f : FieldView) → IsFieldOf pool m f → GoesTogether pool f
goes_together pool m f h = record { number = (omega (arith, h.number.0), h.number.1); kind = h.kind; key = h.key; packed = h.packed; implicit = h.implicit; value = h.value }

rules_of : (pool : Types) (m n : ℕ) (f : FieldView) → IsPool pool → field_numbered n (message_fields pool m) ≡ Some f → IsFieldOf pool m f
rules_of pool m n f rules found = found_field pool m (λ (g : FieldView). g.number == n) f rules found

either_true : (b : Bool) → (true || b) ≡ true
either_true b = refl

pub type_fits : (s : Shape) (k : Kind) → fits_shape s k (record_type s k) ≡ true
type_fits (shape.Map key) k = refl
type_fits (shape.List p) k = ap (λ (b : Bool). b || (is_packable k && (wire_type_of k == 2))) (self_equal (wire_type_of k))
type_fits shape.Explicit k = self_equal (wire_type_of k)
type_fits shape.Implicit k = self_equal (wire_type_of k)
type_fits (shape.OneofMember o) k = self_equal (wire_type_of k)

type_known : (s : Shape) (k : Kind) → (record_type s k < 8) × (record_type s k ≢ 4)
type_known (shape.Map key) k = (omega arith, λ e. absurd (omega (arith, e)))
type_known (shape.List p) k = wire_known k
type_known shape.Explicit k = wire_known k
type_known shape.Implicit k = wire_known k
type_known (shape.OneofMember o) k = wire_known k

never_four : (k : Kind) → (4 == wire_type_of k) ≡ false
never_four (kind.Group m) = refl
never_four k = refl

four_unfit : (k : Kind) (b : Bool) → ((4 == wire_type_of k) || (b && false)) ≡ false
four_unfit k true = ap (λ (x : Bool). x || false) (never_four k)
four_unfit k false = ap (λ (x : Bool). x || false) (never_four k)

-- no end tag fits a field
pub no_end_fits : (s : Shape) (k : Kind) → fits_shape s k 4 ≡ false
no_end_fits (shape.Map key) k = refl
no_end_fits (shape.List p) k = four_unfit k (is_packable k)
no_end_fits shape.Explicit k = never_four k
no_end_fits shape.Implicit k = never_four k
no_end_fits (shape.OneofMember o) k = never_four k

value_closed : (k : Kind) → is_of_proto2 k ≡ false → closed_enum k ≡ None
value_closed (kind.ClosedEnum e) h = absurd (cc)
value_closed k h = refl

pub open_enum : (k : Kind) → ((e : EnumId) → k ≢ kind.ClosedEnum e) → closed_enum k ≡ None
open_enum (kind.ClosedEnum e) h = absurd (h e refl)
open_enum k h = refl

pub closed_same : (s : Shape) (k : Kind) → MayBeValue s k → closed_shaped s k ≡ closed_enum k
closed_same (shape.Map key) k h = sym (value_closed k h)
closed_same (shape.List p) k h = refl
closed_same shape.Explicit k h = refl
closed_same shape.Implicit k h = refl
closed_same (shape.OneofMember o) k h = refl

-- HELD BY A FIELD OF A SHAPE

pub implicit_scalar : (s : Shape) (k : Kind) → s ≡ shape.Implicit → MayBeImplicit s k → message_of_kind k ≡ None
implicit_scalar s k is h = by_kind k (subst (λ (t : Shape). MayBeImplicit t k) is h)
  where
    by_kind : (k : Kind) → MayBeImplicit shape.Implicit k → message_of_kind k ≡ None
    by_kind (kind.Message m) h = absurd h
    by_kind (kind.Group m) h = absurd h
    by_kind k h = refl

explicit_one : (h : Holding) → IsOfShape shape.Explicit h → (d : Datum) × (h ≡ one d)
explicit_one (one d) w = (d, refl)
explicit_one (list ds) w = absurd w
explicit_one (map es) w = absurd w

implicit_one : (h : Holding) → IsOfShape shape.Implicit h → (d : Datum) × (h ≡ one d) × (is_default_datum d ≡ false)
implicit_one (one d) w = (d, refl, w)
implicit_one (list ds) w = absurd w
implicit_one (map es) w = absurd w

member_one : (o : ℕ) (h : Holding) → IsOfShape (shape.OneofMember o) h → (d : Datum) × (h ≡ one d)
member_one o (one d) w = (d, refl)
member_one o (list ds) w = absurd w
member_one o (map es) w = absurd w

list_some : (p : Bool) (h : Holding) → IsOfShape (shape.List p) h → (ds : Datums) × (h ≡ list ds) × (ds ≢ no_datums)
list_some p (one d) w = absurd w
list_some p (map es) w = absurd w
list_some p (list no_datums) w = absurd w
list_some p (list (datum d ds)) w = (datum d ds, refl, λ e. absurd (cc))

map_some : (key : Kind) (h : Holding) → IsOfShape (shape.Map key) h → (es : Entries) × (h ≡ map es) × (es ≢ no_entries)
map_some key (one d) w = absurd w
map_some key (list ds) w = absurd w
map_some key (map no_entries) w = absurd w
map_some key (map (entry x d es)) w = (entry x d es, refl, λ e. absurd (cc))

-- a single value of a field
value_held : (pool : Types) (f : FieldView) (levels : ℕ) (b s : List ℕ) (d : Datum) → (h : HeldFirst pool f levels b s) → h.held ≡ one d → ValueFirst pool f.kind f.number levels b s
value_held pool f levels b s d h e = record {
  value = d;
  within = subst (λ (g : Holding). IsHeld pool f.shape f.kind g) e h.within;
  declared = subst (λ (g : Holding). holds_declared pool f.kind g ≡ true) e h.declared;
  deep = subst (λ (g : Holding). holding_depth g ≤ levels) e h.deep;
  split =
      subst (λ (g : Holding). b ≡ shortest_records (canon_holding pool f g) ++ s) e h.split
      ∙ ap (λ (l : List ℕ). l ++ s) (append-nil (shortest_record f.number (payload_of pool f.kind d)));
}

pub explicit_back : (pool : Types) (f : FieldView) (levels : ℕ) (b s : List ℕ) → f.shape ≡ shape.Explicit → HeldFirst pool f levels b s → ValueFirst pool f.kind f.number levels b s
explicit_back pool f levels b s is h =
    let g = explicit_one h.held (subst (λ (t : Shape). IsOfShape t h.held) is h.of_shape) in value_held pool f levels b s g.0 h g.1

pub member_back : (pool : Types) (f : FieldView) (o levels : ℕ) (b s : List ℕ) → f.shape ≡ shape.OneofMember o → HeldFirst pool f levels b s → ValueFirst pool f.kind f.number levels b s
member_back pool f o levels b s is h =
    let g = member_one o h.held (subst (λ (t : Shape). IsOfShape t h.held) is h.of_shape) in value_held pool f levels b s g.0 h g.1

pub implicit_back :
    (pool : Types) (f : FieldView) (n w levels : ℕ) (b s : List ℕ) → f.shape ≡ shape.Implicit → MayBeImplicit f.shape f.kind → f.number ≡ n → n < 2 ^ 32 → w < 256
    → HeldFirst pool f levels (tagged n w b) s → GivenNext pool f.kind w b s
unfolding value_held
implicit_back pool f n w levels b s is can same small byte h =
    let g = implicit_one h.held (subst (λ (t : Shape). IsOfShape t h.held) is h.of_shape) in
    let v = value_held pool f levels (tagged n w b) s g.0 h g.1 in
    value_given pool f.kind f.number w levels b s (implicit_scalar f.shape f.kind is can) (omega (arith, same, small)) byte
    (subst (λ (i : ℕ). ValueFirst pool f.kind f.number levels (tagged i w b) s) (sym same) v) g.2

pub packed_back : (pool : Types) (f : FieldView) (levels : ℕ) (b s : List ℕ) → f.shape ≡ shape.List true → MayBePacked f.shape f.kind → HeldFirst pool f levels b s → PackedFirst pool f.kind f.number b s
packed_back pool f levels b s is can h =
    let g = list_some true h.held (subst (λ (t : Shape). IsOfShape t h.held) is h.of_shape) in
    let ds = g.0 in
    let first : b ≡ shortest_records (canon_holding pool f (list ds)) ++ s = subst (λ (x : Holding). b ≡ shortest_records (canon_holding pool f x) ++ s) g.1 h.split in
    packed_next pool f.kind f.number levels ds b s (subst (λ (t : Shape). MayBePacked t f.kind) is can) (subst (λ (x : Holding). IsHeld pool f.shape f.kind x) g.1 h.within)
    (subst (λ (x : Holding). holds_declared pool f.kind x ≡ true) g.1 h.declared) g.2
    (subst (λ (t : Shape). b ≡ shortest_records (canon_holding pool (field_with f.name f.number f.kind t) (list ds)) ++ s) is first
    ∙ ap (λ (l : List ℕ). l ++ s) (append-nil (shortest_record f.number (len (packed_bytes f.kind ds)))))

pub list_back : (pool : Types) (f : FieldView) (levels : ℕ) (b s : List ℕ) → f.shape ≡ shape.List false → HeldFirst pool f levels b s → SomeEach pool f levels b s
list_back pool f levels b s is h =
    let g = list_some false h.held (subst (λ (t : Shape). IsOfShape t h.held) is h.of_shape) in
    let ds = g.0 in
    let first : b ≡ shortest_records (canon_holding pool f (list ds)) ++ s = subst (λ (x : Holding). b ≡ shortest_records (canon_holding pool f x) ++ s) g.1 h.split in
    record {
      each = record {
        values = ds;
        within = subst (λ (x : Holding). IsHeld pool f.shape f.kind x) g.1 h.within;
        declared = subst (λ (x : Holding). holds_declared pool f.kind x ≡ true) g.1 h.declared;
        deep = subst (λ (x : Holding). holding_depth x ≤ levels) g.1 h.deep;
        split = rw (ap is_packed is) at first;
      };
      some = g.2;
    }

pub map_back : (pool : Types) (f : FieldView) (key : Kind) (levels : ℕ) (b s : List ℕ) → f.shape ≡ shape.Map key → HeldFirst pool f levels b s → SomeEntries pool f levels b s
map_back pool f key levels b s is h =
    let g = map_some key h.held (subst (λ (t : Shape). IsOfShape t h.held) is h.of_shape) in
    let es = g.0 in
    let kinds : key_kind f.shape f.kind ≡ key = ap (λ (t : Shape). key_kind t f.kind) is in
    let held : AreEntries pool key f.kind es × KeysRise es = subst (λ (t : Shape). IsHeld pool t f.kind (map es)) is (subst (λ (x : Holding). IsHeld pool f.shape f.kind x) g.1 h.within) in
    record {
      each = record {
        entries = es;
        within = subst (λ (k : Kind). AreEntries pool k f.kind es) (sym kinds) held.0;
        rise = held.1;
        deep = subst (λ (x : Holding). holding_depth x ≤ levels) g.1 h.deep;
        split = subst (λ (x : Holding). b ≡ shortest_records (canon_holding pool f x) ++ s) g.1 h.split;
      };
      some = g.2;
    }

-- where a list or a map goes no further
pub list_ends :
    (pool : Types) (f : FieldView) (n w : ℕ) (s : List ℕ) → f.shape ≡ shape.List false → f.number ≡ n → wire_type_of f.kind ≡ w → GoesNoFurther pool f s → EndsAt pool (closed_enum f.kind) n w s
list_ends pool f n w s is same type far =
    subst (λ (v : ℕ). EndsAt pool (closed_enum f.kind) n v s) type
    (subst (λ (i : ℕ). EndsAt pool (closed_enum f.kind) i (wire_type_of f.kind) s) same
    (subst (λ (t : Shape). EndsAt pool (closed_shaped t f.kind) f.number (record_type t f.kind) s) is far))

pub map_ends : (pool : Types) (f : FieldView) (key : Kind) (n w : ℕ) (s : List ℕ) → f.shape ≡ shape.Map key → f.number ≡ n → w ≡ 2 → GoesNoFurther pool f s → EndsAt pool None n w s
map_ends pool f key n w s is same type far =
    subst (λ (v : ℕ). EndsAt pool None n v s) (sym type)
    (subst (λ (i : ℕ). EndsAt pool None i 2 s) same (subst (λ (t : Shape). EndsAt pool (closed_shaped t f.kind) f.number (record_type t f.kind) s) is far))

-- THE FIRST RECORD OF A FIELD

pub record FirstRecord (pool : Types) (f : FieldView) (rs : List Record) : Type 0 where
  pub payload : Payload
  pub others : List Record
  pub listed : rs ≡ record_of f.number payload ∷ others
  pub fits : fits_type f (wire_type payload) ≡ true
  pub declared : is_undeclared pool (closed_shaped f.shape f.kind) payload ≡ false

single_fits : (k : Kind) (w : ℕ) → w ≡ wire_type_of k → (w == wire_type_of k) ≡ true
single_fits k w e = ap (λ (v : ℕ). v == wire_type_of k) e ∙ self_equal (wire_type_of k)

packed_fits : (k : Kind) → IsTrue (is_packable k) → ((2 == wire_type_of k) || (is_packable k && true)) ≡ true
packed_fits k can = ap (λ (b : Bool). (2 == wire_type_of k) || (b && true)) can ∙ either (2 == wire_type_of k)
  where
    either : (b : Bool) → (b || true) ≡ true
    either true = refl
    either false = refl

no_length : (pool : Types) (o : Option ℕ) (s : List ℕ) → is_undeclared pool o (len s) ≡ false
no_length pool None s = refl
no_length pool (Some e) s = refl

first_by :
    (pool : Types) (name : List ℕ) (n : ℕ) (k : Kind) (t : Shape) (h : Holding) → MayBePacked t k → IsOfShape t h → IsHeld pool t k h → holds_declared pool k h ≡ true
    → FirstRecord pool (field_with name n k t) (canon_holding pool (field_with name n k t) h)
first_by pool name n k shape.Implicit (one d) can shaped w declared =
    record { payload = payload_of pool k d; others = []; listed = refl; fits = single_fits k (wire_type (payload_of pool k d)) (wire_type-payload_of pool k d w); declared = datum_known pool k d w declared }
first_by pool name n k shape.Explicit (one d) can shaped w declared =
    record { payload = payload_of pool k d; others = []; listed = refl; fits = single_fits k (wire_type (payload_of pool k d)) (wire_type-payload_of pool k d w); declared = datum_known pool k d w declared }
first_by pool name n k (shape.OneofMember o) (one d) can shaped w declared =
    record { payload = payload_of pool k d; others = []; listed = refl; fits = single_fits k (wire_type (payload_of pool k d)) (wire_type-payload_of pool k d w); declared = datum_known pool k d w declared }
first_by pool name n k (shape.List true) (list (datum d ds)) can shaped w declared = record {
  payload = len (packed_bytes k (datum d ds));
  others = [];
  listed = refl;
  fits = packed_fits k can;
  declared = no_length pool (closed_enum k) (packed_bytes k (datum d ds));
}
first_by pool name n k (shape.List false) (list (datum d ds)) can shaped w declared = record {
  payload = payload_of pool k d;
  others = canon_each pool (field_with name n k (shape.List false)) ds;
  listed = refl;
  fits = ap (λ (b : Bool). b || (is_packable k && (wire_type (payload_of pool k d) == 2))) (single_fits k (wire_type (payload_of pool k d)) (wire_type-payload_of pool k d w.0));
  declared = datum_known pool k d w.0 (both (datum_declared pool k d) (datums_declared pool k ds) declared).0;
}
first_by pool name n k (shape.Map key) (map (entry x d es)) can shaped w declared = record {
  payload = sealed (entry_records pool key k x d);
  others = canon_entries pool (field_with name n k (shape.Map key)) es;
  listed = refl;
  fits = refl;
  declared = refl;
}
first_by pool name n k t h can shaped w declared = absurd shaped

-- ENDS

as_unknowns : (pool : Types) (m : ℕ) (s : List ℕ) (end : IsEnd pool m s) → UnknownsFirst pool m (records_depth end.records) s end.rest
as_unknowns pool m s end = record { records = end.records; unknown = end.unknown; deep = omega arith; split = end.split }

not_both : (x y : Bool) → x ≡ true → (x && not y) ≡ false → y ≡ true
not_both true true e h = refl
not_both true false e h = absurd (cc)
not_both false y e h = absurd (cc)

-- records of a field's number and type at the end of fields are of numbers that its closed enum does not declare
end_of :
    (pool : Types) (m : ℕ) (f : FieldView) (s : List ℕ) → IsPool pool → field_numbered f.number (message_fields pool m) ≡ Some f → IsNumber f.number → IsEnd pool m s → GoesNoFurther pool f s
end_of pool m f s rules found number end = λ t e.
    let w = record_type f.shape f.kind in
    let known = type_known f.shape f.kind in
    let deep = records_depth end.records in
    let next = unknown_next pool m f.number w deep s t end.rest end.stop (omega (arith, number.1)) known.0 known.1 e (as_unknowns pool m s end) in
    let p = next.first.payload in
    let at = unknown_at pool m f.number w deep t next.mid (omega (arith, number.1)) (omega (arith, known.0)) next.first in
    let fit : fits_type f (wire_type p) ≡ true = ap (fits_type f) at.type ∙ type_fits f.shape f.kind in
    record {
      payload = p;
      rest = next.mid;
      at = at;
      undeclared = not_both (fits_type f (wire_type p)) (is_undeclared pool (closed_shaped f.shape f.kind) p) fit (sym (counts_found pool m f (record_of f.number p) rules found) ∙ next.first.unknown.3);
    }

-- no record at the end of fields counts
end_counted :
    (pool : Types) (m n w : ℕ) (f : FieldView) (s after : List ℕ) → n < 2 ^ 32 → w < 8 → fits_type f w ≡ true → s ≡ tagged n w after
    → ((p : Payload) (t : List ℕ) → IsPayloadAt n w p after t → counts pool (message_fields pool m) (record_of n p) ≡ true) → IsEnd pool m s → ⊥
end_counted pool m n w f s after small byte fit e counting end =
    let deep = records_depth end.records in
    let other : w ≢ 4 = λ q. default_off (sym (subst (λ (v : ℕ). fits_type f v ≡ true) q fit) ∙ no_end_fits f.shape f.kind) in
    let next = unknown_next pool m n w deep s after end.rest end.stop small byte other e (as_unknowns pool m s end) in
    let at = unknown_at pool m n w deep after next.mid small (omega (arith, byte)) next.first in
    default_off (sym (counting next.first.payload next.mid at) ∙ next.first.unknown.3)

-- FIELDS

held_at :
    (pool : Types) (all : List FieldView) (n : ℕ) (h : Holding)
    → IsSomeAnd (field_numbered n all) (λ (f : FieldView). IsOfShape f.shape h × IsHeld pool f.shape f.kind h × (holds_declared pool f.kind h ≡ true))
    → (f : FieldView) × (field_numbered n all ≡ Some f) × (IsOfShape f.shape h × IsHeld pool f.shape f.kind h × (holds_declared pool f.kind h ≡ true))
held_at pool all n h w = some_of (field_numbered n all) (λ (f : FieldView). IsOfShape f.shape h × IsHeld pool f.shape f.kind h × (holds_declared pool f.kind h ≡ true)) w

-- the records of the first field, and those of the others
holding_split :
    (pool : Types) (all : List FieldView) (n : ℕ) (h : Holding) (fs : Fields) (g : FieldView) (s : List ℕ) → field_numbered n all ≡ Some g
    → shortest_records (canon_fields pool all (field n h fs)) ++ s ≡ shortest_records (canon_holding pool g h) ++ (shortest_records (canon_fields pool all fs) ++ s)
holding_split pool all n h fs g s found =
    ap (λ (o : Option FieldView). shortest_records (by_field o (λ (f : FieldView). canon_holding pool f h) ++ canon_fields pool all fs) ++ s) found
    ∙ ap (λ (l : List ℕ). l ++ s) (shortest_records-append (canon_holding pool g h) (canon_fields pool all fs))
    ∙ append_assoc (shortest_records (canon_holding pool g h)) (shortest_records (canon_fields pool all fs)) s

-- the first record, and the others
record_split_off :
    (pool : Types) (g : FieldView) (h : Holding) (p : Payload) (others : List Record) (mid : List ℕ) → canon_holding pool g h ≡ record_of g.number p ∷ others
    → shortest_records (canon_holding pool g h) ++ mid ≡ shortest_record g.number p ++ (shortest_records others ++ mid)
record_split_off pool g h p others mid listed =
    ap (λ (rs : List Record). shortest_records rs ++ mid) listed ∙ append_assoc (shortest_record g.number p) (shortest_records others) mid

-- a field that rises goes no further than its records
further_of :
    (pool : Types) (m : ℕ) (f : FieldView) (fs : Fields) (s : List ℕ) → IsPool pool → field_numbered f.number (message_fields pool m) ≡ Some f → IsNumber f.number → RisesFrom (f.number + 1) fs
    → AreFields pool (message_fields pool m) fs → IsEnd pool m s → GoesNoFurther pool f (shortest_records (canon_fields pool (message_fields pool m) fs) ++ s)
further_of pool m f no_fields s rules found number rise w end = end_of pool m f s rules found number end
further_of pool m f (field k h fs) s rules found number rise w end = λ t e.
    let all = message_fields pool m in
    let g = held_at pool all k h w.0 in
    let own = rules_of pool m k g.0 rules g.1 in
    let first = first_by pool g.0.name g.0.number g.0.kind g.0.shape h own.packed g.2.0 g.2.1 g.2.2 in
    let known = type_known f.shape f.kind in
    let same = found_number k all g.0 g.1 in
    let mid = shortest_records (canon_fields pool all fs) ++ s in
    let split = holding_split pool all k h fs g.0 s g.1 ∙ record_split_off pool g.0 h first.payload first.others mid first.listed in
    let at =
    front_at f.number (record_type f.shape f.kind) g.0.number first.payload (shortest_records (canon_fields pool all (field k h fs)) ++ s) t (shortest_records first.others ++ mid) (let low = own.number.1 in omega (arith, low))
    (omega (arith, number.1)) known.0 e split in
    absurd (let low = rise.0 in omega (arith, low, same, at.0))

-- the first field, and those after it
pub record FieldNext (pool : Types) (m next marks levels n : ℕ) (f : FieldView) (b s : List ℕ) : Type 0 where
  pub found : field_numbered n (message_fields pool m) ≡ Some f
  pub mid : List ℕ
  pub rises : next ≤ n
  pub held : HeldFirst pool f levels b mid
  pub further : GoesNoFurther pool f mid
  pub free : IsTaken (oneof_of f.shape) 0 marks → ⊥
  pub later : (new : ℕ) → IsMarked (oneof_of f.shape) 0 marks new → FieldsFirst pool m (n + 1) new levels mid s
  pub payload : Payload
  pub rest : List ℕ
  pub split : b ≡ shortest_record n payload ++ rest
  pub number : IsNumber n
  pub in_range : IsInRange payload
  pub counting : counts pool (message_fields pool m) (record_of n payload) ≡ true

pub record SomeField (pool : Types) (m next marks levels : ℕ) (b s : List ℕ) : Type 0 where
  pub number : ℕ
  pub field : FieldView
  pub first : FieldNext pool m next marks levels number field b s

next_of :
    (pool : Types) (m next marks levels : ℕ) (fs : Fields) (b s : List ℕ) → IsPool pool → AreFields pool (message_fields pool m) fs → RisesFrom next fs → OneMemberEach (message_fields pool m) 128 fs
    → ((o : ℕ) → o < 128 → IsBitSet marks o → HasNoMember (message_fields pool m) o fs) → fields_depth fs ≤ levels → b ≡ shortest_records (canon_fields pool (message_fields pool m) fs) ++ s → IsEnd pool m s
    → (b ≡ s) ⊎ SomeField pool m next marks levels b s
next_of pool m next marks levels no_fields b s rules w rise one_each apart deep e end = inl e
next_of pool m next marks levels (field k h fs) b s rules w rise one_each apart deep e end =
    let all = message_fields pool m in
    let g = held_at pool all k h w.0 in
    let own = rules_of pool m k g.0 rules g.1 in
    let same = found_number k all g.0 g.1 in
    let first = first_by pool g.0.name g.0.number g.0.kind g.0.shape h own.packed g.2.0 g.2.1 g.2.2 in
    let mid = shortest_records (canon_fields pool all fs) ++ s in
    let rest = shortest_records first.others ++ mid in
    let held_split : b ≡ shortest_records (canon_holding pool g.0 h) ++ mid = e ∙ holding_split pool all k h fs g.0 s g.1 in
    let split : b ≡ shortest_record g.0.number first.payload ++ rest = held_split ∙ record_split_off pool g.0 h first.payload first.others mid first.listed in
    let number : IsNumber g.0.number = (let low = own.number.0 in omega (arith, low), own.number.1) in
    let member = oneof_at-shape all k g.0 g.1 in
    inr
    (record {
      number = k;
      field = g.0;
      first = record {
        found = g.1;
        mid = mid;
        rises = rise.0;
        held = record {
          held = h;
          of_shape = g.2.0;
          within = g.2.1;
          declared = g.2.2;
          deep = omega (arith, deep);
          shorter = let tail = record_shorter g.0.number first.payload b rest split in omega (arith, tail, length-append (shortest_records first.others) mid);
          split = held_split;
        };
        further =
            further_of pool m g.0 fs s rules (ap (λ (i : ℕ). field_numbered i all) same ∙ g.1) number (subst (λ (i : ℕ). RisesFrom (i + 1) fs) (sym same) rise.1) w.1 end;
        free = λ taken. (apart taken.index taken.below taken.set).0 (member ∙ taken.member ∙ ap Some (omega arith));
        later = λ new marked. record {
          fields = fs;
          within = w.1;
          rise = rise.1;
          one_each = λ o l. (one_each o l).1;
          apart = λ o l set. elim (marked.only o set) [ inl old ↦ (apart o l old).1 | inr q ↦ (one_each o l).0 (member ∙ q ∙ ap Some (omega arith)) ];
          deep = omega (arith, deep);
          split = refl;
        };
        payload = first.payload;
        rest = rest;
        split = split ∙ ap (λ (i : ℕ). shortest_record i first.payload ++ rest) same;
        number = subst IsNumber same number;
        in_range =
            (subst (λ (rs : List Record). AreInRange (rs ++ canon_fields pool all fs)) first.listed
            (subst (λ (o : Option FieldView). AreInRange (by_field o (λ (f : FieldView). canon_holding pool f h) ++ canon_fields pool all fs)) g.1 (readable_fields pool m levels (field k h fs) rules w deep).in_range)).0;
        counting =
            counts_found pool m g.0 (record_of k first.payload) rules g.1
            ∙ ap (λ (x : Bool). x && not (is_undeclared pool (closed_shaped g.0.shape g.0.kind) first.payload)) first.fits ∙ ap not first.declared;
      };
    })

pub fields_case :
    (pool : Types) (m next marks levels : ℕ) (b s : List ℕ) → IsPool pool → IsEnd pool m s → FieldsFirst pool m next marks levels b s → (b ≡ s) ⊎ SomeField pool m next marks levels b s
fields_case pool m next marks levels b s rules end h = next_of pool m next marks levels h.fields b s rules h.within h.rise h.one_each h.apart h.deep h.split end

-- some tag comes first
pub fields_tag : (pool : Types) (m next marks levels : ℕ) (b s : List ℕ) → IsPool pool → IsEnd pool m s → 0 < length b → FieldsFirst pool m next marks levels b s → FirstTag b
fields_tag pool m next marks levels b s rules end some h = by_case (fields_case pool m next marks levels b s rules end h)
  where
    by_case : (b ≡ s) ⊎ SomeField pool m next marks levels b s → FirstTag b
    by_case (inl e) =
        unknown_tag pool m (records_depth end.records) b end.rest end.stop some (record { records = end.records; unknown = end.unknown; deep = omega arith; split = e ∙ end.split })
    by_case (inr f) = record_tag f.number f.first.payload b f.first.rest f.first.number f.first.split

-- where no record of the tag counts, the fields have ended
pub fields_ended :
    (pool : Types) (m next marks levels n w : ℕ) (b after s : List ℕ) → IsPool pool → n < 2 ^ 32 → w < 8 → b ≡ tagged n w after
    → ((p : Payload) (t : List ℕ) → IsPayloadAt n w p after t → counts pool (message_fields pool m) (record_of n p) ≡ false) → IsEnd pool m s → FieldsFirst pool m next marks levels b s → b ≡ s
fields_ended pool m next marks levels n w b after s rules small byte e none end h = by_case (fields_case pool m next marks levels b s rules end h)
  where
    by_case : (b ≡ s) ⊎ SomeField pool m next marks levels b s → b ≡ s
    by_case (inl same) = same
    by_case (inr f) =
        let p = f.first.payload in
        let at = record_at n w f.number p b after f.first.rest f.first.number small byte f.first.in_range e f.first.split in
        let counting : counts pool (message_fields pool m) (record_of n p) ≡ true = ap (λ (i : ℕ). counts pool (message_fields pool m) (record_of i p)) at.0 ∙ f.first.counting in
        absurd (default_off (sym counting ∙ none p f.first.rest (subst (λ (i : ℕ). IsPayloadAt i w p after f.first.rest) (sym at.0) at.1)))

-- where the records of the tag count for a field, the fields go on with it
pub fields_go_on :
    (pool : Types) (m next marks levels n w : ℕ) (f : FieldView) (b after s : List ℕ) → IsPool pool → n < 2 ^ 32 → w < 8 → b ≡ tagged n w after → field_numbered n (message_fields pool m) ≡ Some f
    → fits_type f w ≡ true → ((p : Payload) (t : List ℕ) → IsPayloadAt n w p after t → counts pool (message_fields pool m) (record_of n p) ≡ true) → IsEnd pool m s
    → FieldsFirst pool m next marks levels b s → FieldNext pool m next marks levels n f b s
fields_go_on pool m next marks levels n w f b after s rules small byte e found fit counting end h = by_case (fields_case pool m next marks levels b s rules end h)
  where
    by_case : (b ≡ s) ⊎ SomeField pool m next marks levels b s → FieldNext pool m next marks levels n f b s
    by_case (inl same) = absurd (end_counted pool m n w f s after small byte fit (sym same ∙ e) counting end)
    by_case (inr g) =
        let at = record_at n w g.number g.first.payload b after g.first.rest g.first.number small byte g.first.in_range e g.first.split in
        let here = subst (λ (i : ℕ). FieldNext pool m next marks levels i g.field b s) (sym at.0) g.first in
        let same : g.field ≡ f = (let one = sym here.found ∙ found in cc) in
        subst (λ (x : FieldView). FieldNext pool m next marks levels n x b s) same here

pub fields_left :
    (pool : Types) (m next marks levels n after new : ℕ) (f : FieldView) (b s rest : List ℕ) → (h : FieldNext pool m next marks levels n f b s) → after ≡ n + 1 → IsMarked (oneof_of f.shape) 0 marks new → rest ≡ h.mid
    → FieldsFirst pool m after new levels rest s
fields_left pool m next marks levels n after new f b s rest h up marked same =
    subst (λ (l : List ℕ). FieldsFirst pool m after new levels l s) (sym same) (subst (λ (i : ℕ). FieldsFirst pool m i new levels h.mid s) (sym up) (h.later new marked))

pub fields_none_left : (pool : Types) (m next marks levels : ℕ) (b s : List ℕ) → length b ≡ 0 → FieldsFirst pool m next marks levels b s → b ≡ s
fields_none_left pool m next marks levels b s none h = all_left (shortest_records (canon_fields pool (message_fields pool m) h.fields)) b s none h.split

-- MESSAGES

-- the fields of a message, and its unknown records
pub record MessageNext (pool : Types) (m levels : ℕ) (b s : List ℕ) : Type 0 where
  pub mid : List ℕ
  pub fields : FieldsFirst pool m 0 0 levels b mid
  pub each : HasOneMemberEach (message_fields pool m) fields.fields
  pub unknowns : UnknownsFirst pool m levels mid s
  pub end : IsStop s → IsEnd pool m mid

message_of : (pool : Types) (m levels : ℕ) (v : Message) (b s : List ℕ) → IsBody pool m v → message_depth v ≤ levels → b ≡ canon_bytes pool m v ++ s → MessageNext pool m levels b s
message_of pool m levels (body fs us) b s w deep e =
    let all = message_fields pool m in
    record {
      mid = shortest_records us ++ s;
      fields = record {
        fields = fs;
        within = w.0;
        rise = w.1;
        one_each = λ o l. of_each all fs w.2 o;
        apart = λ o l set. absurd (none_set o set);
        deep = omega (arith, deep);
        split =
            e ∙ ap (λ (l : List ℕ). l ++ s) (shortest_records-append (canon_fields pool all fs) us) ∙ append_assoc (shortest_records (canon_fields pool all fs)) (shortest_records us) s;
      };
      each = w.2;
      unknowns = record { records = us; unknown = w.3; deep = omega (arith, deep); split = refl };
      end = λ stop. record { records = us; unknown = w.3; rest = s; stop = stop; split = refl };
    }

pub message_next : (pool : Types) (m levels : ℕ) (b s : List ℕ) → MessageFirst pool m levels b s → MessageNext pool m levels b s
message_next pool m levels b s h = message_of pool m levels h.message b s h.within h.deep h.split

-- a message after its length
pub record InnerNext (pool : Types) (m levels : ℕ) (b s : List ℕ) : Type 0 where
  pub some : 0 < levels
  pub inside : List ℕ
  pub split : b ≡ payload_bytes (len inside) ++ s
  pub message : (below : ℕ) → levels ≡ below + 1 → MessageFirst pool m below inside []

pub inner_next : (pool : Types) (m levels : ℕ) (b s : List ℕ) → InnerFirst pool m levels b s → InnerNext pool m levels b s
inner_next pool m levels b s h = record {
  some = let deep = h.deep in omega (arith, deep);
  inside = canon_bytes pool m h.message;
  split = h.split;
  message = λ below e. record { message = h.message; within = h.within; deep = let deep = h.deep in omega (arith, deep, e); split = sym (append-nil (canon_bytes pool m h.message)) };
}

-- a message that is a group
pub record GroupBodyNext (pool : Types) (m n levels : ℕ) (b s : List ℕ) : Type 0 where
  pub some : 0 < levels
  pub message : (below : ℕ) → levels ≡ below + 1 → MessageFirst pool m below b (tagged n 4 s)

pub group_body_next : (pool : Types) (m n levels : ℕ) (b s : List ℕ) → GroupFirst pool m n levels b s → GroupBodyNext pool m n levels b s
group_body_next pool m n levels b s h = record {
  some = let deep = h.deep in omega (arith, deep);
  message = λ below e. record { message = h.message; within = h.within; deep = let deep = h.deep in omega (arith, deep, e); split = h.split };
}

pub canonical_next : (pool : Types) (m : ℕ) (b : List ℕ) → IsCanonical pool m b → MessageFirst pool m 100 b []
canonical_next pool m b h = record { message = h.message; within = h.well_formed.parts; deep = h.well_formed.depth; split = h.written ∙ sym (append-nil (canon_bytes pool m h.message)) }
