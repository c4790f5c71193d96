-- What is to be found where a value, a packed list, a list or a map comes first.
use Rattle.std.proofs.Common.{◌≡◌, ◌≢◌, ℕ, suc, ◌^◌, ◌<◌, ◌≤◌, List, [], ◌++◌, length, refl, ap, sym, subst, ◌∙◌, append_assoc, append-nil, length-append, arith, inl, inr, Option, None, Less}
use Rattle.std.specs.Prelude.{true, false, ◌⊎◌, IsTrue, IsSomeAnd}
use Rattle.std.specs.Int.{w64, cast_unsigned}
use Rattle.pb_wire.specs.Varint.{shortest}
use Rattle.pb_wire.specs.Record.{Payload, varint, fixed64, len, group, fixed32, wire_type}
use Rattle.pb_wire.specs.Ranges.{IsInRange}
use Rattle.pb_wire.specs.Spell.{shortest_record, shortest_records}
use Rattle.pb_schema.specs.declared.types.Kind.{Kind}
use Rattle.pb_schema.specs.declared.types.Kind.TheVariants as kind
use Rattle.pb_schema.specs.declared.types.MessageId.{MessageId}
use Rattle.pb_schema.specs.declared.types.Shape.{Shape}
use Rattle.pb_schema.specs.declared.types.Shape.TheVariants as shape
use Rattle.pb_schema.specs.Types.{FieldView, Types}
use Rattle.pb_schema.specs.Scalar.{Scalar, enum, key_cmp}
use Rattle.pb_schema.specs.Kinds.{wire_type_of, is_packable, is_key_kind, is_of_proto2, closed_enum, message_of_kind, written, IsOfKind}
use Rattle.pb_schema.specs.Closed.{is_declared, is_undeclared}
use Rattle.pb_schema.specs.Packed.{number_bytes, element_bytes}
use Rattle.pb_schema.specs.Rules.{IsPool}
use Rattle.pb_value.specs.Data.{Datum, scalar, message, Message, Datums, no_datums, datum, Entries, no_entries, entry, levels_of, levels_in_entry, datums_depth, entries_depth}
use Rattle.pb_value.specs.Canon.{sealed, key_kind, by_type, payload_of, packed_bytes, canon, canon_each, canon_entries}
use Rattle.pb_value.specs.WellFormed.{IsDatum, AreDatums, AreEntries, IsBody, IsBelow, KeysRise, datum_declared, datums_declared}
use Rattle.pb_value.specs.Judge.Forms.{is_default_datum}
use Rattle.pb_value.proofs.BytesLemmas.{both}
use Rattle.pb_value.proofs.Options.{some_of}
use Rattle.pb_value.proofs.HeldBack.{wire_type-payload_of}
use Rattle.pb_value.proofs.WrittenLemmas.{IsNumeric, IsNumeric-written, wire_type-written}
use Rattle.pb_value.proofs.CanonLemmas.{IsInRange-written, wrapped-good}
use Rattle.pb_value.proofs.BodyBack.{canon-good}
use Rattle.pb_canonical.specs.Parts.{tagged, payload_bytes, is_zero, follows, IsPayloadAt, IsWritten, ValueFirst, AreElements, PackedFirst, EachFirst, SomeEach, entry_records, EntryFirst, EntriesFirst, SomeEntries, InnerFirst, GroupFirst}
use Rattle.pb_canonical.proofs.SplitLemmas.{varint_shorter}
use Rattle.pb_canonical.proofs.SameLemmas.{front_same, plain_follows, record_follows}
use Rattle.pb_canonical.proofs.ScalarLemmas.{written_plain, given_written, number_fits}
use Rattle.pb_canonical.proofs.HeldLemmas.{number_payload}

-- KINDS

pub wire_known : (k : Kind) → (wire_type_of k < 8) × (wire_type_of k ≢ 4)
wire_known (kind.Group m) = (omega arith, λ e. absurd (omega (arith, e)))
wire_known k = (omega arith, λ e. absurd (omega (arith, e)))

pub not_message : (k : Kind) → ((m : MessageId) → k ≢ kind.Message m) → ((m : MessageId) → k ≢ kind.Group m) → message_of_kind k ≡ None
not_message (kind.Message m) a b = absurd (a m refl)
not_message (kind.Group m) a b = absurd (b m refl)
not_message k a b = refl

packable_plain : (k : Kind) → IsTrue (is_packable k) → (message_of_kind k ≡ None) × (wire_type_of k ≢ 2)
packable_plain (kind.Message m) h = absurd (cc)
packable_plain (kind.Group m) h = absurd (cc)
packable_plain kind.Text h = absurd (cc)
packable_plain kind.Bytes h = absurd (cc)
packable_plain k h = (refl, λ e. absurd (omega (arith, e)))

key_open : (k : Kind) → IsTrue (is_key_kind k) → closed_enum k ≡ None
key_open (kind.ClosedEnum e) h = absurd (cc)
key_open k h = refl

value_open : (k : Kind) → is_of_proto2 k ≡ false → closed_enum k ≡ None
value_open (kind.ClosedEnum e) h = absurd (cc)
value_open k h = refl

open_declared : (pool : Types) (k : Kind) (d : Datum) → closed_enum k ≡ None → datum_declared pool k d ≡ true
open_declared pool (kind.ClosedEnum e) d h = absurd (cc)
open_declared pool k (scalar x) h = refl
open_declared pool k (message m) h = refl

open_scalar : (pool : Types) (k : Kind) (x : Scalar) → closed_enum k ≡ None → is_declared pool k x ≡ true
open_scalar pool (kind.ClosedEnum e) x h = absurd (cc)
open_scalar pool k x h = refl

-- VALUES

-- what follows the tag of a value's record
pub value_at :
    (pool : Types) (k : Kind) (n w levels : ℕ) (b s : List ℕ) → n < 2 ^ 32 → w < 256 → (v : ValueFirst pool k n levels (tagged n w b) s)
    → (wire_type_of k ≡ w) × (b ≡ follows n (payload_of pool k v.value) s)
value_at pool k n w levels b s small byte v =
    let at = front_same n w (payload_of pool k v.value) b s small byte v.split in (sym (wire_type-payload_of pool k v.value v.within) ∙ at.0, at.1)

inner_of :
    (pool : Types) (m : MessageId) (d : Datum) (n levels : ℕ) (b s : List ℕ) → IsDatum pool (kind.Message m) d → levels_of d ≤ levels
    → b ≡ follows n (payload_of pool (kind.Message m) d) s → InnerFirst pool m.0 levels b s
inner_of pool m (scalar x) n levels b s w deep e = absurd w
inner_of pool m (message x) n levels b s w deep e = record { message = x; within = w; deep = omega (arith, deep); split = e }

pub value_inner :
    (pool : Types) (k : Kind) (m : MessageId) (n w levels : ℕ) (b s : List ℕ) → k ≡ kind.Message m → n < 2 ^ 32 → w < 256 → ValueFirst pool k n levels (tagged n w b) s
    → InnerFirst pool m.0 levels b s
value_inner pool k m n w levels b s is small byte v =
    inner_of pool m v.value n levels b s (subst (λ (j : Kind). IsDatum pool j v.value) is v.within) v.deep
    (subst (λ (j : Kind). b ≡ follows n (payload_of pool j v.value) s) is (value_at pool k n w levels b s small byte v).1)

group_of_value :
    (pool : Types) (m : MessageId) (d : Datum) (n levels : ℕ) (b s : List ℕ) → IsDatum pool (kind.Group m) d → levels_of d ≤ levels
    → b ≡ follows n (payload_of pool (kind.Group m) d) s → GroupFirst pool m.0 n levels b s
group_of_value pool m (scalar x) n levels b s w deep e = absurd w
group_of_value pool m (message x) n levels b s w deep e = record { message = x; within = w; deep = omega (arith, deep); split = e }

pub value_group :
    (pool : Types) (k : Kind) (m : MessageId) (n w levels : ℕ) (b s : List ℕ) → k ≡ kind.Group m → n < 2 ^ 32 → w < 256 → ValueFirst pool k n levels (tagged n w b) s
    → GroupFirst pool m.0 n levels b s
value_group pool k m n w levels b s is small byte v =
    group_of_value pool m v.value n levels b s (subst (λ (j : Kind). IsDatum pool j v.value) is v.within) v.deep
    (subst (λ (j : Kind). b ≡ follows n (payload_of pool j v.value) s) is (value_at pool k n w levels b s small byte v).1)

pub record ScalarNext (pool : Types) (k : Kind) (b s : List ℕ) : Type 0 where
  pub payload : Payload
  pub is : IsWritten pool k payload
  pub split : b ≡ payload_bytes payload ++ s

no_body : (pool : Types) (k : Kind) (x : Message) → message_of_kind k ≡ None → IsDatum pool k (message x) → ⊥
no_body pool k x none h = subst (λ (o : Option ℕ). IsSomeAnd o (λ (m : ℕ). IsBody pool m x)) none h

scalar_next :
    (pool : Types) (k : Kind) (x : Scalar) (n : ℕ) (b s : List ℕ) → IsOfKind k x → is_declared pool k x ≡ true → b ≡ follows n (written k x) s → IsWritten pool k (written k x) × (b ≡ payload_bytes (written k x) ++ s)
scalar_next pool k x n b s w declared e =
    let is : IsWritten pool k (written k x) = record { value = x; within = w; written = refl; declared = declared } in
    let plain = written_plain pool k (written k x) is in
    (is, e ∙ plain_follows n (written k x) s plain.plain)

scalar_of :
    (pool : Types) (k : Kind) (d : Datum) (n : ℕ) (b s : List ℕ) → message_of_kind k ≡ None → IsDatum pool k d → datum_declared pool k d ≡ true → b ≡ follows n (payload_of pool k d) s
    → ScalarNext pool k b s
scalar_of pool k (scalar x) n b s none w declared e = let next = scalar_next pool k x n b s w declared e in record { payload = written k x; is = next.0; split = next.1 }
scalar_of pool k (message x) n b s none w declared e = absurd (no_body pool k x none w)

pub value_scalar :
    (pool : Types) (k : Kind) (n w levels : ℕ) (b s : List ℕ) → message_of_kind k ≡ None → n < 2 ^ 32 → w < 256 → ValueFirst pool k n levels (tagged n w b) s → ScalarNext pool k b s
value_scalar pool k n w levels b s none small byte v =
    scalar_of pool k v.value n b s none v.within v.declared (value_at pool k n w levels b s small byte v).1

-- a value that is no default
pub record GivenNext (pool : Types) (k : Kind) (w : ℕ) (b s : List ℕ) : Type 0 where
  pub payload : Payload
  pub type : wire_type_of k ≡ w
  pub is : IsWritten pool k payload
  pub given : is_zero payload ≡ false
  pub split : b ≡ payload_bytes payload ++ s

given_of :
    (pool : Types) (k : Kind) (d : Datum) (n w : ℕ) (b s : List ℕ) → message_of_kind k ≡ None → wire_type_of k ≡ w → IsDatum pool k d → datum_declared pool k d ≡ true → is_default_datum d ≡ false
    → b ≡ follows n (payload_of pool k d) s → GivenNext pool k w b s
given_of pool k (scalar x) n w b s none type within declared given e =
    let next = scalar_next pool k x n b s within declared e in
    record { payload = written k x; type = type; is = next.0; given = given_written k x within given; split = next.1 }
given_of pool k (message x) n w b s none type within declared given e = absurd (no_body pool k x none within)

pub value_given :
    (pool : Types) (k : Kind) (n w levels : ℕ) (b s : List ℕ) → message_of_kind k ≡ None → n < 2 ^ 32 → w < 256 → (v : ValueFirst pool k n levels (tagged n w b) s) → is_default_datum v.value ≡ false
    → GivenNext pool k w b s
value_given pool k n w levels b s none small byte v given =
    let at = value_at pool k n w levels b s small byte v in given_of pool k v.value n w b s none at.0 v.within v.declared given at.1

-- the payload of a value is in range, and no number that its closed enum does not declare
pub datum_known : (pool : Types) (k : Kind) (d : Datum) → IsDatum pool k d → datum_declared pool k d ≡ true → is_undeclared pool (closed_enum k) (payload_of pool k d) ≡ false
datum_known pool (kind.ClosedEnum e) (scalar (enum z)) w h = (number_fits pool (kind.ClosedEnum e) (cast_unsigned w64 z) (record { value = enum z; within = w; written = refl; declared = h })).1
datum_known pool (kind.ClosedEnum e) (scalar x) w h = absurd w
datum_known pool (kind.ClosedEnum e) (message x) w h = absurd w
datum_known pool k d w h = refl

datum_range : (pool : Types) → IsPool pool → (k : Kind) (d : Datum) → IsDatum pool k d → IsInRange (payload_of pool k d)
datum_range pool rules k (scalar x) w = IsInRange-written k x w
datum_range pool rules k (message x) w =
    let m = some_of (message_of_kind k) (λ (m : ℕ). IsBody pool m x) w in
    subst (λ (o : Option ℕ). IsInRange (by_type k o (λ (i : ℕ). canon pool i x))) (sym m.1) (wrapped-good k (canon pool m.0 x) (canon-good pool rules m.0 x m.2)).1

pub record PayloadNext (pool : Types) (k : Kind) (n w : ℕ) (b s : List ℕ) : Type 0 where
  pub payload : Payload
  pub at : IsPayloadAt n w payload b s
  pub declared : is_undeclared pool (closed_enum k) payload ≡ false

pub value_payload :
    (pool : Types) (k : Kind) (n w levels : ℕ) (b s : List ℕ) → IsPool pool → n < 2 ^ 32 → w < 256 → ValueFirst pool k n levels (tagged n w b) s → PayloadNext pool k n w b s
value_payload pool k n w levels b s rules small byte v =
    let at = front_same n w (payload_of pool k v.value) b s small byte v.split in
    record {
      payload = payload_of pool k v.value;
      at = record { type = at.0; in_range = datum_range pool rules k v.value v.within; split = at.1 };
      declared = datum_known pool k v.value v.within v.declared;
    }

-- PACKED LISTS

flat_datums : (pool : Types) (k : Kind) (ds : Datums) → message_of_kind k ≡ None → AreDatums pool k ds → datums_depth ds ≡ 0
flat_datums pool k no_datums none w = refl
flat_datums pool k (datum (scalar x) ds) none w = let later = flat_datums pool k ds none w.1 in omega (arith, later)
flat_datums pool k (datum (message x) ds) none w = absurd (no_body pool k x none w.0)

some_number : (p : Payload) → IsNumeric p → 0 < length (number_bytes p)
some_number (varint n) h = varint_shorter n (shortest n) [] (sym (append-nil (shortest n)))
some_number (fixed64 n) h = omega arith
some_number (fixed32 n) h = omega arith
some_number (group g) h = absurd h
some_number (len s) h = absurd h

some_packed : (pool : Types) (k : Kind) (ds : Datums) → IsTrue (is_packable k) → AreDatums pool k ds → ds ≢ no_datums → packed_bytes k ds ≢ []
some_packed pool k no_datums can w h = absurd (h refl)
some_packed pool k (datum (scalar x) ds) can w h = λ e.
    let some = some_number (written k x) (IsNumeric-written k x w.0 can) in
    absurd (omega (arith, some, ap length e, length-append (element_bytes k x) (packed_bytes k ds)))
some_packed pool k (datum (message x) ds) can w h = absurd (no_body pool k x (packable_plain k can).0 w.0)

pub packed_next :
    (pool : Types) (k : Kind) (n levels : ℕ) (ds : Datums) (b s : List ℕ) → IsTrue (is_packable k) → AreDatums pool k ds → datums_declared pool k ds ≡ true → ds ≢ no_datums
    → b ≡ shortest_record n (len (packed_bytes k ds)) ++ s → PackedFirst pool k n b s
packed_next pool k n levels ds b s can w declared some e = record {
  payload = packed_bytes k ds;
  elements = record { values = ds; within = w; declared = declared; flat = flat_datums pool k ds (packable_plain k can).0 w; all = refl };
  some = some_packed pool k ds can w some;
  split = e;
}

-- what follows the tag of a packed list
pub packed_at : (pool : Types) (k : Kind) (n w : ℕ) (b s : List ℕ) → n < 2 ^ 32 → w < 256 → (h : PackedFirst pool k n (tagged n w b) s) → (w ≡ 2) × (b ≡ payload_bytes (len h.payload) ++ s)
packed_at pool k n w b s small byte h = let at = front_same n w (len h.payload) b s small byte h.split in (sym at.0, at.1)

-- the first element, and those after it
pub record ElementNext (pool : Types) (k : Kind) (b : List ℕ) : Type 0 where
  pub payload : Payload
  pub is : IsWritten pool k payload
  pub mid : List ℕ
  pub split : b ≡ payload_bytes payload ++ mid
  pub later : AreElements pool k mid

elements_of :
    (pool : Types) (k : Kind) (ds : Datums) (b : List ℕ) → IsTrue (is_packable k) → 0 < length b → AreDatums pool k ds → datums_declared pool k ds ≡ true → datums_depth ds ≡ 0 → b ≡ packed_bytes k ds
    → ElementNext pool k b
elements_of pool k no_datums b can some w declared flat e = absurd (omega (arith, some, ap length e))
elements_of pool k (datum (message x) ds) b can some w declared flat e = absurd (no_body pool k x (packable_plain k can).0 w.0)
elements_of pool k (datum (scalar x) ds) b can some w declared flat e =
    let each = both (is_declared pool k x) (datums_declared pool k ds) declared in
    let two : wire_type (written k x) ≢ 2 = λ q. (packable_plain k can).1 (sym (wire_type-written k x w.0) ∙ q) in
    record {
      payload = written k x;
      is = record { value = x; within = w.0; written = refl; declared = each.0 };
      mid = packed_bytes k ds;
      split = e ∙ ap (λ (l : List ℕ). l ++ packed_bytes k ds) (number_payload (written k x) two);
      later = record { values = ds; within = w.1; declared = each.1; flat = omega (arith, flat); all = refl };
    }

pub elements_next : (pool : Types) (k : Kind) (b : List ℕ) → IsTrue (is_packable k) → 0 < length b → AreElements pool k b → ElementNext pool k b
elements_next pool k b can some h = elements_of pool k h.values b can some h.within h.declared h.flat h.all

pub packable_type : (k : Kind) → IsTrue (is_packable k) → wire_type_of k ≢ 2
packable_type k can = (packable_plain k can).1

-- LISTS

-- the first element, and those after it
pub record EachNext (pool : Types) (f : FieldView) (levels : ℕ) (b s : List ℕ) : Type 0 where
  pub mid : List ℕ
  pub first : ValueFirst pool f.kind f.number levels b mid
  pub later : EachFirst pool f levels mid s

each_next :
    (pool : Types) (f : FieldView) (levels : ℕ) (d : Datum) (ds : Datums) (b s : List ℕ) → AreDatums pool f.kind (datum d ds) → datums_declared pool f.kind (datum d ds) ≡ true → datums_depth (datum d ds) ≤ levels
    → b ≡ shortest_records (canon_each pool f (datum d ds)) ++ s → EachNext pool f levels b s
each_next pool f levels d ds b s w declared deep e =
    let each = both (datum_declared pool f.kind d) (datums_declared pool f.kind ds) declared in
    record {
      mid = shortest_records (canon_each pool f ds) ++ s;
      first = record {
        value = d;
        within = w.0;
        declared = each.0;
        deep = omega (arith, deep);
        split = e ∙ append_assoc (shortest_record f.number (payload_of pool f.kind d)) (shortest_records (canon_each pool f ds)) s;
      };
      later = record { values = ds; within = w.1; declared = each.1; deep = omega (arith, deep); split = refl };
    }

each_case_of :
    (pool : Types) (f : FieldView) (levels : ℕ) (ds : Datums) (b s : List ℕ) → AreDatums pool f.kind ds → datums_declared pool f.kind ds ≡ true → datums_depth ds ≤ levels
    → b ≡ shortest_records (canon_each pool f ds) ++ s → (b ≡ s) ⊎ EachNext pool f levels b s
each_case_of pool f levels no_datums b s w declared deep e = inl e
each_case_of pool f levels (datum d ds) b s w declared deep e = inr (each_next pool f levels d ds b s w declared deep e)

pub each_case : (pool : Types) (f : FieldView) (levels : ℕ) (b s : List ℕ) → EachFirst pool f levels b s → (b ≡ s) ⊎ EachNext pool f levels b s
each_case pool f levels b s h = each_case_of pool f levels h.values b s h.within h.declared h.deep h.split

some_case_of :
    (pool : Types) (f : FieldView) (levels : ℕ) (ds : Datums) (b s : List ℕ) → ds ≢ no_datums → AreDatums pool f.kind ds → datums_declared pool f.kind ds ≡ true → datums_depth ds ≤ levels
    → b ≡ shortest_records (canon_each pool f ds) ++ s → EachNext pool f levels b s
some_case_of pool f levels no_datums b s some w declared deep e = absurd (some refl)
some_case_of pool f levels (datum d ds) b s some w declared deep e = each_next pool f levels d ds b s w declared deep e

pub some_next : (pool : Types) (f : FieldView) (levels : ℕ) (b s : List ℕ) → SomeEach pool f levels b s → EachNext pool f levels b s
some_next pool f levels b s h = some_case_of pool f levels h.each.values b s h.some h.each.within h.each.declared h.each.deep h.each.split

pub some_type :
    (pool : Types) (f : FieldView) (n w levels : ℕ) (b s : List ℕ) → f.number ≡ n → n < 2 ^ 32 → w < 256 → SomeEach pool f levels (tagged n w b) s → wire_type_of f.kind ≡ w
some_type pool f n w levels b s same small byte h =
    let next = some_next pool f levels (tagged n w b) s h in
    (value_at pool f.kind n w levels b next.mid small byte (subst (λ (i : ℕ). ValueFirst pool f.kind i levels (tagged n w b) next.mid) same next.first)).0

-- the first element of a list, where its tag was read, or comes first
pub each_first : (pool : Types) (f : FieldView) (n w levels : ℕ) (b mid : List ℕ) → f.number ≡ n → ValueFirst pool f.kind f.number levels (tagged n w b) mid → ValueFirst pool f.kind n levels (tagged n w b) mid
each_first pool f n w levels b mid same v = subst (λ (i : ℕ). ValueFirst pool f.kind i levels (tagged n w b) mid) same v

pub value_front : (pool : Types) (k : Kind) (n levels : ℕ) (b s : List ℕ) → (v : ValueFirst pool k n levels b s) → b ≡ tagged n (wire_type_of k) (follows n (payload_of pool k v.value) s)
value_front pool k n levels b s v =
    v.split ∙ record_follows n (payload_of pool k v.value) s ∙ ap (λ (w : ℕ). tagged n w (follows n (payload_of pool k v.value) s)) (wire_type-payload_of pool k v.value v.within)

-- the payload of a value that comes first, after a tag of its number
pub record FrontPayload (pool : Types) (k : Kind) (n w : ℕ) (b s : List ℕ) : Type 0 where
  pub after : List ℕ
  pub split : b ≡ tagged n w after
  pub next : PayloadNext pool k n w after s

pub front_payload :
    (pool : Types) (k : Kind) (n w levels : ℕ) (b s : List ℕ) → IsPool pool → n < 2 ^ 32 → w < 256 → wire_type_of k ≡ w → ValueFirst pool k n levels b s → FrontPayload pool k n w b s
front_payload pool k n w levels b s rules small byte type v =
    let t = follows n (payload_of pool k v.value) s in
    let e : b ≡ tagged n w t = value_front pool k n levels b s v ∙ ap (λ (i : ℕ). tagged n i t) type in
    record { after = t; split = e; next = value_payload pool k n w levels t s rules small byte (subst (λ (l : List ℕ). ValueFirst pool k n levels l s) e v) }

-- MAPS

-- the first entry, and those after it
pub record EntriesNext (pool : Types) (f : FieldView) (key : Kind) (levels : ℕ) (b s : List ℕ) : Type 0 where
  pub name : Scalar
  pub named : IsOfKind key name
  pub value : Datum
  pub within : IsDatum pool f.kind value
  pub deep : suc (levels_in_entry value) ≤ levels
  pub mid : List ℕ
  pub split : b ≡ shortest_record f.number (sealed (entry_records pool key f.kind name value)) ++ mid
  pub later : EntriesFirst pool f levels mid s
  pub below : IsBelow name later.entries

entries_next :
    (pool : Types) (f : FieldView) (key : Kind) (levels : ℕ) (x : Scalar) (d : Datum) (es : Entries) (b s : List ℕ) → f.shape ≡ shape.Map key
    → AreEntries pool (key_kind f.shape f.kind) f.kind (entry x d es) → KeysRise (entry x d es) → entries_depth (entry x d es) ≤ levels
    → b ≡ shortest_records (canon_entries pool f (entry x d es)) ++ s → EntriesNext pool f key levels b s
entries_next pool f key levels x d es b s is w rise deep e =
    let kinds : key_kind f.shape f.kind ≡ key = ap (λ (t : Shape). key_kind t f.kind) is in
    record {
      name = x;
      named = subst (λ (k : Kind). IsOfKind k x) kinds w.0;
      value = d;
      within = w.1;
      deep = omega (arith, deep);
      mid = shortest_records (canon_entries pool f es) ++ s;
      split =
          subst (λ (k : Kind). b ≡ shortest_record f.number (sealed (entry_records pool k f.kind x d)) ++ (shortest_records (canon_entries pool f es) ++ s)) kinds
          (e ∙ append_assoc (shortest_record f.number (sealed (entry_records pool (key_kind f.shape f.kind) f.kind x d))) (shortest_records (canon_entries pool f es)) s);
      later = record { entries = es; within = w.2; rise = rise.1; deep = omega (arith, deep); split = refl };
      below = rise.0;
    }

some_entries_of :
    (pool : Types) (f : FieldView) (key : Kind) (levels : ℕ) (es : Entries) (b s : List ℕ) → es ≢ no_entries → f.shape ≡ shape.Map key → AreEntries pool (key_kind f.shape f.kind) f.kind es → KeysRise es
    → entries_depth es ≤ levels → b ≡ shortest_records (canon_entries pool f es) ++ s → EntriesNext pool f key levels b s
some_entries_of pool f key levels no_entries b s some is w rise deep e = absurd (some refl)
some_entries_of pool f key levels (entry x d es) b s some is w rise deep e = entries_next pool f key levels x d es b s is w rise deep e

pub some_entries : (pool : Types) (f : FieldView) (key : Kind) (levels : ℕ) (b s : List ℕ) → f.shape ≡ shape.Map key → SomeEntries pool f levels b s → EntriesNext pool f key levels b s
some_entries pool f key levels b s is h = some_entries_of pool f key levels h.each.entries b s h.some is h.each.within h.each.rise h.each.deep h.each.split

-- entries with keys above one that was written as a payload
pub record AboveFirst (pool : Types) (f : FieldView) (key : Kind) (levels : ℕ) (last : Payload) (b s : List ℕ) : Type 0 where
  pub more : EntriesFirst pool f levels b s
  pub name : Scalar
  pub named : IsOfKind key name
  pub written : written key name ≡ last
  pub below : IsBelow name more.entries

pub later_above :
    (pool : Types) (f : FieldView) (key : Kind) (levels : ℕ) (b s : List ℕ) (next : EntriesNext pool f key levels b s) (last : Payload) (mid : List ℕ) → last ≡ written key next.name → mid ≡ next.mid
    → AboveFirst pool f key levels last mid s
later_above pool f key levels b s next last mid at same =
    subst (λ (l : List ℕ). AboveFirst pool f key levels last l s) (sym same) (record { more = next.later; name = next.name; named = next.named; written = sym at; below = next.below })

pub record AboveNext (pool : Types) (f : FieldView) (key : Kind) (levels : ℕ) (last : Payload) (b s : List ℕ) : Type 0 where
  pub next : EntriesNext pool f key levels b s
  pub name : Scalar
  pub named : IsOfKind key name
  pub written : written key name ≡ last
  pub less : key_cmp name next.name ≡ Less

above_of :
    (pool : Types) (f : FieldView) (key : Kind) (levels : ℕ) (last : Payload) (x : Scalar) (es : Entries) (b s : List ℕ) → f.shape ≡ shape.Map key → AreEntries pool (key_kind f.shape f.kind) f.kind es → KeysRise es
    → entries_depth es ≤ levels → b ≡ shortest_records (canon_entries pool f es) ++ s → IsOfKind key x → written key x ≡ last → IsBelow x es → (b ≡ s) ⊎ AboveNext pool f key levels last b s
unfolding entries_next
above_of pool f key levels last x no_entries b s is w rise deep e named at below = inl e
above_of pool f key levels last x (entry y d es) b s is w rise deep e named at below =
    inr (record { next = entries_next pool f key levels y d es b s is w rise deep e; name = x; named = named; written = at; less = below })

pub above_case :
    (pool : Types) (f : FieldView) (key : Kind) (levels : ℕ) (last : Payload) (b s : List ℕ) → f.shape ≡ shape.Map key → AboveFirst pool f key levels last b s → (b ≡ s) ⊎ AboveNext pool f key levels last b s
above_case pool f key levels last b s is h =
    above_of pool f key levels last h.name h.more.entries b s is h.more.within h.more.rise h.more.deep h.more.split h.named h.written h.below

-- the first entry after its tag
pub entry_at :
    (pool : Types) (f : FieldView) (key : Kind) (n w levels : ℕ) (b after s : List ℕ) → f.number ≡ n → n < 2 ^ 32 → w < 256 → b ≡ tagged n w after → (next : EntriesNext pool f key levels b s)
    → (w ≡ 2) × EntryFirst pool key f.kind levels after (written key next.name) next.mid
entry_at pool f key n w levels b after s same small byte e next =
    let p = sealed (entry_records pool key f.kind next.name next.value) in
    let at = front_same n w p after next.mid small byte (sym e ∙ next.split ∙ ap (λ (i : ℕ). shortest_record i p ++ next.mid) same) in (
      sym at.0,
      record { name = next.name; named = next.named; written = refl; value = next.value; within = next.within; deep = next.deep; split = at.1 },
    )

-- the tag of an entry comes first
pub entry_front : (pool : Types) (f : FieldView) (key : Kind) (n levels : ℕ) (b s : List ℕ) → f.number ≡ n → EntriesNext pool f key levels b s → (after : List ℕ) × (b ≡ tagged n 2 after)
entry_front pool f key n levels b s same next =
    let p = sealed (entry_records pool key f.kind next.name next.value) in
    (follows n p next.mid, next.split ∙ ap (λ (i : ℕ). shortest_record i p ++ next.mid) same ∙ record_follows n p next.mid)

-- the key of an entry after its tag
pub record KeyNext (key : Kind) (p : Payload) (b s : List ℕ) : Type 0 where
  pub after : List ℕ
  pub front : b ≡ tagged 1 (wire_type_of key) after
  pub split : after ≡ payload_bytes p ++ s

pub key_next : (pool : Types) (key : Kind) (p : Payload) (b s : List ℕ) → IsWritten pool key p → b ≡ shortest_record 1 p ++ s → KeyNext key p b s
key_next pool key p b s x e =
    let plain = written_plain pool key p x in
    record {
      after = follows 1 p s;
      front = e ∙ record_follows 1 p s ∙ ap (λ (w : ℕ). tagged 1 w (follows 1 p s)) plain.type;
      split = plain_follows 1 p s plain.plain;
    }

-- the parts of an entry
pub record EntryParts (pool : Types) (key k : Kind) (levels : ℕ) (b : List ℕ) (p : Payload) (s : List ℕ) : Type 0 where
  pub some : 0 < levels
  pub inside : List ℕ
  pub split : b ≡ payload_bytes (len inside) ++ s
  pub is_key : IsWritten pool key p
  pub after : List ℕ
  pub first : inside ≡ shortest_record 1 p ++ after
  pub second : ValueFirst pool k 2 levels after []

-- the value of an entry after the tag that was read
pub entry_value :
    (pool : Types) (k : Kind) (levels number w : ℕ) (after t : List ℕ) → number ≡ 2 → after ≡ tagged number w t → ValueFirst pool k 2 levels after [] → ValueFirst pool k number levels (tagged number w t) []
entry_value pool k levels number w after t two e v =
    subst (λ (i : ℕ). ValueFirst pool k i levels (tagged number w t) []) (sym two) (subst (λ (l : List ℕ). ValueFirst pool k 2 levels l []) e v)

value_levels : (d : Datum) (levels : ℕ) → suc (levels_in_entry d) ≤ levels → levels_of d ≤ levels
value_levels (scalar x) levels h = omega arith
value_levels (message x) levels h = omega (arith, h)

pub entry_parts :
    (pool : Types) (key k : Kind) (levels : ℕ) (b : List ℕ) (p : Payload) (s : List ℕ) → IsTrue (is_key_kind key) → is_of_proto2 k ≡ false → EntryFirst pool key k levels b p s → EntryParts pool key k levels b p s
entry_parts pool key k levels b p s can open_kind h = record {
  some = let deep = h.deep in omega (arith, deep);
  inside = shortest_records (entry_records pool key k h.name h.value);
  split = h.split;
  is_key = record { value = h.name; within = h.named; written = h.written; declared = open_scalar pool key h.name (key_open key can) };
  after = shortest_record 2 (payload_of pool k h.value) ++ [];
  first = ap (λ (q : Payload). shortest_record 1 q ++ (shortest_record 2 (payload_of pool k h.value) ++ [])) h.written;
  second = record {
    value = h.value;
    within = h.within;
    declared = open_declared pool k h.value (value_open k open_kind);
    deep = value_levels h.value levels h.deep;
    split = refl;
  };
}
