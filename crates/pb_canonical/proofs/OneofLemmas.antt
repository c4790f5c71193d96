-- Oneofs: marks, records of members, and the fields that are written as them.
use Rattle.std.proofs.Common.{◌≡◌, ℕ, zero, suc, ◌+◌, ◌-◌, ◌*◌, ◌<◌, ◌≤◌, ◌^◌, List, [], ◌∷◌, ◌++◌, length, map, take, get_or, refl, ap, sym, subst, ◌∙◌, arith, append-nil, length-append, inl, inr, Option, Some, None}
use Rattle.std.specs.Prelude.{◌≢◌, Bool, true, false, ◌==◌, ◌⊎◌, if◌then◌else◌, max, option_and_then, slice_get, string_bytes, IsSomeAnd}
use Rattle.std.proofs.lemmas.Bool.{cases_lt, cases_eq}
use Rattle.std.proofs.lemmas.Nat.Bits.{and_pow, bit_at-zero}
use Rattle.std.proofs.lemmas.List.{take_at}
use Rattle.std.specs.Int.{IsBitSet}
use Rattle.pb_wire.specs.Record.{Payload, varint, fixed64, len, group, fixed32, Record, group_of, depth, group_depth, records_depth, wire_type}
use Rattle.pb_wire.specs.Spell.{shortest_record, shortest_records}
use Rattle.pb_schema.specs.declared.types.MessageType.{MessageType}
use Rattle.pb_schema.specs.declared.types.Kind.{Kind}
use Rattle.pb_schema.specs.declared.types.Kind.TheVariants as kind
use Rattle.pb_schema.specs.declared.types.Shape.{Shape}
use Rattle.pb_schema.specs.declared.types.Shape.TheVariants as shape
use Rattle.pb_schema.specs.Types.{FieldView, MessageView, Types, message_fields, field_numbered}
use Rattle.pb_schema.specs.View.{message_view}
use Rattle.pb_schema.specs.Scalar.{Scalar}
use Rattle.pb_schema.specs.Kinds.{wire_type_of, is_group, message_of_kind, written, IsOfKind}
use Rattle.pb_schema.specs.Rules.{IsPool, NamesOneof}
use Rattle.pb_schema.proofs.LookupLemmas.{found_field}
use Rattle.pb_value.specs.Data.{Datum, scalar, message, Datums, no_datums, datum, Entries, no_entries, entry, Holding, one, list, map as map_of, Fields, no_fields, field, Message, body}
use Rattle.pb_value.specs.Data.{levels_of, datums_depth, holding_depth, fields_depth, message_depth}
use Rattle.pb_value.specs.Canon.{wrapped, sealed, is_packed, payload_of, packed_bytes, canon_each, canon_entries, canon_holding, canon_fields, by_field, canon, record_of}
use Rattle.pb_value.specs.WellFormed.{IsOfShape, IsDatum, AreDatums, IsHeld, IsBody, holds_declared, AreFields, HasNoMember, HasOneMemberEach, oneof_of, oneof_at}
use Rattle.pb_value.proofs.Options.{if_some, at_some, some_of}
use Rattle.pb_value.proofs.ChangeLemmas.{oneof_at-shape}
use Rattle.pb_canonical.specs.Parts.{tagged, IsMore, IsMarked, IsTaken, CanBeRead, RawFirst, HasNoRecord, OneRecord, OneRecordEach, OneMember, OneMemberEach}
use Rattle.pb_value.proofs.Numbers.{found_number}
use Rattle.pb_value.proofs.WrittenLemmas.{wire_type-written}
use Rattle.pb_value.proofs.CanonLemmas.{AreGood, AreGood-none, AreGood-append, good, numbers_at}
use Rattle.pb_canonical.proofs.SplitLemmas.{records_shorter}
use Rattle.pb_canonical.proofs.SameLemmas.{FirstTag, record_at, record_tag}
use Rattle.pb_value.proofs.FieldBack.{AllNumbered, holding_numbered}

-- MARKS

some_is : (o j : ℕ) → Some o ≡ Some j → o ≡ j
some_is o j e = cc

-- of a oneof that is none of the 128, and of none
pub not_marked : (of : Option ℕ) (first marks : ℕ) → ((i : ℕ) → i < 128 → of ≢ Some (first + i)) → IsMarked of first marks marks
not_marked of first marks h = record { free = λ i l e. absurd (h i l e); marked = λ i l e. absurd (h i l e); kept = λ i set. set; only = λ i set. inl set }

pub none_marked : (of : Option ℕ) (first marks : ℕ) → of ≡ None → IsMarked of first marks marks
none_marked of first marks none = not_marked of first marks (λ i l e. absurd (cc))

pub below_marked : (o first marks : ℕ) → o < first → IsMarked (Some o) first marks marks
below_marked o first marks low = not_marked (Some o) first marks (λ i l e. let at = some_is o (first + i) e in omega (arith, at, low))

pub above_marked : (o first marks : ℕ) → first ≤ o → 128 ≤ o - first → IsMarked (Some o) first marks marks
above_marked o first marks low high = not_marked (Some o) first marks (λ i l e. let at = some_is o (first + i) e in omega (arith, at, low, high, l))

pub is_marked : (o first marks index new : ℕ) → first ≤ o → index ≡ o - first → IsMore marks index new → IsMarked (Some o) first marks new
is_marked o first marks index new low at more = record {
  free = λ i l e. let same : index ≡ i = (let is = some_is o (first + i) e in omega (arith, at, low, is)) in subst (λ (j : ℕ). ¬ IsBitSet marks j) same more.free;
  marked = λ i l e. let same : index ≡ i = (let is = some_is o (first + i) e in omega (arith, at, low, is)) in subst (λ (j : ℕ). IsBitSet new j) same more.marked;
  kept = more.kept;
  only = λ i set. elim (more.only i set) [ inl old ↦ inl old | inr e ↦ inr (ap Some (omega (arith, low, at, e))) ];
}

pub is_taken : (o first marks index : ℕ) → first ≤ o → index ≡ o - first → index < 128 → IsBitSet marks index → IsTaken (Some o) first marks
is_taken o first marks index low at below set = record { index = index; below = below; member = ap Some (omega (arith, low, at)); set = set }

-- EACH ONEOF

pub each_of : (all : List FieldView) (fs : Fields) → ((o : ℕ) → OneMember all o fs) → HasOneMemberEach all fs
each_of all no_fields h = tt
each_of all (field n g fs) h = (if_some (oneof_at all n) (λ (o : ℕ). HasNoMember all o fs) (λ o e. (h o).0 e), each_of all fs (λ o. (h o).1))

pub of_each : (all : List FieldView) (fs : Fields) → HasOneMemberEach all fs → (o : ℕ) → OneMember all o fs
of_each all no_fields h o = tt
of_each all (field n g fs) h o = ((λ e. at_some (oneof_at all n) (λ (p : ℕ). HasNoMember all p fs) o h.0 e), of_each all fs h.1 o)

-- a oneof that no field belongs to has no member
no_member : (all : List FieldView) (o : ℕ) (fs : Fields) → ((n : ℕ) → oneof_at all n ≢ Some o) → HasNoMember all o fs × OneMember all o fs
no_member all o no_fields h = (tt, tt)
no_member all o (field n g fs) h = let later = no_member all o fs h in ((h n, later.0), ((λ e. later.0), later.1))

-- where oneofs are below a number, those below it are all
pub each_below : (all : List FieldView) (limit : ℕ) (fs : Fields) → ((n o : ℕ) → oneof_at all n ≡ Some o → o < limit) → OneMemberEach all limit fs → HasOneMemberEach all fs
each_below all limit fs below h = each_of all fs (λ o. by_order o (cases_lt o limit))
  where
    by_order : (o : ℕ) → (o < limit) ⊎ (limit ≤ o) → OneMember all o fs
    by_order o (inl l) = h o l
    by_order o (inr l) = (no_member all o fs (λ n e. let low = below n o e in omega (arith, low, l))).1

-- 128 more
pub each_more : (all : List FieldView) (first : ℕ) (fs : Fields) → OneMemberEach all first fs → ((i : ℕ) → i < 128 → OneMember all (first + i) fs) → OneMemberEach all (first + 128) fs
each_more all first fs h more o l = by_order (cases_lt o first)
  where
    by_order : (o < first) ⊎ (first ≤ o) → OneMember all o fs
    by_order (inl low) = h o low
    by_order (inr high) = let at : first + (o - first) ≡ o = omega (arith, high) in subst (λ (j : ℕ). OneMember all j fs) at (more (o - first) (omega (arith, l, high)))

pub fewer : (all : List FieldView) (limit less : ℕ) (fs : Fields) → less ≤ limit → OneMemberEach all limit fs → OneMemberEach all less fs
fewer all limit less fs l h o low = h o (omega (arith, l, low))

-- HOW MANY THERE ARE

map_length : {A B : Type 0} (f : A → B) (xs : List A) → length (map f xs) ≡ length xs
map_length f [] = refl
map_length f (x ∷ xs) = let later = map_length f xs in omega (arith, later)

at_index : (xs : List MessageType) (m : ℕ) (t : MessageType) → m < length xs → t ≡ get_or xs m t → slice_get (map message_view xs) m ≡ Some (message_view t)
at_index [] m t l e = absurd (omega (arith, l))
at_index (x ∷ xs) zero t l e = ap (λ (y : MessageType). Some (message_view y)) (sym e)
at_index (x ∷ xs) (suc m) t l e = at_index xs m t (omega (arith, l)) e

named_below : (s : Shape) (o limit : ℕ) → NamesOneof limit s → oneof_of s ≡ Some o → o < limit
named_below (shape.OneofMember p) o limit h e = let same : p ≡ o = cc in subst (λ (j : ℕ). j < limit) same h
named_below shape.Implicit o limit h e = absurd (cc)
named_below shape.Explicit o limit h e = absurd (cc)
named_below (shape.List p) o limit h e = absurd (cc)
named_below (shape.Map k) o limit h e = absurd (cc)

pub oneofs_below :
    (pool : Types) (m : ℕ) (xs : List MessageType) (t : MessageType) → IsPool pool → map message_view xs ≡ pool.messages → m < length pool.messages → t ≡ get_or xs m t
    → (n o : ℕ) → oneof_at (message_fields pool m) n ≡ Some o → o < length t.oneofs.items
oneofs_below pool m xs t rules listed within at n o e = by_field (field_numbered n (message_fields pool m)) refl e
  where
    there : slice_get pool.messages m ≡ Some (message_view t)
    there = ap (λ (l : List MessageView). slice_get l m) (sym listed) ∙ at_index xs m t (let sizes = ap length listed in let size = map_length message_view xs in omega (arith, within, sizes, size)) at

    by_field : (f : Option FieldView) → field_numbered n (message_fields pool m) ≡ f → option_and_then (λ (g : FieldView). oneof_of g.shape) f ≡ Some o → o < length t.oneofs.items
    by_field None found e = absurd (cc)
    by_field (Some f) found e =
        let rule = (found_field pool m (λ (g : FieldView). g.number == n) f rules found).oneof in
        let named = at_some (slice_get pool.messages m) (λ (v : MessageView). NamesOneof (length v.oneofs) f.shape) (message_view t) rule there in
        let below = named_below f.shape o (length (message_view t).oneofs) named e in
        let size = map_length string_bytes t.oneofs.items in omega (arith, below, size)

-- the bytes before the rest
pub front_of : (b s rest : List ℕ) → b ≡ s ++ rest → take (length b - length rest) b ≡ s
front_of b s rest e =
    let size : length s ≡ length b - length rest = (let sizes = ap length e in omega (arith, sizes, length-append s rest)) in
    ap (take (length b - length rest)) e ∙ take_at s rest (length b - length rest) size

-- RECORDS

-- what is left of records, and the marks of those before
pub record RecordsLeft (of : ℕ → Option ℕ) (first marks levels : ℕ) (rs : List Record) (b : List ℕ) : Type 0 where
  pub later : List Record
  pub readable : CanBeRead levels later
  pub split : b ≡ shortest_records later
  pub whole : OneRecordEach of first later → ((i : ℕ) → i < 128 → IsBitSet marks i → HasNoRecord of (first + i) later) → OneRecordEach of first rs
  pub back : OneRecordEach of first rs → OneRecordEach of first later × ((i : ℕ) → i < 128 → IsBitSet marks i → HasNoRecord of (first + i) later)

zero_times : (n : ℕ) → 0 * n ≡ 0
zero_times n = omega arith

pub none_set : (i : ℕ) → IsBitSet 0 i → ⊥
none_set i set = set (and_pow 0 i ∙ ap (λ (b : ℕ). b * 2 ^ i) (bit_at-zero i) ∙ zero_times (2 ^ i))

pub all_left_first : (of : ℕ → Option ℕ) (first levels : ℕ) (rs : List Record) (b : List ℕ) → CanBeRead levels rs → b ≡ shortest_records rs → RecordsLeft of first 0 levels rs b
all_left_first of first levels rs b h e = record { later = rs; readable = h; split = e; whole = λ each apart. each; back = λ each. (each, λ i l set. absurd (none_set i set)) }

-- the record that comes first, and those after it
pub record RecordNext (of : ℕ → Option ℕ) (first marks levels n w : ℕ) (rs : List Record) (after : List ℕ) : Type 0 where
  pub mid : List ℕ
  pub raw : RawFirst n w levels after mid
  pub step : (new : ℕ) → IsMarked (of n) first marks new → RecordsLeft of first new levels rs mid
  pub free : OneRecordEach of first rs → IsTaken (of n) first marks → ⊥

record_next_of :
    (later : List Record) (of : ℕ → Option ℕ) (first marks levels n w : ℕ) (rs : List Record) (b after : List ℕ) → n < 2 ^ 32 → w < 8 → 0 < length b → b ≡ tagged n w after
    → CanBeRead levels later → b ≡ shortest_records later
    → (OneRecordEach of first later → ((i : ℕ) → i < 128 → IsBitSet marks i → HasNoRecord of (first + i) later) → OneRecordEach of first rs)
    → (OneRecordEach of first rs → OneRecordEach of first later × ((i : ℕ) → i < 128 → IsBitSet marks i → HasNoRecord of (first + i) later))
    → RecordNext of first marks levels n w rs after
record_next_of [] of first marks levels n w rs b after small byte some e h split whole back = absurd (omega (arith, some, ap length split))
record_next_of (r ∷ later) of first marks levels n w rs b after small byte some e h split whole back =
    let mid = shortest_records later in
    let at = record_at n w r.number r.payload b after mid h.numbered.0 small byte h.in_range.0 e split in
    record {
      mid = mid;
      raw = record {
        payload = r.payload;
        type = at.1.type;
        in_range = h.in_range.0;
        numbered = h.numbered.1;
        deep = let deep = h.deep in omega (arith, deep);
        split = sym e ∙ split ∙ ap (λ (i : ℕ). shortest_record i r.payload ++ mid) (sym at.0);
      };
      step = λ new marked. record {
        later = later;
        readable = record { in_range = h.in_range.1; numbered = h.numbered.2; deep = let deep = h.deep in omega (arith, deep) };
        split = refl;
        whole = λ each apart.
            whole
            (λ i l. ((λ q. apart i l (marked.marked i l (ap of at.0 ∙ q))), each i l))
            (λ i l set. ((λ q. marked.free i l (ap of at.0 ∙ q) set), apart i l (marked.kept i set)));
        back = λ each.
            let held = back each in (
              λ i l. (held.0 i l).1,
              λ i l set. elim (marked.only i set) [ inl old ↦ (held.1 i l old).1 | inr q ↦ (held.0 i l).0 (ap of (sym at.0) ∙ q) ],
            );
      };
      free = λ each taken. ((back each).1 taken.index taken.below taken.set).0 (ap of (sym at.0) ∙ taken.member);
    }

pub record_next :
    (of : ℕ → Option ℕ) (first marks levels n w : ℕ) (rs : List Record) (b after : List ℕ) → n < 2 ^ 32 → w < 8 → 0 < length b → b ≡ tagged n w after
    → RecordsLeft of first marks levels rs b → RecordNext of first marks levels n w rs after
record_next of first marks levels n w rs b after small byte some e h =
    record_next_of h.later of first marks levels n w rs b after small byte some e h.readable h.split h.whole h.back

records_tag_of : (later : List Record) (levels : ℕ) (b : List ℕ) → 0 < length b → CanBeRead levels later → b ≡ shortest_records later → FirstTag b
records_tag_of [] levels b some h e = absurd (omega (arith, some, ap length e))
records_tag_of (r ∷ later) levels b some h e = record_tag r.number r.payload b (shortest_records later) h.numbered.0 e

pub records_tag : (of : ℕ → Option ℕ) (first marks levels : ℕ) (rs : List Record) (b : List ℕ) → 0 < length b → RecordsLeft of first marks levels rs b → FirstTag b
records_tag of first marks levels rs b some h = records_tag_of h.later levels b some h.readable h.split

records_ended_of : (later : List Record) (b : List ℕ) → length b ≡ 0 → b ≡ shortest_records later → later ≡ []
records_ended_of [] b none e = refl
records_ended_of (r ∷ later) b none e = absurd (let tail = records_shorter r.number r.payload later b [] (e ∙ sym (append-nil _)) in omega (arith, none, tail))

pub records_ended : (of : ℕ → Option ℕ) (first marks levels : ℕ) (rs : List Record) (b : List ℕ) → length b ≡ 0 → RecordsLeft of first marks levels rs b → OneRecordEach of first rs
records_ended of first marks levels rs b none h =
    let last : h.later ≡ [] = records_ended_of h.later b none h.split in
    h.whole
    (λ i l. subst (OneRecord of (first + i)) (sym last) tt)
    (λ i l set. subst (HasNoRecord of (first + i)) (sym last) tt)

-- FIELDS AND THEIR RECORDS

left_none : (of : ℕ → Option ℕ) (o : ℕ) (rs ss : List Record) → HasNoRecord of o (rs ++ ss) → HasNoRecord of o rs × HasNoRecord of o ss
left_none of o [] ss h = (tt, h)
left_none of o (r ∷ rs) ss h = let later = left_none of o rs ss h.1 in ((h.0, later.0), later.1)

right_one : (of : ℕ → Option ℕ) (o : ℕ) (rs ss : List Record) → OneRecord of o (rs ++ ss) → OneRecord of o ss
right_one of o [] ss h = h
right_one of o (r ∷ rs) ss h = right_one of o rs ss h.1

-- a member's first record, and those of the fields after it
member_first : (pool : Types) (f : FieldView) (h : Holding) (o : ℕ) → oneof_of f.shape ≡ Some o → IsOfShape f.shape h → (p : Payload) × (canon_holding pool f h ≡ record_of f.number p ∷ [])
member_first pool f h o e shaped = by_shape f.shape h e shaped
  where
    by_shape : (s : Shape) (g : Holding) → oneof_of s ≡ Some o → IsOfShape s g → (p : Payload) × (canon_holding pool f g ≡ record_of f.number p ∷ [])
    by_shape (shape.OneofMember j) (one d) e shaped = (payload_of pool f.kind d, refl)
    by_shape (shape.OneofMember j) (list ds) e shaped = absurd shaped
    by_shape (shape.OneofMember j) (map_of es) e shaped = absurd shaped
    by_shape shape.Implicit g e shaped = absurd (cc)
    by_shape shape.Explicit g e shaped = absurd (cc)
    by_shape (shape.List p) g e shaped = absurd (cc)
    by_shape (shape.Map k) g e shaped = absurd (cc)

-- the field of a number, and what it holds
found_at : (pool : Types) (all : List FieldView) (n : ℕ) (g : Holding)
    → IsSomeAnd (field_numbered n all) (λ (f : FieldView). IsOfShape f.shape g × IsHeld pool f.shape f.kind g × (holds_declared pool f.kind g ≡ true))
    → (f : FieldView) × (field_numbered n all ≡ Some f) × IsOfShape f.shape g
found_at pool all n g w =
    let f = some_of (field_numbered n all) (λ (f : FieldView). IsOfShape f.shape g × IsHeld pool f.shape f.kind g × (holds_declared pool f.kind g ≡ true)) w in (f.0, f.1, f.2.0)

-- no record of a oneof: no member
no_member_of : (pool : Types) (all : List FieldView) (o : ℕ) (fs : Fields) → AreFields pool all fs → HasNoRecord (oneof_at all) o (canon_fields pool all fs) → HasNoMember all o fs
no_member_of pool all o no_fields w h = tt
no_member_of pool all o (field n g fs) w h =
    let f = found_at pool all n g w.0 in
    let parts = left_none (oneof_at all) o (canon_holding pool f.0 g) (canon_fields pool all fs) (subst (λ (x : Option FieldView). HasNoRecord (oneof_at all) o (by_field x (λ (f : FieldView). canon_holding pool f g) ++ canon_fields pool all fs)) f.1 h) in (
      λ e.
          let member = oneof_at-shape all n f.0 f.1 in
          let first = member_first pool f.0 g o (sym member ∙ e) f.2 in
          let none = subst (HasNoRecord (oneof_at all) o) first.1 parts.0 in
          none.0 (ap (oneof_at all) (found_number n all f.0 f.1) ∙ e),
      no_member_of pool all o fs w.1 parts.1,
    )

-- one record of a oneof: one member
pub one_member_of : (pool : Types) (all : List FieldView) (o : ℕ) (fs : Fields) → AreFields pool all fs → OneRecord (oneof_at all) o (canon_fields pool all fs) → OneMember all o fs
one_member_of pool all o no_fields w h = tt
one_member_of pool all o (field n g fs) w h =
    let f = found_at pool all n g w.0 in
    let all_records : OneRecord (oneof_at all) o (canon_holding pool f.0 g ++ canon_fields pool all fs) =
    subst (λ (x : Option FieldView). OneRecord (oneof_at all) o (by_field x (λ (f : FieldView). canon_holding pool f g) ++ canon_fields pool all fs)) f.1 h in (
      λ e.
          let member = oneof_at-shape all n f.0 f.1 in
          let first = member_first pool f.0 g o (sym member ∙ e) f.2 in
          let one = subst (λ (l : List Record). OneRecord (oneof_at all) o (l ++ canon_fields pool all fs)) first.1 all_records in
          no_member_of pool all o fs w.1 (one.0 (ap (oneof_at all) (found_number n all f.0 f.1) ∙ e)),
      one_member_of pool all o fs w.1 (right_one (oneof_at all) o (canon_holding pool f.0 g) (canon_fields pool all fs) all_records),
    )

-- records of one number, which is that of no member
all_apart : (of : ℕ → Option ℕ) (o n : ℕ) (rs ss : List Record) → of n ≢ Some o → AllNumbered n rs → HasNoRecord of o ss → HasNoRecord of o (rs ++ ss)
unfolding AllNumbered
all_apart of o n [] ss d h none = none
all_apart of o n (r ∷ rs) ss d h none = ((λ e. d (ap of (sym h.0) ∙ e)), all_apart of o n rs ss d h.1 none)

each_apart : (of : ℕ → Option ℕ) (o n : ℕ) (rs ss : List Record) → of n ≢ Some o → AllNumbered n rs → OneRecord of o ss → OneRecord of o (rs ++ ss)
unfolding AllNumbered
each_apart of o n [] ss d h each = each
each_apart of o n (r ∷ rs) ss d h each = ((λ e. absurd (d (ap of (sym h.0) ∙ e))), each_apart of o n rs ss d h.1 each)

holding_at : (pool : Types) (all : List FieldView) (n : ℕ) (g : Holding) (f : FieldView) → field_numbered n all ≡ Some f → AllNumbered n (canon_holding pool f g)
holding_at pool all n g f found = subst (λ (i : ℕ). AllNumbered i (canon_holding pool f g)) (found_number n all f found) (holding_numbered pool f g)

-- no member of a oneof: no record
no_record_of : (pool : Types) (all : List FieldView) (o : ℕ) (fs : Fields) → AreFields pool all fs → HasNoMember all o fs → HasNoRecord (oneof_at all) o (canon_fields pool all fs)
no_record_of pool all o no_fields w h = tt
no_record_of pool all o (field n g fs) w h =
    let f = found_at pool all n g w.0 in
    subst (λ (x : Option FieldView). HasNoRecord (oneof_at all) o (by_field x (λ (f : FieldView). canon_holding pool f g) ++ canon_fields pool all fs)) (sym f.1)
    (all_apart (oneof_at all) o n (canon_holding pool f.0 g) (canon_fields pool all fs) h.0 (holding_at pool all n g f.0 f.1) (no_record_of pool all o fs w.1 h.1))

some_or_not : (a : Option ℕ) (o : ℕ) → (a ≡ Some o) ⊎ (a ≢ Some o)
some_or_not None o = inr (λ e. absurd (cc))
some_or_not (Some p) o = elim (cases_eq p o) [ inl e ↦ inl (ap Some e) | inr d ↦ inr (λ e. d (some_is p o e)) ]

-- one member of a oneof: one record
pub one_record_of : (pool : Types) (all : List FieldView) (o : ℕ) (fs : Fields) → AreFields pool all fs → OneMember all o fs → OneRecord (oneof_at all) o (canon_fields pool all fs)
one_record_of pool all o no_fields w h = tt
one_record_of pool all o (field n g fs) w h =
    subst (λ (x : Option FieldView). OneRecord (oneof_at all) o (by_field x (λ (f : FieldView). canon_holding pool f g) ++ canon_fields pool all fs)) (sym f.1)
    (by_oneof (some_or_not (oneof_at all n) o) (one_record_of pool all o fs w.1 h.1))
  where
    f : (f : FieldView) × (field_numbered n all ≡ Some f) × IsOfShape f.shape g
    f = found_at pool all n g w.0

    by_oneof : (oneof_at all n ≡ Some o) ⊎ (oneof_at all n ≢ Some o) → OneRecord (oneof_at all) o (canon_fields pool all fs) → OneRecord (oneof_at all) o (canon_holding pool f.0 g ++ canon_fields pool all fs)
    by_oneof (inr d) later = each_apart (oneof_at all) o n (canon_holding pool f.0 g) (canon_fields pool all fs) d (holding_at pool all n g f.0 f.1) later
    by_oneof (inl e) later =
        let first = member_first pool f.0 g o (sym (oneof_at-shape all n f.0 f.1) ∙ e) f.2 in
        subst (λ (l : List Record). OneRecord (oneof_at all) o (l ++ canon_fields pool all fs)) (sym first.1) ((λ q. no_record_of pool all o fs w.1 (h.0 e)), later)

-- RECORDS THAT CAN BE READ

flat_plain : (p : Payload) → wire_type p ≢ 3 → depth p ≡ 0
flat_plain (varint n) w = refl
flat_plain (fixed64 n) w = refl
flat_plain (len s) w = refl
flat_plain (fixed32 n) w = refl
flat_plain (group g) w = absurd (w refl)

scalar_type : (k : Kind) (x : Scalar) → IsOfKind k x → wire_type_of k ≢ 3
scalar_type (kind.Group m) x h = absurd h
scalar_type k x h = λ e. omega (arith, e)

group_depth-of : (rs : List Record) → group_depth (group_of rs) ≡ records_depth rs
group_depth-of [] = refl
group_depth-of (r ∷ rs) = ap (max (depth r.payload)) (group_depth-of rs)

wrapped_deep : (k : Kind) (rs : List Record) (d : ℕ) → records_depth rs ≤ d → depth (wrapped k rs) ≤ suc d
wrapped_deep k rs d h = by_form (is_group k)
  where
    by_form : (b : Bool) → depth (if b then group (group_of rs) else sealed rs) ≤ suc d
    by_form true = let same = group_depth-of rs in omega (arith, h, same)
    by_form false = omega arith

records_depth-append : (rs ss : List Record) (d : ℕ) → records_depth rs ≤ d → records_depth ss ≤ d → records_depth (rs ++ ss) ≤ d
records_depth-append [] ss d h g = g
records_depth-append (r ∷ rs) ss d h g = let later = records_depth-append rs ss d (omega (arith, h)) g in omega (arith, h, later)

entries_flat : (pool : Types) (f : FieldView) (es : Entries) → records_depth (canon_entries pool f es) ≤ 0
entries_flat pool f no_entries = omega arith
entries_flat pool f (entry x d es) = let later = entries_flat pool f es in omega (arith, later)

packed_or_each_deep : (rs : List Record) (s : List ℕ) (n d : ℕ) (b : Bool) → records_depth rs ≤ d → records_depth (if b then record_of n (len s) ∷ [] else rs) ≤ d
packed_or_each_deep rs s n d true h = omega arith
packed_or_each_deep rs s n d false h = h

module _ (pool : Types) where
  mutual
    datum_deep : (k : Kind) (d : Datum) → IsDatum pool k d → depth (payload_of pool k d) ≤ levels_of d
    datum_deep k (scalar x) h =
        let flat = flat_plain (written k x) (λ e. scalar_type k x h (sym (wire_type-written k x h) ∙ e)) in omega (arith, flat)
    datum_deep k (message b) h =
        let m = some_of (message_of_kind k) (λ (m : ℕ). IsBody pool m b) h in
        rw (m.1) (wrapped_deep k (canon pool m.0 b) (message_depth b) (body_deep m.0 b m.2))

    each_deep : (f : FieldView) (ds : Datums) → AreDatums pool f.kind ds → records_depth (canon_each pool f ds) ≤ datums_depth ds
    each_deep f no_datums h = omega arith
    each_deep f (datum d ds) h = let first = datum_deep f.kind d h.0 in let later = each_deep f ds h.1 in omega (arith, first, later)

    holding_deep : (f : FieldView) (h : Holding) → IsHeld pool f.shape f.kind h → records_depth (canon_holding pool f h) ≤ holding_depth h
    holding_deep f (one d) w = let first = datum_deep f.kind d w in omega (arith, first)
    holding_deep f (list ds) w = packed_or_each_deep (canon_each pool f ds) (packed_bytes f.kind ds) f.number (datums_depth ds) (is_packed f.shape) (each_deep f ds w)
    holding_deep f (map_of es) w = let flat = entries_flat pool f es in omega (arith, flat)

    fields_deep : (all : List FieldView) (fs : Fields) → AreFields pool all fs → records_depth (canon_fields pool all fs) ≤ fields_depth fs
    fields_deep all no_fields w = omega arith
    fields_deep all (field n h fs) w =
        let f = some_of (field_numbered n all) (λ (f : FieldView). IsOfShape f.shape h × IsHeld pool f.shape f.kind h × (holds_declared pool f.kind h ≡ true)) w.0 in
        let first = holding_deep f.0 h f.2.1 in
        let later = fields_deep all fs w.1 in
        rw (f.1) (records_depth-append (canon_holding pool f.0 h) (canon_fields pool all fs) (max (holding_depth h) (fields_depth fs)) (omega (arith, first)) (omega (arith, later)))

    body_deep : (m : ℕ) (v : Message) → IsBody pool m v → records_depth (canon pool m v) ≤ message_depth v
    body_deep m (body fs us) w =
        let first = fields_deep (message_fields pool m) fs w.0 in
        records_depth-append (canon_fields pool (message_fields pool m) fs) us (max (fields_depth fs) (records_depth us)) (omega (arith, first)) (omega arith)

good_field :
    (pool : Types) (m n : ℕ) (h : Holding) → IsPool pool
    → IsSomeAnd (field_numbered n (message_fields pool m)) (λ (f : FieldView). IsOfShape f.shape h × IsHeld pool f.shape f.kind h × (holds_declared pool f.kind h ≡ true))
    → AreGood (by_field (field_numbered n (message_fields pool m)) (λ (f : FieldView). canon_holding pool f h))
good_field pool m n h rules w =
    let all = message_fields pool m in
    let alone = field n h no_fields in
    let is : IsBody pool m (body alone []) = ((w, tt), (omega arith, tt), (if_some (oneof_at all n) (λ (o : ℕ). HasNoMember all o no_fields) (λ o e. tt), tt), tt) in
    let there : AreGood (canon pool m (body alone [])) = good pool (λ i. numbers_at pool pool.messages i rules.fields.shapes.numbers) m (body alone []) is in
    subst AreGood (append-nil _ ∙ append-nil _) there

good_fields : (pool : Types) (m : ℕ) (fs : Fields) → IsPool pool → AreFields pool (message_fields pool m) fs → AreGood (canon_fields pool (message_fields pool m) fs)
good_fields pool m no_fields rules w = AreGood-none
good_fields pool m (field n h fs) rules w =
    AreGood-append (by_field (field_numbered n (message_fields pool m)) (λ (f : FieldView). canon_holding pool f h)) (canon_fields pool (message_fields pool m) fs)
    (good_field pool m n h rules w.0) (good_fields pool m fs rules w.1)

pub readable_fields :
    (pool : Types) (m levels : ℕ) (fs : Fields) → IsPool pool → AreFields pool (message_fields pool m) fs → fields_depth fs ≤ levels
    → CanBeRead levels (canon_fields pool (message_fields pool m) fs)
readable_fields pool m levels fs rules w deep =
    let g = good_fields pool m fs rules w in
    record { in_range = g.in_range; numbered = g.numbered; deep = let below = fields_deep pool (message_fields pool m) fs w in omega (arith, below, deep) }
