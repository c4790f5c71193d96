-- Unknown records, one after another.
use Rattle.std.proofs.Common.{◌≡◌, ℕ, ◌+◌, ◌^◌, ◌<◌, ◌≤◌, List, [], ◌∷◌, ◌++◌, length, refl, ap, sym, subst, ◌∙◌, arith, append_assoc, Option, Some, None}
use Rattle.std.specs.Prelude.{Bool, true, false, not, ◌&&◌, ◌≢◌}
use Rattle.pb_wire.specs.Varint.{shortest}
use Rattle.pb_wire.specs.Record.{Payload, varint, fixed64, len, group, fixed32, Group, no_more, more, Record, wire_type, depth, group_depth, records_depth}
use Rattle.pb_wire.specs.Ranges.{IsNumber, IsInRange, IsInRangeGroup}
use Rattle.pb_wire.specs.Inside.{IsNumbered, IsNumberedGroup}
use Rattle.pb_wire.proofs.Unique.{wire_type_known}
use Rattle.pb_value.specs.WellFormed.{IsUnknown, AreUnknown}
use Rattle.pb_wire.specs.Spell.{shortest_record, shortest_group, shortest_records}
use Rattle.pb_schema.specs.declared.types.Kind.{Kind}
use Rattle.pb_schema.specs.declared.types.Shape.{Shape}
use Rattle.pb_schema.specs.declared.types.Shape.TheVariants as shape
use Rattle.pb_schema.specs.Types.{FieldView, Types, message_fields, field_numbered}
use Rattle.pb_schema.specs.Kinds.{closed_enum}
use Rattle.pb_schema.specs.Fits.{fits_any, fits_type}
use Rattle.pb_schema.specs.Closed.{counts, closed_of, closed_shaped, is_undeclared}
use Rattle.pb_schema.specs.Rules.{IsPool}
use Rattle.pb_value.specs.Canon.{record_of}
use Rattle.pb_value.proofs.JudgeLemmas.{fits_any-found, fits_any-none}
use Rattle.pb_canonical.specs.Parts.{tagged, payload_bytes, IsStop, IsPayloadAt, RawFirst, InsideFirst, UnknownFirst, UnknownsFirst}
use Rattle.pb_canonical.proofs.SplitLemmas.{record_split, group_split, joined_split, record_shorter}
use Rattle.pb_canonical.proofs.SameLemmas.{FirstTag, plain_at, as_varint, payload_at, record_at, record_tag, stop_tag, stop_at, all_left}

-- GROUPS

pub raw_plain :
    (k w levels : ℕ) (p : Payload) (b rest : List ℕ) → wire_type p ≡ w → wire_type p ≢ 3 → IsInRange p → IsNumbered p → depth p ≡ 0 → b ≡ payload_bytes p ++ rest
    → RawFirst k w levels b rest
raw_plain k w levels p b rest t plain range numbered flat e =
    record { payload = p; type = t; in_range = range; numbered = numbered; deep = omega (arith, flat); split = record_split k w p b rest t plain e }

pub raw_group : (k levels below : ℕ) (b mid rest : List ℕ) → below < levels → InsideFirst below b mid → mid ≡ tagged k 4 rest → RawFirst k 3 levels b rest
raw_group k levels below b mid rest l h e = record {
  payload = group h.inside;
  type = refl;
  in_range = h.in_range;
  numbered = h.numbered;
  deep = omega (arith, l, h.deep);
  split = group_split k h.inside b rest (h.split ∙ ap (λ (s : List ℕ). shortest_group h.inside ++ s) e);
}

pub inside_none : (levels : ℕ) (b : List ℕ) → InsideFirst levels b b
inside_none levels b = record { inside = no_more; in_range = tt; numbered = tt; deep = omega arith; split = refl }

pub inside_more :
    (k w levels : ℕ) (b after mid rest : List ℕ) → IsNumber k → b ≡ tagged k w after → RawFirst k w levels after mid → InsideFirst levels mid rest
    → InsideFirst levels b rest
inside_more k w levels b after mid rest number e r h = record {
  inside = more k r.payload h.inside;
  in_range = (r.in_range, h.in_range);
  numbered = (number, r.numbered, h.numbered);
  deep = omega (arith, r.deep, h.deep);
  split = joined_split (shortest_record k r.payload) (shortest_group h.inside) b mid rest (e ∙ r.split) h.split;
}

pub raw_shorter : (k w levels : ℕ) (b after rest : List ℕ) → b ≡ tagged k w after → RawFirst k w levels after rest → length rest < length b
raw_shorter k w levels b after rest e r = record_shorter k r.payload b rest (e ∙ r.split)

-- RECORDS THAT COUNT FOR NO FIELD

none_counts : (x : Bool) (y : Bool) → x ≡ false → (x && y) ≡ false
none_counts false y e = refl
none_counts true y e = absurd (cc)

pub undeclared_counts : (x : Bool) (y : Bool) → y ≡ true → (x && not y) ≡ false
undeclared_counts false y e = refl
undeclared_counts true true e = refl
undeclared_counts true false e = absurd (cc)

pub unfit_counts : (pool : Types) (m : ℕ) (f : FieldView) (r : Record) → IsPool pool → field_numbered r.number (message_fields pool m) ≡ Some f
    → fits_type f (wire_type r.payload) ≡ false → counts pool (message_fields pool m) r ≡ false
unfit_counts pool m f r rules found e = none_counts (fits_any (message_fields pool m) r) _ (fits_any-found pool m r f rules found ∙ e)

pub absent_counts : (pool : Types) (m : ℕ) (r : Record) → IsPool pool → field_numbered r.number (message_fields pool m) ≡ None → counts pool (message_fields pool m) r ≡ false
absent_counts pool m r rules found = none_counts (fits_any (message_fields pool m) r) _ (fits_any-none pool m r rules found)

closed_unless_map : (s : Shape) (k : Kind) → ((key : Kind) → s ≢ shape.Map key) → closed_shaped s k ≡ closed_enum k
closed_unless_map (shape.Map key) k h = absurd (h key refl)
closed_unless_map (shape.List p) k h = refl
closed_unless_map shape.Explicit k h = refl
closed_unless_map shape.Implicit k h = refl
closed_unless_map (shape.OneofMember o) k h = refl

pub undeclared_unknown : (pool : Types) (m : ℕ) (f : FieldView) (n i : ℕ) → field_numbered n (message_fields pool m) ≡ Some f → ((key : Kind) → f.shape ≢ shape.Map key)
    → is_undeclared pool (closed_enum f.kind) (varint i) ≡ true → counts pool (message_fields pool m) (record_of n (varint i)) ≡ false
undeclared_unknown pool m f n i found h e =
    undeclared_counts (fits_any (message_fields pool m) (record_of n (varint i))) _
    (ap (λ (o : Option FieldView). is_undeclared pool (closed_of o) (varint i)) found
    ∙ ap (λ (o : Option ℕ). is_undeclared pool o (varint i)) (closed_unless_map f.shape f.kind h) ∙ e)

-- a record of a field counts where it fits it, but for a number that the field's closed enum does not declare
pub counts_found : (pool : Types) (m : ℕ) (f : FieldView) (r : Record) → IsPool pool → field_numbered r.number (message_fields pool m) ≡ Some f
    → counts pool (message_fields pool m) r ≡ (fits_type f (wire_type r.payload) && not (is_undeclared pool (closed_shaped f.shape f.kind) r.payload))
counts_found pool m f r rules found =
    ap (λ (b : Bool). b && not (is_undeclared pool (closed_of (field_numbered r.number (message_fields pool m))) r.payload)) (fits_any-found pool m r f rules found)
    ∙ ap (λ (o : Option FieldView). fits_type f (wire_type r.payload) && not (is_undeclared pool (closed_of o) r.payload)) found

-- only a varint is an undeclared number
pub number_undeclared : (pool : Types) (o : Option ℕ) (p : Payload) → wire_type p ≢ 0 → is_undeclared pool o p ≡ false
number_undeclared pool None p w = refl
number_undeclared pool (Some e) (varint n) w = absurd (w refl)
number_undeclared pool (Some e) (fixed64 n) w = refl
number_undeclared pool (Some e) (len l) w = refl
number_undeclared pool (Some e) (group g) w = refl
number_undeclared pool (Some e) (fixed32 n) w = refl

and_true : (b : Bool) → (b && not false) ≡ b
and_true true = refl
and_true false = refl

pub fit_counts : (pool : Types) (m : ℕ) (f : FieldView) (r : Record) (b : Bool) → IsPool pool → field_numbered r.number (message_fields pool m) ≡ Some f
    → fits_type f (wire_type r.payload) ≡ b → wire_type r.payload ≢ 0 → counts pool (message_fields pool m) r ≡ b
fit_counts pool m f r b rules found e w =
    counts_found pool m f r rules found
    ∙ ap (λ (x : Bool). fits_type f (wire_type r.payload) && not x) (number_undeclared pool (closed_shaped f.shape f.kind) r.payload w)
    ∙ and_true (fits_type f (wire_type r.payload)) ∙ e

pub varint_counts : (pool : Types) (m : ℕ) (f : FieldView) (n i : ℕ) (b : Bool) → IsPool pool → field_numbered n (message_fields pool m) ≡ Some f
    → fits_type f 0 ≡ true → is_undeclared pool (closed_shaped f.shape f.kind) (varint i) ≡ b → counts pool (message_fields pool m) (record_of n (varint i)) ≡ not b
varint_counts pool m f n i b rules found e u =
    counts_found pool m f (record_of n (varint i)) rules found ∙ ap (λ (x : Bool). x && not (is_undeclared pool (closed_shaped f.shape f.kind) (varint i))) e
    ∙ ap not u

pub closed_plain : (s : Shape) (k : Kind) → ((key : Kind) → s ≢ shape.Map key) → closed_shaped s k ≡ closed_enum k
closed_plain s k h = closed_unless_map s k h

-- UNKNOWN RECORDS

pub unknown_varint :
    (pool : Types) (m n i levels : ℕ) (b rest : List ℕ) → IsNumber n → i < 2 ^ 64 → counts pool (message_fields pool m) (record_of n (varint i)) ≡ false
    → b ≡ shortest i ++ rest → UnknownFirst pool m n levels (tagged n 0 b) rest
unknown_varint pool m n i levels b rest number range e s = record {
  payload = varint i;
  unknown = (number, range, tt, e);
  deep = omega arith;
  split = record_split n 0 (varint i) b rest refl (λ q. absurd (omega (arith, q))) s;
}

pub unknown_raw :
    (pool : Types) (m n w levels : ℕ) (b rest : List ℕ) → IsNumber n → ((p : Payload) → wire_type p ≡ w → counts pool (message_fields pool m) (record_of n p) ≡ false)
    → RawFirst n w levels b rest → UnknownFirst pool m n levels (tagged n w b) rest
unknown_raw pool m n w levels b rest number none r =
    record { payload = r.payload; unknown = (number, r.in_range, r.numbered, none r.payload r.type); deep = r.deep; split = r.split }

pub unknowns_none : (pool : Types) (m levels : ℕ) (b : List ℕ) → UnknownsFirst pool m levels b b
unknowns_none pool m levels b = record { records = []; unknown = tt; deep = omega arith; split = refl }

pub unknowns_more :
    (pool : Types) (m n levels : ℕ) (b whole mid rest : List ℕ) → b ≡ whole → UnknownFirst pool m n levels whole mid → UnknownsFirst pool m levels mid rest
    → UnknownsFirst pool m levels b rest
unknowns_more pool m n levels b whole mid rest e r h = record {
  records = record_of n r.payload ∷ h.records;
  unknown = (r.unknown, h.unknown);
  deep = omega (arith, r.deep, h.deep);
  split = joined_split (shortest_record n r.payload) (shortest_records h.records) b mid rest (e ∙ r.split) h.split;
}

pub unknown_shorter : (pool : Types) (m n levels : ℕ) (b whole rest : List ℕ) → b ≡ whole → UnknownFirst pool m n levels whole rest → length rest < length b
unknown_shorter pool m n levels b whole rest e r = record_shorter n r.payload b rest (e ∙ r.split)

-- WHAT IS TO BE FOUND IN A GROUP

-- the group of a record's payload, and its end tag
pub record GroupNext (k levels : ℕ) (b s : List ℕ) : Type 0 where
  pub mid : List ℕ
  pub inside : (below : ℕ) → levels ≡ below + 1 → InsideFirst below b mid
  pub some : 0 < levels
  pub ends : mid ≡ tagged k 4 s

group_of_payload : (k levels : ℕ) (p : Payload) (b s : List ℕ) → IsPayloadAt k 3 p b s → IsNumbered p → depth p ≤ levels → GroupNext k levels b s
group_of_payload k levels (group g) b s h numbered deep = record {
  mid = tagged k 4 s;
  inside = λ below e. record { inside = g; in_range = h.in_range; numbered = numbered; deep = omega (arith, deep, e); split = h.split };
  some = omega (arith, deep);
  ends = refl;
}
group_of_payload k levels (varint n) b s h numbered deep = absurd (omega (arith, h.type))
group_of_payload k levels (fixed64 n) b s h numbered deep = absurd (omega (arith, h.type))
group_of_payload k levels (len l) b s h numbered deep = absurd (omega (arith, h.type))
group_of_payload k levels (fixed32 n) b s h numbered deep = absurd (omega (arith, h.type))

pub group_next : (k levels : ℕ) (b s : List ℕ) → IsNumber k → RawFirst k 3 levels b s → GroupNext k levels b s
group_next k levels b s number r = group_of_payload k levels r.payload b s (payload_at k 3 r.payload b s (omega (arith, number.1)) (omega arith) r.in_range r.split) r.numbered r.deep

-- the next record of a group, and those after it
pub record InsideNext (n w levels : ℕ) (after s : List ℕ) : Type 0 where
  pub mid : List ℕ
  pub first : RawFirst n w levels after mid
  pub later : InsideFirst levels mid s

inside_next_of :
    (g : Group) (n w levels : ℕ) (b after s : List ℕ) → IsStop s → n < 2 ^ 32 → w < 8 → w ≢ 4 → b ≡ tagged n w after → IsInRangeGroup g → IsNumberedGroup g → group_depth g ≤ levels
    → b ≡ shortest_group g ++ s → InsideNext n w levels after s
inside_next_of no_more n w levels b after s stop small byte other e range numbered deep split =
    absurd (other (stop_at n w s after stop small byte (sym split ∙ e)))
inside_next_of (more k p g) n w levels b after s stop small byte other e range numbered deep split =
    let mid = shortest_group g ++ s in
    let front : b ≡ shortest_record k p ++ mid = split ∙ append_assoc (shortest_record k p) (shortest_group g) s in
    let at = record_at n w k p b after mid numbered.0 small byte range.0 e front in
    record {
      mid = mid;
      first = record {
        payload = p;
        type = at.1.type;
        in_range = range.0;
        numbered = numbered.1;
        deep = omega (arith, deep);
        split = sym e ∙ front ∙ ap (λ (i : ℕ). shortest_record i p ++ mid) (sym at.0);
      };
      later = record { inside = g; in_range = range.1; numbered = numbered.2; deep = omega (arith, deep); split = refl };
    }

pub inside_next :
    (n w levels : ℕ) (b after s : List ℕ) → IsStop s → n < 2 ^ 32 → w < 8 → w ≢ 4 → b ≡ tagged n w after → InsideFirst levels b s → InsideNext n w levels after s
inside_next n w levels b after s stop small byte other e h = inside_next_of h.inside n w levels b after s stop small byte other e h.in_range h.numbered h.deep h.split

inside_tag_of : (g : Group) (b s : List ℕ) → IsStop s → 0 < length b → IsNumberedGroup g → b ≡ shortest_group g ++ s → FirstTag b
inside_tag_of no_more b s stop some numbered split = subst FirstTag (sym split) (stop_tag s stop (subst (λ (l : List ℕ). 0 < length l) split some))
inside_tag_of (more k p g) b s stop some numbered split = record_tag k p b (shortest_group g ++ s) numbered.0 (split ∙ append_assoc (shortest_record k p) (shortest_group g) s)

pub inside_tag : (levels : ℕ) (b s : List ℕ) → IsStop s → 0 < length b → InsideFirst levels b s → FirstTag b
inside_tag levels b s stop some h = inside_tag_of h.inside b s stop some h.numbered h.split

inside_end_of : (g : Group) (n : ℕ) (b after s : List ℕ) → n < 2 ^ 32 → b ≡ tagged n 4 after → IsInRangeGroup g → IsNumberedGroup g → b ≡ shortest_group g ++ s → b ≡ s
inside_end_of no_more n b after s small e range numbered split = split
inside_end_of (more k p g) n b after s small e range numbered split =
    let at = record_at n 4 k p b after (shortest_group g ++ s) numbered.0 small (omega arith) range.0 e (split ∙ append_assoc (shortest_record k p) (shortest_group g) s) in
    absurd ((wire_type_known p).1 at.1.type)

-- where an end tag is read, the records have ended
pub inside_end : (n levels : ℕ) (b after s : List ℕ) → n < 2 ^ 32 → b ≡ tagged n 4 after → InsideFirst levels b s → b ≡ s
inside_end n levels b after s small e h = inside_end_of h.inside n b after s small e h.in_range h.numbered h.split

pub inside_none_left : (levels : ℕ) (b s : List ℕ) → length b ≡ 0 → InsideFirst levels b s → b ≡ s
inside_none_left levels b s none h = all_left (shortest_group h.inside) b s none h.split

-- WHAT IS TO BE FOUND OF UNKNOWN RECORDS

pub record UnknownNext (pool : Types) (m n w levels : ℕ) (after s : List ℕ) : Type 0 where
  pub mid : List ℕ
  pub first : UnknownFirst pool m n levels (tagged n w after) mid
  pub later : UnknownsFirst pool m levels mid s

unknown_next_of :
    (rs : List Record) (pool : Types) (m n w levels : ℕ) (b after s : List ℕ) → IsStop s → n < 2 ^ 32 → w < 8 → w ≢ 4 → b ≡ tagged n w after → AreUnknown pool (message_fields pool m) rs
    → records_depth rs ≤ levels → b ≡ shortest_records rs ++ s → UnknownNext pool m n w levels after s
unknown_next_of [] pool m n w levels b after s stop small byte other e unknown deep split = absurd (other (stop_at n w s after stop small byte (sym split ∙ e)))
unknown_next_of (r ∷ rs) pool m n w levels b after s stop small byte other e unknown deep split =
    let mid = shortest_records rs ++ s in
    let front : b ≡ shortest_record r.number r.payload ++ mid = split ∙ append_assoc (shortest_record r.number r.payload) (shortest_records rs) s in
    let at = record_at n w r.number r.payload b after mid unknown.0.0 small byte unknown.0.1 e front in
    record {
      mid = mid;
      first = record {
        payload = r.payload;
        unknown = subst (λ (i : ℕ). IsUnknown pool (message_fields pool m) (record_of i r.payload)) (sym at.0) unknown.0;
        deep = omega (arith, deep);
        split = sym e ∙ front ∙ ap (λ (i : ℕ). shortest_record i r.payload ++ mid) (sym at.0);
      };
      later = record { records = rs; unknown = unknown.1; deep = omega (arith, deep); split = refl };
    }

pub unknown_next :
    (pool : Types) (m n w levels : ℕ) (b after s : List ℕ) → IsStop s → n < 2 ^ 32 → w < 8 → w ≢ 4 → b ≡ tagged n w after → UnknownsFirst pool m levels b s
    → UnknownNext pool m n w levels after s
unknown_next pool m n w levels b after s stop small byte other e h = unknown_next_of h.records pool m n w levels b after s stop small byte other e h.unknown h.deep h.split

unknown_tag_of : (rs : List Record) (pool : Types) (fs : List FieldView) (b s : List ℕ) → IsStop s → 0 < length b → AreUnknown pool fs rs → b ≡ shortest_records rs ++ s → FirstTag b
unknown_tag_of [] pool fs b s stop some unknown split = subst FirstTag (sym split) (stop_tag s stop (subst (λ (l : List ℕ). 0 < length l) split some))
unknown_tag_of (r ∷ rs) pool fs b s stop some unknown split =
    record_tag r.number r.payload b (shortest_records rs ++ s) unknown.0.0 (split ∙ append_assoc (shortest_record r.number r.payload) (shortest_records rs) s)

pub unknown_tag : (pool : Types) (m levels : ℕ) (b s : List ℕ) → IsStop s → 0 < length b → UnknownsFirst pool m levels b s → FirstTag b
unknown_tag pool m levels b s stop some h = unknown_tag_of h.records pool (message_fields pool m) b s stop some h.unknown h.split

unknown_end_of : (rs : List Record) (pool : Types) (fs : List FieldView) (n : ℕ) (b after s : List ℕ) → n < 2 ^ 32 → b ≡ tagged n 4 after → AreUnknown pool fs rs → b ≡ shortest_records rs ++ s → b ≡ s
unknown_end_of [] pool fs n b after s small e unknown split = split
unknown_end_of (r ∷ rs) pool fs n b after s small e unknown split =
    let at = record_at n 4 r.number r.payload b after (shortest_records rs ++ s) unknown.0.0 small (omega arith) unknown.0.1 e (split ∙ append_assoc (shortest_record r.number r.payload) (shortest_records rs) s) in
    absurd ((wire_type_known r.payload).1 at.1.type)

pub unknown_end : (pool : Types) (m n levels : ℕ) (b after s : List ℕ) → n < 2 ^ 32 → b ≡ tagged n 4 after → UnknownsFirst pool m levels b s → b ≡ s
unknown_end pool m n levels b after s small e h = unknown_end_of h.records pool (message_fields pool m) n b after s small e h.unknown h.split

pub unknown_none_left : (pool : Types) (m levels : ℕ) (b s : List ℕ) → length b ≡ 0 → UnknownsFirst pool m levels b s → b ≡ s
unknown_none_left pool m levels b s none h = all_left (shortest_records h.records) b s none h.split

-- what an unknown record's payload is after a tag of its number
pub unknown_at :
    (pool : Types) (m n w levels : ℕ) (b s : List ℕ) → n < 2 ^ 32 → w < 256 → (h : UnknownFirst pool m n levels (tagged n w b) s) → IsPayloadAt n w h.payload b s
unknown_at pool m n w levels b s small byte h = payload_at n w h.payload b s small byte h.unknown.1 h.split

pub record NumberAt (pool : Types) (m n : ℕ) (b s : List ℕ) : Type 0 where
  pub number : ℕ
  pub small : number < 2 ^ 64
  pub split : b ≡ shortest number ++ s
  pub unknown : counts pool (message_fields pool m) (record_of n (varint number)) ≡ false

pub unknown_number :
    (pool : Types) (m n w levels : ℕ) (b s : List ℕ) → n < 2 ^ 32 → w < 256 → w ≡ 0 → UnknownFirst pool m n levels (tagged n w b) s → NumberAt pool m n b s
unknown_number pool m n w levels b s small byte zero_type h =
    let plain = plain_at n w h.payload b s (λ q. absurd (omega (arith, q, zero_type))) (unknown_at pool m n w levels b s small byte h) in
    let v = as_varint w h.payload b s zero_type plain.0 plain.1 in
    record {
      number = v.0;
      small = v.2;
      split = v.3;
      unknown = subst (λ (p : Payload). counts pool (message_fields pool m) (record_of n p) ≡ false) v.1 h.unknown.3;
    }

pub unknown_as_raw : (pool : Types) (m n w levels : ℕ) (b s : List ℕ) → n < 2 ^ 32 → w < 256 → UnknownFirst pool m n levels (tagged n w b) s → RawFirst n w levels b s
unknown_as_raw pool m n w levels b s small byte h =
    let at = unknown_at pool m n w levels b s small byte h in
    record { payload = h.payload; type = at.type; in_range = h.unknown.1; numbered = h.unknown.2; deep = h.deep; split = h.split }
