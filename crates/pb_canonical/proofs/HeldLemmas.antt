-- The records of fields: values, lists and maps.
use Rattle.std.proofs.Common.{◌≡◌, ℕ, suc, ◌<◌, ◌≤◌, List, [], ◌∷◌, ◌++◌, length, refl, ap, sym, ◌∙◌, arith}
use Rattle.std.specs.Prelude.{Bool, true, false, ◌&&◌, ◌≢◌}
use Rattle.pb_wire.specs.Record.{Payload, varint, fixed64, len, group, fixed32, group_of, wire_type}
use Rattle.pb_wire.specs.Spell.{shortest_record, shortest_records}
use Rattle.pb_schema.specs.declared.types.Kind.{Kind}
use Rattle.pb_schema.specs.declared.types.Kind.TheVariants as kind
use Rattle.pb_schema.specs.declared.types.MessageId.{MessageId}
use Rattle.pb_schema.specs.declared.types.Shape.{Shape}
use Rattle.pb_schema.specs.declared.types.Shape.TheVariants as shape
use Rattle.pb_schema.specs.Types.{FieldView, Types}
use Rattle.pb_schema.specs.Kinds.{wire_type_of}
use Rattle.pb_schema.specs.Packed.{number_bytes, element_bytes}
use Rattle.pb_value.specs.Data.{Datum, scalar, message, Datums, no_datums, datum, Entries, no_entries, entry, one, list, map, levels_of, levels_in_entry}
use Rattle.pb_value.specs.Canon.{sealed, key_kind, is_packed, payload_of, packed_bytes, canon, canon_each, canon_entries, canon_bytes}
use Rattle.pb_value.specs.WellFormed.{IsOfShape}
use Rattle.pb_canonical.specs.Parts.{tagged, payload_bytes, is_zero, IsWritten, ValueFirst, GivenFirst, AreElements, PackedFirst, EachFirst, SomeEach, entry_records, AreBelow, EntryFirst, SomeEntries, MoreFirst, HeldFirst, InnerFirst, GroupFirst}
use Rattle.pb_canonical.proofs.SplitLemmas.{record_split, group_split, joined_split, one_split, record_shorter, records_shorter}
use Rattle.pb_canonical.proofs.ScalarLemmas.{given_value}

-- VALUES

pub scalar_value :
    (pool : Types) (k : Kind) (n w levels : ℕ) (p : Payload) (b rest : List ℕ) → wire_type p ≡ w → wire_type p ≢ 3 → IsWritten pool k p → b ≡ payload_bytes p ++ rest
    → ValueFirst pool k n levels (tagged n w b) rest
scalar_value pool k n w levels p b rest t plain x e = record {
  value = scalar x.value;
  within = x.within;
  declared = x.declared;
  deep = omega arith;
  split = record_split n w p b rest t plain e ∙ ap (λ (q : Payload). shortest_record n q ++ rest) (sym x.written);
}

pub given_scalar :
    (pool : Types) (k : Kind) (n w levels : ℕ) (p : Payload) (b rest : List ℕ) → wire_type p ≡ w → wire_type p ≢ 3 → IsWritten pool k p → is_zero p ≡ false
    → b ≡ payload_bytes p ++ rest → GivenFirst pool k n levels (tagged n w b) rest
unfolding scalar_value
given_scalar pool k n w levels p b rest t plain x z e =
    record { first = scalar_value pool k n w levels p b rest t plain x e; given = given_value k x.value x.within (ap is_zero x.written ∙ z) }

pub message_value : (pool : Types) (m : MessageId) (n levels : ℕ) (b rest : List ℕ) → InnerFirst pool m.0 levels b rest → ValueFirst pool (kind.Message m) n levels (tagged n 2 b) rest
message_value pool m n levels b rest h = record {
  value = message h.message;
  within = h.within;
  declared = refl;
  deep = omega (arith, h.deep);
  split = record_split n 2 (len (canon_bytes pool m.0 h.message)) b rest refl (λ q. absurd (omega (arith, q))) h.split;
}

pub group_value : (pool : Types) (m : MessageId) (n levels : ℕ) (b rest : List ℕ) → GroupFirst pool m.0 n levels b rest → ValueFirst pool (kind.Group m) n levels (tagged n 3 b) rest
group_value pool m n levels b rest h = record {
  value = message h.message;
  within = h.within;
  declared = refl;
  deep = omega (arith, h.deep);
  split = group_split n (group_of (canon pool m.0 h.message)) b rest h.split;
}

-- with more levels left
pub value_deeper : (pool : Types) (k : Kind) (n levels : ℕ) (b rest : List ℕ) → ValueFirst pool k n 0 b rest → ValueFirst pool k n levels b rest
value_deeper pool k n levels b rest v = record { value = v.value; within = v.within; declared = v.declared; deep = omega (arith, v.deep); split = v.split }

-- of a kind that is known, and its wire type
pub value_as :
    (pool : Types) (k j : Kind) (n w levels : ℕ) (b rest : List ℕ) → k ≡ j → w ≡ wire_type_of k → ValueFirst pool j n levels (tagged n (wire_type_of j) b) rest
    → ValueFirst pool k n levels (tagged n w b) rest
value_as pool k j n w levels b rest e t v = rw (t, e) v

pub value_from : (pool : Types) (k : Kind) (n levels : ℕ) (b whole rest : List ℕ) → b ≡ whole → ValueFirst pool k n levels whole rest → ValueFirst pool k n levels b rest
value_from pool k n levels b whole rest e v = rw e v

pub value_shorter : (pool : Types) (k : Kind) (n levels : ℕ) (b whole rest : List ℕ) → b ≡ whole → ValueFirst pool k n levels whole rest → length rest < length b
value_shorter pool k n levels b whole rest e v = record_shorter n (payload_of pool k v.value) b rest (e ∙ v.split)

-- PACKED LISTS

pub number_payload : (p : Payload) → wire_type p ≢ 2 → number_bytes p ≡ payload_bytes p
number_payload (varint n) w = refl
number_payload (fixed64 n) w = refl
number_payload (fixed32 n) w = refl
number_payload (group g) w = refl
number_payload (len s) w = absurd (w refl)

pub no_length : (b : List ℕ) → length b ≡ 0 → b ≡ []
no_length [] e = refl
no_length (x ∷ b) e = absurd (omega (arith, e))

pub no_elements : (pool : Types) (k : Kind) (b : List ℕ) → length b ≡ 0 → AreElements pool k b
no_elements pool k [] e = record { values = no_datums; within = tt; declared = refl; flat = refl; all = refl }
no_elements pool k (x ∷ b) e = absurd (omega (arith, e))

some_bytes : (b : List ℕ) → 0 < length b → b ≢ []
some_bytes [] h e = absurd (omega (arith, h))
some_bytes (x ∷ b) h e = absurd (cc)

both_true : (x y : Bool) → x ≡ true → y ≡ true → (x && y) ≡ true
both_true x y e f = rw (e, f) refl

pub one_element : (pool : Types) (k : Kind) (p : Payload) (b rest : List ℕ) → wire_type p ≢ 2 → IsWritten pool k p → b ≡ payload_bytes p ++ rest → AreElements pool k rest → AreElements pool k b
one_element pool k p b rest w x e h = record {
  values = datum (scalar x.value) h.values;
  within = (x.within, h.within);
  declared = both_true _ _ x.declared h.declared;
  flat = omega (arith, h.flat);
  all =
      e ∙ ap (λ (l : List ℕ). l ++ rest) (sym (number_payload p w) ∙ ap number_bytes (sym x.written))
      ∙ ap (λ (l : List ℕ). element_bytes k x.value ++ l) h.all;
}

pub packed_record : (pool : Types) (k : Kind) (n : ℕ) (s b rest : List ℕ) → AreElements pool k s → 0 < length s → b ≡ payload_bytes (len s) ++ rest → PackedFirst pool k n (tagged n 2 b) rest
packed_record pool k n s b rest h some e = record { payload = s; elements = h; some = some_bytes s some; split = record_split n 2 (len s) b rest refl (λ q. absurd (omega (arith, q))) e }

-- LISTS

pub each_none : (pool : Types) (f : FieldView) (levels : ℕ) (b : List ℕ) → EachFirst pool f levels b b
each_none pool f levels b = record { values = no_datums; within = tt; declared = refl; deep = omega arith; split = refl }

pub each_more :
    (pool : Types) (f : FieldView) (n levels : ℕ) (b mid rest : List ℕ) → f.number ≡ n → ValueFirst pool f.kind n levels b mid → EachFirst pool f levels mid rest → SomeEach pool f levels b rest
each_more pool f n levels b mid rest same v h = record {
  each = record {
    values = datum v.value h.values;
    within = (v.within, h.within);
    declared = both_true _ _ v.declared h.declared;
    deep = omega (arith, v.deep, h.deep);
    split = joined_split (shortest_record f.number (payload_of pool f.kind v.value)) (shortest_records (canon_each pool f h.values)) b mid rest (rw same v.split) h.split;
  };
  some = λ q. absurd (cc);
}

-- MAPS

-- the levels of an entry's value
entry_levels : (d : Datum) (levels : ℕ) → 0 < levels → levels_of d ≤ levels → suc (levels_in_entry d) ≤ levels
entry_levels (scalar x) levels some h = omega (arith, some)
entry_levels (message m) levels some h = omega (arith, h)

pub whole_entry :
    (pool : Types) (key k : Kind) (levels : ℕ) (b s mid after end rest : List ℕ) (p : Payload) (w : ℕ) → 0 < levels → b ≡ payload_bytes (len s) ++ rest → IsWritten pool key p
    → s ≡ shortest_record 1 p ++ mid → mid ≡ tagged 2 w after → ValueFirst pool k 2 levels (tagged 2 w after) end → length end ≡ 0 → EntryFirst pool key k levels b p rest
whole_entry pool key k levels b s mid after [] rest p w some e x first second v none = record {
  name = x.value;
  named = x.within;
  written = x.written;
  value = v.value;
  within = v.within;
  deep = entry_levels v.value levels some v.deep;
  split =
      let all : s ≡ shortest_records (entry_records pool key k x.value v.value) =
      first ∙ ap (λ (l : List ℕ). shortest_record 1 p ++ l) (second ∙ v.split)
      ∙ ap (λ (q : Payload). shortest_record 1 q ++ (shortest_record 2 (payload_of pool k v.value) ++ [])) (sym x.written) in
      e ∙ ap (λ (l : List ℕ). payload_bytes (len l) ++ rest) all;
}
whole_entry pool key k levels b s mid after (y ∷ end) rest p w some e x first second v none = absurd (omega (arith, none))

pub entries_none : (pool : Types) (f : FieldView) (levels : ℕ) (last : Payload) (b : List ℕ) → MoreFirst pool f levels last b b
entries_none pool f levels last b = record { more = record { entries = no_entries; within = tt; rise = tt; deep = omega arith; split = refl }; above = λ x w e. tt }

pub entry_shorter :
    (pool : Types) (key k : Kind) (n levels : ℕ) (b after rest : List ℕ) (p : Payload) → b ≡ tagged n 2 after → EntryFirst pool key k levels after p rest → length rest < length b
entry_shorter pool key k n levels b after rest p e h =
    let q = sealed (entry_records pool key k h.name h.value) in record_shorter n q b rest (e ∙ record_split n 2 q after rest refl (λ w. absurd (omega (arith, w))) h.split)

-- an entry, and those with keys above its own
pub entries_more :
    (pool : Types) (f : FieldView) (key : Kind) (n levels : ℕ) (b after mid rest : List ℕ) (p : Payload) → f.number ≡ n → f.shape ≡ shape.Map key → b ≡ tagged n 2 after
    → EntryFirst pool key f.kind levels after p mid → MoreFirst pool f levels p mid rest → SomeEntries pool f levels b rest
entries_more pool f key n levels b after mid rest p same is e h m =
    let kinds : key_kind f.shape f.kind ≡ key = ap (λ (s : Shape). key_kind s f.kind) is in
    record {
      each = record {
        entries = entry h.name h.value m.more.entries;
        within = (rw kinds h.named, h.within, m.more.within);
        rise = (m.above h.name (rw kinds h.named) (rw kinds h.written), m.more.rise);
        deep = omega (arith, h.deep, m.more.deep);
        split =
            let first : b ≡ shortest_record f.number (sealed (entry_records pool (key_kind f.shape f.kind) f.kind h.name h.value)) ++ mid =
            rw (same, kinds) (e ∙ record_split n 2 (sealed (entry_records pool key f.kind h.name h.value)) after mid refl (λ q. absurd (omega (arith, q))) h.split) in
            joined_split (shortest_record f.number (sealed (entry_records pool (key_kind f.shape f.kind) f.kind h.name h.value))) (shortest_records (canon_entries pool f m.more.entries)) b mid rest first m.more.split;
      };
      some = λ q. absurd (cc);
    }

-- where the keys of two payloads rise, the second's entry may follow the first's
pub entries_follow :
    (pool : Types) (f : FieldView) (key : Kind) (n levels : ℕ) (b after mid rest : List ℕ) (last p : Payload) → f.number ≡ n → f.shape ≡ shape.Map key → b ≡ tagged n 2 after
    → AreBelow key last p → EntryFirst pool key f.kind levels after p mid → MoreFirst pool f levels p mid rest → MoreFirst pool f levels last b rest
unfolding entries_more
entries_follow pool f key n levels b after mid rest last p same is e below h m =
    let kinds : key_kind f.shape f.kind ≡ key = ap (λ (s : Shape). key_kind s f.kind) is in
    record { more = (entries_more pool f key n levels b after mid rest p same is e h m).each; above = λ x w q. below x h.name (rw kinds at w) h.named (rw kinds at q) h.written }

-- FIELDS

one_held : (pool : Types) (f : FieldView) (levels : ℕ) (b rest : List ℕ) (v : ValueFirst pool f.kind f.number levels b rest) → IsOfShape f.shape (one v.value) → HeldFirst pool f levels b rest
one_held pool f levels b rest v of_shape = record {
  held = one v.value;
  of_shape = of_shape;
  within = v.within;
  declared = v.declared;
  deep = v.deep;
  shorter = record_shorter f.number (payload_of pool f.kind v.value) b rest v.split;
  split = one_split f.number (payload_of pool f.kind v.value) b rest v.split;
}

pub implicit_held : (pool : Types) (f : FieldView) (levels : ℕ) (b rest : List ℕ) → f.shape ≡ shape.Implicit → GivenFirst pool f.kind f.number 0 b rest → HeldFirst pool f levels b rest
unfolding value_deeper
implicit_held pool f levels b rest is g = one_held pool f levels b rest (value_deeper pool f.kind f.number levels b rest g.first) (rw is g.given)

pub explicit_held : (pool : Types) (f : FieldView) (levels : ℕ) (b rest : List ℕ) → f.shape ≡ shape.Explicit → ValueFirst pool f.kind f.number levels b rest → HeldFirst pool f levels b rest
explicit_held pool f levels b rest is v = one_held pool f levels b rest v (rw is tt)

pub member_held : (pool : Types) (f : FieldView) (o levels : ℕ) (b rest : List ℕ) → f.shape ≡ shape.OneofMember o → ValueFirst pool f.kind f.number levels b rest → HeldFirst pool f levels b rest
member_held pool f o levels b rest is v = one_held pool f levels b rest v (rw is tt)

some_list : (p : Bool) (ds : Datums) → ds ≢ no_datums → IsOfShape (shape.List p) (list ds)
some_list p no_datums h = absurd (h refl)
some_list p (datum d ds) h = tt

pub packed_held : (pool : Types) (f : FieldView) (levels : ℕ) (b rest : List ℕ) → f.shape ≡ shape.List true → PackedFirst pool f.kind f.number b rest → HeldFirst pool f levels b rest
packed_held pool f levels b rest is h =
    let all = h.elements.all in
    let packed : is_packed f.shape ≡ true = ap is_packed is in
    let some : h.elements.values ≢ no_datums = λ q. h.some (all ∙ ap (packed_bytes f.kind) q) in
    record {
      held = list h.elements.values;
      of_shape = rw is (some_list true h.elements.values some);
      within = h.elements.within;
      declared = h.elements.declared;
      deep = omega (arith, h.elements.flat);
      shorter = record_shorter f.number (len h.payload) b rest h.split;
      split =
          rw packed
          (one_split f.number (len (packed_bytes f.kind h.elements.values)) b rest (h.split ∙ ap (λ (s : List ℕ). shortest_record f.number (len s) ++ rest) all));
    }

each_shorter : (pool : Types) (f : FieldView) (ds : Datums) (b rest : List ℕ) → ds ≢ no_datums → b ≡ shortest_records (canon_each pool f ds) ++ rest → length rest < length b
each_shorter pool f no_datums b rest h e = absurd (h refl)
each_shorter pool f (datum d ds) b rest h e = records_shorter f.number (payload_of pool f.kind d) (canon_each pool f ds) b rest e

pub list_held : (pool : Types) (f : FieldView) (levels : ℕ) (b rest : List ℕ) → f.shape ≡ shape.List false → SomeEach pool f levels b rest → HeldFirst pool f levels b rest
list_held pool f levels b rest is h =
    let packed : is_packed f.shape ≡ false = ap is_packed is in
    record {
      held = list h.each.values;
      of_shape = rw is (some_list false h.each.values h.some);
      within = h.each.within;
      declared = h.each.declared;
      deep = h.each.deep;
      shorter = each_shorter pool f h.each.values b rest h.some h.each.split;
      split = rw packed h.each.split;
    }

some_map : (key : Kind) (es : Entries) → es ≢ no_entries → IsOfShape (shape.Map key) (map es)
some_map key no_entries h = absurd (h refl)
some_map key (entry x d es) h = tt

entries_shorter : (pool : Types) (f : FieldView) (es : Entries) (b rest : List ℕ) → es ≢ no_entries → b ≡ shortest_records (canon_entries pool f es) ++ rest → length rest < length b
entries_shorter pool f no_entries b rest h e = absurd (h refl)
entries_shorter pool f (entry x d es) b rest h e =
    records_shorter f.number (sealed (entry_records pool (key_kind f.shape f.kind) f.kind x d)) (canon_entries pool f es) b rest e

pub map_held : (pool : Types) (f : FieldView) (key : Kind) (levels : ℕ) (b rest : List ℕ) → f.shape ≡ shape.Map key → SomeEntries pool f levels b rest → HeldFirst pool f levels b rest
map_held pool f key levels b rest is h =
    let kinds : key_kind f.shape f.kind ≡ key = ap (λ (s : Shape). key_kind s f.kind) is in
    record {
      held = map h.each.entries;
      of_shape = rw is (some_map key h.each.entries h.some);
      within = rw is ((rw kinds at h.each.within), h.each.rise);
      declared = refl;
      deep = h.each.deep;
      shorter = entries_shorter pool f h.each.entries b rest h.some h.each.split;
      split = h.each.split;
    }
