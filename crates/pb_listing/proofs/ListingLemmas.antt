-- The lines of a message, part by part.
use Rattle.std.proofs.Common.{◌≡◌, ℕ, suc, ◌+◌, ◌<◌, ◌≤◌, max, List, [], ◌∷◌, ◌++◌, length, take, drop, get_or, append_assoc, Option, None, Some, refl, sym, ap, ◌∙◌, subst, arith, codes, rules}
use Rattle.std.specs.Prelude.{MatchOption}
use Rattle.std.proofs.lemmas.Grind.{flat_map-append}
use Rattle.std.proofs.lemmas.List.{drop_more, take-append-drop}
use Rattle.std.specs.List.{flat_map}
use Rattle.pb_wire.specs.Record.{depth, group_depth, group_of, records_depth}
use Rattle.pb_wire.specs.Unknown.{payload_of, records_of}
use Rattle.pb_wire.specs.declared.unknown.Unknown.{Unknown}
use Rattle.pb_schema.specs.declared.types.Kind.{Kind}
use Rattle.pb_schema.specs.Scalar.{float, double}
use Rattle.pb_schema.specs.Types.{FieldView, Types, field_numbered}
use Rattle.pb_value.specs.Data.{Datum, scalar, message, levels_of, levels_in_entry, datums_depth, entries_depth, holding_depth, fields_depth}
use Rattle.pb_value.specs.View.{key_view, value_view, values_view, entries_view, content_view, fields_view}
use Rattle.pb_value.specs.declared.body.Content.{Content}
use Rattle.pb_value.specs.declared.body.MapKey.{MapKey}
use Rattle.pb_value.specs.declared.body.Value.{Value, the_lemmas as value_lemmas}
use Rattle.pb_value.specs.declared.body.Value.TheVariants as value
use Rattle.pb_listing.specs.declared.form.FloatForm.{FloatForm}
use Rattle.pb_listing.specs.Listing.{text_byte, unknown_lines, bracketed}
use Rattle.pb_listing.specs.ListingAs.{AreDatumLines, AreEachLines, AreEntriesLines, AreFieldsLines, AreHoldingLines}
use Rattle.pb_listing.specs.RawListing.{record_lines, group_lines}

-- the elements from an index on, by the one that stands there
from_item : {X : Type 0} (xs : List X) (i : ℕ) (x : X) → i < length xs → x ≡ get_or xs i x → drop i xs ≡ x ∷ drop (i + 1) xs
from_item {X} xs i x below is = drop_more xs i x below ∙ ap (λ (y : X). y ∷ drop (i + 1) xs) (sym is)

-- TEXTS

-- some bytes of a text, the next and the rest
pub text-parts :
    (i : ℕ) (xs : List ℕ) → i < length xs
    → flat_map text_byte xs ≡ flat_map text_byte (take i xs) ++ text_byte (get_or xs i 0) ++ flat_map text_byte (drop (i + 1) xs)
text-parts i xs below =
    ap (flat_map text_byte) (sym (take-append-drop i xs)) ∙ flat_map-append text_byte (take i xs) (drop i xs)
    ∙ ap (λ (ys : List ℕ). flat_map text_byte (take i xs) ++ flat_map text_byte ys) (drop_more xs i 0 below)
    ∙ sym (append_assoc (flat_map text_byte (take i xs)) (text_byte (get_or xs i 0)) (flat_map text_byte (drop (i + 1) xs)))

-- RECORDS THAT FIT NO FIELD

-- the lines of the records from an index on
abbrev pub unknown_from : ℕ → ℕ → List (ℕ × Unknown) → List ℕ
unknown_from level i xs = unknown_lines level (records_of (drop i xs))

abbrev pub group_from : ℕ → ℕ → List (ℕ × Unknown) → List ℕ
group_from level i xs = group_lines level (group_of (records_of (drop i xs)))

abbrev pub unknown_depth : ℕ → List (ℕ × Unknown) → ℕ
unknown_depth i xs = records_depth (records_of (drop i xs))

abbrev pub group_depth_from : ℕ → List (ℕ × Unknown) → ℕ
group_depth_from i xs = group_depth (group_of (records_of (drop i xs)))

pub unknown_next :
    (level : ℕ) (xs : List (ℕ × Unknown)) (i : ℕ) (x : ℕ × Unknown) → i < length xs → x ≡ get_or xs i x
    → (unknown_from level i xs ≡ record_lines (codes "? ") level x.0 (payload_of x.1) ++ unknown_from level (i + 1) xs)
    × (unknown_depth i xs ≡ max (depth (payload_of x.1)) (unknown_depth (i + 1) xs))
unknown_next level xs i x below is = (
  ap (λ (ys : List (ℕ × Unknown)). unknown_lines level (records_of ys)) (from_item xs i x below is),
  ap (λ (ys : List (ℕ × Unknown)). records_depth (records_of ys)) (from_item xs i x below is),
)

pub group_next :
    (level : ℕ) (xs : List (ℕ × Unknown)) (i : ℕ) (x : ℕ × Unknown) → i < length xs → x ≡ get_or xs i x
    → (group_from level i xs ≡ record_lines [] level x.0 (payload_of x.1) ++ group_from level (i + 1) xs)
    × (group_depth_from i xs ≡ max (depth (payload_of x.1)) (group_depth_from (i + 1) xs))
group_next level xs i x below is = (
  ap (λ (ys : List (ℕ × Unknown)). group_lines level (group_of (records_of ys))) (from_item xs i x below is),
  ap (λ (ys : List (ℕ × Unknown)). group_depth (group_of (records_of ys))) (from_item xs i x below is),
)

-- VALUES

pub value_view-F32 : (n : ℕ) → value_view (value.F32 n) ≡ scalar (float n)
value_view-F32 n = search (rules, value_lemmas)

pub value_view-F64 : (n : ℕ) → value_view (value.F64 n) ≡ scalar (double n)
value_view-F64 n = search (rules, value_lemmas)

-- FIELDS

-- a field and those after it
pub fields_join :
    (floats : FloatForm) (pool : Types) (level : ℕ) (all : List FieldView) (before after : List (ℕ × Content)) (n : ℕ) (h : Content) (f : FieldView)
    → before ≡ (n, h) ∷ after → field_numbered n all ≡ Some f → (first rest : List ℕ) → AreHoldingLines floats pool level f (content_view h) first
    → AreFieldsLines floats pool level all (fields_view after) rest → AreFieldsLines floats pool level all (fields_view before) (first ++ rest)
fields_join floats pool level all before after n h f split found first rest is others =
    subst (λ (fs : List (ℕ × Content)). AreFieldsLines floats pool level all (fields_view fs) (first ++ rest)) (sym split) (
      first,
      rest,
      refl,
      subst (λ (o : Option FieldView). MatchOption o (first ≡ []) (λ g. AreHoldingLines floats pool level g (content_view h) first)) (sym found) is,
      others,
    )

pub fields_deep :
    (before after : List (ℕ × Content)) (n : ℕ) (h : Content) → before ≡ (n, h) ∷ after
    → fields_depth (fields_view before) ≡ max (holding_depth (content_view h)) (fields_depth (fields_view after))
fields_deep before after n h split = ap (λ (fs : List (ℕ × Content)). fields_depth (fields_view fs)) split

-- a field that the type does not have has no line
pub fields_skip :
    (floats : FloatForm) (pool : Types) (level : ℕ) (all : List FieldView) (before after : List (ℕ × Content)) (n : ℕ) (h : Content)
    → before ≡ (n, h) ∷ after → field_numbered n all ≡ None → (rest : List ℕ) → AreFieldsLines floats pool level all (fields_view after) rest
    → AreFieldsLines floats pool level all (fields_view before) rest
fields_skip floats pool level all before after n h split none rest others =
    let nothing : List ℕ = [] in
    subst (λ (fs : List (ℕ × Content)). AreFieldsLines floats pool level all (fields_view fs) rest) (sym split) (
      nothing,
      rest,
      refl,
      subst (λ (o : Option FieldView). MatchOption o (nothing ≡ nothing) (λ g. AreHoldingLines floats pool level g (content_view h) nothing)) (sym none) refl,
      others,
    )

-- ENTRIES

pub entries_join :
    (floats : FloatForm) (pool : Types) (level : ℕ) (k : Kind) (name : List ℕ) (before after : List (MapKey × Value)) (key : MapKey) (v : Value)
    → before ≡ (key, v) ∷ after → (first rest : List ℕ) → AreDatumLines floats pool level k (name ++ bracketed (key_view key)) (value_view v) first
    → AreEntriesLines floats pool level k name (entries_view after) rest → AreEntriesLines floats pool level k name (entries_view before) (first ++ rest)
entries_join floats pool level k name before after key v split first rest is others =
    subst (λ (es : List (MapKey × Value)). AreEntriesLines floats pool level k name (entries_view es) (first ++ rest)) (sym split)
    (first, rest, refl, is, others)

-- a message of an entry stands at the entry's level, so its lines stand no deeper than those of another value
pub entries_deep :
    (before after : List (MapKey × Value)) (key : MapKey) (v : Value) → before ≡ (key, v) ∷ after
    → entries_depth (entries_view before) ≡ max (suc (levels_in_entry (value_view v))) (entries_depth (entries_view after))
entries_deep before after key v split = ap (λ (es : List (MapKey × Value)). entries_depth (entries_view es)) split

pub entry_deep : (d : Datum) → levels_of d ≤ suc (levels_in_entry d)
entry_deep (scalar x) = omega arith
entry_deep (message m) = omega arith

-- ELEMENTS

pub each_join :
    (floats : FloatForm) (pool : Types) (level : ℕ) (k : Kind) (name : List ℕ) (vs : List Value) (i : ℕ) (v : Value) → i < length vs → v ≡ get_or vs i v
    → (first rest : List ℕ) → AreDatumLines floats pool level k name (value_view v) first
    → AreEachLines floats pool level k name (values_view (drop (i + 1) vs)) rest → AreEachLines floats pool level k name (values_view (drop i vs)) (first ++ rest)
each_join floats pool level k name vs i v below at first rest is others =
    subst (λ (ws : List Value). AreEachLines floats pool level k name (values_view ws) (first ++ rest)) (sym (from_item vs i v below at))
    (first, rest, refl, is, others)

pub each_deep :
    (vs : List Value) (i : ℕ) (v : Value) → i < length vs → v ≡ get_or vs i v
    → datums_depth (values_view (drop i vs)) ≡ max (levels_of (value_view v)) (datums_depth (values_view (drop (i + 1) vs)))
each_deep vs i v below at = ap (λ (ws : List Value). datums_depth (values_view ws)) (from_item vs i v below at)
