-- The members and elements of a message's JSON, one by one.
use Rattle.std.proofs.Common.{◌≡◌, ℕ, suc, ◌+◌, ◌<◌, List, [], ◌∷◌, ◌++◌, length, drop, get_or, Option, None, Some, rules, refl, sym, ap, ◌∙◌, subst}
use Rattle.std.specs.Prelude.{Bool, false, option_map, ℤ}
use Rattle.std.specs.Option.{option_map_or}
use Rattle.std.proofs.lemmas.List.{drop_more}
use Rattle.pb_schema.specs.declared.types.Kind.{Kind}
use Rattle.pb_schema.specs.Types.{FieldView, Types, field_numbered, message_fields}
use Rattle.pb_value.specs.Data.{scalar}
use Rattle.pb_value.specs.View.{key_view, value_view, values_view, entries_view, content_view, fields_view}
use Rattle.pb_value.specs.declared.body.Content.{Content}
use Rattle.pb_value.specs.declared.body.MapKey.{MapKey}
use Rattle.pb_value.specs.declared.body.Value as body
use Rattle.pb_value.specs.declared.body.Value.{the_lemmas as value_lemmas}
use Rattle.pb_value.specs.declared.body.Value.TheVariants as value
use Rattle.pb_schema.specs.Scalar.{enum}
use Rattle.pb_json.specs.declared.form.Layout.{Layout}
use Rattle.pb_json.specs.declared.form.Names.{Names}
use Rattle.pb_json.specs.Json.{Json, null, object, Elements, element, Members, member}
use Rattle.pb_json.specs.JsonNames.{member_name}
use Rattle.pb_json.specs.JsonText.{IsJsonText, AreElements, AreMembers, separator, new_line, member_start}
use Rattle.pb_json.specs.declared.well_known.WellKnown.{WellKnown}
use Rattle.pb_json.specs.declared.well_known.WellKnown.TheVariants.{Any, Duration, Other, Timestamp}
use Rattle.pb_json.specs.WellKnown.{well_known}
use Rattle.pb_value.specs.Data.{Message}
use Rattle.pb_value.specs.Dynamic.{Dynamic}
use Rattle.pb_value.specs.View.{body_view}
use Rattle.pb_value.specs.declared.body.Body.{Body}
use Rattle.pb_value.proofs.Views.{body_view-out}
use Rattle.pb_json.specs.Anys.{any_json}
use Rattle.pb_json.specs.Mapping.{absent_json, in_form, timestamp_json, duration_json, json_of, message_here, message_json, only_json}
use Rattle.pb_json.specs.Mapping.{datum_json, elements_json, entries_json, fields_json, holding_json, key_name, maybe_member}
use Rattle.pb_json.proofs.PrintLemmas.{Begins}

-- the elements from an index on, by the one at the index
from_item : {X : Type 0} (xs : List X) (i : ℕ) (x : X) → i < length xs → x ≡ get_or xs i x → drop i xs ≡ x ∷ drop (i + 1) xs
from_item {X} xs i x below is = drop_more xs i x below ∙ ap (λ (y : X). y ∷ drop (i + 1) xs) (sym is)

-- WHAT IS WRITTEN

-- an element, and those after it
pub element_joins :
    (layout : Layout) (indent : ℕ) (is_first : Bool) (all : Elements) (j : Json) (js : Elements) → all ≡ element j js → (part after : List ℕ)
    → Begins (separator is_first ++ new_line layout (indent + 1)) (IsJsonText layout (indent + 1) j) part → AreElements layout indent false js after
    → AreElements layout indent is_first all (part ++ after)
element_joins layout indent is_first all j js e part after (one, begins, is) h =
    subst (λ (x : Elements). AreElements layout indent is_first x (part ++ after)) (sym e) (one, after, ap (λ (l : List ℕ). l ++ after) begins, is, h)

-- a member, and those after it
pub member_joins :
    (layout : Layout) (indent : ℕ) (is_first : Bool) (all : Members) (name : List ℕ) (j : Json) (ms : Members) → all ≡ member name j ms
    → (part after : List ℕ) → Begins (member_start layout (indent + 1) is_first name) (IsJsonText layout (indent + 1) j) part
    → AreMembers layout indent false ms after → AreMembers layout indent is_first all (part ++ after)
member_joins layout indent is_first all name j ms e part after (one, begins, is) h =
    subst (λ (x : Members). AreMembers layout indent is_first x (part ++ after)) (sym e) (one, after, ap (λ (l : List ℕ). l ++ after) begins, is, h)

-- ELEMENTS

pub elements_next :
    (pool : Types) (names : Names) (Inside : ℕ → Message → Json) (k : Kind) (vs : List body.Value) (i : ℕ) (v : body.Value) → i < length vs → v ≡ get_or vs i v
    → elements_json pool names Inside k (values_view (drop i vs))
    ≡ element (datum_json pool names Inside k (value_view v)) (elements_json pool names Inside k (values_view (drop (i + 1) vs)))
elements_next pool names Inside k vs i v below is = ap (λ (ws : List body.Value). elements_json pool names Inside k (values_view ws)) (from_item vs i v below is)

-- ENTRIES

pub entries_next :
    (pool : Types) (names : Names) (Inside : ℕ → Message → Json) (k : Kind) (before after : List (MapKey × body.Value)) (key : MapKey) (v : body.Value) → before ≡ (key, v) ∷ after
    → entries_json pool names Inside k (entries_view before) ≡ member (key_name (key_view key)) (datum_json pool names Inside k (value_view v)) (entries_json pool names Inside k (entries_view after))
entries_next pool names Inside k before after key v split = ap (λ (es : List (MapKey × body.Value)). entries_json pool names Inside k (entries_view es)) split

-- FIELDS

pub fields_next :
    (pool : Types) (names : Names) (Inside : ℕ → Message → Json) (m : ℕ) (before after : List (ℕ × Content)) (n : ℕ) (h : Content) (f : FieldView)
    → before ≡ (n, h) ∷ after → field_numbered n (message_fields pool m) ≡ Some f
    → fields_json pool names Inside m (fields_view before) ≡ member (member_name names m f) (holding_json pool names Inside f.kind (content_view h)) (fields_json pool names Inside m (fields_view after))
fields_next pool names Inside m before after n h f split found =
    ap (λ (fs : List (ℕ × Content)). fields_json pool names Inside m (fields_view fs)) split
    ∙ ap (λ (o : Option FieldView). maybe_member (option_map (λ (g : FieldView). (member_name names m g, holding_json pool names Inside g.kind (content_view h))) o) (fields_json pool names Inside m (fields_view after))) found

-- a field that the type does not have is no member
pub fields_skip :
    (pool : Types) (names : Names) (Inside : ℕ → Message → Json) (m : ℕ) (before after : List (ℕ × Content)) (n : ℕ) (h : Content)
    → before ≡ (n, h) ∷ after → field_numbered n (message_fields pool m) ≡ None → fields_json pool names Inside m (fields_view before) ≡ fields_json pool names Inside m (fields_view after)
fields_skip pool names Inside m before after n h split none =
    ap (λ (fs : List (ℕ × Content)). fields_json pool names Inside m (fields_view fs)) split
    ∙ ap (λ (o : Option FieldView). maybe_member (option_map (λ (g : FieldView). (member_name names m g, holding_json pool names Inside g.kind (content_view h))) o) (fields_json pool names Inside m (fields_view after))) none

-- MESSAGES

-- the message of a body, in the form of its type
in_its_form :
    (pool : Types) (names : Names) (Inside : ℕ → Message → Json) (m : ℕ) (b : Body) (w : WellKnown) → well_known pool m ≡ w
    → message_here pool names Inside m (body_view b)
    ≡ in_form w (fields_view b.fields.entries) (fields_json pool names Inside m (fields_view b.fields.entries))
    (only_json pool names Inside w (message_fields pool m) (fields_view b.fields.entries)) (any_json pool Inside (fields_view b.fields.entries))
in_its_form pool names Inside m b w e =
    ap (λ (x : Message). message_here pool names Inside m x) (body_view-out b)
    ∙ ap (λ (x : WellKnown). in_form x (fields_view b.fields.entries) (fields_json pool names Inside m (fields_view b.fields.entries))
    (only_json pool names Inside x (message_fields pool m) (fields_view b.fields.entries)) (any_json pool Inside (fields_view b.fields.entries))) e

pub as_timestamp :
    (pool : Types) (names : Names) (Inside : ℕ → Message → Json) (m : ℕ) (b : Body) → well_known pool m ≡ Timestamp
    → message_here pool names Inside m (body_view b) ≡ timestamp_json (fields_view b.fields.entries)
as_timestamp pool names Inside m b e = in_its_form pool names Inside m b Timestamp e

pub as_duration :
    (pool : Types) (names : Names) (Inside : ℕ → Message → Json) (m : ℕ) (b : Body) → well_known pool m ≡ Duration
    → message_here pool names Inside m (body_view b) ≡ duration_json (fields_view b.fields.entries)
as_duration pool names Inside m b e = in_its_form pool names Inside m b Duration e

pub as_any :
    (pool : Types) (names : Names) (Inside : ℕ → Message → Json) (m : ℕ) (b : Body) → well_known pool m ≡ Any
    → message_here pool names Inside m (body_view b) ≡ any_json pool Inside (fields_view b.fields.entries)
as_any pool names Inside m b e = in_its_form pool names Inside m b Any e

pub as_object :
    (pool : Types) (names : Names) (Inside : ℕ → Message → Json) (m : ℕ) (b : Body) → well_known pool m ≡ Other
    → message_here pool names Inside m (body_view b) ≡ object (fields_json pool names Inside m (fields_view b.fields.entries))
as_object pool names Inside m b e = in_its_form pool names Inside m b Other e

-- one level in
pub message_json-inside : (pool : Types) (names : Names) (levels m : ℕ) (b : Message)
    → message_json pool names (suc levels) m b ≡ message_here pool names (message_json pool names levels) m b
unfolding message_json
message_json-inside pool names levels m b = refl

pub message_json-none : (pool : Types) (names : Names) (m : ℕ) (b : Message) → message_json pool names 0 m b ≡ null
unfolding message_json
message_json-none pool names m b = refl

-- a message at a number of levels that is not 0
pub levels_json : (pool : Types) (names : Names) (levels below m : ℕ) (b : Message) → levels ≡ suc below
    → message_json pool names levels m b ≡ message_here pool names (message_json pool names below) m b
levels_json pool names levels below m b e = ap (λ (n : ℕ). message_json pool names n m b) e ∙ message_json-inside pool names below m b

-- THE FIRST FIELD

pub only_first :
    (pool : Types) (names : Names) (Inside : ℕ → Message → Json) (w : WellKnown) (all : List FieldView) (es rest : List (ℕ × Content)) (n : ℕ) (h : Content) (o : Option FieldView)
    → es ≡ (n, h) ∷ rest → field_numbered n all ≡ o
    → only_json pool names Inside w all (fields_view es) ≡ option_map_or (λ f. holding_json pool names Inside f.kind (content_view h)) o null
only_first pool names Inside w all es rest n h o e found =
    ap (λ (fs : List (ℕ × Content)). only_json pool names Inside w all (fields_view fs)) e
    ∙ ap (λ (p : Option FieldView). option_map_or (λ (f : FieldView). holding_json pool names Inside f.kind (content_view h)) p null) found

pub only_absent :
    (pool : Types) (names : Names) (Inside : ℕ → Message → Json) (w : WellKnown) (all : List FieldView) (es : List (ℕ × Content)) → es ≡ []
    → only_json pool names Inside w all (fields_view es) ≡ absent_json pool w all
only_absent pool names Inside w all es e = ap (λ (fs : List (ℕ × Content)). only_json pool names Inside w all (fields_view fs)) e

-- ENUMS

pub enum_held : (z : ℤ) → value_view (value.Enum z) ≡ scalar (enum z)
enum_held z = search (rules, value_lemmas)

-- A WHOLE MESSAGE

whole_json : (names : Names) (m : Dynamic) → message_json m.pool names 101 m.kind m.body ≡ json_of names m
unfolding json_of
whole_json names m = refl

pub as_whole :
    (layout : Layout) (names : Names) (m : Dynamic) (levels : ℕ) (pool : Types) (k : ℕ) (b : Message) (s : List ℕ) → levels ≡ 101 → pool ≡ m.pool → k ≡ m.kind
    → b ≡ m.body → IsJsonText layout 0 (message_json pool names levels k b) s → IsJsonText layout 0 (json_of names m) s
as_whole layout names m levels pool k b s e0 e1 e2 e3 h =
    subst (λ (j : Json). IsJsonText layout 0 j s)
    (ap (λ (n : ℕ). message_json pool names n k b) e0 ∙ ap (λ (p : Types). message_json p names 101 k b) e1 ∙ ap (λ (n : ℕ). message_json m.pool names 101 n b) e2
    ∙ ap (λ (v : Message). message_json m.pool names 101 m.kind v) e3 ∙ whole_json names m) h
