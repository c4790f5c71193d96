-- What is refused, part by part.
use Rattle.std.proofs.Common.{◌≡◌, ℕ, suc, ◌+◌, ◌<◌, List, [], ◌∷◌, length, drop, get_or, Option, None, Some, inl, inr, sym, ap, ◌∙◌, subst, refl}
use Rattle.std.specs.Prelude.{Bool, true, false, is_some, option_map, slice_get, Result, Ok, Err, IfErr, IfOk, if◌then◌else◌}
use Rattle.std.specs.Option.{option_map_or, option_or}
use Rattle.std.proofs.lemmas.List.{drop_more}
use Rattle.pb_schema.specs.declared.types.Kind.{Kind}
use Rattle.pb_schema.specs.Types.{FieldView, Types, field_numbered, message_fields}
use Rattle.pb_value.specs.Data.{Fields, Message}
use Rattle.pb_value.specs.View.{body_view}
use Rattle.pb_value.specs.declared.body.Body.{Body}
use Rattle.pb_value.proofs.Views.{body_view-out}
use Rattle.pb_value.specs.Dynamic.{Dynamic}
use Rattle.pb_value.specs.View.{value_view, values_view, entries_view, content_view, fields_view}
use Rattle.pb_value.specs.declared.body.Content.{Content}
use Rattle.pb_value.specs.declared.body.MapKey.{MapKey}
use Rattle.pb_value.specs.declared.body.Value.{Value}
use Rattle.pb_json.specs.declared.error.JsonError.{JsonError}
use Rattle.pb_json.specs.declared.error.JsonError.TheVariants as error
use Rattle.pb_json.specs.Answers.{Judges, RefusedAs, RefusesWith}
use Rattle.pb_json.specs.Anys.{any_message, is_unset}
use Rattle.pb_json.specs.WellKnown.{well_known}
use Rattle.pb_json.specs.declared.well_known.WellKnown.{WellKnown}
use Rattle.pb_json.specs.declared.error.JsonCause.{JsonCause}
use Rattle.pb_json.proofs.PrintLemmas.{refuses_as}
use Rattle.pb_json.specs.declared.error.JsonCause.TheVariants as cause
use Rattle.pb_json.specs.Refusals.{Refused, below, datum_refused, datums_refused, entries_refused, fields_refused, held_cause, here, holding_refused, value_cause}
use Rattle.pb_json.specs.Refusals.{any_or_fields, any_refused, message_refused, own_cause, refused, refused_here}

some_or : (r s : Option Refused) → is_some r ≡ true → is_some (option_or r s) ≡ true
some_or None s h = cc
some_or (Some x) s h = refl

-- the first part that is refused is what the whole is refused for
pub refuses_first : (pool : Types) (r s : Option Refused) (e : JsonError) → RefusesWith pool r e → RefusesWith pool (option_or r s) e
refuses_first pool r s (error.Refused x) h = ap (λ (o : Option Refused). option_or o s) h
refuses_first pool r s error.Memory (inl h) = inl (some_or r s h)
refuses_first pool r s error.Memory (inr h) = inr h
refuses_first pool r s error.Output h = absurd h

-- a part is not refused: the rest is judged as the whole is
pub unjudged_more : (whole rest part after : Option Refused) → whole ≡ rest → rest ≡ option_or part after → part ≡ None → whole ≡ after
unjudged_more whole rest part after h e none = h ∙ e ∙ ap (λ (o : Option Refused). option_or o after) none

-- a part is refused
pub unjudged_refused : (pool : Types) (whole rest part after : Option Refused) (x : JsonError) → whole ≡ rest → rest ≡ option_or part after
    → RefusesWith pool part x → RefusesWith pool whole x
unjudged_refused pool whole rest part after x h e refused =
    subst (λ (o : Option Refused). RefusesWith pool o x) (sym (h ∙ e)) (refuses_first pool part after x refused)

-- ELEMENTS

from_item : {X : Type 0} (xs : List X) (i : ℕ) (x : X) → i < length xs → x ≡ get_or xs i x → drop i xs ≡ x ∷ drop (i + 1) xs
from_item {X} xs i x below is = drop_more xs i x below ∙ ap (λ (y : X). y ∷ drop (i + 1) xs) (sym is)

pub refused_element :
    (pool : Types) (Inside : ℕ → Message → Option Refused) (k : Kind) (vs : List Value) (i : ℕ) (v : Value) → i < length vs → v ≡ get_or vs i v
    → datums_refused pool Inside k (values_view (drop i vs))
    ≡ option_or (datum_refused pool Inside k (value_view v)) (datums_refused pool Inside k (values_view (drop (i + 1) vs)))
refused_element pool Inside k vs i v within is = ap (λ (ws : List Value). datums_refused pool Inside k (values_view ws)) (from_item vs i v within is)

-- ENTRIES

pub refused_entry :
    (pool : Types) (Inside : ℕ → Message → Option Refused) (k : Kind) (before after : List (MapKey × Value)) (key : MapKey) (v : Value) → before ≡ (key, v) ∷ after
    → entries_refused pool Inside k (entries_view before) ≡ option_or (datum_refused pool Inside k (value_view v)) (entries_refused pool Inside k (entries_view after))
refused_entry pool Inside k before after key v split = ap (λ (es : List (MapKey × Value)). entries_refused pool Inside k (entries_view es)) split

-- FIELDS

pub refused_field :
    (pool : Types) (Inside : ℕ → Message → Option Refused) (all : List FieldView) (before after : List (ℕ × Content)) (n : ℕ) (h : Content) (f : FieldView) → before ≡ (n, h) ∷ after
    → field_numbered n all ≡ Some f
    → fields_refused pool Inside all (fields_view before)
    ≡ option_or (option_map (below n) (holding_refused pool Inside f.kind (content_view h))) (fields_refused pool Inside all (fields_view after))
refused_field pool Inside all before after n h f split found =
    ap (λ (fs : List (ℕ × Content)). fields_refused pool Inside all (fields_view fs)) split
    ∙ ap (λ (o : Option FieldView). option_or (option_map (below n) (option_map_or (λ (g : FieldView). holding_refused pool Inside g.kind (content_view h)) o None)) (fields_refused pool Inside all (fields_view after))) found

pub unknown_field :
    (pool : Types) (Inside : ℕ → Message → Option Refused) (all : List FieldView) (before after : List (ℕ × Content)) (n : ℕ) (h : Content) → before ≡ (n, h) ∷ after → field_numbered n all ≡ None
    → fields_refused pool Inside all (fields_view before) ≡ option_or None (fields_refused pool Inside all (fields_view after))
unknown_field pool Inside all before after n h split none =
    ap (λ (fs : List (ℕ × Content)). fields_refused pool Inside all (fields_view fs)) split
    ∙ ap (λ (o : Option FieldView). option_or (option_map (below n) (option_map_or (λ (g : FieldView). holding_refused pool Inside g.kind (content_view h)) o None)) (fields_refused pool Inside all (fields_view after))) none

-- A VALUE

-- the cause of a Value is that of what its first field holds
pub first_held :
    (es : List (ℕ × Content)) (n : ℕ) (h : Content) → slice_get es 0 ≡ Some (n, h) → value_cause (fields_view es) ≡ held_cause (content_view h)
first_held [] n h e = absurd (cc)
first_held (x ∷ es) n h e =
    let same : x ≡ (n, h) = cc in ap (λ (y : ℕ × Content). held_cause (content_view y.1)) same

-- BELOW A FIELD

pub refused_below : (pool : Types) (n : ℕ) (r : Option Refused) (x : Refused) (e : JsonError) → r ≡ Some x → RefusesWith pool (Some (below n x)) e
    → RefusesWith pool (option_map (below n) r) e
refused_below pool n r x e same h = subst (λ (o : Option Refused). RefusesWith pool (option_map (below n) o) e) (sym same) h

pub some_below : (n : ℕ) (r : Option Refused) → is_some r ≡ true → is_some (option_map (below n) r) ≡ true
some_below n None h = cc
some_below n (Some x) h = refl

-- LEVELS

pub message_refused-inside : (pool : Types) (levels m : ℕ) (b : Message)
    → message_refused pool (suc levels) m b ≡ refused_here pool (message_refused pool levels) m b
unfolding message_refused
message_refused-inside pool levels m b = refl

pub message_refused-none : (pool : Types) (m : ℕ) (b : Message) → message_refused pool 0 m b ≡ Some (here cause.Unsupported)
unfolding message_refused
message_refused-none pool m b = refl

-- a message at a number of levels that is not 0
pub levels_refused : (pool : Types) (levels below m : ℕ) (b : Message) → levels ≡ suc below
    → message_refused pool levels m b ≡ refused_here pool (message_refused pool below) m b
levels_refused pool levels below m b e = ap (λ (n : ℕ). message_refused pool n m b) e ∙ message_refused-inside pool below m b

pub whole_refused : (m : Dynamic) → message_refused m.pool 101 m.kind m.body ≡ refused m
unfolding refused
whole_refused m = refl

pub judged_inside : (pool : Types) (levels below m : ℕ) (b : Message) (r : Result Unit JsonError) → levels ≡ suc below
    → Judges pool (refused_here pool (message_refused pool below) m b) r → Judges pool (message_refused pool levels m b) r
judged_inside pool levels below m b r e h = subst (λ (o : Option Refused). Judges pool o r) (sym (levels_refused pool levels below m b e)) h

-- one that is nested too deep
pub refused_deep : (pool : Types) (levels m : ℕ) (b : Message) (x : JsonError) → levels ≡ 0 → RefusesWith pool (Some (here cause.Unsupported)) x
    → RefusesWith pool (message_refused pool levels m b) x
refused_deep pool levels m b x e h =
    subst (λ (o : Option Refused). RefusesWith pool o x) (sym (ap (λ (n : ℕ). message_refused pool n m b) e ∙ message_refused-none pool m b)) h

-- a message that has no form itself
pub refused_itself :
    (pool : Types) (Inside : ℕ → Message → Option Refused) (m : ℕ) (b : Body) (w : WellKnown) (c : JsonCause) (x : JsonError) → w ≡ well_known pool m
    → Some c ≡ own_cause w (fields_view b.fields.entries) → RefusesWith pool (Some (here c)) x → RefusesWith pool (refused_here pool Inside m (body_view b)) x
refused_itself pool Inside m b w c x form own h =
    let fs = fields_view b.fields.entries in
    let rest = any_or_fields (well_known pool m) (any_refused pool Inside fs) (fields_refused pool Inside (message_fields pool m) fs) in
    let same : refused_here pool Inside m (body_view b) ≡ option_or (Some (here c)) rest =
    ap (λ (v : Message). refused_here pool Inside m v) (body_view-out b)
    ∙ ap (λ (o : Option JsonCause). option_or (option_map here o) rest) (ap (λ (v : WellKnown). own_cause v fs) (sym form) ∙ sym own) in
    subst (λ (o : Option Refused). RefusesWith pool o x) (sym same) h

abbrev by_message : (ℕ → Message → Option Refused) → Option (ℕ × Message) → Option Refused
by_message Inside p = option_map_or (λ y. option_map (below 2) (Inside y.0 y.1)) p (Some (here cause.Unsupported))

-- an Any that holds no message of a type of the pool
pub refused_unopened :
    (pool : Types) (Inside : ℕ → Message → Option Refused) (fs : Fields) (o : Option Dynamic) (x : JsonError) → is_unset fs ≡ false
    → option_map (λ m. (m.kind, m.body)) o ≡ any_message pool fs → o ≡ None → RefusesWith pool (Some (here cause.Unsupported)) x
    → RefusesWith pool (any_refused pool Inside fs) x
refused_unopened pool Inside fs o x set opened none h =
    let held : any_message pool fs ≡ None = sym opened ∙ ap (λ (d : Option Dynamic). option_map (λ m. (m.kind, m.body)) d) none in
    let same : any_refused pool Inside fs ≡ Some (here cause.Unsupported) =
    ap (λ (t : Bool). if t then None else by_message Inside (any_message pool fs)) set ∙ ap (by_message Inside) held in
    subst (λ (r : Option Refused). RefusesWith pool r x) (sym same) h

-- THE WHOLE MESSAGE

pub whole_judged :
    (m : Dynamic) (levels : ℕ) (pool : Types) (k : ℕ) (b : Message) → levels ≡ 101 → pool ≡ m.pool → k ≡ m.kind → b ≡ m.body
    → message_refused pool levels k b ≡ refused m
whole_judged m levels pool k b e0 e1 e2 e3 =
    ap (λ (n : ℕ). message_refused pool n k b) e0 ∙ ap (λ (p : Types). message_refused p 101 k b) e1 ∙ ap (λ (n : ℕ). message_refused m.pool 101 n b) e2
    ∙ ap (λ (v : Message). message_refused m.pool 101 m.kind v) e3 ∙ whole_refused m

pub refused_whole :
    (m : Dynamic) (levels : ℕ) (pool : Types) (k : ℕ) (b : Message) (x : JsonError) → levels ≡ 101 → pool ≡ m.pool → k ≡ m.kind → b ≡ m.body
    → RefusesWith pool (message_refused pool levels k b) x → RefusedAs m x
refused_whole m levels pool k b x e0 e1 e2 e3 h =
    refuses_as m x (subst (λ (r : Option Refused). RefusesWith m.pool r x) (whole_judged m levels pool k b e0 e1 e2 e3)
    (subst (λ (p : Types). RefusesWith p (message_refused pool levels k b) x) e1 h))

pub judged_whole :
    (m : Dynamic) (levels : ℕ) (pool : Types) (k : ℕ) (b : Message) (r : Result Unit JsonError) → levels ≡ 101 → pool ≡ m.pool → k ≡ m.kind → b ≡ m.body
    → Judges pool (message_refused pool levels k b) r → IfOk r (λ u. refused m ≡ None) × IfErr r (RefusedAs m)
judged_whole m levels pool k b (Ok u) e0 e1 e2 e3 h = (sym (whole_judged m levels pool k b e0 e1 e2 e3) ∙ h, tt)
judged_whole m levels pool k b (Err x) e0 e1 e2 e3 h = (tt, refused_whole m levels pool k b x e0 e1 e2 e3 h)
