-- From what a step of a place leads to, back to what it starts from.
use Rattle.std.proofs.Common.{◌≡◌, ◌<◌, ◌≤◌, ℕ, zero, suc, List, [], ◌∷◌, length, slice_set, get_or, cond, Option, Some, None, option_map, option_and_then, Ordering, Less, Equal, Greater, nat_cmp, is_eq, arith, refl, sym, ap, ◌∙◌, subst, inr, Result, Err, BTreeMap}
use Rattle.std.proofs.lemmas.Result.{IfOk-weaker, on_err_weaker}
use Rattle.std.specs.Prelude.{Bool, true, false, if◌then◌else◌}
use Rattle.std.specs.Map.{lookup, set_value}
use Rattle.std.specs.BTreeMap.{is_at}
use Rattle.std.specs.Ordering.{match_ordering}
use Rattle.pb_schema.specs.Types.{Types}
use Rattle.pb_value.specs.Data.{Datum, message, Datums, datum, Entries, entry, is_same_key, Holding, one, list, map, field, Message, fields_of, get_field, get_entry}
use Rattle.pb_value.specs.Dynamic.{Dynamic}
use Rattle.pb_value.specs.Inner.{nth_datum, type_named}
use Rattle.pb_value.specs.KeyOrder.{map_key_cmp}
use Rattle.pb_value.specs.View.{key_view, value_view, values_view, entries_view, content_view, fields_view}
use Rattle.pb_value.specs.WellFormed.{IsWellFormed}
use Rattle.pb_value.specs.declared.body.Content.{Content}
use Rattle.pb_value.specs.declared.body.Content.TheVariants as content
use Rattle.pb_value.proofs.Views.{content_view-Map}
pub use Rattle.pb_value.proofs.InPlace.{fields_view-in_field, values_view-in_nth, nth_there, nth_past}
use Rattle.pb_value.specs.declared.body.MapKey.{MapKey}
use Rattle.pb_value.specs.declared.body.Value.{Value}
use Rattle.pb_value.proofs.InnerLemmas.{only_part, at_part, under_part, field_part, same_key}
use Rattle.pb_place.specs.declared.error.ChangeError.{ChangeError}
use Rattle.pb_place.specs.declared.error.ChangeError.TheVariants.{Absent}
use Rattle.pb_place.specs.declared.step.PlaceStep.{PlaceStep}
use Rattle.pb_place.specs.declared.step.PlaceStep.TheVariants.{Field, Index, Key}
use Rattle.pb_place.specs.At.{content_part, value_part, list_part, map_part, part_at, seen}
use Rattle.pb_place.specs.Ask.{message_in}
use Rattle.pb_place.specs.Changed.{Edit, edited, target, refusal, IsRefused}
use Rattle.pb_place.specs.Edits.{IsDone, HoldsParts, IsWalked}
use Rattle.pb_place.specs.Replaced.{in_nth, in_entry, in_field, replaced}

-- ANSWERS

pub not_there :
    (pool : Types) (most : ℕ) (t : Option ℕ) (p : List PlaceStep) (e : Edit) (old new : Holding) → target p (content_part pool t old) ≡ None → new ≡ old
    → (out : Option Value) → IsWalked pool most t p e old new (Err Absent) out
not_there pool most t p e old new gone same out = record { ok = tt; err = same; judged = inr (ap (refusal most e) gone) }

done_on : (e : Edit) (o : Option Dynamic) (P Q : Message → Type 0) (out : Option Datum) → ((b : Message) → P b → Q b) → IsDone e o P out → IsDone e o Q out
done_on e None P Q out put d = d
done_on e (Some w) P Q out put d = (put (edited e w).body d.0, d.1, d.2)

pub walked_on :
    (pool : Types) (most : ℕ) (t u : Option ℕ) (p q : List PlaceStep) (e : Edit) (old new inner changed : Holding) (r : Result Unit ChangeError) (out : Option Value)
    → IsWalked pool most u q e inner changed r out → target p (content_part pool t old) ≡ target q (content_part pool u inner)
    → ((b : Message) → changed ≡ replaced q b inner → new ≡ replaced p b old) → (changed ≡ inner → new ≡ old) → IsWalked pool most t p e old new r out
walked_on pool most t u p q e old new inner changed r out w same put kept = record {
  ok = IfOk-weaker r _ _
      (λ v d. subst (λ (o : Option Dynamic). IsDone e o (λ b. new ≡ replaced p b old) (option_map value_view out)) (sym same)
      (done_on e (target q (content_part pool u inner)) (λ b. changed ≡ replaced q b inner) (λ b. new ≡ replaced p b old) (option_map value_view out) put d)) w.ok;
  err = on_err_weaker r kept w.err;
  judged = subst (λ (o : Option Dynamic). IsRefused r (refusal most e o)) (sym same) w.judged;
}

-- A FIELD

pub field_step :
    (pool : Types) (m n : ℕ) (v : Message) (place rest : List PlaceStep) (s : PlaceStep) (o : Option Holding) → place ≡ s ∷ rest → s ≡ Field n
    → get_field n (fields_of v) ≡ o
    → target place (content_part pool (Some m) (one (message v)))
    ≡ option_and_then message_in (option_map seen (option_and_then (part_at rest) (option_map (content_part pool (type_named pool m n)) o)))
field_step pool m n v place rest s o split is found =
    ap (λ p. target p (content_part pool (Some m) (one (message v)))) (split ∙ ap (λ x. x ∷ rest) is)
    ∙ ap (λ x. option_and_then message_in (option_map seen (option_and_then (part_at rest) (option_map (content_part pool (type_named pool m n)) x)))) found

-- what a field of a well-formed message holds
pub parts_held :
    (pool : Types) (m n : ℕ) (v : Message) (h : Holding) → IsWellFormed pool m v → get_field n (fields_of v) ≡ Some h → HoldsParts pool (type_named pool m n) h
parts_held pool m n v (one d) w e = field_part pool m n v (one d) d (λ s k a b. only_part pool s k (one d) d a b refl) w e
parts_held pool m n v (list ds) w e = λ i d q. field_part pool m n v (list ds) d (λ s k a b. at_part pool s k i (list ds) d a b q) w e
parts_held pool m n v (map es) w e = λ x d q. field_part pool m n v (map es) d (λ s k a b. under_part pool s k x (map es) d a b q) w e

-- LISTS

pub list_step :
    (pool : Types) (t : Option ℕ) (ds : Datums) (place rest : List PlaceStep) (s : PlaceStep) (i : ℕ) (o : Option Datum) → place ≡ s ∷ rest → s ≡ Index i
    → nth_datum ds i ≡ o
    → target place (content_part pool t (list ds)) ≡ option_and_then message_in (option_map seen (option_and_then (part_at rest) (option_map (value_part pool t) o)))
list_step pool t ds place rest s i o split is found =
    ap (λ p. target p (list_part pool t ds)) (split ∙ ap (λ x. x ∷ rest) is)
    ∙ ap (λ x. option_and_then message_in (option_map seen (option_and_then (part_at rest) (option_map (value_part pool t) x)))) found

pub values_view-same : (i : ℕ) (vs : List Value) (x w : Value) → x ≡ get_or vs i x → value_view w ≡ value_view x → values_view (slice_set vs i w) ≡ values_view vs
values_view-same i [] x w at wrote = refl
values_view-same zero (v ∷ vs) x w at wrote = rw (wrote, at)
values_view-same (suc i) (v ∷ vs) x w at wrote = ap (datum (value_view v)) (values_view-same i vs x w at wrote)

-- MAPS

pub map_step :
    (pool : Types) (t : Option ℕ) (es : Entries) (place rest : List PlaceStep) (s : PlaceStep) (k : MapKey) (o : Option Datum) → place ≡ s ∷ rest → s ≡ Key k
    → get_entry (key_view k) es ≡ o
    → target place (content_part pool t (map es)) ≡ option_and_then message_in (option_map seen (option_and_then (part_at rest) (option_map (value_part pool t) o)))
map_step pool t es place rest s k o split is found =
    ap (λ p. target p (map_part pool t es)) (split ∙ ap (λ x. x ∷ rest) is)
    ∙ ap (λ x. option_and_then message_in (option_map seen (option_and_then (part_at rest) (option_map (value_part pool t) x)))) found

pub entries_view-in_entry :
    (k : MapKey) (x w : Value) (es : List (MapKey × Value)) (change : Datum → Datum) → lookup (is_at (map_key_cmp k)) es ≡ Some x → value_view w ≡ change (value_view x)
    → entries_view (set_value (is_at (map_key_cmp k)) es w) ≡ in_entry change (key_view k) (entries_view es)
entries_view-in_entry k x w [] change found wrote = absurd (cc)
entries_view-in_entry k x w (e ∷ es) change found wrote =
    told (is_eq (map_key_cmp k e.0)) (is_same_key (key_view k) (key_view e.0)) (same_key k e.0) (λ q. entries_view-in_entry k x w es change q wrote) found
  where
    told :
        (a b : Bool) → a ≡ b → (lookup (is_at (map_key_cmp k)) es ≡ Some x → entries_view (set_value (is_at (map_key_cmp k)) es w) ≡ in_entry change (key_view k) (entries_view es))
        → cond a (Some e.1) (lookup (is_at (map_key_cmp k)) es) ≡ Some x
        → entries_view (cond a ((e.0, w) ∷ es) (e ∷ set_value (is_at (map_key_cmp k)) es w))
        ≡ (if b then entry (key_view e.0) (change (value_view e.1)) (entries_view es) else entry (key_view e.0) (value_view e.1) (in_entry change (key_view k) (entries_view es)))
    told true true q later here =
        let same : e.1 ≡ x = cc in ap (λ (d : Datum). entry (key_view e.0) d (entries_view es)) (wrote ∙ ap (λ (y : Value). change (value_view y)) (sym same))
    told false false q later here = ap (entry (key_view e.0) (value_view e.1)) (later here)
    told true false q later here = absurd (cc)
    told false true q later here = absurd (cc)

pub entries_view-same :
    (k : MapKey) (x w : Value) (es : List (MapKey × Value)) → lookup (is_at (map_key_cmp k)) es ≡ Some x → value_view w ≡ value_view x
    → entries_view (set_value (is_at (map_key_cmp k)) es w) ≡ entries_view es
entries_view-same k x w [] found wrote = absurd (cc)
entries_view-same k x w (e ∷ es) found wrote = told (is_eq (map_key_cmp k e.0)) (λ q. entries_view-same k x w es q wrote) found
  where
    told :
        (a : Bool) → (lookup (is_at (map_key_cmp k)) es ≡ Some x → entries_view (set_value (is_at (map_key_cmp k)) es w) ≡ entries_view es)
        → cond a (Some e.1) (lookup (is_at (map_key_cmp k)) es) ≡ Some x → entries_view (cond a ((e.0, w) ∷ es) (e ∷ set_value (is_at (map_key_cmp k)) es w)) ≡ entries_view (e ∷ es)
    told true later here = let same : e.1 ≡ x = cc in ap (λ (d : Datum). entry (key_view e.0) d (entries_view es)) (wrote ∙ ap value_view (sym same))
    told false later here = ap (entry (key_view e.0) (value_view e.1)) (later here)

-- a content that is a map, and one that it became
pub map_walked :
    (pool : Types) (most : ℕ) (u : Option ℕ) (p : List PlaceStep) (e : Edit) (old new : Content) (es changed : BTreeMap MapKey Value) (r : Result Unit ChangeError) (out : Option Value)
    → content_view old ≡ map (entries_view es.entries) → new ≡ content.Map changed
    → IsWalked pool most u p e (map (entries_view es.entries)) (map (entries_view changed.entries)) r out → IsWalked pool most u p e (content_view old) (content_view new) r out
map_walked pool most u p e old new es changed r out was is w =
    subst (λ (h : Holding). IsWalked pool most u p e h (content_view new) r out) (sym was)
    (subst (λ (h : Holding). IsWalked pool most u p e (map (entries_view es.entries)) h r out) (sym (ap content_view is ∙ content_view-Map changed)) w)
