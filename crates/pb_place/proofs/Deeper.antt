-- How deep a message nests once it is changed: no deeper than it did, or than what the change brings.
use Rattle.std.proofs.Common.{◌≡◌, ◌≤◌, ℕ, suc, max, List, [], Option, Some, None, Ordering, Less, Equal, Greater, arith, refl, subst}
use Rattle.std.specs.Ordering.{match_ordering}
use Rattle.std.specs.Prelude.{Bool, true, false, if◌then◌else◌}
use Rattle.pb_schema.specs.declared.types.Shape.{Shape}
use Rattle.pb_schema.specs.Types.{FieldView, Types, message_fields, field_numbered}
use Rattle.pb_schema.specs.Scalar.{Scalar, key_cmp}
use Rattle.pb_value.specs.Data.{Datum, no_datums, datum, Entries, no_entries, entry, put_entry, levels_of, levels_in_entry, datums_depth, entries_depth}
use Rattle.pb_value.specs.Data.{Holding, one, list, map, Fields, no_fields, field, Message, body, fields_of, unknown_of, get_field, put_field, drop_field, holding_depth, fields_depth, message_depth}
use Rattle.pb_value.specs.Judge.{is_absence}
use Rattle.pb_value.specs.Change.{gives_way, drop_some, stored_at, set_at, elements_of, pushed, entries_of, inserted}
use Rattle.pb_value.specs.Dynamic.{Dynamic}
use Rattle.pb_value.proofs.ChangeLemmas.{by_order, fields_depth-put_field}
use Rattle.pb_value.proofs.HeldLemmas.{datums_depth-joined}
use Rattle.pb_value.proofs.Elements.{put_nth_depth, take_nth_depth}
use Rattle.pb_value.proofs.Removed.{remove_at_depth}
use Rattle.pb_place.specs.Changed.{Edit, set, clear, push, insert, remove, set_element, remove_element, drop_unknown, edited, brings}

drop_depth : (n : ℕ) (fs : Fields) → fields_depth (drop_field n fs) ≤ fields_depth fs
drop_depth n no_fields = omega arith
drop_depth n (field k g fs) =
    let more = drop_depth n fs in
    by_order (λ gs. fields_depth gs ≤ max (holding_depth g) (fields_depth fs)) n k _ _ _ (λ _. omega arith) (λ _. omega arith) (λ _. omega arith)

drop_some_depth : (k : Option ℕ) (fs : Fields) → fields_depth (drop_some k fs) ≤ fields_depth fs
drop_some_depth None fs = omega arith
drop_some_depth (Some k) fs = drop_depth k fs

stored_depth : (all : List FieldView) (s : Shape) (n : ℕ) (h : Holding) (fs : Fields) → fields_depth (stored_at all s n h fs) ≤ max (fields_depth fs) (holding_depth h)
stored_depth all s n h fs = by_test (is_absence s h)
  where
    by_test : (b : Bool) → fields_depth (if b then drop_field n fs else put_field n h (drop_some (gives_way all s n fs) fs)) ≤ max (fields_depth fs) (holding_depth h)
    by_test true = let a = drop_depth n fs in omega (arith, a)
    by_test false =
        let a = drop_some_depth (gives_way all s n fs) fs in
        fields_depth-put_field n h (drop_some (gives_way all s n fs) fs) (max (fields_depth fs) (holding_depth h)) (omega arith) (omega (arith, a))

set_depth : (all : List FieldView) (n : ℕ) (h : Holding) (fs : Fields) → fields_depth (set_at all n h fs) ≤ max (fields_depth fs) (holding_depth h)
set_depth all n h fs = told (field_numbered n all) refl
  where
    told : (o : Option FieldView) → field_numbered n all ≡ o → fields_depth (set_at all n h fs) ≤ max (fields_depth fs) (holding_depth h)
    told None e = rw e (omega arith)
    told (Some f) e = rw e (stored_depth all f.shape n h fs)

held_depth : (n : ℕ) (fs : Fields) (h : Holding) → get_field n fs ≡ Some h → holding_depth h ≤ fields_depth fs
held_depth n no_fields h e = absurd (cc)
held_depth n (field k g fs) h e =
    by_order (λ (x : Option Holding). x ≡ Some h → holding_depth h ≤ max (holding_depth g) (fields_depth fs)) n k (get_field n fs) (Some g) (get_field n fs)
    (λ _ q. let more = held_depth n fs h q in omega arith)
    (λ _ q. let own : g ≡ h = cc in subst (λ (x : Holding). holding_depth x ≤ max (holding_depth g) (fields_depth fs)) own (omega arith))
    (λ _ q. let more = held_depth n fs h q in omega arith) e

-- what is made of what a field holds nests no deeper than that, or than what is brought
put_depth :
    (n : ℕ) (fs : Fields) (step : Option Holding → Holding) (top : ℕ) → ((o : Option Holding) (l : ℕ) → ((h : Holding) → o ≡ Some h → holding_depth h ≤ l) → holding_depth (step o) ≤ max l top)
    → fields_depth (put_field n (step (get_field n fs)) fs) ≤ max (fields_depth fs) top
put_depth n fs step top deep =
    fields_depth-put_field n (step (get_field n fs)) fs (max (fields_depth fs) top) (deep (get_field n fs) (fields_depth fs) (held_depth n fs)) (omega arith)

elements_depth : (o : Option Holding) (l : ℕ) → ((h : Holding) → o ≡ Some h → holding_depth h ≤ l) → datums_depth (elements_of o) ≤ l
elements_depth None l f = omega arith
elements_depth (Some (one d)) l f = omega arith
elements_depth (Some (list ds)) l f = f (list ds) refl
elements_depth (Some (map es)) l f = omega arith

pushed_depth : (d : Datum) (o : Option Holding) (l : ℕ) → ((h : Holding) → o ≡ Some h → holding_depth h ≤ l) → holding_depth (pushed d o) ≤ max l (levels_of d)
pushed_depth d o l f =
    let a = elements_depth o l f in
    datums_depth-joined (elements_of o) (datum d no_datums) (max l (levels_of d)) (omega (arith, a)) (omega arith)

held_entries_depth : (o : Option Holding) (l : ℕ) → ((h : Holding) → o ≡ Some h → holding_depth h ≤ l) → entries_depth (entries_of o) ≤ l
held_entries_depth None l f = omega arith
held_entries_depth (Some (one d)) l f = omega arith
held_entries_depth (Some (list ds)) l f = omega arith
held_entries_depth (Some (map es)) l f = f (map es) refl

put_entry_depth : (x : Scalar) (d : Datum) (es : Entries) (top : ℕ) → suc (levels_in_entry d) ≤ top → entries_depth es ≤ top → entries_depth (put_entry x d es) ≤ top
put_entry_depth x d no_entries top a b = omega arith
put_entry_depth x d (entry y e es) top a b = told (key_cmp x y) (put_entry_depth x d es top a (omega arith))
  where
    told : (o : Ordering) → entries_depth (put_entry x d es) ≤ top → entries_depth (match_ordering o (entry x d (entry y e es)) (entry y d es) (entry y e (put_entry x d es))) ≤ top
    told Less more = omega arith
    told Equal more = omega arith
    told Greater more = omega arith

inserted_depth :
    (x : Scalar) (d : Datum) (o : Option Holding) (l : ℕ) → ((h : Holding) → o ≡ Some h → holding_depth h ≤ l) → holding_depth (inserted x d o) ≤ max l (suc (levels_in_entry d))
inserted_depth x d o l f =
    let a = held_entries_depth o l f in
    put_entry_depth x d (entries_of o) (max l (suc (levels_in_entry d))) (omega arith) (omega (arith, a))

changed_depth : (v : Message) (gs : Fields) (top : ℕ) → fields_depth gs ≤ max (fields_depth (fields_of v)) top → message_depth (body gs (unknown_of v)) ≤ max (message_depth v) top
changed_depth (body fs us) gs top h = omega arith

bare_depth : (v : Message) → message_depth (body (fields_of v) []) ≤ max (message_depth v) 0
bare_depth (body fs us) = omega arith

pub edited_depth : (e : Edit) (w : Dynamic) → message_depth (edited e w).body ≤ max (message_depth w.body) (brings e)
edited_depth (set h n) w = changed_depth w.body _ (holding_depth h) (set_depth (message_fields w.pool w.kind) n h (fields_of w.body))
edited_depth (clear n) w = changed_depth w.body _ 0 (let a = drop_depth n (fields_of w.body) in omega (arith, a))
edited_depth (push d n) w = changed_depth w.body _ (levels_of d) (put_depth n (fields_of w.body) (pushed d) (levels_of d) (pushed_depth d))
edited_depth (insert x d n) w =
    changed_depth w.body _ (suc (levels_in_entry d)) (put_depth n (fields_of w.body) (inserted x d) (suc (levels_in_entry d)) (inserted_depth x d))
edited_depth (remove x n) w = changed_depth w.body _ 0 (let a = remove_at_depth n x (fields_of w.body) (drop_depth n) in omega (arith, a))
edited_depth (set_element i d n) w = changed_depth w.body _ (levels_of d) (put_nth_depth n i d (fields_of w.body))
edited_depth (remove_element i n) w = changed_depth w.body _ 0 (let a = take_nth_depth n i (fields_of w.body) (drop_depth n) in omega (arith, a))
edited_depth drop_unknown w = bare_depth w.body
