-- Lists of messages that are changed in place, one by one, and the messages that a field holds.
use Rattle.std.proofs.Common.{◌≡◌, ℕ, zero, suc, ◌+◌, ◌<◌, ◌≤◌, List, [], ◌∷◌, ◌++◌, Bool, map, take, drop, set, length, get_or, Option, Some, None, option_map, refl, sym, ap, ◌∙◌, subst, arith}
use Rattle.std.specs.declared.cmp.Ordering.{Ordering}
use Rattle.std.specs.declared.cmp.Ordering.TheVariants.{Less, Equal, Greater}
use Rattle.std.specs.Ordering.{nat_cmp, match_ordering}
use Rattle.std.specs.Prelude.{◌||◌, max}
use Rattle.std.specs.List.{list_any}
use Rattle.std.specs.List.Sorted.{IsStrictlySortedBy}
use Rattle.std.specs.Map.{keys_of, lookup, set_value}
use Rattle.std.specs.BTreeMap.{is_at}
use Rattle.pb_wire.specs.Record.{Record}
use Rattle.pb_value.specs.Data.{Datum, Datums, no_datums, datum, Holding, Fields, no_fields, field, get_field, put_some, body, levels_of, datums_depth, holding_depth, fields_depth, message_depth}
use Rattle.pb_value.specs.View.{value_view, content_view, values_view, fields_view, datums_from}
use Rattle.pb_value.specs.declared.body.Value.{Value}
use Rattle.pb_value.specs.declared.body.Content.{Content}
use Rattle.pb_value.proofs.FieldViews.{fields_view-step, get_field-at}
use Rattle.pb_descr_message.specs.Without.{each, message_without, inner_without, holding_without, messages_without}

-- LISTS

each_data : (f : Datum → Datum) (ds : List Datum) → each f (datums_from ds) ≡ datums_from (map f ds)
each_data f [] = refl
each_data f (d ∷ ds) = ap (datum (f d)) (each_data f ds)

pub list_changed : (f : Datum → Datum) (vs ws : List Value) → map value_view ws ≡ map f (map value_view vs) → values_view ws ≡ each f (values_view vs)
list_changed f vs ws e = ap datums_from e ∙ sym (each_data f (map value_view vs))

messages_each : (two : Bool) (ds : Datums) → messages_without two ds ≡ each (message_without two) ds
messages_each two no_datums = refl
messages_each two (datum d ds) = ap (datum (message_without two d)) (messages_each two ds)

pub messages_changed : (two : Bool) (vs ws : List Value) → map value_view ws ≡ map (message_without two) (map value_view vs) → values_view ws ≡ messages_without two (values_view vs)
messages_changed two vs ws e = list_changed (message_without two) vs ws e ∙ sym (messages_each two (values_view vs))

-- the messages of a field, by what it holds
pub inner_held : (two : Bool) (n : ℕ) (fs : Fields) → inner_without two n fs ≡ option_map (holding_without two) (get_field n fs)
inner_held two n no_fields = refl
inner_held two n (field k h fs) = by_order (nat_cmp n k) (inner_held two n fs)
  where
    by_order :
        (c : Ordering) → inner_without two n fs ≡ option_map (holding_without two) (get_field n fs)
        → match_ordering c (inner_without two n fs) (Some (holding_without two h)) (inner_without two n fs) ≡ option_map (holding_without two) (match_ordering c (get_field n fs) (Some h) (get_field n fs))
    by_order Less rest = rest
    by_order Equal rest = refl
    by_order Greater rest = rest

-- LOOPS THAT CHANGE EACH ELEMENT

-- this many elements are changed, and the others are as they were
abbrev pub Changed : {V : Type 0} → (V → Datum) → (Datum → Datum) → ℕ → List Datum → List V → Type 0
Changed shown f i old now = map shown now ≡ map f (take i old) ++ drop i old

pub none_changed : {V : Type 0} (shown : V → Datum) (f : Datum → Datum) (vs : List V) → Changed shown f 0 (map shown vs) vs
none_changed shown f vs = refl

changed_next :
    {V : Type 0} (shown : V → Datum) (f : Datum → Datum) (now : List V) (old : List Datum) (i : ℕ) (v w : V) → i < length now → Changed shown f i old now
    → v ≡ get_or now i v → shown w ≡ f (shown v) → Changed shown f (suc i) old (set now i w)
changed_next shown f [] old i v w less e is new = absurd (omega (arith, less))
changed_next shown f (y ∷ ys) [] zero v w less e is new = absurd (cc)
changed_next shown f (y ∷ ys) (o ∷ os) zero v w less e is new =
    let a : shown y ≡ o = cc in
    let b : map shown ys ≡ os = cc in
    ap (λ z. z ∷ map shown ys) (new ∙ ap (λ z. f (shown z)) is ∙ ap f a) ∙ ap (λ l. f o ∷ l) b
changed_next shown f (y ∷ ys) [] (suc i) v w less e is new = absurd (cc)
changed_next shown f (y ∷ ys) (o ∷ os) (suc i) v w less e is new =
    let a : shown y ≡ f o = cc in
    let b : map shown ys ≡ map f (take i os) ++ drop i os = cc in
    ap (λ z. z ∷ map shown (set ys i w)) a ∙ ap (λ l. f o ∷ l) (changed_next shown f ys os i v w (omega (arith, less)) b is new)

pub one_changed :
    {V : Type 0} (shown : V → Datum) (f : Datum → Datum) (now : List V) (old : List Datum) (i : ℕ) (v w : V) → i < length now → Changed shown f i old now
    → v ≡ get_or now i v → shown w ≡ f (shown v) → Changed shown f (i + 1) old (set now i w)
one_changed shown f now old i v w less e is new =
    let next : suc i ≡ i + 1 = omega arith in
    subst (λ (n : ℕ). Changed shown f n old (set now i w)) next (changed_next shown f now old i v w less e is new)

pub all_changed : {V : Type 0} (shown : V → Datum) (f : Datum → Datum) (now : List V) (old : List Datum) (i : ℕ) → length now ≤ i → Changed shown f i old now → map shown now ≡ map f old
all_changed shown f [] [] i less e = refl
all_changed shown f [] (o ∷ os) zero less e = absurd (cc)
all_changed shown f [] (o ∷ os) (suc i) less e = absurd (cc)
all_changed shown f (y ∷ ys) old zero less e = absurd (omega (arith, less))
all_changed shown f (y ∷ ys) [] (suc i) less e = absurd (cc)
all_changed shown f (y ∷ ys) (o ∷ os) (suc i) less e =
    let a : shown y ≡ f o = cc in
    let b : map shown ys ≡ map f (take i os) ++ drop i os = cc in
    ap (λ z. z ∷ map shown ys) a ∙ ap (λ l. f o ∷ l) (all_changed shown f ys os i (omega (arith, less)) b)

-- A CONTENT THAT IS CHANGED IN PLACE

pub content_changed :
    (f : Holding → Holding) (n : ℕ) (c w : Content) (fs : List (ℕ × Content)) → IsStrictlySortedBy nat_cmp (keys_of fs) → lookup (is_at (nat_cmp n)) fs ≡ Some c
    → content_view w ≡ f (content_view c) → fields_view (set_value (is_at (nat_cmp n)) fs w) ≡ put_some n (option_map f (get_field n (fields_view fs))) (fields_view fs)
content_changed f n c w fs sorted found wrote =
    fields_view-step n c w fs (λ _. f (content_view c)) sorted found wrote
    ∙ sym (ap (λ (o : Option Holding). put_some n (option_map f o) (fields_view fs)) (get_field-at n (Some c) fs found))

pub content_missing :
    (f : Holding → Holding) (n : ℕ) (fs : List (ℕ × Content)) → lookup (is_at (nat_cmp n)) fs ≡ None → fields_view fs ≡ put_some n (option_map f (get_field n (fields_view fs))) (fields_view fs)
content_missing f n fs gone = sym (ap (λ (o : Option Holding). put_some n (option_map f o) (fields_view fs)) (get_field-at n None fs gone))

pub any_shown : {V : Type 0} (shown : V → Datum) (test : Datum → Bool) (vs : List V) → list_any (λ v. test (shown v)) vs ≡ list_any test (map shown vs)
any_shown shown test [] = refl
any_shown shown test (v ∷ vs) = ap (λ b. test (shown v) || b) (any_shown shown test vs)

-- HOW DEEP WHAT IS CHANGED IS

-- an element that is not yet changed is no deeper than the list was
pub element_depth :
    (f : Datum → Datum) (now : List Value) (old : List Datum) (i : ℕ) (v : Value) → i < length now → Changed value_view f i old now
    → levels_of (value_view (get_or now i v)) ≤ datums_depth (datums_from old)
element_depth f [] old i v less e = absurd (omega (arith, less))
element_depth f (y ∷ ys) [] zero v less e = absurd (cc)
element_depth f (y ∷ ys) (o ∷ os) zero v less e =
    let a : value_view y ≡ o = cc in
    let same : levels_of (value_view y) ≡ levels_of o = ap levels_of a in
    omega (arith, same)
element_depth f (y ∷ ys) [] (suc i) v less e = absurd (cc)
element_depth f (y ∷ ys) (o ∷ os) (suc i) v less e =
    let b : map value_view ys ≡ map f (take i os) ++ drop i os = cc in
    let later = element_depth f ys os i v (omega (arith, less)) b in
    omega (arith, later)

abbrev depth_of : Option Holding → ℕ
depth_of None = 0
depth_of (Some h) = holding_depth h

pub field_depth : (n : ℕ) (h : Holding) (fs : Fields) → get_field n fs ≡ Some h → holding_depth h ≤ fields_depth fs
field_depth n h no_fields e = absurd (cc)
field_depth n h (field k g fs) e = by_order (nat_cmp n k) (λ q. field_depth n h fs q) e
  where
    by_order :
        (c : Ordering) → (get_field n fs ≡ Some h → holding_depth h ≤ fields_depth fs) → match_ordering c (get_field n fs) (Some g) (get_field n fs) ≡ Some h
        → holding_depth h ≤ max (holding_depth g) (fields_depth fs)
    by_order Less later q = let l = later q in omega (arith, l)
    by_order Equal later q =
        let same : holding_depth g ≡ holding_depth h = ap depth_of q in
        omega (arith, same)
    by_order Greater later q = let l = later q in omega (arith, l)

-- a content of a body is no deeper than the body
pub content_depth :
    (n : ℕ) (c : Content) (fs : List (ℕ × Content)) (us : List Record) → lookup (is_at (nat_cmp n)) fs ≡ Some c → holding_depth (content_view c) ≤ message_depth (body (fields_view fs) us)
content_depth n c fs us found = let here = field_depth n (content_view c) (fields_view fs) (get_field-at n (Some c) fs found) in omega (arith, here)
