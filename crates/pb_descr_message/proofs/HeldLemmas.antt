-- The messages that a field holds, what they declare, why they are refused, and how deep they are.
use Rattle.std.proofs.Common.{◌≡◌, ℕ, zero, suc, ◌+◌, ◌*◌, ◌<◌, ◌≤◌, List, [], ◌∷◌, ◌++◌, Bool, map, flat_map, length, get_or, Option, Some, refl, sym, ap, ◌∙◌, arith, append-nil}
use Rattle.std.specs.Prelude.{max}
use Rattle.std.specs.declared.cmp.Ordering.{Ordering}
use Rattle.std.specs.declared.cmp.Ordering.TheVariants.{Less, Equal, Greater}
use Rattle.std.specs.Ordering.{nat_cmp, match_ordering}
use Rattle.pb_value.specs.Data.{Datum, scalar, message as one_message, Datums, no_datums, datum, Holding, one, list, map as a_map, Fields, no_fields, field, body, get_field, levels_of, datums_depth, holding_depth, fields_depth}
use Rattle.pb_descr_message.specs.declared.cause.DeclCause.{DeclCause}
use Rattle.pb_declarations.specs.Decls.{message, DeclaredMessages, more_messages, messages_of}
use Rattle.pb_value.specs.View.{value_view, values_view}
use Rattle.pb_value.specs.declared.body.Value.{Value}
use Rattle.pb_descr_message.specs.Held.{fields_in, elements, list_held, data_at}
use Rattle.pb_descr_message.specs.Reading.{head_in, message_in, messages_at, messages_in, messages_listed}
use Rattle.pb_descr_message.specs.Causes.{head_causes, listed_causes, message_causes, messages_at_causes, messages_causes, messages_listed_causes}

-- WHAT THEY DECLARE

listed_elements : (ds : Datums) → messages_listed ds ≡ messages_of (map message_in (elements ds))
listed_elements no_datums = refl
listed_elements (datum d ds) = ap (more_messages (message_in d)) (listed_elements ds)

in_elements : (h : Holding) → messages_in h ≡ messages_of (map message_in (list_held (Some h)))
in_elements (one d) = refl
in_elements (list ds) = listed_elements ds
in_elements (a_map es) = refl

abbrev declared_in : Option Holding → DeclaredMessages
declared_in o = messages_of (map message_in (list_held o))

pub messages_at-data : (n : ℕ) (fs : Fields) → messages_at n fs ≡ messages_of (map message_in (data_at n fs))
messages_at-data n no_fields = refl
messages_at-data n (field k h fs) = by_order (nat_cmp n k) (messages_at-data n fs)
  where
    by_order : (c : Ordering) → messages_at n fs ≡ declared_in (get_field n fs) → match_ordering c (messages_at n fs) (messages_in h) (messages_at n fs) ≡ declared_in (match_ordering c (get_field n fs) (Some h) (get_field n fs))
    by_order Less rest = rest
    by_order Equal rest = in_elements h
    by_order Greater rest = rest

-- a message, by its fields
pub message_in-fields : (d : Datum) → message_in d ≡ message (head_in (fields_in d)) (messages_of (map message_in (data_at 3 (fields_in d))))
message_in-fields (scalar x) = refl
message_in-fields (one_message (body fs us)) = ap (message (head_in fs)) (messages_at-data 3 fs)

-- WHY THEY ARE REFUSED

listed_causes_elements : (two : Bool) (ds : Datums) → messages_listed_causes two ds ≡ flat_map (message_causes two) (elements ds)
listed_causes_elements two no_datums = refl
listed_causes_elements two (datum d ds) = ap (λ cs. message_causes two d ++ cs) (listed_causes_elements two ds)

causes_elements : (two : Bool) (h : Holding) → messages_causes two h ≡ flat_map (message_causes two) (list_held (Some h))
causes_elements two (one d) = refl
causes_elements two (list ds) = listed_causes_elements two ds
causes_elements two (a_map es) = refl

abbrev causes_in : Bool → Option Holding → List DeclCause
causes_in two o = flat_map (message_causes two) (list_held o)

pub messages_at_causes-data : (two : Bool) (n : ℕ) (fs : Fields) → messages_at_causes two n fs ≡ flat_map (message_causes two) (data_at n fs)
messages_at_causes-data two n no_fields = refl
messages_at_causes-data two n (field k h fs) = by_order (nat_cmp n k) (messages_at_causes-data two n fs)
  where
    by_order :
        (c : Ordering) → messages_at_causes two n fs ≡ causes_in two (get_field n fs) → match_ordering c (messages_at_causes two n fs) (messages_causes two h) (messages_at_causes two n fs) ≡ causes_in two (match_ordering c (get_field n fs) (Some h) (get_field n fs))
    by_order Less rest = rest
    by_order Equal rest = causes_elements two h
    by_order Greater rest = rest

pub message_causes-fields : (two : Bool) (d : Datum) → message_causes two d ≡ head_causes two (fields_in d) ++ flat_map (message_causes two) (data_at 3 (fields_in d)) ++ flat_map listed_causes (data_at 4 (fields_in d))
message_causes-fields two (scalar x) = sym (append-nil (head_causes two no_fields ++ []) ∙ append-nil (head_causes two no_fields))
message_causes-fields two (one_message (body fs us)) = ap (λ cs. head_causes two fs ++ cs ++ flat_map listed_causes (data_at 4 fs)) (messages_at_causes-data two 3 fs)

-- HOW DEEP THEY ARE

-- a measure of some values, above that of each
abbrev pub weight : List Datum → ℕ
weight [] = 0
weight (d ∷ ds) = max (2 * levels_of d + 2) (weight ds)

pub weight_element : {X : Type 0} (view : X → Datum) (xs : List X) (i : ℕ) (x : X) → i < length xs → x ≡ get_or xs i x → 2 * levels_of (view x) + 2 ≤ weight (map view xs)
weight_element view [] i x within is = absurd (omega (arith, within))
weight_element view (y ∷ ys) zero x within is = let e : levels_of (view x) ≡ levels_of (view y) = ap (λ z. levels_of (view z)) is in omega arith
weight_element view (y ∷ ys) (suc i) x within is = let later = weight_element view ys i x (omega (arith, within)) is in omega arith

weight_elements : (ds : Datums) → weight (elements ds) ≤ 2 * datums_depth ds + 2
weight_elements no_datums = omega arith
weight_elements (datum d ds) = let later = weight_elements ds in omega arith

weight_held : (h : Holding) → weight (list_held (Some h)) ≤ 2 * holding_depth h + 2
weight_held (one d) = omega arith
weight_held (list ds) = weight_elements ds
weight_held (a_map es) = omega arith

weight_at : (n : ℕ) (fs : Fields) → weight (data_at n fs) ≤ 2 * fields_depth fs + 2
weight_at n no_fields = omega arith
weight_at n (field k h fs) = by_order (nat_cmp n k) (weight_at n fs)
  where
    by_order : (c : Ordering) → weight (list_held (get_field n fs)) ≤ 2 * fields_depth fs + 2 → weight (list_held (match_ordering c (get_field n fs) (Some h) (get_field n fs))) ≤ 2 * max (holding_depth h) (fields_depth fs) + 2
    by_order Less rest = omega arith
    by_order Equal rest = let here = weight_held h in omega arith
    by_order Greater rest = omega arith

-- the values in a list of a message are below the message
pub weight_data : (n : ℕ) (d : Datum) → weight (data_at n (fields_in d)) < 2 * levels_of d + 1
weight_data n (scalar x) = omega arith
weight_data n (one_message (body fs us)) = let at = weight_at n fs in omega arith

-- the elements of a list of values
pub elements_of_view : (vs : List Value) → map value_view vs ≡ elements (values_view vs)
elements_of_view [] = refl
elements_of_view (v ∷ vs) = ap (λ ds. value_view v ∷ ds) (elements_of_view vs)
