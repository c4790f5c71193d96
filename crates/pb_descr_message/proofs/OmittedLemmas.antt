-- The list of what is left out, part by part.
use Rattle.std.proofs.Common.{◌≡◌, ℕ, zero, suc, arith, ◌+◌, ◌<◌, List, [], ◌∷◌, ◌++◌, Bool, map, flat_map, take, drop, length, get_or, Option, Some, refl, sym, ap, ◌∙◌, append_assoc}
use Rattle.std.specs.declared.cmp.Ordering.{Ordering}
use Rattle.std.specs.declared.cmp.Ordering.TheVariants.{Less, Equal, Greater}
use Rattle.std.specs.Ordering.{nat_cmp, match_ordering}
use Rattle.std.proofs.lemmas.List.{take_more, drop_more, map-append, flat_map_more}
use Rattle.pb_schema.specs.Names.{in_scope}
use Rattle.pb_value.specs.Data.{Datum, scalar, message as one_message, Datums, no_datums, datum, Holding, one, list, map as a_map, Fields, no_fields, field, body, get_field}
use Rattle.pb_descr_message.specs.Held.{fields_in, elements, list_held, data_at, name_at}
use Rattle.pb_descr_message.specs.Reading.{is_proto2}
use Rattle.pb_descr_message.specs.Omitted.{OmittedView, extension_parts, own_parts, message_parts, inner_parts, holding_parts, messages_parts, file_parts, parts_from}

-- there is an element at an index
pub element : {V : Type 0} (vs : List V) (i : ℕ) → i < length vs → (v : V) × (v ≡ get_or vs i v)
element [] i less = absurd (omega (arith, less))
element (x ∷ vs) zero less = (x, refl)
element (x ∷ vs) (suc i) less = element vs i (omega (arith, less))

-- one more of a list
pub gathered_more :
    {V : Type 0} (shown : V → Datum) (f : Datum → List OmittedView) (vs : List V) (i : ℕ) (v : V) (before held now : List OmittedView) → i < length vs → v ≡ get_or vs i v
    → held ≡ before ++ flat_map f (map shown (take i vs)) → now ≡ held ++ f (shown v) → now ≡ before ++ flat_map f (map shown (take (i + 1) vs))
gathered_more {V} shown f vs i v before held now less is was added =
    let taken : take (i + 1) vs ≡ take i vs ++ v ∷ [] = take_more vs i v less ∙ ap (λ z. take i vs ++ z ∷ []) (sym is) in
    added ∙ ap (λ l. l ++ f (shown v)) was ∙ flat_map_more f before (map shown (take i vs)) (shown v)
    ∙ ap (λ l. before ++ flat_map f l) (sym (ap (map shown) taken ∙ map-append shown (take i vs) (v ∷ [])))

-- the messages that a field holds
module _ (i : ℕ) (two : Bool) (scope : List ℕ) where
  listed : (ds : Datums) → messages_parts i two scope ds ≡ flat_map (message_parts i two scope) (elements ds)
  listed no_datums = refl
  listed (datum d ds) = ap (λ l. message_parts i two scope d ++ l) (listed ds)

  held : (h : Holding) → holding_parts i two scope h ≡ flat_map (message_parts i two scope) (list_held (Some h))
  held (one d) = refl
  held (list ds) = listed ds
  held (a_map es) = refl

  abbrev parts_held : Option Holding → List OmittedView
  parts_held o = flat_map (message_parts i two scope) (list_held o)

  pub inner_parts-data : (n : ℕ) (fs : Fields) → inner_parts i two scope n fs ≡ flat_map (message_parts i two scope) (data_at n fs)
  inner_parts-data n no_fields = refl
  inner_parts-data n (field k h fs) = by_order (nat_cmp n k) (inner_parts-data n fs)
    where
      by_order :
          (c : Ordering) → inner_parts i two scope n fs ≡ parts_held (get_field n fs)
          → match_ordering c (inner_parts i two scope n fs) (holding_parts i two scope h) (inner_parts i two scope n fs) ≡ parts_held (match_ordering c (get_field n fs) (Some h) (get_field n fs))
      by_order Less rest = rest
      by_order Equal rest = held h
      by_order Greater rest = rest

-- a message, by its fields
pub message_parts-fields :
    (i : ℕ) (two : Bool) (scope : List ℕ) (d : Datum) → message_parts i two scope d
    ≡ own_parts i two (in_scope scope (name_at 1 (fields_in d))) (fields_in d) ++ flat_map (message_parts i two (in_scope scope (name_at 1 (fields_in d)))) (data_at 3 (fields_in d))
message_parts-fields i two scope (scalar x) = refl
message_parts-fields i two scope (one_message (body fs us)) =
    let name = in_scope scope (name_at 1 fs) in
    ap (λ l. own_parts i two name fs ++ l) (inner_parts-data i two name 3 fs)

-- the parts of a message, its own and those of the messages in it
pub message_gathered :
    (i : ℕ) (two : Bool) (scope : List ℕ) (d : Datum) (old mid new : List OmittedView) (n m : List ℕ) (inner : List Datum) → n ≡ in_scope scope (name_at 1 (fields_in d))
    → m ≡ in_scope scope (name_at 1 (fields_in d)) → inner ≡ data_at 3 (fields_in d) → mid ≡ old ++ own_parts i two n (fields_in d) → new ≡ mid ++ flat_map (message_parts i two m) inner
    → new ≡ old ++ message_parts i two scope d
message_gathered i two scope d old mid new n m inner first second held own added =
    added ∙ ap (λ l. l ++ flat_map (message_parts i two m) inner) own
    ∙ append_assoc old (own_parts i two n (fields_in d)) (flat_map (message_parts i two m) inner)
    ∙ (λ k. old ++ (own_parts i two (first k) (fields_in d) ++ flat_map (message_parts i two (second k)) (held k)))
    ∙ ap (λ l. old ++ l) (sym (message_parts-fields i two scope d))

-- the parts of a file, its extensions and those of its messages
pub file_gathered :
    (i : ℕ) (two : Bool) (d : Datum) (old mid new : List OmittedView) (scope : List ℕ) (extensions messages : List Datum) → scope ≡ name_at 2 (fields_in d)
    → two ≡ is_proto2 (fields_in d) → extensions ≡ data_at 7 (fields_in d) → messages ≡ data_at 4 (fields_in d)
    → mid ≡ old ++ flat_map (extension_parts i scope) extensions → new ≡ mid ++ flat_map (message_parts i two scope) messages → new ≡ old ++ file_parts i d
file_gathered i two d old mid new scope extensions messages named syntax held inner own added =
    added ∙ ap (λ l. l ++ flat_map (message_parts i two scope) messages) own
    ∙ append_assoc old (flat_map (extension_parts i scope) extensions) (flat_map (message_parts i two scope) messages)
    ∙ (λ k. old ++ (flat_map (extension_parts i (named k)) (held k) ++ flat_map (message_parts i (syntax k) (named k)) (inner k)))
    ∙ ap (λ l. old ++ (flat_map (extension_parts i (name_at 2 (fields_in d))) (data_at 7 (fields_in d)) ++ l)) (sym (inner_parts-data i (is_proto2 (fields_in d)) (name_at 2 (fields_in d)) 4 (fields_in d)))

-- one more file
pub file_more :
    {V : Type 0} (shown : V → Datum) (vs : List V) (i : ℕ) (v : V) (all held now : List OmittedView) → i < length vs → v ≡ get_or vs i v
    → all ≡ held ++ parts_from i (map shown (drop i vs)) → now ≡ held ++ file_parts i (shown v) → all ≡ now ++ parts_from (i + 1) (map shown (drop (i + 1) vs))
file_more shown vs i v all held now less is was added =
    let rest = parts_from (i + 1) (map shown (drop (i + 1) vs)) in
    was ∙ ap (λ l. held ++ parts_from i (map shown l)) (drop_more vs i v less ∙ ap (λ y. y ∷ drop (i + 1) vs) (sym is))
    ∙ sym (append_assoc held (file_parts i (shown v)) rest) ∙ ap (λ l. l ++ rest) (sym added)
