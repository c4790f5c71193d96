-- What more names change, one after another.
use Rattle.std.proofs.Common.{◌≡◌, ℕ, ◌+◌, ◌<◌, Bool, true, false, List, [], ◌∷◌, ◌++◌, length, take, get_or, map, flat_map, Option, Some, None, option_map, refl, sym, ap, ◌∙◌, append-nil}
use Rattle.std.specs.Prelude.{◌==◌, ◌&&◌, if◌then◌else◌}
use Rattle.std.specs.Option.{option_or, option_map_or}
use Rattle.std.proofs.lemmas.Grind.{flat_map-append}
use Rattle.std.proofs.lemmas.List.{map-append, take_more}
use Rattle.std.specs.declared.cmp.Ordering.{Ordering}
use Rattle.std.specs.declared.cmp.Ordering.TheVariants.{Less, Equal, Greater}
use Rattle.std.specs.Ordering.{nat_cmp, match_ordering}
use Rattle.pb_schema.specs.Names.{in_scope, message_names}
use Rattle.pb_schema.specs.Tables.{place_of}
use Rattle.pb_schema.specs.Types.{Types}
use Rattle.pb_value.specs.Data.{Datum, scalar, message, Datums, no_datums, datum, Holding, one, list, map as a_map, Fields, no_fields, field, Message, body, fields_of, get_field}
use Rattle.pb_value.specs.Dynamic.{Dynamic}
use Rattle.pb_value.specs.View.{body_view, value_view}
use Rattle.pb_value.specs.declared.body.Body.{Body}
use Rattle.pb_value.specs.declared.body.Value.TheVariants as value
use Rattle.pb_value.proofs.Views.{value_view-Message}
use Rattle.pb_json.specs.Anys.{typed}
use Rattle.pb_json.specs.Encoded.{message_encoded}
use Rattle.pb_json.specs.Given.{NamesGiven, name_given, none_given}
use Rattle.pb_descr_message.specs.Held.{data_at, elements, fields_in, list_held, name_at, number_at}
use Rattle.pb_descr_message.specs.Pool.{descriptor_types, the_set}
use Rattle.pb_json_names.specs.Adding.{Adds}
use Rattle.pb_json_names.specs.Name.{name_in, natural}
use Rattle.pb_json_names.specs.Names.{field_named, fields_named, file_named, held_named, last_given, listed_named, message_named, named, named_at, set_named, AreNamesOf}

-- ---- what counts last

or_none : {A : Type 0} (o : Option A) → option_or o None ≡ o
or_none None = refl
or_none (Some x) = refl

or_assoc : {A : Type 0} (o p q : Option A) → option_or (option_or o p) q ≡ option_or o (option_or p q)
or_assoc None p q = refl
or_assoc (Some x) p q = refl

last_append : (xs ys : NamesGiven) (m n : ℕ) → last_given (xs ++ ys) m n ≡ option_or (last_given ys m n) (last_given xs m n)
last_append [] ys m n = sym (or_none (last_given ys m n))
last_append (x ∷ xs) ys m n =
    ap (λ (o : Option (List ℕ)). option_or o (if (m == x.0.0) && (n == x.0.1) then Some x.1 else None)) (last_append xs ys m n)
    ∙ or_assoc (last_given ys m n) (last_given xs m n) _

-- ---- one after another

pub adds_none : (old : NamesGiven) → Adds [] old old
adds_none old m n = refl

pub adds_then : (xs ys old mid new : NamesGiven) → Adds xs old mid → Adds ys mid new → Adds (xs ++ ys) old new
adds_then xs ys old mid new first second m n =
    second m n
    ∙ ap (λ (o : Option (List ℕ)). option_or (last_given ys m n) o) (first m n)
    ∙ sym (or_assoc (last_given ys m n) (last_given xs m n) (name_given old m n))
    ∙ ap (λ (o : Option (List ℕ)). option_or o (name_given old m n)) (sym (last_append xs ys m n))

pub adds_same : (xs ys old new : NamesGiven) → xs ≡ ys → Adds xs old new → Adds ys old new
adds_same xs ys old new e adds m n = adds m n ∙ ap (λ (zs : NamesGiven). option_or (last_given zs m n) (name_given old m n)) e

pub adds_one : (a b : ℕ) (s : List ℕ) (old new : NamesGiven)
    → ((m n : ℕ) → name_given new m n ≡ (if (m == a) && (n == b) then Some s else name_given old m n)) → Adds (((a, b), s) ∷ []) old new
adds_one a b s old new given m n = given m n ∙ either ((m == a) && (n == b)) (name_given old m n)
  where
    either : (t : Bool) (o : Option (List ℕ)) → (if t then Some s else o) ≡ option_or (if t then Some s else None) o
    either true o = refl
    either false o = refl

-- ---- the items of a list, one by one

flat_more : {X : Type 0} (view : X → Datum) (f : Datum → NamesGiven) (xs : List X) (i : ℕ) (x : X) → i < length xs → x ≡ get_or xs i x
    → flat_map f (map view (take (i + 1) xs)) ≡ flat_map f (map view (take i xs)) ++ f (view x)
flat_more view f xs i x below is =
    ap (λ ys. flat_map f (map view ys)) (take_more xs i x below)
    ∙ ap (λ ys. flat_map f ys) (map-append view (take i xs) (get_or xs i x ∷ []))
    ∙ flat_map-append f (map view (take i xs)) (view (get_or xs i x) ∷ [])
    ∙ ap (λ (zs : NamesGiven). flat_map f (map view (take i xs)) ++ zs) (append-nil (f (view (get_or xs i x))))
    ∙ ap (λ y. flat_map f (map view (take i xs)) ++ f (view y)) (sym is)

pub adds_more : {X : Type 0} (view : X → Datum) (f : Datum → NamesGiven) (xs : List X) (i : ℕ) (x : X) (old mid new : NamesGiven) → i < length xs → x ≡ get_or xs i x
    → Adds (flat_map f (map view (take i xs))) old mid → Adds (f (view x)) mid new → Adds (flat_map f (map view (take (i + 1) xs))) old new
adds_more view f xs i x old mid new below is before more =
    adds_same (flat_map f (map view (take i xs)) ++ f (view x)) (flat_map f (map view (take (i + 1) xs))) old new (sym (flat_more view f xs i x below is))
    (adds_then (flat_map f (map view (take i xs))) (f (view x)) old mid new before more)

-- ---- messages

listed_elements : (pool : Types) (scope : List ℕ) (ds : Datums) → listed_named pool scope ds ≡ flat_map (message_named pool scope) (elements ds)
listed_elements pool scope no_datums = refl
listed_elements pool scope (datum d ds) = ap (λ (zs : NamesGiven). message_named pool scope d ++ zs) (listed_elements pool scope ds)

held_elements : (pool : Types) (scope : List ℕ) (h : Holding) → held_named pool scope h ≡ flat_map (message_named pool scope) (list_held (Some h))
held_elements pool scope (one d) = refl
held_elements pool scope (list ds) = listed_elements pool scope ds
held_elements pool scope (a_map es) = refl

named_elements : (pool : Types) (scope : List ℕ) (n : ℕ) (fs : Fields) → named_at pool scope n fs ≡ flat_map (message_named pool scope) (data_at n fs)
named_elements pool scope n no_fields = refl
named_elements pool scope n (field k h fs) = by_order (nat_cmp n k) (named_elements pool scope n fs)
  where
    by_order : (c : Ordering) → named_at pool scope n fs ≡ flat_map (message_named pool scope) (list_held (get_field n fs))
        → match_ordering c (named_at pool scope n fs) (held_named pool scope h) (named_at pool scope n fs)
        ≡ flat_map (message_named pool scope) (list_held (match_ordering c (get_field n fs) (Some h) (get_field n fs)))
    by_order Less rest = rest
    by_order Equal rest = held_elements pool scope h
    by_order Greater rest = rest

no_fields_named : (o : Option ℕ) (f : ℕ → Datum → NamesGiven) → option_map_or (λ m. flat_map (f m) []) o [] ≡ []
no_fields_named None f = refl
no_fields_named (Some m) f = refl

-- a message, by its fields
pub message_parts : (pool : Types) (scope : List ℕ) (d : Datum)
    → fields_named pool (in_scope scope (name_at 1 (fields_in d))) (data_at 2 (fields_in d))
    ++ flat_map (message_named pool (in_scope scope (name_at 1 (fields_in d)))) (data_at 3 (fields_in d)) ≡ message_named pool scope d
message_parts pool scope (scalar x) =
    append-nil (fields_named pool (in_scope scope []) []) ∙ no_fields_named (place_of (in_scope scope []) (message_names pool)) field_named
message_parts pool scope (message (body fs us)) =
    ap (λ (zs : NamesGiven). fields_named pool (in_scope scope (name_at 1 fs)) (data_at 2 fs) ++ zs)
    (sym (named_elements pool (in_scope scope (name_at 1 fs)) 3 fs))

pub message_adds : (pool : Types) (scope : List ℕ) (d : Datum) (full_one full_two : List ℕ) (fields messages : List Datum) (old mid new : NamesGiven)
    → full_one ≡ in_scope scope (name_at 1 (fields_in d)) → full_two ≡ in_scope scope (name_at 1 (fields_in d)) → fields ≡ data_at 2 (fields_in d)
    → messages ≡ data_at 3 (fields_in d) → Adds (fields_named pool full_one fields) old mid → Adds (flat_map (message_named pool full_two) messages) mid new
    → Adds (message_named pool scope d) old new
message_adds pool scope d full_one full_two fields messages old mid new one_is two_is fields_are messages_are first second =
    let full : List ℕ = in_scope scope (name_at 1 (fields_in d)) in
    let own : NamesGiven = fields_named pool full (data_at 2 (fields_in d)) in
    let inner : NamesGiven = flat_map (message_named pool full) (data_at 3 (fields_in d)) in
    let own_is : fields_named pool full_one fields ≡ own =
    ap (λ (s : List ℕ). fields_named pool s fields) one_is ∙ ap (λ (ds : List Datum). fields_named pool full ds) fields_are in
    let inner_is : flat_map (message_named pool full_two) messages ≡ inner =
    ap (λ (s : List ℕ). flat_map (message_named pool s) messages) two_is ∙ ap (λ (ds : List Datum). flat_map (message_named pool full) ds) messages_are in
    adds_same (own ++ inner) (message_named pool scope d) old new (message_parts pool scope d)
    (adds_then own inner old mid new (adds_same (fields_named pool full_one fields) own old mid own_is first)
    (adds_same (flat_map (message_named pool full_two) messages) inner mid new inner_is second))

-- a file, by its messages
pub file_adds : (pool : Types) (d : Datum) (scope : List ℕ) (messages : List Datum) (old new : NamesGiven) → scope ≡ name_at 2 (fields_in d)
    → messages ≡ data_at 4 (fields_in d) → Adds (flat_map (message_named pool scope) messages) old new → Adds (file_named pool d) old new
file_adds pool d scope messages old new scope_is messages_are adds =
    adds_same (flat_map (message_named pool scope) messages) (file_named pool d) old new
    (ap (λ (s : List ℕ). flat_map (message_named pool s) messages) scope_is
    ∙ ap (λ (ds : List Datum). flat_map (message_named pool (name_at 2 (fields_in d))) ds) messages_are) adds

-- the fields of the type of a full name
pub fields_adds : (pool : Types) (full : List ℕ) (ds : List Datum) (m : ℕ) (old new : NamesGiven) → place_of full (message_names pool) ≡ Some m
    → Adds (flat_map (field_named m) ds) old new → Adds (fields_named pool full ds) old new
fields_adds pool full ds m old new is adds =
    adds_same (flat_map (field_named m) ds) (fields_named pool full ds) old new
    (ap (λ (o : Option ℕ). option_map_or (λ m. flat_map (field_named m) ds) o []) (sym is)) adds

pub no_fields_add : (pool : Types) (full : List ℕ) (ds : List Datum) (old : NamesGiven) → place_of full (message_names pool) ≡ None
    → Adds (fields_named pool full ds) old old
no_fields_add pool full ds old is =
    adds_same [] (fields_named pool full ds) old old (ap (λ (o : Option ℕ). option_map_or (λ m. flat_map (field_named m) ds) o []) (sym is)) (adds_none old)

-- one field
pub field_adds : (m : ℕ) (d : Datum) (n : ℕ) (s : List ℕ) (old new : NamesGiven) → natural (number_at 3 (fields_in d)) ≡ Some n → name_in d ≡ Some s
    → ((k l : ℕ) → name_given new k l ≡ (if (k == m) && (l == n) then Some s else name_given old k l)) → Adds (field_named m d) old new
field_adds m d n s old new number name given =
    adds_same (((m, n), s) ∷ []) (field_named m d) old new
    (ap (λ (o : Option ℕ). named m o (Some s)) (sym number) ∙ ap (λ (o : Option (List ℕ)). named m (natural (number_at 3 (fields_in d))) o) (sym name))
    (adds_one m n s old new given)

pub no_number_adds : (m : ℕ) (d : Datum) (old : NamesGiven) → natural (number_at 3 (fields_in d)) ≡ None → Adds (field_named m d) old old
no_number_adds m d old number =
    adds_same [] (field_named m d) old old (ap (λ (o : Option ℕ). named m o (name_in d)) (sym number)) (adds_none old)

no_name : (m : ℕ) (o : Option ℕ) → named m o None ≡ []
no_name m None = refl
no_name m (Some n) = refl

pub no_name_adds : (m : ℕ) (d : Datum) (old : NamesGiven) → name_in d ≡ None → Adds (field_named m d) old old
no_name_adds m d old name =
    adds_same [] (field_named m d) old old
    (sym (no_name m (natural (number_at 3 (fields_in d)))) ∙ ap (λ (o : Option (List ℕ)). named m (natural (number_at 3 (fields_in d))) o) (sym name))
    (adds_none old)

-- ---- the whole set

-- what a set gives where nothing was given before
pub set_names : (pool : Types) (b : List ℕ) (set : Message) (names : NamesGiven) → message_encoded descriptor_types the_set b ≡ Some set
    → Adds (flat_map (file_named pool) (data_at 1 (fields_of set))) [] names → AreNamesOf pool b names
set_names pool b set names is adds m n =
    adds m n ∙ or_none _ ∙ ap (λ (o : Option Message). last_given (option_map_or (set_named pool) o []) m n) (sym is)

pub no_set_names : (pool : Types) (b : List ℕ) (names : NamesGiven) → message_encoded descriptor_types the_set b ≡ None → names ≡ none_given → AreNamesOf pool b names
no_set_names pool b names is none m n =
    ap (λ (x : NamesGiven). name_given x m n) none ∙ ap (λ (o : Option Message). last_given (option_map_or (set_named pool) o []) m n) (sym is)

abbrev second_or : Message → Option (ℕ × Message) → Message
second_or v None = v
second_or v (Some p) = p.1

pub typed_some : (k m : ℕ) (v : Message) (o : Option Message) → ◌≡◌ {A = Option (ℕ × Message)} (Some (k, v)) (option_map (λ b. (m, b)) o) → o ≡ Some v
typed_some k m v None e = absurd (cc)
typed_some k m v (Some w) e = ap (λ (x : Message). Some x) (sym (ap (second_or v) e))

pub typed_none : (m : ℕ) (o : Option Message) → ◌≡◌ {A = Option (ℕ × Message)} None (option_map (λ b. (m, b)) o) → o ≡ None
typed_none m None e = refl
typed_none m (Some w) e = absurd (cc)

abbrev typed_of : Option Dynamic → Option (ℕ × Message)
typed_of o = option_map (λ m. (m.kind, m.body)) o

-- what is opened as the set
pub opened_set : (pool : Types) (b : List ℕ) (o : Option Dynamic) (d : Dynamic) → pool ≡ descriptor_types
    → ◌≡◌ {A = Option (ℕ × Message)} (option_map (λ m. (m.kind, m.body)) o) (typed pool b the_set) → o ≡ Some d
    → message_encoded descriptor_types the_set b ≡ Some d.body
opened_set pool b o d is opened some =
    typed_some d.kind the_set d.body (message_encoded descriptor_types the_set b)
    (ap typed_of (sym some) ∙ opened ∙ ap (λ (ts : Types). typed ts b the_set) is)

pub not_opened : (pool : Types) (b : List ℕ) (o : Option Dynamic) → pool ≡ descriptor_types
    → ◌≡◌ {A = Option (ℕ × Message)} (option_map (λ m. (m.kind, m.body)) o) (typed pool b the_set) → o ≡ None
    → message_encoded descriptor_types the_set b ≡ None
not_opened pool b o is opened none =
    typed_none the_set (message_encoded descriptor_types the_set b)
    (ap typed_of (sym none) ∙ opened ∙ ap (λ (ts : Types). typed ts b the_set) is)

-- the set as a value
pub set_held : (pool : Types) (b : Body) (set : Message) (names : NamesGiven) → body_view b ≡ set
    → Adds (flat_map (file_named pool) (data_at 1 (fields_in (value_view (value.Message b))))) [] names
    → Adds (flat_map (file_named pool) (data_at 1 (fields_of set))) [] names
set_held pool b set names is adds =
    adds_same (flat_map (file_named pool) (data_at 1 (fields_in (value_view (value.Message b))))) (flat_map (file_named pool) (data_at 1 (fields_of set))) [] names
    (ap (λ (d : Datum). flat_map (file_named pool) (data_at 1 (fields_in d))) (value_view-Message b)
    ∙ ap (λ (m : Message). flat_map (file_named pool) (data_at 1 (fields_of m))) is) adds
