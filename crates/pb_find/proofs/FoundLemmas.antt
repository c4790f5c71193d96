-- What is found of records, one by one, is the scalar that their message has at the path.
use Rattle.std.proofs.Common.{◌≡◌, ℕ, zero, suc, ◌<◌, List, [], ◌∷◌, ◌++◌, append_assoc, append-nil, arith, refl, sym, ap, ◌∙◌, subst, Option, Some, None, option_map}
use Rattle.std.proofs.lemmas.List.Sums.{fold-append}
use Rattle.std.specs.Prelude.{Bool, true, false, not, ◌==◌, fold, option_and_then, if◌then◌else◌}
use Rattle.std.specs.List.{AllByRecursion}
use Rattle.pb_wire.specs.Record.{Record, wire_type}
use Rattle.pb_wire.specs.Inside.{records_inside}
use Rattle.pb_schema.specs.declared.types.Kind.{Kind}
use Rattle.pb_schema.specs.declared.types.Kind.TheVariants as kind
use Rattle.pb_schema.specs.declared.types.Shape.{Shape}
use Rattle.pb_schema.specs.declared.types.Shape.TheVariants as shape
use Rattle.pb_schema.specs.Types.{FieldView, Types, message_fields, field_numbered}
use Rattle.pb_schema.specs.Rules.{IsPool}
use Rattle.pb_schema.specs.Scalar.{Scalar, is_default}
use Rattle.pb_schema.specs.Kinds.{message_of_kind, wire_type_of, read}
use Rattle.pb_schema.specs.Packed.{elements}
use Rattle.pb_schema.specs.Oneofs.{members}
use Rattle.pb_schema.specs.Fits.{fits, fits_any, fits_shape}
use Rattle.pb_schema.specs.Closed.{closed_of, is_undeclared, known}
use Rattle.pb_schema.specs.Context.{a_message}
use Rattle.pb_value.specs.Data.{Datum, scalar, message, Holding, one, Message, fields_of, get_field}
use Rattle.pb_value.specs.Inner.{only_datum, type_named, as_message}
use Rattle.pb_value.specs.Value.{last_of, all_elements, joined, counting_as, one_value, unless_default, unless_no_elements, unless_no_entries, list_values, entry_of, held_as, value_within, value}
use Rattle.pb_value.specs.WellFormed.{key_of}
use Rattle.pb_value.proofs.BytesLemmas.{both}
use Rattle.pb_value.proofs.BodyBack.{numbers_differ}
use Rattle.pb_value.proofs.FittingLemmas.{IsGood, AllGood, AllCount, all_good, all_count, inside_message}
use Rattle.pb_value.proofs.HeldLemmas.{joined-good}
use Rattle.pb_value.proofs.KnownLemmas.{known-good}
use Rattle.pb_value.proofs.ListLemmas.{all_filter, all_last_run, all_weaker}
use Rattle.pb_value.proofs.Numbers.{number_is, found_number}
use Rattle.pb_value.proofs.ShapeSteps.{all_elements-snoc, joined-snoc, one_value-scalar, one_value-records}
use Rattle.pb_value.proofs.StepLemmas.{last_of-snoc, held_at, get_field-fields_held}
use Rattle.pb_value.proofs.ValueLemmas.{within-good}
use Rattle.pb_find.specs.ScalarAt.{only_scalar, scalar_at, message_of}
use Rattle.pb_find.specs.Found.{is_single, if_single, target, counts_for, is_rival, kept, after_typed, after_payload, after_record, after_records, found, FoundIsScalarAt}
use Rattle.pb_find.proofs.CountLemmas.{counted, counted_own, counted_other}
use Rattle.pb_find.proofs.ReadLemmas.{read_some}

-- ---- records one after another

records-append : (pool : Types) (m : ℕ) (rest : List ℕ) (f : Option FieldView) (x : Option Scalar) (rs ss : List Record)
    → after_records (found pool rest) pool m rest f x (rs ++ ss) ≡ after_records (found pool rest) pool m rest f (after_records (found pool rest) pool m rest f x rs) ss
records-append pool m rest None x rs ss = refl
records-append pool m rest (Some f) x rs ss = fold-append (after_record (found pool rest) pool m rest f) x rs ss

pub found-append : (pool : Types) (path : List ℕ) (m : ℕ) (x : Option Scalar) (rs ss : List Record) → found pool path m x (rs ++ ss) ≡ found pool path m (found pool path m x rs) ss
found-append pool [] m x rs ss = refl
found-append pool (n ∷ rest) m x rs ss = records-append pool m rest (target pool m n) x rs ss

records-nothing : (pool : Types) (m : ℕ) (rest : List ℕ) (f : Option FieldView) (x : Option Scalar) → after_records (found pool rest) pool m rest f x [] ≡ x
records-nothing pool m rest None x = refl
records-nothing pool m rest (Some f) x = refl

pub found-nothing : (pool : Types) (path : List ℕ) (m : ℕ) (x : Option Scalar) → found pool path m x [] ≡ x
found-nothing pool [] m x = refl
found-nothing pool (n ∷ rest) m x = records-nothing pool m rest (target pool m n) x

-- ---- what is found of the records that count

-- of a field whose kind names this message type
abbrev of_typed : Types → Option ℕ → List ℕ → FieldView → List Record → Option Scalar
of_typed pool (Some t) rest f cs = found pool rest t None (joined cs)
of_typed pool None [] f cs = option_and_then (kept f.shape) (last_of (all_elements f.kind cs))
of_typed pool None (k ∷ rest) f cs = None

typed-nothing : (pool : Types) (t : Option ℕ) (rest : List ℕ) (f : FieldView) → of_typed pool t rest f [] ≡ None
typed-nothing pool (Some t) rest f = found-nothing pool rest t None
typed-nothing pool None [] f = refl
typed-nothing pool None (k ∷ rest) f = refl

-- one more record of them
typed-more : (pool : Types) (t : Option ℕ) (rest : List ℕ) (f : FieldView) (cs : List Record) (r : Record) → (t ≡ None → (x : Scalar) × (read f.kind r.payload ≡ Some x) × (elements f.kind r.payload ≡ x ∷ []))
    → after_typed (found pool rest) t rest f (of_typed pool t rest f cs) r.payload ≡ of_typed pool t rest f (cs ++ r ∷ [])
typed-more pool (Some t) rest f cs r some =
    sym (ap (found pool rest t None) (joined-snoc cs r) ∙ found-append pool rest t None (joined cs) (records_inside r.payload))
typed-more pool None [] f cs r some =
    let x = some refl in
    ap (option_and_then (kept f.shape)) x.1
    ∙ sym (ap (λ (ys : List Scalar). option_and_then (kept f.shape) (last_of ys)) (all_elements-snoc f.kind cs r ∙ ap (λ (ys : List Scalar). all_elements f.kind cs ++ ys) x.2)
    ∙ ap (option_and_then (kept f.shape)) (last_of-snoc (all_elements f.kind cs) x.0))
typed-more pool None (k ∷ rest) f cs r some = refl

abbrev of_counted : Types → List ℕ → FieldView → List Record → Option Scalar
of_counted pool rest f cs = of_typed pool (message_of_kind f.kind) rest f cs

-- ---- step by step

fits_wire_type : (s : Shape) (k : Kind) (w : ℕ) → is_single s ≡ true → fits_shape s k w ≡ true → w ≡ wire_type_of k
fits_wire_type shape.Implicit k w single e = number_is w (wire_type_of k) e
fits_wire_type shape.Explicit k w single e = number_is w (wire_type_of k) e
fits_wire_type (shape.OneofMember o) k w single e = number_is w (wire_type_of k) e
fits_wire_type (shape.List p) k w single e = absurd (cc)
fits_wire_type (shape.Map key) k w single e = absurd (cc)

module _ (pool : Types) (rules : IsPool pool) (m : ℕ) (rest : List ℕ) (inner : ℕ → List Record → Message) (f : FieldView) (at : field_numbered f.number (message_fields pool m) ≡ Some f)
    (single : is_single f.shape ≡ true) where
  abbrev all : List FieldView
  all = message_fields pool m

  abbrev so_far : List Record → Option Scalar
  so_far rs = of_counted pool rest f (counted pool inner (message_fields pool m) f rs)

  step : (rs : List Record) (r : Record) → after_record (found pool rest) pool m rest f (so_far rs) r ≡ so_far (rs ++ r ∷ [])
  step rs r = by_count (counts_for pool f r) refl
    where
      x : Option Scalar
      x = so_far rs

      cs : List Record
      cs = counted pool inner all f rs

      answer : Bool → Bool → Option Scalar
      answer a b = if a then after_payload (found pool rest) rest f (so_far rs) r.payload else (if b then None else so_far rs)

      by_rival : (b : Bool) → (if b then None else so_far rs) ≡ of_counted pool rest f (if b then [] else counted pool inner all f rs)
      by_rival true = sym (typed-nothing pool (message_of_kind f.kind) rest f)
      by_rival false = refl

      by_count : (a : Bool) → counts_for pool f r ≡ a
          → (if counts_for pool f r then after_payload (found pool rest) rest f (so_far rs) r.payload else (if is_rival pool all f r then None else so_far rs)) ≡ so_far (rs ++ r ∷ [])
      by_count true e =
          let fit : fits f r ≡ true = (both (fits f r) (not (is_undeclared pool (closed_of (Some f)) r.payload)) e).0 in
          let typed : fits_shape f.shape f.kind (wire_type r.payload) ≡ true = (both (r.number == f.number) (fits_shape f.shape f.kind (wire_type r.payload)) fit).1 in
          ap (λ (a : Bool). if a then after_payload (found pool rest) rest f (so_far rs) r.payload else (if is_rival pool all f r then None else so_far rs)) e
          ∙ typed-more pool (message_of_kind f.kind) rest f (counted pool inner all f rs) r (λ none. read_some f.kind r.payload none (fits_wire_type f.shape f.kind (wire_type r.payload) single typed))
          ∙ sym (ap (of_counted pool rest f) (counted_own pool rules m inner f at single rs r e))
      by_count false e =
          ap (λ (a : Bool). if a then after_payload (found pool rest) rest f (so_far rs) r.payload else (if is_rival pool all f r then None else so_far rs)) e
          ∙ by_rival (is_rival pool all f r)
          ∙ sym (ap (of_counted pool rest f) (counted_other pool rules m inner f at single rs r e))

  steps : (rs ss : List Record) → fold (after_record (found pool rest) pool m rest f) (so_far rs) ss ≡ so_far (rs ++ ss)
  steps rs [] = ap so_far (sym (append-nil rs))
  steps rs (r ∷ ss) =
      ap (λ (x : Option Scalar). fold (after_record (found pool rest) pool m rest f) x ss) (step rs r) ∙ steps (rs ++ r ∷ []) ss ∙ ap so_far (append_assoc rs (r ∷ []) ss)

  nothing_counts : (s : Shape) → is_single s ≡ true → counting_as inner s all f [] ≡ []
  nothing_counts shape.Implicit single = refl
  nothing_counts shape.Explicit single = refl
  nothing_counts (shape.OneofMember o) single = refl
  nothing_counts (shape.List p) single = absurd (cc)
  nothing_counts (shape.Map key) single = absurd (cc)

  -- what is found of records is what is found of those that count
  pub all_steps : (ss : List Record) → fold (after_record (found pool rest) pool m rest f) None ss ≡ of_counted pool rest f (counted pool inner (message_fields pool m) f ss)
  all_steps ss =
      ap (λ (x : Option Scalar). fold (after_record (found pool rest) pool m rest f) x ss)
      (sym (typed-nothing pool (message_of_kind f.kind) rest f) ∙ ap (of_counted pool rest f) (sym (nothing_counts f.shape single))) ∙ steps [] ss

-- ---- what a field holds

-- the scalar at the path in what a field holds, whose kind names this message type
abbrev scalar_in : Types → Option ℕ → List ℕ → Option Holding → Option Scalar
scalar_in pool t [] h = option_and_then only_scalar h
scalar_in pool t (k ∷ rest) h = option_and_then (λ w. scalar_at (k ∷ rest) w) (option_and_then (λ d. as_message pool t d) (option_and_then only_datum h))

at_path : (pool : Types) (n : ℕ) (rest : List ℕ) (m : ℕ) (v : Message) → scalar_at (n ∷ rest) (message_of pool m v) ≡ scalar_in pool (type_named pool m n) rest (get_field n (fields_of v))
at_path pool n [] m v = refl
at_path pool n (k ∷ rest) m v = refl

in_nothing : (pool : Types) (t : Option ℕ) (rest : List ℕ) → scalar_in pool t rest None ≡ None
in_nothing pool t [] = refl
in_nothing pool t (k ∷ rest) = refl

in_elements : (pool : Types) (t : Option ℕ) (rest : List ℕ) (ds : List Datum) → scalar_in pool t rest (unless_no_elements ds) ≡ None
in_elements pool t [] [] = refl
in_elements pool t (k ∷ rest) [] = refl
in_elements pool t [] (d ∷ ds) = refl
in_elements pool t (k ∷ rest) (d ∷ ds) = refl

in_entries : (pool : Types) (t : Option ℕ) (rest : List ℕ) (es : List (Scalar × Datum)) → scalar_in pool t rest (unless_no_entries es) ≡ None
in_entries pool t [] [] = refl
in_entries pool t (k ∷ rest) [] = refl
in_entries pool t [] (e ∷ es) = refl
in_entries pool t (k ∷ rest) (e ∷ es) = refl

-- a list or a map has no scalar
in_many : (inner : ℕ → List Record → Message) (pool : Types) (t : Option ℕ) (rest : List ℕ) (s : Shape) (k : Kind) (cs : List Record) → is_single s ≡ false → scalar_in pool t rest (held_as inner s k cs) ≡ None
in_many inner pool t rest shape.Implicit k cs e = absurd (cc)
in_many inner pool t rest shape.Explicit k cs e = absurd (cc)
in_many inner pool t rest (shape.OneofMember o) k cs e = absurd (cc)
in_many inner pool t rest (shape.List p) k cs e = in_elements pool t rest (list_values inner k cs)
in_many inner pool t rest (shape.Map key) k cs e = in_entries pool t rest (map_entries cs)
  where
    map_entries : List Record → List (Scalar × Datum)
    map_entries cs = Rattle.std.specs.Prelude.map (entry_of inner key k) cs

-- what a field of one value holds of it
abbrev held_of : Shape → Option Datum → Option Holding
held_of shape.Implicit d = option_and_then unless_default d
held_of shape.Explicit d = option_map one d
held_of (shape.OneofMember o) d = option_map one d
held_of (shape.List p) d = option_map one d
held_of (shape.Map key) d = option_map one d

held_single : (inner : ℕ → List Record → Message) (s : Shape) (k : Kind) (cs : List Record) → is_single s ≡ true → held_as inner s k cs ≡ held_of s (one_value inner k cs)
held_single inner shape.Implicit k cs e = refl
held_single inner shape.Explicit k cs e = refl
held_single inner (shape.OneofMember o) k cs e = refl
held_single inner (shape.List p) k cs e = absurd (cc)
held_single inner (shape.Map key) k cs e = absurd (cc)

held_nothing : (s : Shape) → held_of s None ≡ None
held_nothing shape.Implicit = refl
held_nothing shape.Explicit = refl
held_nothing (shape.OneofMember o) = refl
held_nothing (shape.List p) = refl
held_nothing (shape.Map key) = refl

held_message : (s : Shape) (v : Message) → held_of s (Some (message v)) ≡ Some (one (message v))
held_message shape.Implicit v = refl
held_message shape.Explicit v = refl
held_message (shape.OneofMember o) v = refl
held_message (shape.List p) v = refl
held_message (shape.Map key) v = refl

scalar_kept : (s : Shape) (o : Option Scalar) → option_and_then only_scalar (held_of s (option_map scalar o)) ≡ option_and_then (kept s) o
scalar_kept s None = ap (option_and_then only_scalar) (held_nothing s)
scalar_kept shape.Implicit (Some x) = by_test (is_default x)
  where
    by_test : (b : Bool) → option_and_then only_scalar (if b then None else Some (one (scalar x))) ≡ (if b then None else Some x)
    by_test true = refl
    by_test false = refl
scalar_kept shape.Explicit (Some x) = refl
scalar_kept (shape.OneofMember o) (Some x) = refl
scalar_kept (shape.List p) (Some x) = refl
scalar_kept (shape.Map key) (Some x) = refl

-- a scalar has no message
no_message : (pool : Types) (s : Shape) (o : Option Scalar) → option_and_then (λ d. as_message pool None d) (option_and_then only_datum (held_of s (option_map scalar o))) ≡ None
no_message pool s o = by_datum (option_and_then only_datum (held_of s (option_map scalar o)))
  where
    by_datum : (d : Option Datum) → option_and_then (λ d. as_message pool None d) d ≡ None
    by_datum None = refl
    by_datum (Some d) = refl

-- a field whose kind names no message type
of_scalars : (inner : ℕ → List Record → Message) (pool : Types) (rest : List ℕ) (f : FieldView) (cs : List Record) → message_of_kind f.kind ≡ None → is_single f.shape ≡ true
    → scalar_in pool None rest (held_as inner f.shape f.kind cs) ≡ of_typed pool None rest f cs
of_scalars inner pool rest f cs none single =
    ap (scalar_in pool None rest) (held_single inner f.shape f.kind cs single ∙ ap (held_of f.shape) (one_value-scalar inner f.kind cs none)) ∙ by_rest rest
  where
    by_rest : (rest : List ℕ) → scalar_in pool None rest (held_of f.shape (option_map scalar (last_of (all_elements f.kind cs)))) ≡ of_typed pool None rest f cs
    by_rest [] = scalar_kept f.shape (last_of (all_elements f.kind cs))
    by_rest (k ∷ rest) = ap (option_and_then (λ w. scalar_at (k ∷ rest) w)) (no_message pool f.shape (last_of (all_elements f.kind cs)))

-- a field whose kind names a message type
in_message : (pool : Types) (t : ℕ) (rest : List ℕ) (v : Message) → scalar_in pool (Some t) rest (Some (one (message v))) ≡ scalar_at rest (message_of pool t v)
in_message pool t [] v = refl
in_message pool t (k ∷ rest) v = refl

none_of_nothing : (inner : ℕ → List Record → Message) (k : Kind) (t : ℕ) → message_of_kind k ≡ Some t → one_value inner k [] ≡ None
none_of_nothing inner (kind.Message j) t e = refl
none_of_nothing inner (kind.Group j) t e = refl
none_of_nothing inner k t e = absurd (cc)

of_messages : (inner : ℕ → List Record → Message) (pool : Types) (t : ℕ) (rest : List ℕ) (f : FieldView) (cs : List Record) → message_of_kind f.kind ≡ Some t → is_single f.shape ≡ true
    → ((c : Record) (ds : List Record) → cs ≡ c ∷ ds → scalar_at rest (message_of pool t (inner t (joined cs))) ≡ found pool rest t None (joined cs))
    → scalar_in pool (Some t) rest (held_as inner f.shape f.kind cs) ≡ of_typed pool (Some t) rest f cs
of_messages inner pool t rest f [] e single later =
    ap (scalar_in pool (Some t) rest) (held_single inner f.shape f.kind [] single ∙ ap (held_of f.shape) (none_of_nothing inner f.kind t e) ∙ held_nothing f.shape)
    ∙ in_nothing pool (Some t) rest ∙ sym (found-nothing pool rest t None)
of_messages inner pool t rest f (c ∷ ds) e single later =
    ap (scalar_in pool (Some t) rest)
    (held_single inner f.shape f.kind (c ∷ ds) single ∙ ap (held_of f.shape) (one_value-records inner f.kind t c ds e) ∙ held_message f.shape (inner t (joined (c ∷ ds))))
    ∙ in_message pool t rest (inner t (joined (c ∷ ds))) ∙ later c ds refl

-- ---- the records inside those that count

no_key : (s : Shape) → is_single s ≡ true → key_of s ≡ None
no_key shape.Implicit e = refl
no_key shape.Explicit e = refl
no_key (shape.OneofMember o) e = refl
no_key (shape.List p) e = absurd (cc)
no_key (shape.Map key) e = absurd (cc)

counting-good : (P : Record → Type 0) (inner : ℕ → List Record → Message) (all : List FieldView) (f : FieldView) (s : Shape) → is_single s ≡ true → (ks : List Record) → AllByRecursion P ks
    → AllByRecursion (λ r. P r × (fits f r ≡ true)) (counting_as inner s all f ks)
counting-good P inner all f shape.Implicit e ks h = all_filter P (fits f) ks h
counting-good P inner all f shape.Explicit e ks h = all_filter P (fits f) ks h
counting-good P inner all f (shape.OneofMember o) e ks h =
    all_last_run P (fits f) _ (all_weaker _ P (λ r w. w.0) _ (all_filter P (fits_any (members o all)) ks h))
counting-good P inner all f (shape.List p) e ks h = absurd (cc)
counting-good P inner all f (shape.Map key) e ks h = absurd (cc)

-- ---- the law

module _ (pool : Types) (rules : IsPool pool) where
  -- one step of the path, where the law holds of the others and of one level less
  found_step :
      (n : ℕ) (rest : List ℕ) (levels : ℕ)
      → ((t below : ℕ) (ss : List Record) → below < levels → AllGood pool (a_message t) below ss → found pool rest t None ss ≡ scalar_at rest (message_of pool t (value_within pool levels t ss)))
      → (m depth : ℕ) (rs : List Record) → depth < suc levels → AllGood pool (a_message m) depth rs
      → found pool (n ∷ rest) m None rs ≡ scalar_at (n ∷ rest) (message_of pool m (value_within pool (suc levels) m rs))
  unfolding value_within
  found_step n rest levels again m depth rs l good =
      by_field (field_numbered n (message_fields pool m)) refl ∙ sym (ap (scalar_in pool (type_named pool m n) rest) there) ∙ sym (at_path pool n rest m (value_within pool (suc levels) m rs))
    where
      all : List FieldView
      all = message_fields pool m

      inner : ℕ → List Record → Message
      inner = value_within pool levels

      ks : List Record
      ks = known pool (message_fields pool m) rs

      there : get_field n (fields_of (value_within pool (suc levels) m rs)) ≡ held_at (value_within pool levels) (message_fields pool m) (known pool (message_fields pool m) rs) (field_numbered n (message_fields pool m))
      there = get_field-fields_held (value_within pool levels) (message_fields pool m) (message_fields pool m) (known pool (message_fields pool m) rs) n (numbers_differ pool m rules)

      good_counted : (f : FieldView) → is_single f.shape ≡ true → AllByRecursion (λ r. IsGood pool (a_message m) depth r × (fits f r ≡ true)) (counted pool (value_within pool levels) (message_fields pool m) f rs)
      good_counted f single =
          counting-good (IsGood pool (a_message m) depth) (value_within pool levels) (message_fields pool m) f f.shape single (known pool (message_fields pool m) rs)
          (known-good pool m depth (message_fields pool m) rs good)

      -- the message of a field
      later :
          (f : FieldView) (t : ℕ) (cs : List Record) → field_numbered f.number (message_fields pool m) ≡ Some f → is_single f.shape ≡ true → message_of_kind f.kind ≡ Some t
          → AllByRecursion (λ r. IsGood pool (a_message m) depth r × (fits f r ≡ true)) cs → (c : Record) (ds : List Record) → cs ≡ c ∷ ds
          → scalar_at rest (message_of pool t (value_within pool levels t (joined cs))) ≡ found pool rest t None (joined cs)
      later f t cs at single e h c ds is =
          let counting_all : AllCount pool (a_message m) depth f.shape f.kind cs = all_count pool (a_message m) depth f at cs h in
          let some : AllCount pool (a_message m) depth f.shape f.kind (c ∷ ds) = subst (AllCount pool (a_message m) depth f.shape f.kind) is counting_all in
          let below = inside_message pool m depth f.shape f.kind t c e (no_key f.shape single) some.0 in
          let whole : AllCount pool (a_message m) (suc below.0) f.shape f.kind cs = subst (λ (d : ℕ). AllCount pool (a_message m) d f.shape f.kind cs) below.1 counting_all in
          let deep = below.1 in
          sym (again t below.0 (joined cs) (omega (arith, l, deep))
          (joined-good pool (value_within pool levels) levels (λ i d ss. within-good pool rules levels i d ss) m below.0 f.shape f.kind t cs e (no_key f.shape single) whole))

      by_type :
          (f : FieldView) (t : Option ℕ) → field_numbered f.number (message_fields pool m) ≡ Some f → is_single f.shape ≡ true → message_of_kind f.kind ≡ t
          → of_typed pool t rest f (counted pool (value_within pool levels) (message_fields pool m) f rs)
          ≡ scalar_in pool t rest (held_as (value_within pool levels) f.shape f.kind (counted pool (value_within pool levels) (message_fields pool m) f rs))
      by_type f None at single e = sym (of_scalars (value_within pool levels) pool rest f (counted pool (value_within pool levels) (message_fields pool m) f rs) e single)
      by_type f (Some t) at single e =
          sym (of_messages (value_within pool levels) pool t rest f (counted pool (value_within pool levels) (message_fields pool m) f rs) e single
          (later f t (counted pool (value_within pool levels) (message_fields pool m) f rs) at single e (good_counted f single)))

      by_shape : (f : FieldView) (b : Bool) → is_single f.shape ≡ b → field_numbered n (message_fields pool m) ≡ Some f
          → after_records (found pool rest) pool m rest (if b then Some f else None) None rs
          ≡ scalar_in pool (message_of_kind f.kind) rest (held_at (value_within pool levels) (message_fields pool m) (known pool (message_fields pool m) rs) (Some f))
      by_shape f false many found_f = sym (in_many (value_within pool levels) pool (message_of_kind f.kind) rest f.shape f.kind (counted pool (value_within pool levels) (message_fields pool m) f rs) many)
      by_shape f true single found_f =
          let at : field_numbered f.number (message_fields pool m) ≡ Some f = ap (λ (i : ℕ). field_numbered i (message_fields pool m)) (found_number n (message_fields pool m) f found_f) ∙ found_f in
          all_steps pool rules m rest (value_within pool levels) f at single rs ∙ by_type f (message_of_kind f.kind) at single refl

      by_field : (o : Option FieldView) → field_numbered n (message_fields pool m) ≡ o
          → after_records (found pool rest) pool m rest (if_single (field_numbered n (message_fields pool m))) None rs
          ≡ scalar_in pool (type_named pool m n) rest (held_at (value_within pool levels) (message_fields pool m) (known pool (message_fields pool m) rs) (field_numbered n (message_fields pool m)))
      by_field None e =
          ap (λ (o : Option FieldView). after_records (found pool rest) pool m rest (if_single o) None rs) e
          ∙ sym (ap (λ (o : Option FieldView). scalar_in pool (type_named pool m n) rest (held_at (value_within pool levels) (message_fields pool m) (known pool (message_fields pool m) rs) o)) e
          ∙ in_nothing pool (type_named pool m n) rest)
      by_field (Some f) e =
          ap (λ (o : Option FieldView). after_records (found pool rest) pool m rest (if_single o) None rs) e ∙ by_shape f (is_single f.shape) refl e
          ∙ sym (ap (λ (o : Option FieldView). scalar_in pool (option_and_then (λ f. message_of_kind f.kind) o) rest (held_at (value_within pool levels) (message_fields pool m) (known pool (message_fields pool m) rs) o)) e)

  found_within :
      (path : List ℕ) (levels m depth : ℕ) (rs : List Record) → depth < levels → AllGood pool (a_message m) depth rs
      → found pool path m None rs ≡ scalar_at path (message_of pool m (value_within pool levels m rs))
  found_within [] levels m depth rs l good = refl
  found_within (n ∷ rest) zero m depth rs l good = absurd (omega (arith, l))
  found_within (n ∷ rest) (suc levels) m depth rs l good = found_step n rest levels (λ t below ss k h. found_within rest levels t below ss k h) m depth rs l good

  pub found_is_scalar_at : FoundIsScalarAt pool
  unfolding value
  found_is_scalar_at m depth rs path l h =
      found_within path 101 m depth rs (omega (arith, l)) (all_good pool (a_message m) depth rs h.in_range h.writable h.sound)
