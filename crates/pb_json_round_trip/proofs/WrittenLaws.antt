-- A message that is covered has a JSON form, also with one NaN.
use Rattle.std.proofs.Common.{◌≡◌, ◌⊎◌, ℕ, zero, suc, ◌*◌, ◌<◌, Bool, true, false, cond, List, [], ◌∷◌, Option, Some, None, IsSomeAnd, inl, inr, refl, sym, ap, ap₂, ◌∙◌, subst, to_bits}
use Rattle.std.specs.Prelude.{from_bits, not, option_map, ℤ}
use Rattle.std.specs.Float.{Float, binary64, float_is_finite, nan, inf, fin}
use Rattle.std.specs.Option.{option_map_or, option_or}
use Rattle.std.specs.Ordering.{match_ordering, nat_cmp}
use Rattle.std.specs.declared.cmp.Ordering.{Ordering}
use Rattle.std.specs.declared.cmp.Ordering.TheVariants.{Less, Equal, Greater}
use lib.Ieee.{is_nan, top}
use lib.Ieee.Bits.{to_bits-of_bits}
use Rattle.pb_schema.specs.declared.types.Kind.{Kind}
use Rattle.pb_schema.specs.declared.types.Kind.TheVariants as kind
use Rattle.pb_schema.specs.declared.types.Shape.{Shape}
use Rattle.pb_schema.specs.Kinds.{message_of_kind}
use Rattle.pb_schema.specs.Rules.{IsPool}
use Rattle.pb_schema.specs.Scalar.{int32, int64, uint32, uint64, boolean, float, double, enum, text, bytes}
use Rattle.pb_schema.specs.Types.{FieldView, Types, field_numbered, message_fields}
use Rattle.pb_value.specs.Data.{Datum, scalar, message, Datums, no_datums, datum, Entries, no_entries, entry}
use Rattle.pb_value.specs.Data.{Holding, one, list, map, Fields, no_fields, field, Message, body, get_field}
use Rattle.pb_value.specs.WellFormed.{AreDatums, AreEntries, AreFields, IsBody, IsDatum, IsHeld, IsOfShape, IsWellFormed, KeysRise, holds_declared, key_of}
use Rattle.pb_value.proofs.Options.{some_of}
use Rattle.pb_json.specs.declared.well_known.WellKnown.{WellKnown}
use Rattle.pb_json.specs.declared.well_known.WellKnown.TheVariants as form
use Rattle.pb_json.specs.declared.error.JsonCause.{JsonCause}
use Rattle.pb_json.specs.declared.error.JsonCause.TheVariants as cause
use Rattle.pb_json.specs.Anys.{any_message}
use Rattle.pb_json.specs.Held.{integer_at, integer_held, strings_at, strings_held, strings_of}
use Rattle.pb_json.specs.Masks.{are_paths}
use Rattle.pb_json.specs.Refusals.{Refused, any_or_fields, any_refused, below, datum_refused, datums_refused, double_cause, entries_refused, fields_refused, held_cause, here, holding_refused, message_refused, own_cause, refused, refused_here, unless}
use Rattle.pb_json.specs.Times.{is_instant, is_span}
use Rattle.pb_json.specs.WellKnown.{well_known}
use Rattle.pb_json.proofs.RefusalLemmas.{whole_refused}
use Rattle.pb_json_round_trip.specs.Messages.{AreCoveredDatums, AreCoveredEntries, AreCoveredFields, HoldsCovered, HoldsMessage, IsCovered, IsCoveredDatum, IsCoveredHere, IsCoveredHolding, IsCoveredWithin}
use Rattle.pb_json_round_trip.specs.Messages.{datum_with_one_nan, datums_with_one_nan, entries_with_one_nan, fields_with_one_nan, holding_with_one_nan, message_with_one_nan}
use Rattle.pb_json_round_trip.specs.WellKnown.{IsAsDeclared, any_value, type_url}
use Rattle.pb_json_round_trip.proofs.AnyLaws.{any_opened, any_set}
use Rattle.pb_json_round_trip.proofs.WellKnownFields.{IsAny, any_held, pair_stays}

-- ---- one thing after another

both_none : (r s : Option Refused) → r ≡ None → s ≡ None → option_or r s ≡ None
both_none r s a b = rw (a, b) refl

none_below : (n : ℕ) (r : Option Refused) → r ≡ None → option_map (below n) r ≡ None
none_below n r e = rw e refl

-- ---- finite floats

finite_no_nan : (x : Float) → float_is_finite x ≡ true → lib.Dec.T (not (is_nan x))
unfolding is_nan float_is_finite
finite_no_nan nan e = absurd (cc)
finite_no_nan (inf s) e = tt
finite_no_nan (fin s m e) h = tt

finite_stays : (n : ℕ) → n < 2 * top binary64 → double_cause n ≡ None → double_cause (to_bits binary64 (from_bits binary64 n)) ≡ None
finite_stays n small h = ap double_cause (to_bits-of_bits binary64 n small (finite_no_nan (from_bits binary64 n) (by_test (float_is_finite (from_bits binary64 n)) h))) ∙ h
  where
    some : (c : JsonCause) → ◌≡◌ {A = Option JsonCause} (Some c) None → ⊥
    some c e = cc

    by_test : (b : Bool) → cond b None (Some cause.NotFinite) ≡ None → b ≡ true
    by_test true e = refl
    by_test false e = absurd (some cause.NotFinite e)

held_stays : (pool : Types) (s : Shape) (k : Kind) (h : Holding) → IsHeld pool s k h → held_cause h ≡ None → held_cause (holding_with_one_nan h) ≡ None
held_stays pool s kind.Double (one (scalar (double n))) is e = finite_stays n is e
held_stays pool s k (one (scalar (double n))) is e = absurd is
held_stays pool s k (one (scalar (int32 z))) is e = refl
held_stays pool s k (one (scalar (int64 z))) is e = refl
held_stays pool s k (one (scalar (uint32 n))) is e = refl
held_stays pool s k (one (scalar (uint64 n))) is e = refl
held_stays pool s k (one (scalar (boolean b))) is e = refl
held_stays pool s k (one (scalar (float n))) is e = refl
held_stays pool s k (one (scalar (enum z))) is e = refl
held_stays pool s k (one (scalar (text t))) is e = refl
held_stays pool s k (one (scalar (bytes t))) is e = refl
held_stays pool s k (one (message b)) is e = refl
held_stays pool s k (list ds) is e = refl
held_stays pool s k (map es) is e = refl

-- ---- what is read of the fields

got : {X : Type 0} (read : Holding → X) (other : X) → ((h : Holding) → read (holding_with_one_nan h) ≡ read h) → (n : ℕ) (fs : Fields)
    → option_map_or read (get_field n (fields_with_one_nan fs)) other ≡ option_map_or read (get_field n fs) other
got {X} read other same n no_fields = refl
got {X} read other same n (field k h fs) = by_order (nat_cmp n k) (got read other same n fs)
  where
    by_order : (c : Ordering) → option_map_or read (get_field n (fields_with_one_nan fs)) other ≡ option_map_or read (get_field n fs) other
        → option_map_or read (match_ordering c (get_field n (fields_with_one_nan fs)) (Some (holding_with_one_nan h)) (get_field n (fields_with_one_nan fs))) other
        ≡ option_map_or read (match_ordering c (get_field n fs) (Some h) (get_field n fs)) other
    by_order Less rest = rest
    by_order Equal rest = same h
    by_order Greater rest = rest

integer_stays : (h : Holding) → integer_held (holding_with_one_nan h) ≡ integer_held h
integer_stays (one (scalar (int32 z))) = refl
integer_stays (one (scalar (int64 z))) = refl
integer_stays (one (scalar (uint32 n))) = refl
integer_stays (one (scalar (uint64 n))) = refl
integer_stays (one (scalar (boolean b))) = refl
integer_stays (one (scalar (float n))) = refl
integer_stays (one (scalar (double n))) = refl
integer_stays (one (scalar (enum z))) = refl
integer_stays (one (scalar (text t))) = refl
integer_stays (one (scalar (bytes t))) = refl
integer_stays (one (message b)) = refl
integer_stays (list ds) = refl
integer_stays (map es) = refl

string_stays : (d : Datum) → Rattle.pb_json.specs.Held.string_of (datum_with_one_nan d) ≡ Rattle.pb_json.specs.Held.string_of d
string_stays (scalar (int32 z)) = refl
string_stays (scalar (int64 z)) = refl
string_stays (scalar (uint32 n)) = refl
string_stays (scalar (uint64 n)) = refl
string_stays (scalar (boolean b)) = refl
string_stays (scalar (float n)) = refl
string_stays (scalar (double n)) = refl
string_stays (scalar (enum z)) = refl
string_stays (scalar (text t)) = refl
string_stays (scalar (bytes t)) = refl
string_stays (message b) = refl

strings_stay : (ds : Datums) → strings_of (datums_with_one_nan ds) ≡ strings_of ds
strings_stay no_datums = refl
strings_stay (datum d ds) = ap₂ (λ (s : List ℕ) (ss : List (List ℕ)). s ∷ ss) (string_stays d) (strings_stay ds)

held_strings_stay : (h : Holding) → strings_held (holding_with_one_nan h) ≡ strings_held h
held_strings_stay (one d) = refl
held_strings_stay (list ds) = strings_stay ds
held_strings_stay (map es) = refl

time_stays : (n : ℕ) (fs : Fields) → integer_at n (fields_with_one_nan fs) ≡ integer_at n fs
time_stays n fs = got integer_held (Rattle.std.specs.Prelude.pos 0) integer_stays n fs

paths_stay : (n : ℕ) (fs : Fields) → strings_at n (fields_with_one_nan fs) ≡ strings_at n fs
paths_stay n fs = got strings_held [] held_strings_stay n fs

-- ---- what is wrong with a message itself

value_stays : (pool : Types) (all : List FieldView) (fs : Fields) → AreFields pool all fs → own_cause form.Value fs ≡ None → own_cause form.Value (fields_with_one_nan fs) ≡ None
value_stays pool all no_fields are e = e
value_stays pool all (field n h fs) are e =
    let found = some_of (field_numbered n all) (λ f. IsOfShape f.shape h × IsHeld pool f.shape f.kind h × (holds_declared pool f.kind h ≡ true)) are.0 in
    held_stays pool found.0.shape found.0.kind h found.2.1 e

own_stays : (pool : Types) (all : List FieldView) (w : WellKnown) (fs : Fields) → AreFields pool all fs → own_cause w fs ≡ None → own_cause w (fields_with_one_nan fs) ≡ None
own_stays pool all form.Value fs are e = value_stays pool all fs are e
own_stays pool all form.Timestamp fs are e = ap₂ (λ (s n : ℤ). unless (is_instant s n) cause.OutOfRange) (time_stays 1 fs) (time_stays 2 fs) ∙ e
own_stays pool all form.Duration fs are e = ap₂ (λ (s n : ℤ). unless (is_span s n) cause.OutOfRange) (time_stays 1 fs) (time_stays 2 fs) ∙ e
own_stays pool all form.FieldMask fs are e = ap (λ (ps : List (List ℕ)). unless (are_paths ps) cause.BadPath) (paths_stay 1 fs) ∙ e
own_stays pool all form.Any fs are e = refl
own_stays pool all form.Other fs are e = refl
own_stays pool all form.Wrapper fs are e = refl
own_stays pool all form.Struct fs are e = refl
own_stays pool all form.ListValue fs are e = refl

-- ---- messages

module _ (pool : Types) (is_pool : IsPool pool) where
  -- messages of fewer levels have a JSON form
  abbrev pub HaveForms : (ℕ → Message → Option Refused) → (ℕ → Message → Type 0) → Type 0
  HaveForms Inside Inner = (m : ℕ) (b : Message) → IsBody pool m b → Inner m b → Inside m (message_with_one_nan b) ≡ None

  module _ (Inside : ℕ → Message → Option Refused) (Inner : ℕ → Message → Type 0) (inner : HaveForms Inside Inner) where
    datum_form : (k : Kind) (d : Datum) → IsDatum pool k d → IsCoveredDatum pool Inner k d → datum_refused pool Inside k (datum_with_one_nan d) ≡ None
    datum_form k (scalar x) is covered = refl
    datum_form k (message b) is covered = of_type (message_of_kind k) is covered
      where
        of_type : (o : Option ℕ) → IsSomeAnd o (λ m. IsBody pool m b) → IsSomeAnd o (λ m. Inner m b) → option_map_or (λ m. Inside m (message_with_one_nan b)) o None ≡ None
        of_type None is covered = refl
        of_type (Some m) is covered = inner m b is covered

    datums_form : (k : Kind) (ds : Datums) → AreDatums pool k ds → AreCoveredDatums pool Inner k ds → datums_refused pool Inside k (datums_with_one_nan ds) ≡ None
    datums_form k no_datums are covered = refl
    datums_form k (datum d ds) are covered = both_none _ _ (datum_form k d are.0 covered.0) (datums_form k ds are.1 covered.1)

    entries_form : (key k : Kind) (es : Entries) → AreEntries pool key k es → AreCoveredEntries pool Inner k es → entries_refused pool Inside k (entries_with_one_nan es) ≡ None
    entries_form key k no_entries are covered = refl
    entries_form key k (entry x d es) are covered = both_none _ _ (datum_form k d are.1 covered.0) (entries_form key k es are.2 covered.1)

    holding_form : (s : Shape) (k : Kind) (h : Holding) → IsHeld pool s k h → IsCoveredHolding pool Inner k h → holding_refused pool Inside k (holding_with_one_nan h) ≡ None
    holding_form s k (one d) is covered = datum_form k d is covered
    holding_form s k (list ds) is covered = datums_form k ds is covered
    holding_form s k (map es) is covered =
        let key = some_of (key_of s) (λ key. AreEntries pool key k es × KeysRise es) is in
        entries_form key.0 k es key.2.0 covered

    fields_form : (all : List FieldView) (fs : Fields) → AreFields pool all fs → AreCoveredFields pool Inner all fs → fields_refused pool Inside all (fields_with_one_nan fs) ≡ None
    fields_form all no_fields are covered = refl
    fields_form all (field n h fs) are covered =
        let found = some_of (field_numbered n all) (λ f. IsOfShape f.shape h × IsHeld pool f.shape f.kind h × (holds_declared pool f.kind h ≡ true)) are.0 in
        let cover : IsCoveredHolding pool Inner found.0.kind h = subst (λ (o : Option FieldView). IsSomeAnd o (λ g. IsCoveredHolding pool Inner g.kind h)) found.1 covered.0 in
        both_none _ _ (
        subst (λ (o : Option FieldView). option_map (below n) (option_map_or (λ g. holding_refused pool Inside g.kind (holding_with_one_nan h)) o None) ≡ None) (sym found.1)
        (none_below n _ (holding_form found.0.shape found.0.kind h found.2.1 cover))
        )
        (fields_form all fs are.1 covered.1)

    -- the message in an Any
    held_form : (fs : Fields) → IsAny fs → HoldsMessage pool Inner fs → any_refused pool Inside (fields_with_one_nan fs) ≡ None
    held_form fs any h =
        let stays : fields_with_one_nan fs ≡ fs =
        ap fields_with_one_nan any.is ∙ pair_stays (text (Rattle.pb_json.specs.Held.string_at 1 fs)) (bytes (Rattle.pb_json.specs.Held.bytes_at 2 fs)) refl refl ∙ sym any.is in
        let inside : Inside h.message_type h.held ≡ None = subst (λ (v : Message). Inside h.message_type v ≡ None) h.one_nan (inner h.message_type h.held h.well_formed.parts h.covered) in
        ap (any_refused pool Inside) stays
        ∙ ap (λ (b : Bool). cond b None (option_map_or (λ x. option_map (below 2) (Inside x.0 x.1)) (any_message pool fs) (Some (here cause.Unsupported)))) (any_set pool is_pool Inner fs any h)
        ∙ ap (λ (o : Option (ℕ × Message)). option_map_or (λ x. option_map (below 2) (Inside x.0 x.1)) o (Some (here cause.Unsupported))) (any_opened pool is_pool Inner fs any h)
        ∙ none_below 2 _ inside

    any_form : (fs : Fields) → AreFields pool (type_url ∷ any_value ∷ []) fs → Rattle.pb_value.specs.WellFormed.RisesFrom 0 fs → (fs ≡ no_fields) ⊎ HoldsMessage pool Inner fs
        → any_refused pool Inside (fields_with_one_nan fs) ≡ None
    any_form fs are rise (inl none) = ap (λ (gs : Fields). any_refused pool Inside (fields_with_one_nan gs)) none
    any_form fs are rise (inr h) = held_form fs (any_held pool fs are rise) h

    parts_form : (w : WellKnown) (all : List FieldView) (fs : Fields) → IsAsDeclared pool w all → HoldsCovered pool Inner w fs → AreFields pool all fs
        → Rattle.pb_value.specs.WellFormed.RisesFrom 0 fs → AreCoveredFields pool Inner all fs
        → any_or_fields w (any_refused pool Inside (fields_with_one_nan fs)) (fields_refused pool Inside all (fields_with_one_nan fs)) ≡ None
    parts_form form.Any all fs e holds are rise covered = any_form fs (subst (λ (l : List FieldView). AreFields pool l fs) e are) rise holds
    parts_form form.Other all fs e holds are rise covered = fields_form all fs are covered
    parts_form form.Wrapper all fs e holds are rise covered = fields_form all fs are covered
    parts_form form.Struct all fs e holds are rise covered = fields_form all fs are covered
    parts_form form.ListValue all fs e holds are rise covered = fields_form all fs are covered
    parts_form form.Value all fs e holds are rise covered = fields_form all fs are covered
    parts_form form.Timestamp all fs e holds are rise covered = fields_form all fs are covered
    parts_form form.Duration all fs e holds are rise covered = fields_form all fs are covered
    parts_form form.FieldMask all fs e holds are rise covered = fields_form all fs are covered

    -- a message of one level more
    here_form : HaveForms (refused_here pool Inside) (IsCoveredHere pool Inner)
    here_form m (body fs us) is (has, none, holds, known, covered) =
        both_none _ _ (ap (option_map here) (own_stays pool (message_fields pool m) (well_known pool m) fs is.0 none))
        (parts_form (well_known pool m) (message_fields pool m) fs has holds is.0 is.1 covered)

  forms : (levels : ℕ) → HaveForms (message_refused pool levels) (IsCoveredWithin pool levels)
  unfolding message_refused IsCoveredWithin
  forms zero m b is covered = absurd covered
  forms (suc levels) m b is covered = here_form (message_refused pool levels) (IsCoveredWithin pool levels) (forms levels) m b is covered

  pub covered_form : (m : ℕ) (b : Message) → IsWellFormed pool m b → IsCovered pool m b
      → refused (record { pool = pool; kind = m; body = message_with_one_nan b }) ≡ None
  covered_form m b well covered =
      sym (whole_refused (record { pool = pool; kind = m; body = message_with_one_nan b })) ∙ forms 101 m b well.parts covered
