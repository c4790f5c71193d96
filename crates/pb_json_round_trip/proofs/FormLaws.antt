-- What messages of types with a form of their own are as JSON is read as these messages.
use Rattle.std.proofs.Common.{◌≡◌, ℕ, Bool, true, false, cond, eqb, List, [], ◌∷◌, Option, Some, None, IsSomeAnd, Ok, inl, inr, refl, sym, ap, ap₂, ◌∙◌, subst, to_bits, ℤ, pos, negsuc, neg_ℤ}
use Rattle.std.specs.Prelude.{codes, from_bits}
use Rattle.std.specs.Option.{option_map_or}
use Rattle.std.specs.Float.{Float, Format, binary32, binary64, nan, inf, fin, float_is_finite}
use Rattle.std.specs.List.{AllByRecursion}
use Rattle.std.proofs.lemmas.Bool.{and_parts}
use Rattle.pb_schema.specs.declared.types.EnumId.{EnumId}
use Rattle.pb_schema.specs.declared.types.Kind.{Kind}
use Rattle.pb_schema.specs.declared.types.Kind.TheVariants as kind
use Rattle.pb_schema.specs.declared.types.MessageId.{MessageId}
use Rattle.pb_schema.specs.declared.types.Shape.TheVariants as shape
use Rattle.pb_schema.specs.EnumValues.{value_name}
use Rattle.pb_schema.specs.Kinds.{IsOfKind, default_of, message_of_kind}
use Rattle.pb_schema.specs.Rules.{IsPool}
use Rattle.pb_schema.specs.Scalar.{Scalar, int32, int64, boolean, double, enum, text, is_default}
use Rattle.pb_schema.specs.Types.{FieldView, Types, field_numbered}
use Rattle.pb_value.specs.Data.{Datum, scalar, message, Datums, no_datums, datum, Entries, no_entries, entry}
use Rattle.pb_value.specs.Data.{Holding, one, list, map, Fields, no_fields, field, Message, body}
use Rattle.pb_value.specs.Oneof.{default_value}
use Rattle.pb_value.specs.WellFormed.{AreDatums, AreEntries, AreFields, HasOneMemberEach, KeysRise, RisesFrom, datums_declared}
use Rattle.pb_value.proofs.ElementLemmas.{IsOfKind-default_of}
use Rattle.pb_value.proofs.JudgeLemmas.{found_in}
use Rattle.pb_json.specs.declared.error.JsonCause.{JsonCause}
use Rattle.pb_json.specs.declared.error.JsonCause.TheVariants.{BadPath, NotFinite, OutOfRange}
use Rattle.pb_json.specs.declared.form.Names.{Names}
use Rattle.pb_json.specs.declared.well_known.WellKnown.{WellKnown}
use Rattle.pb_json.specs.declared.well_known.WellKnown.TheVariants as form
use Rattle.pb_json.specs.Held.{integer_at, strings_at}
use Rattle.pb_json.specs.Json as written
use Rattle.pb_json.specs.Mapping.{default_json, duration_json, elements_json, entries_json, float_json, holding_json, instant_json, mask_json, named_json, names_of_kind, only_json, scalar_json, span_json, timestamp_json}
use Rattle.pb_json.specs.Masks.{are_paths, mask_text}
use Rattle.pb_json.specs.Refusals.{duration_cause, held_cause, mask_cause, timestamp_cause, unless, value_cause}
use Rattle.pb_json.specs.Times.{is_between, is_instant, is_span, span_text}
use Rattle.pb_json.specs.WellKnown.{is_null_enum, well_known}
use Rattle.pb_json_scalars.specs.declared.times.Time.{Time}
use Rattle.pb_json_scalars.specs.Clock.{duration, time, timestamp}
use Rattle.pb_json_scalars.specs.Paths.{mask_paths}
use Rattle.pb_json.specs.Given.{NamesGiven}
use Rattle.pb_json_text.specs.Json as read
use Rattle.pb_json_read.specs.declared.rules.JsonRules.{JsonRules}
use Rattle.pb_json_read.specs.Forms.{ReadsAlone, ReadsForm, Where, mask_message, time_message}
use Rattle.pb_json_read.specs.Reads.{DeepOf, FlatOf, NestedOf, ReadsAnyObject, ReadsList, ReadsMap, ReadsMessage, ReadsObject, SoleOf}
use Rattle.pb_json_read.specs.Steps.{Read, ReadsSingle, given, nothing, with_held}
use Rattle.pb_json_read.specs.WellKnown.{field_for, is_sole, paths_field, string_meant, texts, time_fields}
use Rattle.pb_json_round_trip.specs.Messages.{AreCoveredDatums, AreCoveredEntries, AreCoveredFields, IsCoveredHolding, NamesAreRead, entries_with_one_nan, datums_with_one_nan, fields_with_one_nan, holding_with_one_nan, message_with_one_nan}
use Rattle.pb_json_round_trip.specs.Scalars.{IsNoEnum, with_one_nan}
use Rattle.pb_json_round_trip.specs.Texts.{Means}
use Rattle.pb_json_round_trip.specs.WellKnown.{IsWrapped, choices, declared, entries, nanos, paths, seconds, values, wrapped}
use Rattle.pb_json_round_trip.proofs.EnumLaws.{value_read}
use Rattle.pb_json_round_trip.proofs.MaskLaws.{mask_read}
use Rattle.pb_json_round_trip.proofs.MessageLaws.{AreReadBack, IsOfForm, elements_read, mapped_read, number_found}
use Rattle.pb_json_round_trip.proofs.NanLaws.{still_default}
use Rattle.pb_json_round_trip.proofs.ScalarLaws.{scalar_read}
use Rattle.pb_json_round_trip.proofs.TimeLaws.{instant_read, span_read}
use Rattle.pb_json_round_trip.proofs.WellKnownFields.{Holds, chosen, mask, mask_held, mask_stays, nanos_back, only_field, pair_put, pair_stays, paths_back, same_field, seconds_back, single_held, times, times_held}

-- a message that is read
abbrev ok : Message → Read Message
ok b = Ok b

unless_none : (good : Bool) (c : JsonCause) → unless good c ≡ None → good ≡ true
unless_none true c h = refl
unless_none false c h = absurd (cc)

-- ---- times

time_given : (s n : ℤ) (at : ℕ) (o : Option Time) → o ≡ Some (time s n)
    → ok (body (fields_with_one_nan (times s n)) []) ≡ given at (time_message (time_fields (seconds ∷ nanos ∷ [])) o)
time_given s n at o e =
    subst (λ (x : Option Time). ok (body (fields_with_one_nan (times s n)) []) ≡ given at (time_message (time_fields (seconds ∷ nanos ∷ [])) x)) (sym e)
    (ap (λ (fs : Fields). ok (body fs [])) (pair_stays (int64 s) (int32 n) refl refl) ∙ ap ok (sym (pair_put (int64 s) (int32 n))))

timestamp_meant : (s n : ℤ) (j : read.Json) → is_instant s n ≡ true → Means (written.instant s n) j → string_meant timestamp j ≡ Some (time s n)
timestamp_meant s (pos n) j fits (t, is, written_so) = rw is (instant_read s n t fits written_so)
timestamp_meant s (negsuc n) j fits means =
    let both = and_parts (is_between (neg_ℤ (pos 62_135_596_800)) (pos 253_402_300_799) s) (is_between (pos 0) (pos 999_999_999) (negsuc n)) fits in
    absurd (let no : false ≡ true = both.1 in cc)

module _ (pool : Types) (fs : Fields) (at : ℕ) (j : read.Json) (are : AreFields pool (seconds ∷ nanos ∷ []) fs) (rise : RisesFrom 0 fs) where
  pub timestamp_read : timestamp_cause fs ≡ None → Means (timestamp_json fs) j
      → ok (body (fields_with_one_nan fs) []) ≡ given at (time_message (time_fields (seconds ∷ nanos ∷ [])) (string_meant timestamp j))
  timestamp_read none means =
      let t = times_held pool fs are rise in
      let s : ℤ = t.seconds_are in
      let n : ℤ = t.nanos_are in
      let a : integer_at 1 fs ≡ s = ap (integer_at 1) t.is ∙ seconds_back s n in
      let b : integer_at 2 fs ≡ n = ap (integer_at 2) t.is ∙ nanos_back s n in
      let fits : is_instant s n ≡ true = unless_none (is_instant s n) OutOfRange (sym (ap₂ (λ (x y : ℤ). unless (is_instant x y) OutOfRange) a b) ∙ none) in
      let here : Means (instant_json s n) j = subst (λ (w : written.Json). Means w j) (ap₂ instant_json a b) means in
      let is : Means (written.instant s n) j = subst (λ (c : Bool). Means (cond c (written.instant s n) written.null) j) fits here in
      ap (λ (gs : Fields). ok (body (fields_with_one_nan gs) [])) t.is ∙ time_given s n at (string_meant timestamp j) (timestamp_meant s n j fits is)

  pub duration_read : duration_cause fs ≡ None → Means (duration_json fs) j
      → ok (body (fields_with_one_nan fs) []) ≡ given at (time_message (time_fields (seconds ∷ nanos ∷ [])) (string_meant duration j))
  duration_read none means =
      let t = times_held pool fs are rise in
      let s : ℤ = t.seconds_are in
      let n : ℤ = t.nanos_are in
      let a : integer_at 1 fs ≡ s = ap (integer_at 1) t.is ∙ seconds_back s n in
      let b : integer_at 2 fs ≡ n = ap (integer_at 2) t.is ∙ nanos_back s n in
      let fits : is_span s n ≡ true = unless_none (is_span s n) OutOfRange (sym (ap₂ (λ (x y : ℤ). unless (is_span x y) OutOfRange) a b) ∙ none) in
      let here : Means (span_json s n) j = subst (λ (w : written.Json). Means w j) (ap₂ span_json a b) means in
      let is : j ≡ read.string (span_text s n) = subst (λ (c : Bool). Means (cond c (written.plain (span_text s n)) written.null) j) fits here in
      ap (λ (gs : Fields). ok (body (fields_with_one_nan gs) [])) t.is
      ∙ time_given s n at (string_meant duration j) (ap (λ (x : read.Json). string_meant duration x) is ∙ span_read s n fits)

-- ---- field masks

mask_put : (ps : List (List ℕ)) → body (mask ps) [] ≡ (with_held paths.shape paths.number (Some (list (texts ps))) nothing).message
mask_put [] = refl
mask_put (p ∷ ps) = refl

mask_given : (ps : List (List ℕ)) (at : ℕ) (o : Option (List (List ℕ))) → o ≡ Some ps
    → ok (body (fields_with_one_nan (mask ps)) []) ≡ given at (mask_message (paths_field (paths ∷ [])) o)
mask_given ps at o e =
    subst (λ (x : Option (List (List ℕ))). ok (body (fields_with_one_nan (mask ps)) []) ≡ given at (mask_message (paths_field (paths ∷ [])) x)) (sym e)
    (ap (λ (fs : Fields). ok (body fs [])) (mask_stays ps) ∙ ap ok (mask_put ps))

pub mask_message_read : (pool : Types) (fs : Fields) (at : ℕ) (j : read.Json) → AreFields pool (paths ∷ []) fs → RisesFrom 0 fs → mask_cause fs ≡ None
    → Means (mask_json fs) j → ok (body (fields_with_one_nan fs) []) ≡ given at (mask_message (paths_field (paths ∷ [])) (string_meant mask_paths j))
mask_message_read pool fs at j are rise none means =
    let m = mask_held pool fs are rise in
    let ps : List (List ℕ) = m.all in
    let a : strings_at 1 fs ≡ ps = ap (strings_at 1) m.is ∙ paths_back ps in
    let good : are_paths ps ≡ true = unless_none (are_paths ps) BadPath (sym (ap (λ (l : List (List ℕ)). unless (are_paths l) BadPath) a) ∙ none) in
    let is : j ≡ read.string (mask_text ps) = subst (λ (l : List (List ℕ)). j ≡ read.string (mask_text l)) a means in
    ap (λ (gs : Fields). ok (body (fields_with_one_nan gs) [])) m.is
    ∙ mask_given ps at (string_meant mask_paths j) (ap (λ (x : read.Json). string_meant mask_paths x) is ∙ mask_read ps good m.utf8)

-- ---- wrappers

pub record IsPlainKind (k : Kind) : Type 0 where
  pub no_message : message_of_kind k ≡ None
  pub no_enum : IsNoEnum k
  pub not_null : (pool : Types) → is_null_enum pool k ≡ false
  pub default_is : default_value k ≡ Some (scalar (default_of k))
  pub left_out : is_default (with_one_nan (default_of k)) ≡ true

zero_bits : (eqb (to_bits binary32 (from_bits binary32 0)) 0 ≡ true) × (eqb (to_bits binary64 (from_bits binary64 0)) 0 ≡ true)
unfolding lib.Ieee.to_bits lib.Ieee.of_bits lib.Ieee.of_fields
zero_bits = (refl, refl)

pub plain_kind : (k : Kind) → IsWrapped k → IsPlainKind k
plain_kind kind.Double is = record { no_message = refl; no_enum = tt; not_null = λ pool. refl; default_is = refl; left_out = zero_bits.1 }
plain_kind kind.Float is = record { no_message = refl; no_enum = tt; not_null = λ pool. refl; default_is = refl; left_out = zero_bits.0 }
plain_kind kind.Int64 is = record { no_message = refl; no_enum = tt; not_null = λ pool. refl; default_is = refl; left_out = refl }
plain_kind kind.Uint64 is = record { no_message = refl; no_enum = tt; not_null = λ pool. refl; default_is = refl; left_out = refl }
plain_kind kind.Int32 is = record { no_message = refl; no_enum = tt; not_null = λ pool. refl; default_is = refl; left_out = refl }
plain_kind kind.Uint32 is = record { no_message = refl; no_enum = tt; not_null = λ pool. refl; default_is = refl; left_out = refl }
plain_kind kind.Bool is = record { no_message = refl; no_enum = tt; not_null = λ pool. refl; default_is = refl; left_out = refl }
plain_kind kind.Text is = record { no_message = refl; no_enum = tt; not_null = λ pool. refl; default_is = refl; left_out = refl }
plain_kind kind.Bytes is = record { no_message = refl; no_enum = tt; not_null = λ pool. refl; default_is = refl; left_out = refl }
plain_kind k is = absurd is

module _ (pool : Types) (names : Names) (Inside : ℕ → Message → written.Json) (k : Kind) (is_wrapped : IsWrapped k) where
  -- a wrapper's JSON is that of a value, which is the default where the field is not set
  pub wrapper_json : (fs : Fields) → AreFields pool (wrapped k ∷ []) fs → RisesFrom 0 fs
      → (x : Scalar) × IsOfKind k x × (only_json pool names Inside form.Wrapper (wrapped k ∷ []) fs ≡ scalar_json pool k x)
      × (body (fields_with_one_nan fs) [] ≡ (with_held shape.Implicit 1 (Some (one (scalar (with_one_nan x)))) nothing).message)
  wrapper_json fs are rise =
      let p = plain_kind k is_wrapped in
      elim (only_field pool (wrapped k) fs are rise) [
        | inl e ↦ (
          default_of k,
          IsOfKind-default_of k p.no_message,
          ap (only_json pool names Inside form.Wrapper (wrapped k ∷ [])) e ∙ ap (default_json pool k) p.default_is,
          ap (λ (gs : Fields). body (fields_with_one_nan gs) []) e ∙ put_default (default_of k) p.left_out,
        )
        | inr h ↦
            let s = single_held pool k h.held p.no_message h.holds.0 h.holds.1 in
            let is : fs ≡ field 1 (one (scalar s.value)) no_fields = h.is ∙ ap (λ (x : Holding). field 1 x no_fields) s.is in (
              s.value,
              s.of_kind,
              ap (only_json pool names Inside form.Wrapper (wrapped k ∷ [])) is,
              ap (λ (gs : Fields). body (fields_with_one_nan gs) []) is ∙ put_value s.value (still_default pool k (scalar s.value) s.set s.of_kind),
            )
      ]
    where
      put_default : (x : Scalar) → is_default (with_one_nan x) ≡ true → body no_fields [] ≡ (with_held shape.Implicit 1 (Some (one (scalar (with_one_nan x)))) nothing).message
      put_default x e = rw e refl

      put_value : (x : Scalar) → is_default (with_one_nan x) ≡ false
          → body (field 1 (one (scalar (with_one_nan x))) no_fields) [] ≡ (with_held shape.Implicit 1 (Some (one (scalar (with_one_nan x)))) nothing).message
      put_value x e = rw e refl

pub wrapper_read : (pool : Types) (names : Names) (table : NamesGiven) (rules : JsonRules) (Inside : ℕ → Message → written.Json) (k : Kind) → IsWrapped k → (fs : Fields) → AreFields pool (wrapped k ∷ []) fs
    → RisesFrom 0 fs → (at : ℕ) (j : read.Json) → Means (only_json pool names Inside form.Wrapper (wrapped k ∷ []) fs) j
    → ReadsAlone (field_numbered 1 (wrapped k ∷ [])) at (FlatOf pool rules table at j) (Ok (body (fields_with_one_nan fs) []))
wrapper_read pool names table rules Inside k is_wrapped fs are rise at j means =
    let w = wrapper_json pool names Inside k is_wrapped fs are rise in
    let here : Means (scalar_json pool k w.0) j = subst (λ (x : written.Json). Means x j) w.2 means in (
      Ok (Some (one (scalar (with_one_nan w.0)))),
      (Ok (Some (scalar (with_one_nan w.0))), scalar_read pool k w.0 j (plain_kind k is_wrapped).no_enum w.1 here, refl),
      ap ok w.3,
    )

-- ---- numbers of a Value

finite_number : (f : Format) (x : Float) (j : read.Json) → float_is_finite x ≡ true → Means (float_json f x) j → (s : List ℕ) × (j ≡ read.number s)
unfolding float_is_finite
finite_number f nan j finite means = absurd (cc)
finite_number f (inf negative) j finite means = absurd (cc)
finite_number f (fin negative m e) j finite (s, is, plain, parses) = (s, is)

finite_none : (b : Bool) → cond b None (Some NotFinite) ≡ None → b ≡ true
finite_none true h = refl
finite_none false h = absurd (cc)

-- ---- types that hold other values

module _ (pool : Types) (names : Names) (table : NamesGiven) (rules : JsonRules) (is_pool : IsPool pool) (named : NamesAreRead names table pool) where
  module _ (Inside : ℕ → Message → written.Json) (Inner : ℕ → Message → Type 0) (back : AreReadBack pool names table rules is_pool named Inside Inner) where
    -- what is read of a type that is what its one field holds, and which form of JSON value it is
    abbrev ReadsSoleOf : FieldView → ℕ → WellKnown → Fields → Type 0
    ReadsSoleOf f n w fs = AreCoveredFields pool Inner (f ∷ []) fs → (at : ℕ) (j : read.Json) → Means (only_json pool names Inside w (f ∷ []) fs) j
        → ReadsAlone (field_numbered 1 (f ∷ [])) at (FlatOf pool rules table at j) (Ok (body (fields_with_one_nan fs) [])) × (field_for j ≡ n)

    -- a Struct
    map_read : (v : MessageId) (es : Entries) → AreEntries pool kind.Text (kind.Message v) es → KeysRise es → AreCoveredEntries pool Inner (kind.Message v) es
        → (at : ℕ) (j : read.Json) → Means (written.object (entries_json pool names Inside (kind.Message v) es)) j
        → FlatOf pool rules table at j (shape.Map kind.Text) (kind.Message v) (Ok (Some (map (entries_with_one_nan es)))) × (field_for j ≡ 5)
    map_read v es are rise covered at j (rs, e, means) = (
      (
        Ok (entries_with_one_nan es),
        subst (λ (i : read.Json). ReadsMap pool rules table kind.Text (kind.Message v) at i (Ok (entries_with_one_nan es))) (sym e)
            (mapped_read pool names table rules is_pool named Inside Inner back kind.Text (kind.Message v) es are rise tt refl covered rs means),
        refl,
      ),
      ap field_for e,
    )

    struct_none : (v : MessageId) → ReadsSoleOf (entries v) 5 form.Struct no_fields
    struct_none v covered at j means =
        let r = map_read v no_entries tt tt tt at j means in ((Ok (Some (map no_entries)), r.0, refl), r.1)

    struct_with : (v : MessageId) (h : Holding) → Holds pool h (entries v) → ReadsSoleOf (entries v) 5 form.Struct (field 1 h no_fields)
    struct_with v (map (entry x d es)) holds covered at j means =
        let r = map_read v (entry x d es) holds.1.0 holds.1.1 covered.0 at j means in ((Ok (Some (map (entries_with_one_nan (entry x d es)))), r.0, refl), r.1)
    struct_with v (map no_entries) holds covered at j means = absurd holds.0
    struct_with v (one d) holds covered at j means = absurd holds.0
    struct_with v (list ds) holds covered at j means = absurd holds.0

    pub struct_read : (v : MessageId) (fs : Fields) → AreFields pool (entries v ∷ []) fs → RisesFrom 0 fs → ReadsSoleOf (entries v) 5 form.Struct fs
    struct_read v fs are rise =
        elim (only_field pool (entries v) fs are rise) [
          | inl e ↦ subst (ReadsSoleOf (entries v) 5 form.Struct) (sym e) (struct_none v)
          | inr h ↦ subst (ReadsSoleOf (entries v) 5 form.Struct) (sym h.is) (struct_with v h.held h.holds)
        ]

    -- a ListValue
    list_read : (v : MessageId) (ds : Datums) → AreDatums pool (kind.Message v) ds → datums_declared pool (kind.Message v) ds ≡ true → AreCoveredDatums pool Inner (kind.Message v) ds
        → (at : ℕ) (j : read.Json) → Means (written.array (elements_json pool names Inside (kind.Message v) ds)) j
        → FlatOf pool rules table at j (shape.List false) (kind.Message v) (Ok (Some (list (datums_with_one_nan ds)))) × (field_for j ≡ 6)
    list_read v ds are declares covered at j (rs, e, means) = (
      (
        Ok (datums_with_one_nan ds),
        subst (λ (i : read.Json). ReadsList pool rules table (kind.Message v) at i (Ok (datums_with_one_nan ds))) (sym e)
            (elements_read pool names table rules is_pool named Inside Inner back (kind.Message v) ds are declares covered no_datums rs means),
        refl,
      ),
      ap field_for e,
    )

    list_none : (v : MessageId) → ReadsSoleOf (values v) 6 form.ListValue no_fields
    list_none v covered at j means =
        let r = list_read v no_datums tt refl tt at j means in ((Ok (Some (list no_datums)), r.0, refl), r.1)

    list_with : (v : MessageId) (h : Holding) → Holds pool h (values v) → ReadsSoleOf (values v) 6 form.ListValue (field 1 h no_fields)
    list_with v (list (datum d ds)) holds covered at j means =
        let r = list_read v (datum d ds) holds.1 holds.2 covered.0 at j means in ((Ok (Some (list (datums_with_one_nan (datum d ds)))), r.0, refl), r.1)
    list_with v (list no_datums) holds covered at j means = absurd holds.0
    list_with v (one d) holds covered at j means = absurd holds.0
    list_with v (map es) holds covered at j means = absurd holds.0

    pub list_value_read : (v : MessageId) (fs : Fields) → AreFields pool (values v ∷ []) fs → RisesFrom 0 fs → ReadsSoleOf (values v) 6 form.ListValue fs
    list_value_read v fs are rise =
        elim (only_field pool (values v) fs are rise) [
          | inl e ↦ subst (ReadsSoleOf (values v) 6 form.ListValue) (sym e) (list_none v)
          | inr h ↦ subst (ReadsSoleOf (values v) 6 form.ListValue) (sym h.is) (list_with v h.held h.holds)
        ]

    -- a Value, by the field that it holds
    abbrev ReadsChosen : List FieldView → FieldView → Type 0
    ReadsChosen all f = (h : Holding) → Holds pool h f → IsCoveredHolding pool Inner f.kind h → held_cause h ≡ None → (at : ℕ) (j : read.Json)
        → Means (holding_json pool names Inside f.kind h) j
        → ReadsAlone (field_numbered (field_for j) all) at (DeepOf pool rules table at j) (Ok (body (field f.number (holding_with_one_nan h) no_fields) []))

    choice_read : (all : List FieldView) (name : List ℕ) (n : ℕ) (k : Kind) (at : ℕ) (j : read.Json) (d : Datum)
        → field_numbered (field_for j) all ≡ Some (declared name n k (shape.OneofMember 0))
        → ReadsSingle pool rules k at j (NestedOf pool rules table at j) (Ok (Some d))
        → ReadsAlone (field_numbered (field_for j) all) at (DeepOf pool rules table at j) (Ok (body (field n (one d) no_fields) []))
    choice_read all name n k at j d found single =
        subst (λ (o : Option FieldView). ReadsAlone o at (DeepOf pool rules table at j) (Ok (body (field n (one d) no_fields) []))) (sym found)
        (Ok (Some (one d)), (Ok (Some d), single, refl), refl)

    -- the message of a type that is what its field 1 holds
    nested_read : (m at : ℕ) (j : read.Json) (o : Read Message) → is_sole (well_known pool m) ≡ true → ReadsMessage pool rules table m at j o → NestedOf pool rules table at j m o
    nested_read m at j o = by_form (well_known pool m)
      where
        by_form : (w : WellKnown) → is_sole w ≡ true
            → ReadsForm pool rules at j (λ key e r. ReadsMap pool rules table key e at j r) (λ e r. ReadsList pool rules table e at j r) w (λ r. ReadsObject pool rules table m at j r) (λ r. ReadsAnyObject pool rules table m at j r) m o
            → Where (is_sole w) at (SoleOf pool rules table at j m) o
        by_form form.Wrapper is h = h
        by_form form.Struct is h = h
        by_form form.ListValue is h = h
        by_form w is h = absurd (cc)

    module _ (e : EnumId) (s l : MessageId) where
      abbrev found_by : (j : read.Json) (n : ℕ) → field_for j ≡ n → field_numbered (field_for j) (choices e s l) ≡ field_numbered n (choices e s l)
      found_by j n is = ap (λ (i : ℕ). field_numbered i (choices e s l)) is

      null_read : is_null_enum pool (kind.Enum e) ≡ true → ReadsChosen (choices e s l) (declared (codes "null_value") 1 (kind.Enum e) (shape.OneofMember 0))
      null_read null (one (scalar (enum z))) holds covered none at j means =
          let is : j ≡ read.null = subst (λ (b : Bool). Means (cond b written.null (named_json (value_name z (names_of_kind pool (kind.Enum e))) z)) j) null means in
          choice_read (choices e s l) (codes "null_value") 1 (kind.Enum e) at j (scalar (enum z)) (found_by j 1 (ap field_for is))
          (value_read pool is_pool (kind.Enum e) (enum z) j holds.1 holds.2 covered means)
      null_read null (one (scalar x)) holds covered none at j means = absurd holds.1
      null_read null (one (message b)) holds covered none at j means = absurd holds.1
      null_read null (list ds) holds covered none at j means = absurd holds.0
      null_read null (map es) holds covered none at j means = absurd holds.0

      number_read : ReadsChosen (choices e s l) (declared (codes "number_value") 2 kind.Double (shape.OneofMember 0))
      number_read (one (scalar (double n))) holds covered none at j means =
          let number = finite_number binary64 (from_bits binary64 n) j (finite_none (float_is_finite (from_bits binary64 n)) none) means in
          choice_read (choices e s l) (codes "number_value") 2 kind.Double at j (scalar (with_one_nan (double n))) (found_by j 2 (ap field_for number.1))
          (scalar_read pool kind.Double (double n) j tt holds.1 means)
      number_read (one (scalar x)) holds covered none at j means = absurd holds.1
      number_read (one (message b)) holds covered none at j means = absurd holds.1
      number_read (list ds) holds covered none at j means = absurd holds.0
      number_read (map es) holds covered none at j means = absurd holds.0

      string_read : ReadsChosen (choices e s l) (declared (codes "string_value") 3 kind.Text (shape.OneofMember 0))
      string_read (one (scalar (text t))) holds covered none at j means =
          choice_read (choices e s l) (codes "string_value") 3 kind.Text at j (scalar (text t)) (found_by j 3 (ap field_for means))
          (scalar_read pool kind.Text (text t) j tt holds.1 means)
      string_read (one (scalar x)) holds covered none at j means = absurd holds.1
      string_read (one (message b)) holds covered none at j means = absurd holds.1
      string_read (list ds) holds covered none at j means = absurd holds.0
      string_read (map es) holds covered none at j means = absurd holds.0

      bool_read : ReadsChosen (choices e s l) (declared (codes "bool_value") 4 kind.Bool (shape.OneofMember 0))
      bool_read (one (scalar (boolean b))) holds covered none at j means =
          choice_read (choices e s l) (codes "bool_value") 4 kind.Bool at j (scalar (boolean b)) (found_by j 4 (ap field_for means))
          (scalar_read pool kind.Bool (boolean b) j tt holds.1 means)
      bool_read (one (scalar x)) holds covered none at j means = absurd holds.1
      bool_read (one (message b)) holds covered none at j means = absurd holds.1
      bool_read (list ds) holds covered none at j means = absurd holds.0
      bool_read (map es) holds covered none at j means = absurd holds.0

      struct_choice : well_known pool s.0 ≡ form.Struct → ReadsChosen (choices e s l) (declared (codes "struct_value") 5 (kind.Message s) (shape.OneofMember 0))
      struct_choice is (one (message b)) holds covered none at j means =
          let r = back s.0 b holds.1 covered at j means in
          choice_read (choices e s l) (codes "struct_value") 5 (kind.Message s) at j (message (message_with_one_nan b))
          (found_by j 5 (subst (λ (w : WellKnown). IsOfForm w j) is r.2))
          (Ok (message_with_one_nan b), nested_read s.0 at j (Ok (message_with_one_nan b)) (ap is_sole is) r.0, refl)
      struct_choice is (one (scalar x)) holds covered none at j means = absurd holds.1
      struct_choice is (list ds) holds covered none at j means = absurd holds.0
      struct_choice is (map es) holds covered none at j means = absurd holds.0

      list_choice : well_known pool l.0 ≡ form.ListValue → ReadsChosen (choices e s l) (declared (codes "list_value") 6 (kind.Message l) (shape.OneofMember 0))
      list_choice is (one (message b)) holds covered none at j means =
          let r = back l.0 b holds.1 covered at j means in
          choice_read (choices e s l) (codes "list_value") 6 (kind.Message l) at j (message (message_with_one_nan b))
          (found_by j 6 (subst (λ (w : WellKnown). IsOfForm w j) is r.2))
          (Ok (message_with_one_nan b), nested_read l.0 at j (Ok (message_with_one_nan b)) (ap is_sole is) r.0, refl)
      list_choice is (one (scalar x)) holds covered none at j means = absurd holds.1
      list_choice is (list ds) holds covered none at j means = absurd holds.0
      list_choice is (map es) holds covered none at j means = absurd holds.0

      module _ (null : is_null_enum pool (kind.Enum e) ≡ true) (struct_is : well_known pool s.0 ≡ form.Struct) (list_is : well_known pool l.0 ≡ form.ListValue) where
        each_read : AllByRecursion (ReadsChosen (choices e s l)) (choices e s l)
        each_read = (null_read null, (number_read, (string_read, (bool_read, (struct_choice struct_is, (list_choice list_is, tt))))))

        pub dynamic_read : (fs : Fields) → AreFields pool (choices e s l) fs → HasOneMemberEach (choices e s l) fs → AreCoveredFields pool Inner (choices e s l) fs
            → value_cause fs ≡ None → (at : ℕ) (j : read.Json) → Means (only_json pool names Inside form.Value (choices e s l) fs) j
            → ReadsAlone (field_numbered (field_for j) (choices e s l)) at (DeepOf pool rules table at j) (Ok (body (fields_with_one_nan fs) []))
        dynamic_read no_fields are alone covered none at j means = absurd (cc)
        dynamic_read (field n h fs) are alone covered none at j means =
            let all = choices e s l in
            let c = chosen pool e s l n h fs are alone in
            let f : FieldView = c.choice in
            let reads : ReadsChosen all f = found_in (ReadsChosen all) n all f each_read c.found in
            let cover : IsCoveredHolding pool Inner f.kind h = subst (λ (o : Option FieldView). IsSomeAnd o (λ g. IsCoveredHolding pool Inner g.kind h)) c.found covered.0 in
            let here : Means (holding_json pool names Inside f.kind h) j =
            subst (λ (o : Option FieldView). Means (option_map_or (λ g. holding_json pool names Inside g.kind h) o written.null) j) c.found means in
            subst (λ (gs : Fields). ReadsAlone (field_numbered (field_for j) all) at (DeepOf pool rules table at j) (Ok (body gs [])))
            (same_field f.number n (holding_with_one_nan h) (holding_with_one_nan h) no_fields (fields_with_one_nan fs) (number_found n all f c.found) refl
            (sym (ap fields_with_one_nan c.no_other)))
            (reads h c.holds cover none at j here)
