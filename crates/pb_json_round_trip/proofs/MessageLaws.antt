-- What a message is as JSON is read as the message.
use Rattle.std.proofs.Common.{◌≡◌, ℕ, ◌+◌, ◌≤◌, Bool, true, false, cond, ◌&&◌, not, eqb, List, [], ◌∷◌, Option, Some, None, IfSome, IsSomeAnd, Ok, inl, inr, refl, sym, ap, ◌∙◌, subst, arith, eqb-true}
use Rattle.std.specs.Prelude.{option_map}
use Rattle.std.specs.Option.{option_map_or}
use Rattle.std.specs.BTreeSet.{insert_key}
use Rattle.std.specs.Ordering.{nat_cmp}
use Rattle.std.specs.Float.{Float, Format, binary32, binary64, nan, inf, fin}
use Rattle.std.specs.Prelude.{from_bits, ℤ}
use Rattle.std.proofs.lemmas.Bool.{cases_Bool, and_parts}
use Rattle.pb_schema.specs.declared.types.Kind.{Kind}
use Rattle.pb_schema.specs.declared.types.Kind.TheVariants as kind
use Rattle.pb_schema.specs.declared.types.Shape.{Shape}
use Rattle.pb_schema.specs.declared.types.Shape.TheVariants as shape
use Rattle.pb_schema.specs.Kinds.{IsOfKind, closed_enum, enum_of_kind, is_key_kind, is_of_proto2, message_of_kind}
use Rattle.pb_schema.specs.Rules.{HasKeyKind, IsPool, MayBeValue}
use Rattle.pb_schema.specs.Scalar.{Scalar, int32, int64, uint32, uint64, boolean, float, double, enum, text, bytes}
use Rattle.pb_schema.specs.Types.{FieldView, Types, field_numbered, message_fields}
use Rattle.pb_schema.proofs.LookupLemmas.{found_field}
use Rattle.pb_value.specs.Data.{Datum, scalar, message, Datums, no_datums, datum, joined_datums, Entries, no_entries, entry}
use Rattle.pb_value.specs.Data.{Holding, one, list, map, Fields, no_fields, field, Message, body}
use Rattle.pb_value.specs.Judge.{is_absence}
use Rattle.pb_value.specs.WellFormed.{AreDatums, AreEntries, AreFields, HasNoMember, HasOneMemberEach, IsBody, IsDatum, IsHeld, IsOfShape, KeysRise, RisesFrom, datum_declared, datums_declared, holds_declared, oneof_of}
use Rattle.pb_value.proofs.JudgeLemmas.{found_in}
use Rattle.pb_value.proofs.Options.{some_of}
use Rattle.pb_json.specs.declared.form.Names.{Names}
use Rattle.pb_json.specs.declared.well_known.WellKnown.{WellKnown}
use Rattle.pb_json.specs.declared.well_known.WellKnown.TheVariants.{ListValue, Struct}
use Rattle.pb_json.specs.Json as written
use Rattle.pb_json.specs.JsonNames.{member_name}
use Rattle.pb_json.specs.Mapping.{datum_json, elements_json, entries_json, fields_json, float_json, holding_json, key_name, maybe_member, named_json, scalar_json}
use Rattle.pb_json.specs.WellKnown.{is_null_enum, well_known}
use Rattle.pb_json.specs.Given.{NamesGiven}
use Rattle.pb_json_text.specs.Json as read
use Rattle.pb_json_read.specs.declared.rules.JsonRules.{JsonRules}
use Rattle.pb_json_read.specs.Names.{field_meant}
use Rattle.pb_json_read.specs.Reads.{ReadsContent, ReadsElements, ReadsEntries, ReadsList, ReadsMap, ReadsMapped, ReadsMembers, ReadsMessage, ReadsObject, ReadsValue}
use Rattle.pb_json_read.specs.Scalars as scalars
use Rattle.pb_json_read.specs.Steps.{Made, Parts, ReadsEntry, ReadsField, ReadsHeld, ReadsShape, has, has_null, is_absent, is_null, takes_null, with_held, with_number, with_oneof, Entered, is_taken}
use Rattle.pb_json_read.specs.WellKnown.{field_for, is_dynamic}
use Rattle.pb_json_read.proofs.EntryLemmas.{under_free}
use Rattle.pb_json_read.proofs.ReadLemmas.{after_ok, content_as, value_inside, value_plain}
use Rattle.pb_json_read.proofs.TextsLemmas as datums
use Rattle.pb_json_round_trip.specs.Messages.{AreCoveredDatums, AreCoveredEntries, AreCoveredFields, IsCoveredDatum, IsCoveredHolding, NamesAreRead}
use Rattle.pb_json_round_trip.specs.Messages.{datum_with_one_nan, datums_with_one_nan, entries_with_one_nan, fields_with_one_nan, holding_with_one_nan, message_with_one_nan}
use Rattle.pb_json_round_trip.specs.Scalars.{IsKeyKind, with_one_nan}
use Rattle.pb_json_round_trip.specs.Texts.{Means, MeanElements, MeanMembers}
use Rattle.pb_json_round_trip.proofs.EntryLaws.{AllBelow, AreBefore, NumbersBelow, has_other, joined_entries, joined_fields, joined_more, joined_more_fields, joined_no_fields, joined_none, next_before, none_there, numbers_next, put_field_last, put_last}
use Rattle.pb_json_round_trip.proofs.EnumLaws.{value_read}
use Rattle.pb_json_round_trip.proofs.NanLaws.{still_default}
use Rattle.pb_json_round_trip.proofs.ScalarLaws.{key_read}

-- ---- kinds

no_message : (k : Kind) (x : Scalar) → IsOfKind k x → message_of_kind k ≡ None
no_message (kind.Message m) x h = absurd h
no_message (kind.Group m) x h = absurd h
no_message k x h = refl

no_enum : (k : Kind) (m : ℕ) → message_of_kind k ≡ Some m → enum_of_kind k ≡ None
no_enum (kind.Enum e) m h = absurd (cc)
no_enum (kind.ClosedEnum e) m h = absurd (cc)
no_enum k m h = refl

key_kind : (k : Kind) → is_key_kind k ≡ true → IsKeyKind k
key_kind kind.Double h = absurd (cc)
key_kind kind.Float h = absurd (cc)
key_kind kind.Bytes h = absurd (cc)
key_kind (kind.Enum e) h = absurd (cc)
key_kind (kind.ClosedEnum e) h = absurd (cc)
key_kind (kind.Message m) h = absurd (cc)
key_kind (kind.Group m) h = absurd (cc)
key_kind k h = tt

not_closed : (k : Kind) → is_of_proto2 k ≡ false → closed_enum k ≡ None
not_closed (kind.ClosedEnum e) h = absurd (cc)
not_closed k h = refl

-- ---- JSON values that are null

float_null : (f : Format) (x : Float) (j : read.Json) → Means (float_json f x) j → is_null j ≡ true → ⊥
float_null f nan j means null = absurd (cc (rw means at null))
float_null f (inf false) j means null = absurd (cc (rw means at null))
float_null f (inf true) j means null = absurd (cc (rw means at null))
float_null f (fin negative m e) j (s, is, plain, parses) null = absurd (cc (rw is at null))

named_null : (o : Option (List ℕ)) (z : ℤ) (j : read.Json) → Means (named_json o z) j → is_null j ≡ true → ⊥
named_null None z j means null = absurd (cc (rw means at null))
named_null (Some name) z j means null = absurd (cc (rw means at null))

abbrev HasNull : Types → Kind → Type 0
HasNull pool k = is_null_enum pool k ≡ true

pub scalar_null : (pool : Types) (k : Kind) (x : Scalar) (j : read.Json) → Means (scalar_json pool k x) j → is_null j ≡ true → HasNull pool k
scalar_null pool k (int32 z) j means null = absurd (cc (rw means at null))
scalar_null pool k (int64 z) j means null = absurd (cc (rw means at null))
scalar_null pool k (uint32 n) j means null = absurd (cc (rw means at null))
scalar_null pool k (uint64 n) j means null = absurd (cc (rw means at null))
scalar_null pool k (boolean b) j means null = absurd (cc (rw means at null))
scalar_null pool k (float n) j means null = absurd (float_null binary32 (from_bits binary32 n) j means null)
scalar_null pool k (double n) j means null = absurd (float_null binary64 (from_bits binary64 n) j means null)
scalar_null pool k (text s) j means null = absurd (cc (rw means at null))
scalar_null pool k (bytes s) j means null = absurd (cc (rw means at null))
scalar_null pool k (enum z) j means null = by_test (is_null_enum pool k) refl means
  where
    by_test : (b : Bool) → is_null_enum pool k ≡ b
        → Means (cond b written.null (named_json (Rattle.pb_schema.specs.EnumValues.value_name z (Rattle.pb_json.specs.Mapping.names_of_kind pool k)) z)) j
        → is_null_enum pool k ≡ true
    by_test true is means = is
    by_test false is means = absurd (named_null _ z j means null)

enum_has_null : (pool : Types) (k : Kind) → is_null_enum pool k ≡ true → has_null pool k ≡ true
enum_has_null pool k = of_enum (enum_of_kind k)
  where
    of_enum : (o : Option ℕ)
        → option_map_or (λ e. scalars.is_null_enum pool e) o false ≡ true
        → option_map_or (scalars.is_null_enum pool) o (option_map_or (λ m. is_dynamic (well_known pool m)) (message_of_kind k) false) ≡ true
    of_enum None h = absurd (cc)
    of_enum (Some e) h = h

-- the value is not one that says that a field is absent
pub taken : (a b : Bool) → (a ≡ true → b ≡ true) → (a && not b) ≡ false
taken true b h = rw (h refl) refl
taken false b h = refl

-- ---- fields

pub number_found : (n : ℕ) (all : List FieldView) (f : FieldView) → field_numbered n all ≡ Some f → f.number ≡ n
number_found n [] f e = absurd (cc)
number_found n (g ∷ gs) f e = by_test (eqb g.number n) refl (number_found n gs f) e
  where
    by_test : (b : Bool) → eqb g.number n ≡ b → (field_numbered n gs ≡ Some f → f.number ≡ n) → cond b (Some g) (field_numbered n gs) ≡ Some f → f.number ≡ n
    by_test true is later e = let same : g ≡ f = cc in subst (λ (h : FieldView). h.number ≡ n) same (eqb-true g.number n is)
    by_test false is later e = later e

-- what is read so far
abbrev parts : Fields → List ℕ → List ℕ → Parts
parts before numbers oneofs = record { message = body before []; numbers = numbers; oneofs = oneofs }

abbrev oneofs_with : Shape → List ℕ → List ℕ
oneofs_with (shape.OneofMember o) os = insert_key nat_cmp os o
oneofs_with shape.Implicit os = os
oneofs_with shape.Explicit os = os
oneofs_with (shape.List p) os = os
oneofs_with (shape.Map k) os = os

number_put : (f : FieldView) (at : ℕ) (before : Fields) (ns os : List ℕ) → has f.number ns ≡ false
    → Ok (parts before (insert_key nat_cmp ns f.number) os) ≡ with_number f.number at (parts before ns os)
number_put f at before ns os free = rw free refl

oneof_put : (s : Shape) (at : ℕ) (before : Fields) (ns os : List ℕ) → ((o : ℕ) → oneof_of s ≡ Some o → has o os ≡ false)
    → Ok (parts before ns (oneofs_with s os)) ≡ with_oneof s at (parts before ns os)
oneof_put (shape.OneofMember o) at before ns os free = rw (free o refl) refl
oneof_put shape.Implicit at before ns os free = refl
oneof_put shape.Explicit at before ns os free = refl
oneof_put (shape.List p) at before ns os free = refl
oneof_put (shape.Map k) at before ns os free = refl

held_put : (s : Shape) (low n : ℕ) (h : Holding) (before : Fields) (ns os : List ℕ) → is_absence s h ≡ false → low ≤ n → NumbersBelow low before
    → parts (joined_fields before (field n h no_fields)) ns os ≡ with_held s n (Some h) (parts before ns os)
held_put s low n h before ns os is l below =
    rw is (ap (λ (fs : Fields). parts fs ns os) (sym (put_field_last low n h before l below)))

held_is : (s : Shape) (k : Kind) (pool : Types) (h : Holding) → IsOfShape s h → IsHeld pool s k h → is_absence s (holding_with_one_nan h) ≡ false
held_is shape.Implicit k pool (one d) is held = still_default pool k d is held
held_is shape.Explicit k pool (one d) is held = refl
held_is (shape.OneofMember o) k pool (one d) is held = refl
held_is (shape.List p) k pool (list (datum d ds)) is held = refl
held_is (shape.Map key) k pool (map (entry x d es)) is held = refl
held_is s k pool h is held = absurd is

-- no oneof that is set has a member among the fields
abbrev AreFree : List FieldView → List ℕ → Fields → Type 0
AreFree all os fs = (o : ℕ) → has o os ≡ true → HasNoMember all o fs

oneof_free : (all : List FieldView) (n : ℕ) (h : Holding) (fs : Fields) (os : List ℕ) → AreFree all os (field n h fs) → (f : FieldView)
    → field_numbered n all ≡ Some f → (o : ℕ) → oneof_of f.shape ≡ Some o → has o os ≡ false
oneof_free all n h fs os free f found o is =
    elim (cases_Bool (has o os)) [
      | inl e ↦ absurd ((free o e).0 (ap (λ (t : Option FieldView). Rattle.std.specs.Prelude.option_and_then (λ g. oneof_of g.shape) t) found ∙ is))
      | inr e ↦ e
    ]

oneofs_next : (all : List FieldView) (n : ℕ) (h : Holding) (fs : Fields) (os : List ℕ) → AreFree all os (field n h fs) → (s : Shape)
    → IfSome (oneof_of s) (λ o. HasNoMember all o fs) → AreFree all (oneofs_with s os) fs
oneofs_next all n h fs os free (shape.OneofMember p) alone o e =
    elim (Rattle.std.proofs.lemmas.Bool.cases_eq o p) [
      | inl same ↦ subst (λ (q : ℕ). HasNoMember all q fs) (sym same) alone
      | inr other ↦ elim (cases_Bool (has o os)) [
        | inl was ↦ (free o was).1
        | inr free_of ↦ absurd (let is = has_other o p os free_of other in cc)
      ]
    ]
oneofs_next all n h fs os free shape.Implicit alone o e = (free o e).1
oneofs_next all n h fs os free shape.Explicit alone o e = (free o e).1
oneofs_next all n h fs os free (shape.List p) alone o e = (free o e).1
oneofs_next all n h fs os free (shape.Map k) alone o e = (free o e).1

-- ---- messages

-- a Struct is an object, and a ListValue an array
abbrev pub IsOfForm : WellKnown → read.Json → Type 0
IsOfForm Struct j = field_for j ≡ 5
IsOfForm ListValue j = field_for j ≡ 6
IsOfForm w j = Unit {0}

module _ (pool : Types) (names : Names) (table : NamesGiven) (rules : JsonRules) (is_pool : IsPool pool) (named : NamesAreRead names table pool) where
  -- what messages of fewer levels are as JSON is read so
  abbrev pub AreReadBack : (ℕ → Message → written.Json) → (ℕ → Message → Type 0) → Type 0
  AreReadBack Inside Inner = (m : ℕ) (b : Message) → IsBody pool m b → Inner m b → (at : ℕ) (j : read.Json) → Means (Inside m b) j
      → ReadsMessage pool rules table m at j (Ok (message_with_one_nan b)) × (is_null j ≡ true → is_dynamic (well_known pool m) ≡ true) × IsOfForm (well_known pool m) j

  module _ (Inside : ℕ → Message → written.Json) (Inner : ℕ → Message → Type 0) (back : AreReadBack Inside Inner) where
    datum_read : (k : Kind) (d : Datum) → IsDatum pool k d → datum_declared pool k d ≡ true → IsCoveredDatum pool Inner k d → (at : ℕ) (j : read.Json)
        → Means (datum_json pool names Inside k d) j → ReadsValue pool rules table k at j (Ok (Some (datum_with_one_nan d)))
    datum_read k (scalar x) is declared covered at j means =
        value_plain pool rules table k at j (Ok (Some (scalar (with_one_nan x)))) (no_message k x is) (value_read pool is_pool k x j is declared covered means)
    datum_read k (message b) is declared covered at j means = of_type (message_of_kind k) refl is covered means
      where
        of_type : (o : Option ℕ) → message_of_kind k ≡ o → IsSomeAnd o (λ m. IsBody pool m b) → IsSomeAnd o (λ m. Inner m b)
            → Means (option_map_or (λ m. Inside m b) o written.null) j → ReadsValue pool rules table k at j (Ok (Some (message (message_with_one_nan b))))
        of_type None e is covered means = absurd is
        of_type (Some m) e is covered means =
            value_inside pool rules table k at m j (Ok (Some (message (message_with_one_nan b)))) e
            (Ok (message_with_one_nan b), (back m b is covered at j means).0, refl)

    datum_taken : (k : Kind) (d : Datum) → IsDatum pool k d → IsCoveredDatum pool Inner k d → (at : ℕ) (j : read.Json) → Means (datum_json pool names Inside k d) j
        → is_null j ≡ true → has_null pool k ≡ true
    datum_taken k (scalar x) is covered at j means null = enum_has_null pool k (scalar_null pool k x j means null)
    datum_taken k (message b) is covered at j means null = of_type (message_of_kind k) refl is covered means
      where
        of_type : (o : Option ℕ) → message_of_kind k ≡ o → IsSomeAnd o (λ m. IsBody pool m b) → IsSomeAnd o (λ m. Inner m b)
            → Means (option_map_or (λ m. Inside m b) o written.null) j → has_null pool k ≡ true
        of_type None e is covered means = absurd is
        of_type (Some m) e is covered means = rw (no_enum k m e, e) ((back m b is covered at j means).1 null)

    pub elements_read : (k : Kind) (ds : Datums) → AreDatums pool k ds → datums_declared pool k ds ≡ true → AreCoveredDatums pool Inner k ds
        → (before : Datums) (rs : read.Elements) → MeanElements (elements_json pool names Inside k ds) rs
        → ReadsElements pool rules table k before rs (Ok (joined_datums before (datums_with_one_nan ds)))
    elements_read k no_datums are declared covered before rs means =
        subst (λ (r : read.Elements). ReadsElements pool rules table k before r (Ok (joined_datums before no_datums))) (sym means)
        (ap (λ (ds : Datums). Ok ds) (datums.joined_none before))
    elements_read k (datum d ds) are declared covered before rs (at, j, more, is, means, later) =
        let both = and_parts (datum_declared pool k d) (datums_declared pool k ds) declared in
        let first = datum_read k d are.0 both.0 covered.0 at j means in
        let rest = elements_read k ds are.1 both.1 covered.1 (joined_datums before (datum (datum_with_one_nan d) no_datums)) more later in
        subst (λ (r : read.Elements). ReadsElements pool rules table k before r (Ok (joined_datums before (datums_with_one_nan (datum d ds))))) (sym is) (
          Ok (Some (datum_with_one_nan d)),
          first,
          subst (λ (x : Datums). ReadsElements pool rules table k (joined_datums before (datum (datum_with_one_nan d) no_datums)) more (Ok x))
              (datums.joined_more before (datum_with_one_nan d) (datums_with_one_nan ds)) rest,
        )

    -- no value is passed over
    abbrev entered : Entries → Entered
    entered es = record { entries = es; passed = no_entries }

    not_taken : (x : Scalar) (es : Entries) → AllBelow x es → is_taken x (entered es) ≡ false
    not_taken x es below = rw (none_there x es below) refl

    entries_read : (key k : Kind) (es : Entries) → AreEntries pool key k es → KeysRise es → IsKeyKind key → closed_enum k ≡ None → AreCoveredEntries pool Inner k es
        → (before : Entries) → AreBefore before es → (ms : read.Members) → MeanMembers (entries_json pool names Inside k es) ms
        → ReadsEntries pool rules table key k (entered before) ms (Ok (entered (joined_entries before (entries_with_one_nan es))))
    entries_read key k no_entries are rise may unclosed covered before ahead ms means =
        subst (λ (r : read.Members). ReadsEntries pool rules table key k (entered before) r (Ok (entered (joined_entries before no_entries)))) (sym means)
        (ap (λ (es : Entries). Ok (entered es)) (joined_none before))
    entries_read key k (entry x d es) are rise may unclosed covered before ahead ms (name_at, at, j, more, is, means, later) =
        let d' = datum_with_one_nan d in
        let value = datum_read k d are.1 (declared d) covered.0 at j means in
        let next = joined_entries before (entry x d' no_entries) in
        let put : ReadsEntry key (key_name x) name_at (λ r. ReadsValue pool rules table k at j r) (entered before) (Ok (entered next)) = (
          x,
          key_read key x may are.0,
          under_free x name_at (λ r. ReadsValue pool rules table k at j r) (entered before) (Ok (entered next)) (not_taken x before ahead)
              (Ok (Some d'), value, ap (λ (es : Entries). Ok (entered es)) (sym (put_last x d' before ahead))),
        ) in
        let rest = entries_read key k es are.2 rise.1 may unclosed covered.1 next (next_before x d' es before rise.0 ahead) more later in
        subst (λ (r : read.Members). ReadsEntries pool rules table key k (entered before) r (Ok (entered (joined_entries before (entries_with_one_nan (entry x d es)))))) (sym is)
        (Ok (entered next), put, subst (λ (y : Entries). ReadsEntries pool rules table key k (entered next) more (Ok (entered y))) (joined_more before x d' (entries_with_one_nan es)) rest)
      where
        declared : (d : Datum) → datum_declared pool k d ≡ true
        declared (scalar x) = rw unclosed refl
        declared (message b) = refl

    pub mapped_read : (key k : Kind) (es : Entries) → AreEntries pool key k es → KeysRise es → IsKeyKind key → closed_enum k ≡ None → AreCoveredEntries pool Inner k es
        → (ms : read.Members) → MeanMembers (entries_json pool names Inside k es) ms → ReadsMapped pool rules table key k ms (Ok (entries_with_one_nan es))
    mapped_read key k es are rise may unclosed covered ms means =
        (Ok (entered (entries_with_one_nan es)), entries_read key k es are rise may unclosed covered no_entries (first_before es) ms means, refl)
      where
        first_before : (es : Entries) → AreBefore no_entries es
        first_before no_entries = tt
        first_before (entry x d es) = tt

    -- what a field holds
    content_read : (s : Shape) (k : Kind) (h : Holding) → HasKeyKind s → MayBeValue s k → IsOfShape s h → IsHeld pool s k h → holds_declared pool k h ≡ true
        → IsCoveredHolding pool Inner k h → (at : ℕ) (j : read.Json) → Means (holding_json pool names Inside k h) j
        → ReadsContent pool rules table s k at j (Ok (Some (holding_with_one_nan h)))
    content_read s k h key may is held declared covered at j means =
        content_as pool rules table s k at j (Ok (Some (holding_with_one_nan h))) (by_shape s h key may is held declared covered means)
      where
        single : (d : Datum) → IsDatum pool k d → datum_declared pool k d ≡ true → IsCoveredDatum pool Inner k d
            → Means (datum_json pool names Inside k d) j
            → Made (λ r. ReadsValue pool rules table k at j r) (option_map one) (Ok (Some (one (datum_with_one_nan d))))
        single d is declared covered means =
            (Ok (Some (datum_with_one_nan d)), datum_read k d is declared covered at j means, refl)

        by_shape : (s : Shape) (h : Holding) → HasKeyKind s → MayBeValue s k → IsOfShape s h → IsHeld pool s k h → holds_declared pool k h ≡ true
            → IsCoveredHolding pool Inner k h → Means (holding_json pool names Inside k h) j
            → ReadsShape s (λ r. ReadsValue pool rules table k at j r) (λ r. ReadsList pool rules table k at j r) (λ key r. ReadsMap pool rules table key k at j r)
            (Ok (Some (holding_with_one_nan h)))
        by_shape shape.Implicit (one d) key may is held declared covered means = single d held declared covered means
        by_shape shape.Explicit (one d) key may is held declared covered means = single d held declared covered means
        by_shape (shape.OneofMember o) (one d) key may is held declared covered means = single d held declared covered means
        by_shape (shape.List p) (list ds) key may is held declared covered (rs, e, means) = (
          Ok (datums_with_one_nan ds),
          subst (λ (i : read.Json). ReadsList pool rules table k at i (Ok (datums_with_one_nan ds))) (sym e)
              (elements_read k ds held declared covered no_datums rs means),
          refl,
        )
        by_shape (shape.Map key_kind_of) (map es) key may is held declared covered (ms, e, means) = (
          Ok (entries_with_one_nan es),
          subst (λ (i : read.Json). ReadsMap pool rules table key_kind_of k at i (Ok (entries_with_one_nan es))) (sym e)
              (mapped_read key_kind_of k es held.0 held.1 (key_kind key_kind_of key) (not_closed k may) covered ms means),
          refl,
        )
        by_shape s h key may is held declared covered means = absurd is

    content_taken : (s : Shape) (k : Kind) (h : Holding) → IsOfShape s h → IsHeld pool s k h → IsCoveredHolding pool Inner k h
        → (at : ℕ) (j : read.Json) → Means (holding_json pool names Inside k h) j → is_absent pool s k j ≡ false
    content_taken s k h is held covered at j means = taken (is_null j) (takes_null pool s k) (by_shape s h is held covered means)
      where
        by_shape : (s : Shape) (h : Holding) → IsOfShape s h → IsHeld pool s k h → IsCoveredHolding pool Inner k h
            → Means (holding_json pool names Inside k h) j → is_null j ≡ true → takes_null pool s k ≡ true
        by_shape shape.Implicit (one d) is held covered means null = datum_taken k d held covered at j means null
        by_shape shape.Explicit (one d) is held covered means null = datum_taken k d held covered at j means null
        by_shape (shape.OneofMember o) (one d) is held covered means null = datum_taken k d held covered at j means null
        by_shape (shape.List p) (list ds) is held covered (rs, e, means) null = absurd (cc (rw e at null))
        by_shape (shape.Map key) (map es) is held covered (ms, e, means) null = absurd (cc (rw e at null))
        by_shape s h is held covered means null = absurd is

    -- the members of a message
    module _ (m : ℕ) where
      record Ended (before : Fields) (ns os : List ℕ) (fs : Fields) (rs : read.Members) : Type 0 where
        parts_are : Parts
        reads : ReadsMembers pool rules table (field_meant table pool m) (parts before ns os) rs (Ok parts_are)
        message_is : parts_are.message ≡ body (joined_fields before (fields_with_one_nan fs)) []

      member_read : (f : FieldView) (n low : ℕ) (h : Holding) → field_numbered n (message_fields pool m) ≡ Some f → IsOfShape f.shape h → IsHeld pool f.shape f.kind h
          → holds_declared pool f.kind h ≡ true → IsCoveredHolding pool Inner f.kind h → low ≤ n
          → (before : Fields) (ns os : List ℕ) → NumbersBelow low before → has n ns ≡ false → ((o : ℕ) → oneof_of f.shape ≡ Some o → has o os ≡ false)
          → (name_at at : ℕ) (j : read.Json) → Means (holding_json pool names Inside f.kind h) j
          → ReadsField pool rules (Some f) name_at j (λ s k r. ReadsContent pool rules table s k at j r) (parts before ns os)
          (Ok (parts (joined_fields before (field n (holding_with_one_nan h) no_fields)) (insert_key nat_cmp ns n) (oneofs_with f.shape os)))
      member_read f n low h found is held declared covered l before ns os below free alone name_at at j means =
          let rule = found_field pool m (λ g. eqb g.number n) f is_pool found in
          let number = number_found n (message_fields pool m) f found in
          let h' = holding_with_one_nan h in
          let content = content_read f.shape f.kind h rule.key rule.value is held declared covered at j means in
          let present = content_taken f.shape f.kind h is held covered at j means in
          subst (λ (i : ℕ). ReadsField pool rules (Some f) name_at j (λ s k r. ReadsContent pool rules table s k at j r) (parts before ns os)
          (Ok (parts (joined_fields before (field i h' no_fields)) (insert_key nat_cmp ns i) (oneofs_with f.shape os)))) number
          (after_ok (with_number f.number name_at (parts before ns os)) (parts before (insert_key nat_cmp ns f.number) os) _ _
          (number_put f name_at before ns os (subst (λ (i : ℕ). has i ns ≡ false) (sym number) free))
          (subst (λ (b : Bool). ReadsHeld f name_at (λ s k r. ReadsContent pool rules table s k at j r) b (parts before (insert_key nat_cmp ns f.number) os)
          (Ok (parts (joined_fields before (field f.number h' no_fields)) (insert_key nat_cmp ns f.number) (oneofs_with f.shape os)))) (sym present)
          (after_ok (with_oneof f.shape name_at (parts before (insert_key nat_cmp ns f.number) os))
          (parts before (insert_key nat_cmp ns f.number) (oneofs_with f.shape os)) _ _
          (oneof_put f.shape name_at before (insert_key nat_cmp ns f.number) os alone) (
            Ok (Some h'),
            content,
            ap (λ (p : Parts). Ok p) (held_put f.shape low f.number h' before (insert_key nat_cmp ns f.number) (oneofs_with f.shape os)
                (held_is f.shape f.kind pool h is held) (omega arith) below),
          ))))

      -- the fields that are read after some
      abbrev ReadLater : ℕ → Fields → Type 0
      ReadLater low fs = (before : Fields) (ns os : List ℕ) → NumbersBelow low before → ((k : ℕ) → low ≤ k → has k ns ≡ false) → AreFree (message_fields pool m) os fs
          → (rs : read.Members) → MeanMembers (fields_json pool names Inside m fs) rs → Ended before ns os fs rs

      field_read : (f : FieldView) (n low : ℕ) (h : Holding) (fs : Fields) → field_numbered n (message_fields pool m) ≡ Some f
          → IsOfShape f.shape h × IsHeld pool f.shape f.kind h × (holds_declared pool f.kind h ≡ true) → IsCoveredHolding pool Inner f.kind h → low ≤ n
          → IfSome (oneof_of f.shape) (λ o. HasNoMember (message_fields pool m) o fs) → ReadLater (n + 1) fs
          → (before : Fields) (ns os : List ℕ) → NumbersBelow low before → ((k : ℕ) → low ≤ k → has k ns ≡ false) → AreFree (message_fields pool m) os (field n h fs)
          → (rs : read.Members) → MeanMembers (written.member (member_name names m f) (holding_json pool names Inside f.kind h) (fields_json pool names Inside m fs)) rs
          → Ended before ns os (field n h fs) rs
      field_read f n low h fs found (is, held, declared) covered l alone next before ns os below free others rs (name_at, at, j, more, e, means, means_more) =
          let all = message_fields pool m in
          let h' = holding_with_one_nan h in
          let meant : field_meant table pool m (member_name names m f) ≡ Some f =
          found_in (λ g. field_meant table pool m (member_name names m g) ≡ Some g) n all f (named m) found in
          let now : Fields = joined_fields before (field n h' no_fields) in
          let numbers : List ℕ = insert_key nat_cmp ns n in
          let oneofs : List ℕ = oneofs_with f.shape os in
          let first = member_read f n low h found is held declared covered l before ns os below (free n l)
          (oneof_free all n h fs os others f found) name_at at j means in
          let later = next now numbers oneofs
          (numbers_next low n h' before l below) (λ k above. has_other k n ns (free k (omega (arith, l, above))) (λ e. omega (arith, above, e)))
          (oneofs_next all n h fs os others f.shape alone) more means_more in
          record {
            parts_are = later.parts_are;
            reads =
                subst (λ (r : read.Members). ReadsMembers pool rules table (field_meant table pool m) (parts before ns os) r (Ok later.parts_are)) (sym e) (
                  Ok (parts now numbers oneofs),
                  subst (λ (o : Option FieldView). ReadsField pool rules o name_at j (λ s k r. ReadsContent pool rules table s k at j r) (parts before ns os) (Ok (parts now numbers oneofs)))
                      (sym meant) first,
                  later.reads,
                );
            message_is = later.message_is ∙ ap (λ (gs : Fields). body gs []) (joined_more_fields before n h' (fields_with_one_nan fs));
          }

      fields_read : (fs : Fields) (low : ℕ) → AreFields pool (message_fields pool m) fs → RisesFrom low fs → HasOneMemberEach (message_fields pool m) fs
          → AreCoveredFields pool Inner (message_fields pool m) fs → ReadLater low fs
      fields_read no_fields low are rise alone covered before ns os below free others rs means = record {
        parts_are = parts before ns os;
        reads = subst (λ (r : read.Members). ReadsMembers pool rules table (field_meant table pool m) (parts before ns os) r (Ok (parts before ns os))) (sym means) refl;
        message_is = ap (λ (gs : Fields). body gs []) (sym (joined_no_fields before));
      }
      fields_read (field n h fs) low are rise alone covered before ns os below free others rs means =
          let all = message_fields pool m in
          let found = some_of (field_numbered n all) (λ f. IsOfShape f.shape h × IsHeld pool f.shape f.kind h × (holds_declared pool f.kind h ≡ true)) are.0 in
          field_read found.0 n low h fs found.1 found.2
          (subst (λ (o : Option FieldView). IsSomeAnd o (λ f. IsCoveredHolding pool Inner f.kind h)) found.1 covered.0) rise.0
          (subst (λ (o : Option FieldView). IfSome (Rattle.std.specs.Prelude.option_and_then (λ g. oneof_of g.shape) o) (λ o. HasNoMember all o fs)) found.1 alone.0)
          (fields_read fs (n + 1) are.1 rise.1 alone.1 covered.1) before ns os below free others rs
          (subst (λ (o : Option FieldView). MeanMembers (maybe_member (option_map (λ f. (member_name names m f, holding_json pool names Inside f.kind h)) o) (fields_json pool names Inside m fs)) rs)
          found.1 means)

    pub object_read : (m : ℕ) (fs : Fields) → IsBody pool m (body fs []) → AreCoveredFields pool Inner (message_fields pool m) fs
        → (at : ℕ) (j : read.Json) → Means (written.object (fields_json pool names Inside m fs)) j
        → ReadsObject pool rules table m at j (Ok (body (fields_with_one_nan fs) []))
    object_read m fs is covered at j (rs, e, means) =
        let end = fields_read m fs 0 is.0 is.1 is.2 covered no_fields [] [] tt (λ k l. refl) (λ o h. absurd (none_at o h)) rs means in
        subst (λ (i : read.Json). ReadsObject pool rules table m at i (Ok (body (fields_with_one_nan fs) []))) (sym e)
        (Ok end.parts_are, end.reads, ap (λ (b : Message). Ok b) (sym end.message_is))
      where
        none_at : (o : ℕ) → has o [] ≡ true → ⊥
        none_at o h = absurd (cc)
