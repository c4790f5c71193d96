-- A message of any type that is covered: its JSON is a JSON value, and is read as the message.
use Rattle.std.proofs.Common.{◌≡◌, ℕ, zero, suc, Bool, true, false, cond, List, [], Option, Some, None, IsSomeAnd, IsUtf8, Ok, refl, sym, ap, ◌∙◌, subst, arith, ℤ, FitsSigned, w64}
use Rattle.std.specs.Option.{option_map_or}
use Rattle.pb_wire.specs.Record.{Record}
use Rattle.pb_schema.specs.Rules.{IsPool}
use Rattle.pb_schema.specs.Types.{FieldView, Types, field_numbered, message_fields}
use Rattle.pb_value.specs.Data.{Fields, no_fields, field, Message, body}
use Rattle.pb_value.specs.WellFormed.{AreFields, HasOneMemberEach, IsBody}
use Rattle.pb_value.proofs.Options.{some_of}
use Rattle.pb_json.specs.declared.form.Names.{Names}
use Rattle.pb_json.specs.declared.well_known.WellKnown.{WellKnown}
use Rattle.pb_json.specs.declared.well_known.WellKnown.TheVariants as form
use Rattle.pb_json.specs.Anys.{any_json}
use Rattle.pb_json.specs.Held.{integer_at, strings_at}
use Rattle.pb_json.specs.Json as written
use Rattle.pb_json.specs.Mapping.{absent_json, fields_json, holding_json, in_form, instant_json, message_here, message_json, only_json, scalar_json, span_json}
use Rattle.pb_json.specs.Masks.{mask_text}
use Rattle.pb_json.specs.Refusals.{own_cause}
use Rattle.pb_json.specs.Times.{is_instant, is_span, span_text}
use Rattle.pb_json.specs.WellKnown.{well_known}
use Rattle.pb_json_scalars.specs.declared.times.Time.{Time}
use Rattle.pb_json_scalars.specs.Clock.{duration, timestamp}
use Rattle.pb_json_scalars.specs.Paths.{mask_paths}
use Rattle.pb_json.specs.Given.{NamesGiven}
use Rattle.pb_json_text.specs.Json as read
use Rattle.pb_json_read.specs.declared.rules.JsonRules.{JsonRules}
use Rattle.pb_json_read.specs.Forms.{ReadsAlone, ReadsForm, mask_message, time_message}
use Rattle.pb_json_read.specs.Reads.{DeepOf, FlatOf, ReadsAnyObject, ReadsList, ReadsMap, ReadsMessage, ReadsObject}
use Rattle.pb_json_read.specs.Steps.{Read, given, is_null}
use Rattle.pb_json_read.specs.WellKnown.{field_for, is_dynamic, paths_field, string_meant, time_fields}
use Rattle.pb_json_round_trip.specs.Messages.{AreCoveredFields, AreMemberNames, HoldsCovered, IsCoveredHere, IsCoveredHolding, IsCoveredWithin, NamesAreRead, fields_with_one_nan}
use Rattle.pb_json_round_trip.specs.Texts.{IsJsonValue, Means}
use Rattle.pb_json_round_trip.specs.WellKnown.{IsAsDeclared, choices, nanos, paths, seconds}
use Rattle.pb_json_round_trip.proofs.AnyLaws.{AreObjects, any_is_value, any_read}
use Rattle.pb_json_round_trip.proofs.FormLaws.{dynamic_read, duration_read, list_value_read, mask_message_read, plain_kind, struct_read, timestamp_read, wrapper_json, wrapper_read}
use Rattle.pb_json_round_trip.proofs.FormTexts.{mask_utf8, span_plain}
use Rattle.pb_json_round_trip.proofs.MessageLaws.{AreReadBack, IsOfForm, object_read, scalar_null}
use Rattle.pb_json_round_trip.proofs.TagLaws.{objects_at}
use Rattle.pb_json_round_trip.proofs.ValueLaws.{AreValues, fields_value, holding_value, scalar_value}
use Rattle.pb_json_round_trip.proofs.WellKnownFields.{Holds, mask_held, paths_back, seconds_back, times_held}

-- ---- JSON values that are null

null_field : (j : read.Json) → is_null j ≡ true → field_for j ≡ 1
null_field read.null null = refl
null_field j null = absurd (cc)

abbrev ok : Message → Read Message
ok b = Ok b

time_null : (of : List ℕ → Option Time) (p : FieldView × FieldView) (at : ℕ) (b : Message) (j : read.Json) → ok b ≡ given at (time_message (Some p) (string_meant of j))
    → is_null j ≡ true → ⊥
time_null of p at b read.null reads null = absurd (cc)
time_null of p at b j reads null = absurd (cc)

mask_null : (f : FieldView) (at : ℕ) (b : Message) (j : read.Json) → ok b ≡ given at (mask_message (Some f) (string_meant mask_paths j)) → is_null j ≡ true → ⊥
mask_null f at b read.null reads null = absurd (cc)
mask_null f at b j reads null = absurd (cc)

-- ---- messages are read back

module _ (pool : Types) (names : Names) (table : NamesGiven) (rules : JsonRules) (is_pool : IsPool pool) (apt : AreMemberNames names) (named : NamesAreRead names table pool) where
  module _ (Inside : ℕ → Message → written.Json) (Inner : ℕ → Message → Type 0) (back : AreReadBack pool names table rules is_pool named Inside Inner) (objects : AreObjects pool Inside Inner) where
    -- by the form of the type
    module _ (m : ℕ) (fs : Fields) (is : IsBody pool m (body fs [])) (covered : AreCoveredFields pool Inner (message_fields pool m) fs) (at : ℕ) (j : read.Json) where
      abbrev IsReadAs : WellKnown → Type 0
      IsReadAs w =
          ReadsForm pool rules at j (λ key e r. ReadsMap pool rules table key e at j r) (λ e r. ReadsList pool rules table e at j r) w (λ r. ReadsObject pool rules table m at j r)
          (λ r. ReadsAnyObject pool rules table m at j r) m (Ok (body (fields_with_one_nan fs) []))
          × (is_null j ≡ true → is_dynamic w ≡ true) × IsOfForm w j

      abbrev AreMeant : WellKnown → List FieldView → Type 0
      AreMeant w all = Means (only_json pool names Inside w all fs) j

      -- what one field holds, in a type that has these fields
      sole : (all : List FieldView) → message_fields pool m ≡ all → ReadsAlone (field_numbered 1 all) at (FlatOf pool rules table at j) (Ok (body (fields_with_one_nan fs) []))
          → ReadsAlone (field_numbered 1 (message_fields pool m)) at (FlatOf pool rules table at j) (Ok (body (fields_with_one_nan fs) []))
      sole all e h = subst (λ (l : List FieldView). ReadsAlone (field_numbered 1 l) at (FlatOf pool rules table at j) (Ok (body (fields_with_one_nan fs) []))) (sym e) h

      fields_in : (all : List FieldView) → message_fields pool m ≡ all → AreFields pool all fs
      fields_in all e = subst (λ (l : List FieldView). AreFields pool l fs) e is.0

      covered_in : (all : List FieldView) → message_fields pool m ≡ all → AreCoveredFields pool Inner all fs
      covered_in all e = subst (λ (l : List FieldView). AreCoveredFields pool Inner l fs) e covered

      meant_in : (w : WellKnown) (all : List FieldView) → message_fields pool m ≡ all → AreMeant w (message_fields pool m) → AreMeant w all
      meant_in w all e means = subst (AreMeant w) e means

      by_form : (w : WellKnown) → IsAsDeclared pool w (message_fields pool m) → own_cause w fs ≡ None → HoldsCovered pool Inner w fs
          → Means (in_form w fs (fields_json pool names Inside m fs) (only_json pool names Inside w (message_fields pool m) fs) (any_json pool Inside fs)) j
          → IsReadAs w
      by_form form.Other has none holds means =
          (object_read pool names table rules is_pool named Inside Inner back m fs is covered at j means, λ null. absurd (cc (rw means.1 at null)), tt)
      by_form form.Wrapper (k, wraps, e) none holds means =
          let here = meant_in form.Wrapper _ e means in
          let w = wrapper_json pool names Inside k wraps fs (fields_in _ e) is.1 in
          let value : Means (scalar_json pool k w.0) j = subst (λ (x : written.Json). Means x j) w.2 here in (
            sole _ e (wrapper_read pool names table rules Inside k wraps fs (fields_in _ e) is.1 at j here),
            λ null. absurd (let a = scalar_null pool k w.0 j value null in let b = (plain_kind k wraps).not_null pool in cc),
            tt,
          )
      by_form form.Struct (v, value_is, e) none holds means =
          let r = struct_read pool names table rules is_pool named Inside Inner back v fs (fields_in _ e) is.1 (covered_in _ e) at j (meant_in form.Struct _ e means) in
          (sole _ e r.0, λ null. absurd (let a = null_field j null in let b = r.1 in omega (arith, a, b)), r.1)
      by_form form.ListValue (v, value_is, e) none holds means =
          let r = list_value_read pool names table rules is_pool named Inside Inner back v fs (fields_in _ e) is.1 (covered_in _ e) at j (meant_in form.ListValue _ e means) in
          (sole _ e r.0, λ null. absurd (let a = null_field j null in let b = r.1 in omega (arith, a, b)), r.1)
      by_form form.Value (e, s, l, null, struct_is, list_is, all) none holds means =
          let alone : HasOneMemberEach (choices e s l) fs = subst (λ (l : List FieldView). HasOneMemberEach l fs) all is.2 in
          let r =
          dynamic_read pool names table rules is_pool named Inside Inner back e s l null struct_is list_is fs (fields_in _ all) alone (covered_in _ all) none at j
          (meant_in form.Value _ all means) in (
            subst (λ (l : List FieldView). ReadsAlone (field_numbered (field_for j) l) at (DeepOf pool rules table at j) (Ok (body (fields_with_one_nan fs) []))) (sym all) r,
            λ null. refl,
            tt,
          )
      by_form form.Timestamp e none holds means =
          let r = timestamp_read pool fs at j (fields_in _ e) is.1 none means in (
            subst (λ (l : List FieldView). ok (body (fields_with_one_nan fs) []) ≡ given at (time_message (time_fields l) (string_meant timestamp j))) (sym e) r,
            λ null. absurd (time_null timestamp (seconds, nanos) at (body (fields_with_one_nan fs) []) j r null),
            tt,
          )
      by_form form.Duration e none holds means =
          let r = duration_read pool fs at j (fields_in _ e) is.1 none means in (
            subst (λ (l : List FieldView). ok (body (fields_with_one_nan fs) []) ≡ given at (time_message (time_fields l) (string_meant duration j))) (sym e) r,
            λ null. absurd (time_null duration (seconds, nanos) at (body (fields_with_one_nan fs) []) j r null),
            tt,
          )
      by_form form.FieldMask e none holds means =
          let r = mask_message_read pool fs at j (fields_in _ e) is.1 none means in (
            subst (λ (l : List FieldView). ok (body (fields_with_one_nan fs) []) ≡ given at (mask_message (paths_field l) (string_meant mask_paths j))) (sym e) r,
            λ null. absurd (mask_null paths at (body (fields_with_one_nan fs) []) j r null),
            tt,
          )
      by_form form.Any e none holds means =
          let r = any_read pool names table rules is_pool named Inside Inner back objects m fs e at j (fields_in _ e) is.1 holds means in (r.0, λ null. absurd (r.1 null), tt)

    -- a message of one level more
    here_read : AreReadBack pool names table rules is_pool named (message_here pool names Inside) (IsCoveredHere pool Inner)
    here_read m (body fs us) is (has, none, holds, known, covered) at j means =
        let whole : IsBody pool m (body fs []) = subst (λ (u : List Record). IsBody pool m (body fs u)) known is in
        let r = by_form m fs whole covered at j (well_known pool m) has none holds means in
        (subst (λ (u : List Record). ReadsMessage pool rules table m at j (Ok (body (fields_with_one_nan fs) u))) (sym known) r.0, r.1, r.2)

  pub messages_read : (levels : ℕ) → AreReadBack pool names table rules is_pool named (message_json pool names levels) (IsCoveredWithin pool levels)
  unfolding message_json IsCoveredWithin
  messages_read zero m b is covered at j means = absurd covered
  messages_read (suc levels) m b is covered at j means =
      here_read (message_json pool names levels) (IsCoveredWithin pool levels) (messages_read levels) (objects_at pool is_pool names apt levels) m b is covered at j means

-- ---- messages are JSON values

instant_value : (s n : ℤ) → IsJsonValue (instant_json s n)
instant_value s n = by_test (is_instant s n) refl
  where
    by_test : (b : Bool) → is_instant s n ≡ b → IsJsonValue (cond b (written.instant s n) written.null)
    by_test true is = is
    by_test false is = tt

span_value : (s n : ℤ) → FitsSigned w64 s → IsJsonValue (span_json s n)
span_value s n fits = by_test (is_span s n) refl
  where
    by_test : (b : Bool) → is_span s n ≡ b → IsJsonValue (cond b (written.plain (span_text s n)) written.null)
    by_test true is = span_plain s n fits is
    by_test false is = tt

module _ (pool : Types) (is_pool : IsPool pool) (names : Names) (apt : AreMemberNames names) where
  module _ (Inside : ℕ → Message → written.Json) (Inner : ℕ → Message → Type 0) (inner : AreValues pool is_pool names apt Inside Inner) where
    only_value : (w : WellKnown) (all : List FieldView) (fs : Fields) → AreFields pool all fs → AreCoveredFields pool Inner all fs
        → IsJsonValue (absent_json pool w all) → IsJsonValue (only_json pool names Inside w all fs)
    only_value w all no_fields are covered absent = absent
    only_value w all (field n h fs) are covered absent =
        let found = some_of (field_numbered n all) (Holds pool h) are.0 in
        let f : FieldView = found.0 in
        let cover : IsCoveredHolding pool Inner f.kind h = subst (λ (o : Option FieldView). IsSomeAnd o (λ g. IsCoveredHolding pool Inner g.kind h)) found.1 covered.0 in
        subst (λ (o : Option FieldView). IsJsonValue (option_map_or (λ g. holding_json pool names Inside g.kind h) o written.null)) (sym found.1)
        (holding_value pool is_pool names apt Inside Inner inner f.shape f.kind h found.2.1 cover)

    module _ (m : ℕ) (fs : Fields) (is : IsBody pool m (body fs [])) (covered : AreCoveredFields pool Inner (message_fields pool m) fs) where
      value_by : (w : WellKnown) → IsAsDeclared pool w (message_fields pool m) → HoldsCovered pool Inner w fs
          → IsJsonValue (in_form w fs (fields_json pool names Inside m fs) (only_json pool names Inside w (message_fields pool m) fs) (any_json pool Inside fs))
      value_by form.Other has holds = fields_value pool is_pool names apt Inside Inner inner m fs is.0 covered
      value_by form.Wrapper (k, wraps, e) holds =
          let w = wrapper_json pool names Inside k wraps fs (subst (λ (l : List FieldView). AreFields pool l fs) e is.0) is.1 in
          let same : only_json pool names Inside form.Wrapper (message_fields pool m) fs ≡ scalar_json pool k w.0 =
          ap (λ (l : List FieldView). only_json pool names Inside form.Wrapper l fs) e ∙ w.2 in
          subst IsJsonValue (sym same) (scalar_value pool is_pool k w.0 w.1)
      value_by form.Struct has holds = only_value form.Struct (message_fields pool m) fs is.0 covered tt
      value_by form.ListValue has holds = only_value form.ListValue (message_fields pool m) fs is.0 covered tt
      value_by form.Value has holds = only_value form.Value (message_fields pool m) fs is.0 covered tt
      value_by form.Timestamp has holds = instant_value (integer_at 1 fs) (integer_at 2 fs)
      value_by form.Duration e holds =
          let t = times_held pool fs (subst (λ (l : List FieldView). AreFields pool l fs) e is.0) is.1 in
          let a : integer_at 1 fs ≡ t.seconds_are = ap (integer_at 1) t.is ∙ seconds_back t.seconds_are t.nanos_are in
          span_value (integer_at 1 fs) (integer_at 2 fs) (subst (λ (z : ℤ). FitsSigned w64 z) (sym a) t.fits)
      value_by form.FieldMask e holds =
          let p = mask_held pool fs (subst (λ (l : List FieldView). AreFields pool l fs) e is.0) is.1 in
          let a : strings_at 1 fs ≡ p.all = ap (strings_at 1) p.is ∙ paths_back p.all in
          subst (λ (l : List (List ℕ)). IsUtf8 (mask_text l)) (sym a) (mask_utf8 p.all p.utf8)
      value_by form.Any e holds = any_is_value pool is_pool names apt Inside Inner inner fs (subst (λ (l : List FieldView). AreFields pool l fs) e is.0) is.1 holds

    here_value : AreValues pool is_pool names apt (message_here pool names Inside) (IsCoveredHere pool Inner)
    here_value m (body fs us) is (has, none, holds, known, covered) =
        let whole : IsBody pool m (body fs []) = subst (λ (u : List Record). IsBody pool m (body fs u)) known is in
        value_by m fs whole covered (well_known pool m) has holds

  pub message_value : (levels : ℕ) → AreValues pool is_pool names apt (message_json pool names levels) (IsCoveredWithin pool levels)
  unfolding message_json IsCoveredWithin
  message_value zero m b is covered = absurd covered
  message_value (suc levels) m b is covered = here_value (message_json pool names levels) (IsCoveredWithin pool levels) (message_value levels) m b is covered
