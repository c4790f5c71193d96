-- What a message is as JSON is a JSON value: its numbers are numbers, and its strings UTF-8.
use Rattle.std.proofs.Common.{◌≡◌, ℕ, zero, suc, Bool, true, false, cond, List, [], ◌∷◌, Option, Some, None, IsTrue, IsUtf8, IsSomeAnd, refl, sym, subst, arith, ℤ, FitsSigned, w32, decimal}
use Rattle.std.specs.Prelude.{find, from_bits, option_map, slice_get}
use Rattle.std.specs.Float.{Float, Format, binary32, binary64, nan, inf, fin}
use Rattle.std.specs.Fmt.{signed_decimal}
use Rattle.std.specs.List.{AllByRecursion}
use Rattle.std.specs.Option.{option_map_or}
use Rattle.std.specs.Ordering.{int_eq}
use Rattle.pb_schema.specs.declared.types.Kind.{Kind}
use Rattle.pb_schema.specs.declared.types.Kind.TheVariants as kind
use Rattle.pb_schema.specs.declared.types.Shape.{Shape}
use Rattle.pb_schema.specs.EnumValues.{enum_values, value_name, values_of_enum}
use Rattle.pb_schema.specs.Kinds.{IsOfKind, enum_of_kind, message_of_kind}
use Rattle.pb_schema.specs.Names.{is_word, names_of_field}
use Rattle.pb_schema.specs.Rules.{AreWords, IsPool}
use Rattle.pb_schema.specs.Scalar.{Scalar, int32, int64, uint32, uint64, boolean, float, double, enum, text, bytes}
use Rattle.pb_schema.specs.Types.{EnumView, FieldView, MessageView, Types, field_numbered, fields_of_message, message_fields}
use Rattle.pb_value.specs.Data.{Datum, scalar, message, Datums, no_datums, datum, Entries, no_entries, entry}
use Rattle.pb_value.specs.Data.{Holding, one, list, map, Fields, no_fields, field, Message}
use Rattle.pb_value.specs.WellFormed.{AreDatums, AreEntries, AreFields, IsBody, IsDatum, IsHeld, IsOfShape, key_of, holds_declared}
use Rattle.pb_value.proofs.JudgeLemmas.{found_in}
use Rattle.pb_value.proofs.Options.{some_of}
use Rattle.pb_json.specs.declared.form.Names.{Names}
use Rattle.pb_json.specs.Json as written
use Rattle.pb_json.specs.JsonNames.{member_name}
use Rattle.pb_json.specs.JsonText.{bool_text}
use Rattle.pb_json.specs.Mapping.{datum_json, elements_json, entries_json, fields_json, float_json, holding_json, key_name, maybe_member, named_json, names_of_kind, scalar_json}
use Rattle.pb_json.specs.WellKnown.{is_null_enum}
use Rattle.pb_json_round_trip.specs.Messages.{AreMemberNames, AreCoveredDatums, AreCoveredEntries, AreCoveredFields, IsCoveredDatum, IsCoveredHolding}
use Rattle.pb_json_round_trip.specs.Texts.{AreJsonElements, AreJsonMembers, IsJsonValue}
use Rattle.pb_json_round_trip.proofs.CharacterLaws.{ascii_utf8, plain_utf8}
use Rattle.pb_json_round_trip.proofs.NameLaws.{first_name}
use Rattle.pb_json_round_trip.proofs.NumberTexts.{natural_number, signed_number}
use Rattle.pb_json_round_trip.proofs.PlainLaws.{base64_plain, name_utf8, natural_plain, signed_plain, word_ascii}
use Rattle.pb_json_round_trip.proofs.ScalarLaws.{bytes_are, wider}

float_value : (f : Format) (x : Float) → IsJsonValue (float_json f x)
float_value f nan = refl
float_value f (inf false) = refl
float_value f (inf true) = refl
float_value f (fin negative m e) = tt

bool_utf8 : (b : Bool) → IsUtf8 (bool_text b)
bool_utf8 true = ascii_utf8 (bool_text true) refl
bool_utf8 false = ascii_utf8 (bool_text false) refl

-- ---- names of a pool

found_name : (z : ℤ) (vs : List (List ℕ × ℤ)) (name : List ℕ) → AllByRecursion (λ n. IsTrue (is_word n)) (Rattle.std.specs.Prelude.map (λ v. v.0) vs)
    → value_name z vs ≡ Some name → IsTrue (is_word name)
found_name z [] name words e = absurd (cc)
found_name z (v ∷ vs) name words e = by_test (int_eq v.1 z) (found_name z vs name words.1) e
  where
    by_test : (b : Bool) → (value_name z vs ≡ Some name → IsTrue (is_word name)) → option_map (λ (w : List ℕ × ℤ). w.0) (cond b (Some v) (find (λ w. int_eq w.1 z) vs)) ≡ Some name
        → IsTrue (is_word name)
    by_test true next e = let same : v.0 ≡ name = cc in subst (λ (n : List ℕ). IsTrue (is_word n)) same words.0
    by_test false next e = next e

each_at : {X : Type 0} (P : X → Type 0) (xs : List X) (i : ℕ) (x : X) → AllByRecursion P xs → slice_get xs i ≡ Some x → P x
each_at P [] i x all e = absurd (cc)
each_at P (y ∷ ys) zero x all e = let same : y ≡ x = cc in subst P same all.0
each_at P (y ∷ ys) (suc i) x all e = each_at P ys i x all.1 e

module _ (pool : Types) (is_pool : IsPool pool) where
  values_are_words : (e : ℕ) → AllByRecursion (λ n. IsTrue (is_word n)) (Rattle.std.specs.Prelude.map (λ v. v.0) (enum_values pool e))
  values_are_words e = of_enum (slice_get pool.enums e) refl
    where
      of_enum : (o : Option EnumView) → slice_get pool.enums e ≡ o → AllByRecursion (λ n. IsTrue (is_word n)) (Rattle.std.specs.Prelude.map (λ v. v.0) (values_of_enum o))
      of_enum None is = tt
      of_enum (Some t) is = (each_at Rattle.pb_schema.specs.Rules.EnumIsOfWords pool.enums e t is_pool.names.enum_words is).1

  named_value : (o : Option (List ℕ)) (z : ℤ) → FitsSigned w32 z → ((name : List ℕ) → o ≡ Some name → IsTrue (is_word name)) → IsJsonValue (named_json o z)
  named_value None z fits words = signed_number z (wider z fits)
  named_value (Some name) z fits words = ascii_utf8 name (word_ascii name (words name refl))

  enum_value : (k : Kind) (z : ℤ) (b : Bool) → FitsSigned w32 z → IsJsonValue (cond b written.null (named_json (value_name z (names_of_kind pool k)) z))
  enum_value k z true fits = tt
  enum_value k z false fits = named_value (value_name z (names_of_kind pool k)) z fits (of_enum (enum_of_kind k))
    where
      of_enum : (o : Option ℕ) (name : List ℕ) → value_name z (option_map_or (λ e. enum_values pool e) o []) ≡ Some name → IsTrue (is_word name)
      of_enum None name e = absurd (cc)
      of_enum (Some i) name e = found_name z (enum_values pool i) name (values_are_words i) e

  pub scalar_value : (k : Kind) (x : Scalar) → IsOfKind k x → IsJsonValue (scalar_json pool k x)
  scalar_value kind.Int32 (int32 z) fits = signed_number z (wider z fits)
  scalar_value kind.Sint32 (int32 z) fits = signed_number z (wider z fits)
  scalar_value kind.Sfixed32 (int32 z) fits = signed_number z (wider z fits)
  scalar_value kind.Int64 (int64 z) fits = signed_plain z fits
  scalar_value kind.Sint64 (int64 z) fits = signed_plain z fits
  scalar_value kind.Sfixed64 (int64 z) fits = signed_plain z fits
  scalar_value kind.Uint32 (uint32 n) fits = natural_number n (omega (arith, fits))
  scalar_value kind.Fixed32 (uint32 n) fits = natural_number n (omega (arith, fits))
  scalar_value kind.Uint64 (uint64 n) fits = natural_plain n fits
  scalar_value kind.Fixed64 (uint64 n) fits = natural_plain n fits
  scalar_value kind.Bool (boolean b) fits = tt
  scalar_value kind.Float (float n) fits = float_value binary32 (from_bits binary32 n)
  scalar_value kind.Double (double n) fits = float_value binary64 (from_bits binary64 n)
  scalar_value kind.Text (text s) fits = fits
  scalar_value kind.Bytes (bytes s) fits = base64_plain s (bytes_are s fits)
  scalar_value (kind.Enum e) (enum z) fits = enum_value (kind.Enum e) z (is_null_enum pool (kind.Enum e)) fits
  scalar_value (kind.ClosedEnum e) (enum z) fits = enum_value (kind.ClosedEnum e) z (is_null_enum pool (kind.ClosedEnum e)) fits
  scalar_value (kind.Message m) x fits = absurd fits
  scalar_value (kind.Group m) x fits = absurd fits
  scalar_value k x fits = absurd fits

  key_utf8 : (k : Kind) (x : Scalar) → IsOfKind k x → IsUtf8 (key_name x)
  key_utf8 kind.Int32 (int32 z) fits = plain_utf8 (signed_decimal z) (signed_plain z (wider z fits))
  key_utf8 kind.Sint32 (int32 z) fits = plain_utf8 (signed_decimal z) (signed_plain z (wider z fits))
  key_utf8 kind.Sfixed32 (int32 z) fits = plain_utf8 (signed_decimal z) (signed_plain z (wider z fits))
  key_utf8 kind.Int64 (int64 z) fits = plain_utf8 (signed_decimal z) (signed_plain z fits)
  key_utf8 kind.Sint64 (int64 z) fits = plain_utf8 (signed_decimal z) (signed_plain z fits)
  key_utf8 kind.Sfixed64 (int64 z) fits = plain_utf8 (signed_decimal z) (signed_plain z fits)
  key_utf8 kind.Uint32 (uint32 n) fits = plain_utf8 (decimal n) (natural_plain n (omega (arith, fits)))
  key_utf8 kind.Fixed32 (uint32 n) fits = plain_utf8 (decimal n) (natural_plain n (omega (arith, fits)))
  key_utf8 kind.Uint64 (uint64 n) fits = plain_utf8 (decimal n) (natural_plain n fits)
  key_utf8 kind.Fixed64 (uint64 n) fits = plain_utf8 (decimal n) (natural_plain n fits)
  key_utf8 kind.Bool (boolean b) fits = bool_utf8 b
  key_utf8 kind.Text (text s) fits = fits
  key_utf8 kind.Float (float n) fits = ascii_utf8 [] refl
  key_utf8 kind.Double (double n) fits = ascii_utf8 [] refl
  key_utf8 kind.Bytes (bytes s) fits = ascii_utf8 [] refl
  key_utf8 (kind.Enum e) (enum z) fits = ascii_utf8 [] refl
  key_utf8 (kind.ClosedEnum e) (enum z) fits = ascii_utf8 [] refl
  key_utf8 (kind.Message m) x fits = absurd fits
  key_utf8 (kind.Group m) x fits = absurd fits
  key_utf8 k x fits = absurd fits

  pub field_word : (f : FieldView) → AreWords (names_of_field f) → IsTrue (is_word f.name)
  field_word f words = (subst AreWords (first_name f.name f.number f.kind f.shape) words).0

  pub fields_words : (m : ℕ) → AllByRecursion (λ f. AreWords (names_of_field f)) (message_fields pool m)
  fields_words m = of_message (slice_get pool.messages m) refl
    where
      of_message : (o : Option MessageView) → slice_get pool.messages m ≡ o → AllByRecursion (λ f. AreWords (names_of_field f)) (fields_of_message o)
      of_message None is = tt
      of_message (Some t) is = (each_at Rattle.pb_schema.specs.Rules.MessageIsOfWords pool.messages m t is_pool.names.message_words is).1

  module _ (names : Names) (apt : AreMemberNames names) where
    abbrev pub AreValues : (ℕ → Message → written.Json) → (ℕ → Message → Type 0) → Type 0
    AreValues Inside Inner = (m : ℕ) (b : Message) → IsBody pool m b → Inner m b → IsJsonValue (Inside m b)

    module _ (Inside : ℕ → Message → written.Json) (Inner : ℕ → Message → Type 0) (inner : AreValues Inside Inner) where
      datum_value : (k : Kind) (d : Datum) → IsDatum pool k d → IsCoveredDatum pool Inner k d → IsJsonValue (datum_json pool names Inside k d)
      datum_value k (scalar x) is covered = scalar_value k x is
      datum_value k (message b) is covered = of_type (message_of_kind k) is covered
        where
          of_type : (o : Option ℕ) → IsSomeAnd o (λ m. IsBody pool m b) → IsSomeAnd o (λ m. Inner m b) → IsJsonValue (option_map_or (λ m. Inside m b) o written.null)
          of_type None is covered = tt
          of_type (Some m) is covered = inner m b is covered

      elements_value : (k : Kind) (ds : Datums) → AreDatums pool k ds → AreCoveredDatums pool Inner k ds → AreJsonElements (elements_json pool names Inside k ds)
      elements_value k no_datums are covered = tt
      elements_value k (datum d ds) are covered =
          (datum_value k d are.0 covered.0, elements_value k ds are.1 covered.1)

      entries_value : (key k : Kind) (es : Entries) → AreEntries pool key k es → AreCoveredEntries pool Inner k es
          → AreJsonMembers (entries_json pool names Inside k es)
      entries_value key k no_entries are covered = tt
      entries_value key k (entry x d es) are covered =
          (key_utf8 key x are.0, datum_value k d are.1 covered.0, entries_value key k es are.2 covered.1)

      pub holding_value : (s : Shape) (k : Kind) (h : Holding) → IsHeld pool s k h → IsCoveredHolding pool Inner k h
          → IsJsonValue (holding_json pool names Inside k h)
      holding_value s k (one d) is covered = datum_value k d is covered
      holding_value s k (list ds) is covered = elements_value k ds is covered
      holding_value s k (map es) is covered =
          let key = some_of (key_of s) (λ key. AreEntries pool key k es × Rattle.pb_value.specs.WellFormed.KeysRise es) is in
          entries_value key.0 k es key.2.0 covered

      pub fields_value : (m : ℕ) (fs : Fields) → AreFields pool (message_fields pool m) fs → AreCoveredFields pool Inner (message_fields pool m) fs
          → AreJsonMembers (fields_json pool names Inside m fs)
      fields_value m no_fields are covered = tt
      fields_value m (field n h fs) are covered =
          let all = message_fields pool m in
          let found = some_of (field_numbered n all) (λ f. IsOfShape f.shape h × IsHeld pool f.shape f.kind h × (holds_declared pool f.kind h ≡ true)) are.0 in
          let f : FieldView = found.0 in
          let cover : IsCoveredHolding pool Inner f.kind h = subst (λ (o : Option FieldView). IsSomeAnd o (λ g. IsCoveredHolding pool Inner g.kind h)) found.1 covered.0 in
          let word = field_word f (found_in (λ g. AreWords (names_of_field g)) n all f (fields_words m) found.1) in
          subst (λ (o : Option FieldView). AreJsonMembers (maybe_member (option_map (λ g. (member_name names m g, holding_json pool names Inside g.kind h)) o) (fields_json pool names Inside m fs)))
          (sym found.1)
          (name_utf8 names apt m f word, holding_value f.shape f.kind h found.2.1 cover, fields_value m fs are.1 covered.1)
