-- What an Any is as JSON is read as the Any.
use Rattle.std.proofs.Common.{◌≡◌, ℕ, ◌<◌, ◌^◌, Bool, true, false, cond, ◌&&◌, eqb, List, [], ◌∷◌, length, Option, Some, None, Ok, Err, inl, inr, ◌⊎◌, refl, sym, ap, ◌∙◌, subst, arith, codes, eqb-true, ne_eqb}
use Rattle.std.specs.Prelude.{not, option_and_then, option_map}
use Rattle.std.proofs.lemmas.Bool.{and_parts}
use Rattle.std.specs.Option.{option_map_or}
use Rattle.std.specs.Path.{rsplit_once}
use Rattle.std.proofs.lemmas.List.Elements.{All-from_recursion}
use Rattle.pb_wire.specs.Ranges.{IsByte}
use Rattle.pb_schema.specs.declared.types.Kind.TheVariants as kind
use Rattle.pb_schema.specs.declared.types.Shape.TheVariants as shape
use Rattle.pb_schema.specs.Rules.{IsPool}
use Rattle.pb_schema.specs.Scalar.{bytes, text}
use Rattle.pb_schema.specs.Types.{FieldView, Types, message_fields}
use Rattle.pb_value.specs.Canon.{canon_bytes}
use Rattle.pb_value.specs.Data.{message, one, Fields, no_fields, field, Message, body, empty}
use Rattle.pb_value.specs.WellFormed.{AreFields, IsBody, RisesFrom}
use Rattle.pb_value.proofs.RoundTrip.{canonical_text}
use Rattle.pb_json.specs.declared.form.Names.{Names}
use Rattle.pb_json.specs.declared.well_known.WellKnown.{WellKnown}
use Rattle.pb_json.specs.declared.well_known.WellKnown.TheVariants as form
use Rattle.pb_json.specs.Anys.{any_json, any_message, is_unset, members_or_value, tagged, type_meant, typed}
use Rattle.pb_json.specs.Encoded.{message_encoded}
use Rattle.pb_json.specs.Held.{bytes_at, string_at}
use Rattle.pb_json.specs.Json as written
use Rattle.pb_json.specs.WellKnown.{is_plain, well_known}
use Rattle.pb_json.proofs.AnyLemmas.{encoded-is}
use Rattle.pb_json.specs.Given.{NamesGiven}
use Rattle.pb_json_text.specs.Json as read
use Rattle.pb_json_read.specs.declared.rules.JsonRules.{JsonRules}
use Rattle.pb_json_read.specs.Anys.{ReadsAnyOf, ReadsInAny, ReadsNamed, ReadsTagged, any_fields, beside, field_of, is_empty_type, is_tag, message_beside, message_held, only_field, only_tag, tag_before, tags, value_field}
use Rattle.pb_json_read.specs.Anys as anys
use Rattle.pb_json_read.specs.Forms.{ReadsForm}
use Rattle.pb_json_read.specs.Names.{field_meant}
use Rattle.pb_json_read.specs.Reads.{ReadsAnyObject, ReadsBeside, ReadsContent, ReadsList, ReadsMap, ReadsMembers, ReadsObject}
use Rattle.pb_json_read.specs.Steps.{After, Parts, Read, ReadsField, ReadsHeld, Unless, given, is_absent, is_null, nothing}
use Rattle.pb_json_read.specs.WellKnown.{is_dynamic}
use Rattle.pb_json_read.proofs.ReadLemmas.{after_ok, content_as, value_inside}
use Rattle.pb_json_round_trip.specs.Messages.{AreMemberNames, HoldsMessage, NamesAreRead, fields_with_one_nan, message_with_one_nan}
use Rattle.pb_json_round_trip.specs.Texts.{AreJsonMembers, IsJsonValue, MeanMembers, Means}
use Rattle.pb_json_round_trip.specs.WellKnown.{any_value, type_url}
use Rattle.pb_json_round_trip.proofs.CharacterLaws.{ascii_utf8}
use Rattle.pb_json_round_trip.proofs.MessageLaws.{AreReadBack, taken}
use Rattle.pb_json_round_trip.proofs.ValueLaws.{AreValues}
use Rattle.pb_json_round_trip.proofs.WellKnownFields.{IsAny, any_held, pair_put, pair_stays}

-- ---- members that are no `@type`

abbrev pub AreUntagged : written.Members → Type 0
AreUntagged written.no_members = Unit {0}
AreUntagged (written.member name j ms) = (is_tag name ≡ false) × AreUntagged ms

abbrev AreNoTags : read.Members → Type 0
AreNoTags read.no_members = Unit {0}
AreNoTags (read.member name_at name at j ms) = (is_tag name ≡ false) × AreNoTags ms

untagged_read : (ms : written.Members) (rs : read.Members) → MeanMembers ms rs → AreUntagged ms → AreNoTags rs
untagged_read written.no_members rs e none = subst AreNoTags (sym e) tt
untagged_read (written.member name j ms) rs (name_at, at, r, more, e, is, later) none = subst AreNoTags (sym e) (none.0, untagged_read ms more later none.1)

no_tags : (rs : read.Members) → AreNoTags rs → tags rs ≡ []
no_tags read.no_members none = refl
no_tags (read.member name_at name at j ms) none = ap (λ (b : Bool). tag_before b (name_at, (at, j)) (tags ms)) none.0 ∙ no_tags ms none.1

-- an object, none of whose members is `@type`
abbrev pub IsUntagged : written.Json → Type 0
IsUntagged j = (ms : written.Members) × (j ≡ written.object ms) × AreUntagged ms

-- ---- the type
-- ---- the type

no_url : (pool : Types) → type_meant pool [] ≡ None
unfolding rsplit_once
no_url pool = refl

url_there : (pool : Types) (url : List ℕ) (t : ℕ) → type_meant pool url ≡ Some t → eqb (length url) 0 ≡ false
url_there pool [] t e = absurd (let none = no_url pool in cc)
url_there pool (c ∷ cs) t e = ne_eqb (length (c ∷ cs)) 0 (λ h. omega arith)

no_length : {X : Type 0} (xs : List X) → length xs ≡ 0 → xs ≡ []
no_length [] e = refl
no_length (x ∷ xs) e = absurd (omega (arith, e))

abbrev ok : Parts → Read Parts
ok p = Ok p

ok_parts : (p q : Parts) → ok p ≡ ok q → p ≡ q
ok_parts p q e = cc

plain_is_other : (w : WellKnown) → is_plain w ≡ true → w ≡ form.Other
plain_is_other form.Other e = refl
plain_is_other w e = absurd (cc)

module _ (pool : Types) (is_pool : IsPool pool) (Inner : ℕ → Message → Type 0) (fs : Fields) (any : IsAny fs) (h : HoldsMessage pool Inner fs) where
  encoded_there : message_encoded pool h.message_type (bytes_at 2 fs) ≡ Some h.held
  encoded_there =
      let small : length (canon_bytes pool h.message_type h.held) < 2 ^ 31 = subst (λ (b : List ℕ). length b < 2 ^ 31) h.canonical h.small in
      encoded-is pool h.message_type (bytes_at 2 fs) (All-from_recursion IsByte (bytes_at 2 fs) any.are_bytes) h.held
      (subst (λ (b : List ℕ). Rattle.pb_value.specs.Derives.Text pool h.message_type Rattle.pb_wire.specs.Limits.full b h.held) (sym h.canonical)
      (canonical_text pool h.message_type h.held is_pool h.well_formed small))

  pub any_set : is_unset fs ≡ false
  any_set = ap (λ (b : Bool). b && eqb (length (bytes_at 2 fs)) 0) (url_there pool (string_at 1 fs) h.message_type h.named)

  pub any_opened : any_message pool fs ≡ Some (h.message_type, h.held)
  any_opened =
      ap (λ (o : Option ℕ). option_and_then (typed pool (bytes_at 2 fs)) o) h.named
      ∙ ap (λ (o : Option Message). option_map (λ b. (h.message_type, b)) o) encoded_there

  -- the object of an Any that holds a message
  any_written : (Inside : ℕ → Message → written.Json)
      → any_json pool Inside fs ≡ tagged (string_at 1 fs) (members_or_value (is_plain (well_known pool h.message_type)) (Inside h.message_type h.held))
  any_written Inside =
      ap (λ (b : Bool). cond b (written.object written.no_members) (option_map_or (λ x. tagged (string_at 1 fs) (members_or_value (is_plain (well_known pool x.0)) (Inside x.0 x.1))) (any_message pool fs) written.null)) any_set
      ∙ ap (λ (o : Option (ℕ × Message)). option_map_or (λ x. tagged (string_at 1 fs) (members_or_value (is_plain (well_known pool x.0)) (Inside x.0 x.1))) o written.null) any_opened

-- ---- the message in it

-- messages of types without a form of their own are objects; without fields they have no members
abbrev pub AreObjects : Types → (ℕ → Message → written.Json) → (ℕ → Message → Type 0) → Type 0
AreObjects pool Inside Inner =
    (m : ℕ) (b : Message) → Inner m b → well_known pool m ≡ form.Other
    → IsUntagged (Inside m b) × (message_fields pool m ≡ [] → Inside m b ≡ written.object written.no_members)

beside_read : (pool : Types) (rules : JsonRules) (table : NamesGiven) (meant : List ℕ → Option FieldView) (rs : read.Members) (p : Parts) (o : Read Parts) → AreNoTags rs → ReadsMembers pool rules table meant p rs o
    → ReadsBeside pool rules table (beside None meant) p rs o
beside_read pool rules table meant read.no_members p o none h = h
beside_read pool rules table meant (read.member name_at name at j ms) p o none (r, first, next) = (
  r,
  subst (λ (b : Bool). Unless b p (λ x. ReadsField pool rules (meant name) name_at j (λ s k q. ReadsContent pool rules table s k at j q) p x) r) (sym none.0) first,
  later r (λ q h. beside_read pool rules table meant ms q o none.1 h) next,
)
  where
    later : (r : Read Parts) → ((q : Parts) → ReadsMembers pool rules table meant q ms o → ReadsBeside pool rules table (beside None meant) q ms o)
        → After r (λ q x. ReadsMembers pool rules table meant q ms x) o → After r (λ q x. ReadsBeside pool rules table (beside None meant) q ms x) o
    later (Ok q) more h = more q h
    later (Err e) more h = h

module _ (pool : Types) (names : Names) (table : NamesGiven) (rules : JsonRules) (is_pool : IsPool pool) (named : NamesAreRead names table pool) where
  module _ (Inside : ℕ → Message → written.Json) (Inner : ℕ → Message → Type 0) (back : AreReadBack pool names table rules is_pool named Inside Inner)
      (objects : AreObjects pool Inside Inner) where
    module _ (t : ℕ) (b : Message) (whole : IsBody pool t b) (inner : Inner t b) where
      -- what the members beside `@type` give
      abbrev IsGiven : Option FieldView → read.Members → Type 0
      IsGiven f rest =
          (p : Parts) × ReadsBeside pool rules table (beside f (field_meant table pool t)) nothing rest (Ok p)
          × (message_beside (is_empty_type pool t) f p.message ≡ Some (message_with_one_nan b))

      plain_given : (at : ℕ) (rest : read.Members) → well_known pool t ≡ form.Other → MeanMembers (members_or_value true (Inside t b)) rest → IsGiven None rest
      plain_given at rest is means = of_parts object.0 object.1 object.2
        where
          o : IsUntagged (Inside t b)
          o = (objects t b inner is).0

          mean : MeanMembers o.0 rest
          mean = subst (λ (j : written.Json). MeanMembers (members_or_value true j) rest) o.1 means

          object : ReadsObject pool rules table t at (read.object rest) (Ok (message_with_one_nan b))
          object =
              subst (λ (w : WellKnown). ReadsForm pool rules at (read.object rest) (λ key e r. ReadsMap pool rules table key e at (read.object rest) r) (λ e r. ReadsList pool rules table e at (read.object rest) r) w
              (λ r. ReadsObject pool rules table t at (read.object rest) r) (λ r. ReadsAnyObject pool rules table t at (read.object rest) r) t (Ok (message_with_one_nan b))) is
              (back t b whole inner at (read.object rest) (subst (λ (j : written.Json). Means j (read.object rest)) (sym o.1) (rest, refl, mean))).0

          of_parts : (r : Read Parts) → ReadsMembers pool rules table (field_meant table pool t) nothing rest r → After r (λ p x. x ≡ Ok p.message) (Ok (message_with_one_nan b)) → IsGiven None rest
          of_parts (Ok p) h e = (p, beside_read pool rules table (field_meant table pool t) rest nothing (Ok p) (untagged_read o.0 rest mean o.2) h, cc)
          of_parts (Err f) h e = absurd (cc)

      -- a message with a form of its own, in the member `value`
      abbrev one_member : Parts
      one_member = record { message = body (field 1 (one (message (message_with_one_nan b))) no_fields) []; numbers = 1 ∷ []; oneofs = [] }

      value_given : (rest : read.Members) → MeanMembers (written.member (codes "value") (Inside t b) written.no_members) rest → IsGiven (Some (value_field t)) rest
      value_given rest (name_at, at, j, more, e, means, none) =
          let r = back t b whole inner at j means in
          let content =
          content_as pool rules table shape.Explicit (kind.Message (record { 0 = t })) at j (Ok (Some (one (message (message_with_one_nan b))))) (
            Ok (Some (message (message_with_one_nan b))),
            value_inside pool rules table (kind.Message (record { 0 = t })) at t j (Ok (Some (message (message_with_one_nan b)))) refl (Ok (message_with_one_nan b), r.0, refl),
            refl,
          ) in
          let present : is_absent pool shape.Explicit (kind.Message (record { 0 = t })) j ≡ false = taken (is_null j) (is_dynamic (well_known pool t)) r.1 in
          let held : ReadsHeld (value_field t) name_at (λ s k q. ReadsContent pool rules table s k at j q) (is_absent pool shape.Explicit (kind.Message (record { 0 = t })) j)
          (record { message = body no_fields []; numbers = 1 ∷ []; oneofs = [] }) (Ok one_member) =
          subst (λ (c : Bool). ReadsHeld (value_field t) name_at (λ s k q. ReadsContent pool rules table s k at j q) c (record { message = body no_fields []; numbers = 1 ∷ []; oneofs = [] }) (Ok one_member))
          (sym present) (Ok (Some (one (message (message_with_one_nan b)))), content, refl) in
          let same : rest ≡ read.member name_at (codes "value") at j read.no_members = e ∙ ap (λ (ms : read.Members). read.member name_at (codes "value") at j ms) none in (
            one_member,
            subst (λ (ms : read.Members). ReadsBeside pool rules table (beside (Some (value_field t)) (field_meant table pool t)) nothing ms (Ok one_member)) (sym same) (Ok one_member, held, refl),
            refl,
          )

      untagged_by : (c : Bool) → is_plain (well_known pool t) ≡ c → AreUntagged (members_or_value c (Inside t b))
      untagged_by true is =
          let o = (objects t b inner (plain_is_other (well_known pool t) is)).0 in subst (λ (j : written.Json). AreUntagged (members_or_value true j)) (sym o.1) o.2
      untagged_by false is = (refl, tt)

      -- an Empty has no members
      empty_given : (at : ℕ) (rest : read.Members) → well_known pool t ≡ form.Other → is_empty_type pool t ≡ true → MeanMembers (members_or_value true (Inside t b)) rest
          → IsGiven (Some (value_field t)) rest
      empty_given at rest is empty_is means =
          let none : message_fields pool t ≡ [] = no_length (message_fields pool t) (eqb-true (length (message_fields pool t)) 0 (and_parts _ _ empty_is).1) in
          let bare : Inside t b ≡ written.object written.no_members = (objects t b inner is).1 none in
          let same : rest ≡ read.no_members = subst (λ (j : written.Json). MeanMembers (members_or_value true j) rest) bare means in
          let given_there = plain_given at read.no_members is (subst (λ (j : written.Json). MeanMembers (members_or_value true j) read.no_members) (sym bare) refl) in
          let held : Some empty ≡ Some (message_with_one_nan b) = ap (λ (p : Parts). Some p.message) (sym (ok_parts given_there.0 nothing given_there.1)) ∙ given_there.2 in (
            nothing,
            subst (λ (ms : read.Members). ReadsBeside pool rules table (beside (Some (value_field t)) (field_meant table pool t)) nothing ms (Ok nothing)) (sym same) refl,
            ap (λ (e : Bool). message_held e None) empty_is ∙ held,
          )

      given_by : (c e : Bool) → is_plain (well_known pool t) ≡ c → is_empty_type pool t ≡ e → (at : ℕ) (rest : read.Members)
          → MeanMembers (members_or_value c (Inside t b)) rest → IsGiven (only_field (c && not e) t) rest
      given_by true true is empty_is at rest means = empty_given at rest (plain_is_other (well_known pool t) is) empty_is means
      given_by true false is empty_is at rest means = plain_given at rest (plain_is_other (well_known pool t) is) means
      given_by false e is empty_is at rest means = value_given rest means

    -- ---- the Any

    abbrev any_fields_are : FieldView × FieldView
    any_fields_are = (type_url, any_value)

    module _ (fs : Fields) (any : IsAny fs) (h : HoldsMessage pool Inner fs) (at name_at url_at : ℕ) (rest : read.Members)
        (means : MeanMembers (members_or_value (is_plain (well_known pool h.message_type)) (Inside h.message_type h.held)) rest) where
      abbrev url : List ℕ
      url = string_at 1 fs

      abbrev all_members : read.Members
      all_members = read.member name_at (codes "@type") url_at (read.string url) rest

      abbrev Beside : (List ℕ → Option FieldView) → Read Parts → Type 0
      Beside meant r = ReadsBeside pool rules table meant nothing all_members r

      is_given : IsGiven h.message_type h.held h.well_formed.parts h.covered (field_of pool h.message_type) rest
      is_given = given_by h.message_type h.held h.well_formed.parts h.covered (is_plain (well_known pool h.message_type)) (is_empty_type pool h.message_type) refl refl at rest means

      in_any : ReadsInAny pool table at Beside h.message_type (Ok h.held)
      in_any = (
        Ok is_given.0,
        (Ok nothing, refl, is_given.1),
        sym (ap (λ (o : Option Message). given at o) (is_given.2 ∙ ap (λ (v : Message). Some v) h.one_nan)),
      )

      named_read : ReadsNamed pool table at Beside any_fields_are url_at (Some (url, h.message_type)) (Ok (body (fields_with_one_nan fs) []))
      named_read = (
        Ok (bytes_at 2 fs),
        (Ok h.held, in_any, (h.well_formed, h.small, h.canonical)),
        ap (λ (v : Message). Ok v) (
            ap (λ (gs : Fields). body (fields_with_one_nan gs) []) any.is
            ∙ ap (λ (gs : Fields). body gs []) (pair_stays (text url) (bytes (bytes_at 2 fs)) refl refl)
            ∙ sym (pair_put (text url) (bytes (bytes_at 2 fs)))
            ),
      )

      tag_is : ◌≡◌ {A = Read (Option read.Placed)} (Ok (Some (url_at, read.string url))) (only_tag (tags all_members))
      tag_is =
          let untagged = untagged_by h.message_type h.held h.well_formed.parts h.covered (is_plain (well_known pool h.message_type)) refl in
          let none = no_tags rest (untagged_read (members_or_value (is_plain (well_known pool h.message_type)) (Inside h.message_type h.held)) rest means untagged) in
          sym (ap (λ (ts : List anys.Tag). only_tag ((name_at, (url_at, read.string url)) ∷ ts)) none)

      tagged_read : ReadsAnyOf pool table at Beside (Some any_fields_are) all_members (Ok (body (fields_with_one_nan fs) []))
      tagged_read =
          after_ok (only_tag (tags all_members)) (Some (url_at, read.string url)) (λ v r. ReadsTagged pool table at Beside any_fields_are all_members v r)
          (Ok (body (fields_with_one_nan fs) [])) tag_is
          (subst (λ (o : Option ℕ). ReadsNamed pool table at Beside any_fields_are url_at (option_map (λ t. (url, t)) o) (Ok (body (fields_with_one_nan fs) []))) (sym h.named) named_read)

    module _ (m : ℕ) (fs : Fields) (all : message_fields pool m ≡ type_url ∷ any_value ∷ []) (at : ℕ) (j : read.Json) where
      abbrev IsAnyRead : Type 0
      IsAnyRead = ReadsAnyObject pool rules table m at j (Ok (body (fields_with_one_nan fs) [])) × (is_null j ≡ true → ⊥)

      none_read : fs ≡ no_fields → Means (any_json pool Inside fs) j → IsAnyRead
      none_read none means =
          let here : Means (written.object written.no_members) j = subst (λ (gs : Fields). Means (any_json pool Inside gs) j) none means in
          let is : j ≡ read.object read.no_members = here.1 ∙ ap (λ (rs : read.Members). read.object rs) here.2 in
          let reads : ReadsAnyObject pool rules table m at (read.object read.no_members) (Ok (body no_fields [])) =
          subst (λ (l : List FieldView). ReadsAnyOf pool table at (λ meant r. ReadsBeside pool rules table meant nothing read.no_members r) (any_fields l) read.no_members (Ok (body no_fields []))) (sym all) refl in
          let whole : ReadsAnyObject pool rules table m at (read.object read.no_members) (Ok (body (fields_with_one_nan fs) [])) =
          subst (λ (gs : Fields). ReadsAnyObject pool rules table m at (read.object read.no_members) (Ok (body (fields_with_one_nan gs) []))) (sym none) reads in
          (subst (λ (i : read.Json). ReadsAnyObject pool rules table m at i (Ok (body (fields_with_one_nan fs) []))) (sym is) whole, λ null. absurd (cc (rw is at null)))

      held_read : IsAny fs → HoldsMessage pool Inner fs → Means (any_json pool Inside fs) j → IsAnyRead
      held_read any h means = of_object (subst (λ (w : written.Json). Means w j) (any_written pool is_pool Inner fs any h Inside) means)
        where
          of_object : Means (tagged (string_at 1 fs) (members_or_value (is_plain (well_known pool h.message_type)) (Inside h.message_type h.held))) j → IsAnyRead
          of_object (rs, is, (name_at, url_at, i, rest, e, url_is, later)) =
              let same : j ≡ read.object (read.member name_at (codes "@type") url_at (read.string (string_at 1 fs)) rest) =
              is ∙ ap (λ (ms : read.Members). read.object ms) (e ∙ ap (λ (k : read.Json). read.member name_at (codes "@type") url_at k rest) url_is) in
              let reads =
              subst (λ (l : List FieldView). ReadsAnyOf pool table at (λ meant r. ReadsBeside pool rules table meant nothing (read.member name_at (codes "@type") url_at (read.string (string_at 1 fs)) rest) r)
              (any_fields l) (read.member name_at (codes "@type") url_at (read.string (string_at 1 fs)) rest) (Ok (body (fields_with_one_nan fs) []))) (sym all)
              (tagged_read fs any h at name_at url_at rest later) in
              (subst (λ (k : read.Json). ReadsAnyObject pool rules table m at k (Ok (body (fields_with_one_nan fs) []))) (sym same) reads, λ null. absurd (cc (rw same at null)))

      pub any_read : AreFields pool (type_url ∷ any_value ∷ []) fs → RisesFrom 0 fs → (fs ≡ no_fields) ⊎ HoldsMessage pool Inner fs → Means (any_json pool Inside fs) j → IsAnyRead
      any_read are rise (inl none) means = none_read none means
      any_read are rise (inr h) means = held_read (any_held pool fs are rise) h means

-- ---- its JSON is a JSON value

members_value : (c : Bool) (j : written.Json) → IsJsonValue j → AreJsonMembers (members_or_value c j)
members_value true (written.object ms) h = h
members_value c j h = (ascii_utf8 (codes "value") refl, h, tt)

pub any_is_value : (pool : Types) (is_pool : IsPool pool) (names : Names) (apt : AreMemberNames names) (Inside : ℕ → Message → written.Json)
    (Inner : ℕ → Message → Type 0) → AreValues pool is_pool names apt Inside Inner → (fs : Fields) → AreFields pool (type_url ∷ any_value ∷ []) fs → RisesFrom 0 fs
    → (fs ≡ no_fields) ⊎ HoldsMessage pool Inner fs → IsJsonValue (any_json pool Inside fs)
any_is_value pool is_pool names apt Inside Inner inner fs are rise (inl none) = subst (λ (gs : Fields). IsJsonValue (any_json pool Inside gs)) (sym none) tt
any_is_value pool is_pool names apt Inside Inner inner fs are rise (inr h) =
    let any = any_held pool fs are rise in
    let held = inner h.message_type h.held h.well_formed.parts h.covered in
    subst IsJsonValue (sym (any_written pool is_pool Inner fs any h Inside))
    (ascii_utf8 (codes "@type") refl, any.url_utf8, members_value (is_plain (well_known pool h.message_type)) (Inside h.message_type h.held) held)
