-- No field's name is written as `@type`.
use Rattle.std.proofs.Common.{◌∙◌, ◌≡◌, ℕ, zero, suc, ◌-◌, Bool, true, false, not, eqb, List, [], ◌∷◌, Option, Some, None, IfSome, IsTrue, IsUtf8, inl, inr, refl, sym, ap, subst, arith, codes, eqb-true, le-ltb, lt-ltb, ne_eqb}
use Rattle.std.specs.Prelude.{option_map, unwrap_or}
use Rattle.std.specs.List.{AllByRecursion, list_all}
use Rattle.std.proofs.lemmas.Bool.{and_parts, cases_Bool, cases_lt}
use Rattle.std.proofs.lemmas.Slice.Eq.{bytes_eq-Decides}
use Rattle.pb_schema.specs.Names.{begins_word, continues_word, is_word, names_of_field}
use Rattle.pb_schema.specs.Rules.{AreWords, IsPool}
use Rattle.pb_schema.specs.Types.{FieldView, Types, field_numbered, message_fields}
use Rattle.pb_value.specs.Data.{Fields, no_fields, field, Message, body}
use Rattle.pb_value.proofs.JudgeLemmas.{found_in}
use Rattle.pb_json.specs.declared.form.Names.{Names}
use Rattle.pb_json.specs.declared.form.Names.TheVariants.{Declared, Given, LowerCamel}
use Rattle.pb_json.specs.declared.well_known.WellKnown.{WellKnown}
use Rattle.pb_json.specs.Anys.{any_json}
use Rattle.pb_json.specs.Json as written
use Rattle.pb_json.specs.Given.{name_given}
use Rattle.pb_json.specs.JsonNames.{camel_from, cased, lower_camel, member_name}
use Rattle.pb_json.specs.Mapping.{fields_json, holding_json, in_form, maybe_member, message_here, message_json, only_json}
use Rattle.pb_json_read.specs.Anys.{is_tag}
use Rattle.pb_json_round_trip.specs.Messages.{AreCoveredFields, AreMemberNames, IsCoveredHere, IsCoveredWithin}
use Rattle.pb_json_round_trip.proofs.AnyLaws.{AreObjects, AreUntagged}
use Rattle.pb_json_round_trip.proofs.ValueLaws.{field_word, fields_words}

-- ---- names

-- the byte is no `@`
abbrev is_no_at : ℕ → Bool
is_no_at c = not (eqb c 64)

begins_without : (c : ℕ) → begins_word c ≡ true → eqb c 64 ≡ false
begins_without c h =
    elim (cases_Bool (eqb c 64)) [
      | inl e ↦ absurd (let at : begins_word 64 ≡ true = subst (λ (x : ℕ). begins_word x ≡ true) (eqb-true c 64 e) h in cc)
      | inr e ↦ e
    ]

continues_without : (c : ℕ) → continues_word c ≡ true → eqb c 64 ≡ false
continues_without c h =
    elim (cases_Bool (eqb c 64)) [
      | inl e ↦ absurd (let at : continues_word 64 ≡ true = subst (λ (x : ℕ). continues_word x ≡ true) (eqb-true c 64 e) h in cc)
      | inr e ↦ e
    ]

letters_without : (s : List ℕ) → list_all continues_word s ≡ true → list_all is_no_at s ≡ true
letters_without [] h = refl
letters_without (c ∷ cs) h =
    let p = and_parts (continues_word c) (list_all continues_word cs) h in rw (continues_without c p.0) (letters_without cs p.1)

word_without : (s : List ℕ) → is_word s ≡ true → list_all is_no_at s ≡ true
word_without [] h = absurd (cc)
word_without (c ∷ cs) h =
    let p = and_parts (begins_word c) (list_all continues_word cs) h in rw (begins_without c p.0) (letters_without cs p.1)

raised_without : (raised : Bool) (c : ℕ) → eqb c 64 ≡ false → eqb (cased raised c) 64 ≡ false
raised_without false c h = h
raised_without true c h =
    elim (cases_lt c 97) [
      | inl low ↦ rw (lt-ltb c 97 low) h
      | inr high ↦ elim (cases_lt c 123) [
        | inl low ↦ rw (le-ltb c 97 high, lt-ltb c 123 low) (ne_eqb (c - 32) 64 (λ e. omega arith))
        | inr other ↦ rw (le-ltb c 97 high, le-ltb c 123 other) h
      ]
    ]

no_at : (c : ℕ) → is_no_at c ≡ true → eqb c 64 ≡ false
no_at c h = of_test (eqb c 64) h
  where
    of_test : (b : Bool) → not b ≡ true → b ≡ false
    of_test true h = sym h
    of_test false h = refl

camel_without : (raised : Bool) (s : List ℕ) → list_all is_no_at s ≡ true → list_all is_no_at (camel_from raised s) ≡ true
camel_without raised [] h = refl
camel_without raised (c ∷ cs) h =
    let p = and_parts (is_no_at c) (list_all is_no_at cs) h in
    let later = camel_without (eqb c 95) cs p.1 in
    elim (cases_Bool (eqb c 95)) [
      | inl e ↦ rw e (rw e at later)
      | inr e ↦ rw (e, raised_without raised c (no_at c p.0)) (rw e at later)
    ]

untagged : (name : List ℕ) → list_all is_no_at name ≡ true → is_tag name ≡ false
untagged name h =
    elim (cases_Bool (is_tag name)) [
      | inl e ↦ absurd (let at : list_all is_no_at (codes "@type") ≡ true = subst (λ (s : List ℕ). list_all is_no_at s ≡ true) ((bytes_eq-Decides name (codes "@type")).0 e) h in cc)
      | inr e ↦ e
    ]

name_untagged : (names : Names) → AreMemberNames names → (m : ℕ) (f : FieldView) → IsTrue (is_word f.name) → is_tag (member_name names m f) ≡ false
name_untagged LowerCamel apt m f word = untagged (lower_camel f.name) (camel_without false f.name (word_without f.name word))
name_untagged Declared apt m f word = untagged f.name (word_without f.name word)
name_untagged (Given names) apt m f word = of (name_given names.now m f.number) (apt m f.number)
  where
    of : (o : Option (List ℕ)) → IfSome o (λ s. IsUtf8 s × (is_tag s ≡ false)) → is_tag (unwrap_or o (lower_camel f.name)) ≡ false
    of None h = untagged (lower_camel f.name) (camel_without false f.name (word_without f.name word))
    of (Some s) h = h.1

all_as : (P Q : FieldView → Type 0) (fs : List FieldView) → ((f : FieldView) → P f → Q f) → AllByRecursion P fs → AllByRecursion Q fs
all_as P Q [] h each = tt
all_as P Q (f ∷ fs) h each = (h f each.0, all_as P Q fs h each.1)

module _ (pool : Types) (is_pool : IsPool pool) (names : Names) (apt : AreMemberNames names) (Inside : ℕ → Message → written.Json) where
  fields_untagged : (m : ℕ) (fs : Fields) → AllByRecursion (λ f. is_tag (member_name names m f) ≡ false) (message_fields pool m)
      → AreUntagged (fields_json pool names Inside m fs)
  fields_untagged m no_fields each = tt
  fields_untagged m (field n h fs) each = of_field (field_numbered n (message_fields pool m)) refl (fields_untagged m fs each)
    where
      of_field : (o : Option FieldView) → field_numbered n (message_fields pool m) ≡ o → AreUntagged (fields_json pool names Inside m fs)
          → AreUntagged (maybe_member (option_map (λ f. (member_name names m f, holding_json pool names Inside f.kind h)) o) (fields_json pool names Inside m fs))
      of_field None e more = more
      of_field (Some f) e more = (found_in (λ g. is_tag (member_name names m g) ≡ false) n (message_fields pool m) f each e, more)

  pub here_objects : (Inner : ℕ → Message → Type 0) → AreObjects pool (message_here pool names Inside) (IsCoveredHere pool Inner)
  here_objects Inner m (body fs us) (has, none, holds, known, covered) other =
      let is_object : message_here pool names Inside m (body fs us) ≡ written.object (fields_json pool names Inside m fs) =
      ap (λ (w : WellKnown). in_form w fs (fields_json pool names Inside m fs) (only_json pool names Inside w (message_fields pool m) fs) (any_json pool Inside fs)) other in
      let all = message_fields pool m in
      let each =
      all_as (λ f. AreWords (names_of_field f)) (λ f. is_tag (member_name names m f) ≡ false) all
      (λ f words. name_untagged names apt m f (field_word pool is_pool f words)) (fields_words pool is_pool m) in (
        (fields_json pool names Inside m fs, is_object, fields_untagged m fs each),
        λ bare. is_object ∙ ap (λ (ms : written.Members). written.object ms) (no_members_of m fs (subst (λ (l : List FieldView). AreCoveredFields pool Inner l fs) bare covered)),
      )
    where
      no_members_of : (m : ℕ) (fs : Fields) → AreCoveredFields pool Inner [] fs → fields_json pool names Inside m fs ≡ written.no_members
      no_members_of m no_fields covered = refl
      no_members_of m (field n h fs) covered = absurd covered.0

pub objects_at : (pool : Types) (is_pool : IsPool pool) (names : Names) (apt : AreMemberNames names) (levels : ℕ)
    → AreObjects pool (message_json pool names levels) (IsCoveredWithin pool levels)
unfolding message_json IsCoveredWithin
objects_at pool is_pool names apt zero m b covered other = absurd covered
objects_at pool is_pool names apt (suc levels) m b covered other =
    here_objects pool is_pool names apt (message_json pool names levels) (IsCoveredWithin pool levels) m b covered other
