-- The parts of an Any: its members `@type`, the message in it and its bytes.
use Rattle.std.proofs.Common.{◌≡◌, ℕ, ◌+◌, ◌<◌, ◌≤◌, ◌^◌, List, [], ◌∷◌, length, drop, get_or, string_bytes, Bool, true, false, Option, Some, None, Result, Ok, Err, inl, inr, refl, sym, ap, ◌∙◌, subst}
use Rattle.std.specs.Prelude.{◌⊎◌, ◌==◌, is_some, option_map}
use Rattle.std.proofs.lemmas.Bool.{false≢true}
use Rattle.pb_schema.specs.Types.{FieldView, Types, message_fields}
use Rattle.pb_value.specs.Canon.{canon_bytes}
use Rattle.pb_value.specs.Data.{Message, fields_of, get_field}
use Rattle.pb_value.specs.View.{body_view}
use Rattle.pb_value.specs.WellFormed.{IsWellFormed}
use Rattle.pb_value.specs.declared.body.Body.{Body}
use Rattle.pb_json.specs.Given.{NamesGiven}
use Rattle.pb_json_text.specs.Json.{Members, Placed}
use Rattle.pb_json_text.specs.View.{Named, form_view, members_view}
use Rattle.pb_json_text.specs.declared.value.JsonMember.{JsonMember}
use Rattle.pb_json_read.specs.declared.error.JsonReadCause.TheVariants.{RepeatedName, BadValue, TooDeep}
use Rattle.pb_json_read.specs.declared.error.JsonReadError.{JsonReadError}
use Rattle.pb_json_read.specs.declared.rules.JsonRules.{JsonRules}
use Rattle.pb_json_read.specs.Answers.{Answers, Changes}
use Rattle.pb_json_read.specs.Anys.{Tag, any_fields, beside, field_of, is_empty_type, is_tag, message_beside, message_held, only_tag, tag_before, tags, untagged, value_field}
use Rattle.pb_json_read.specs.Anys.{Encodes, ReadsAnyOf, ReadsNamed, ReadsTagged, url_meant}
use Rattle.pb_json_read.specs.Faults.{fault, out_of_memory}
use Rattle.pb_json_read.specs.Names.{field_meant}
use Rattle.pb_json_read.specs.Reads.{AnyOf, InAnyOf, ReadsBeside, ReadsMember, ReadsMemberBeside}
use Rattle.pb_json_read.specs.Steps.{Read, Made, Parts, Then, Unless, given, nothing}
use Rattle.pb_json_read.specs.WellKnown.{string_meant}
use Rattle.pb_json_read.proofs.ReadLemmas.{after_err, after_ok, answers_weaker, changes_weaker, members_next, none_answers, or_weaker}

-- THE MEMBERS `@type`

-- the one there is, after the members before
abbrev pub tag_after : Option Placed → List Tag → Read (Option Placed)
tag_after None ts = only_tag ts
tag_after (Some v) [] = Ok (Some v)
tag_after (Some v) (t ∷ ts) = Err (fault t.0 RepeatedName)

pub tag_last : (v : Option Placed) → tag_after v [] ≡ Ok v
tag_last None = refl
tag_last (Some v) = refl

pub tag_first : (t : Tag) (ts : List Tag) → tag_after None (t ∷ ts) ≡ tag_after (Some t.1) ts
tag_first t [] = refl
tag_first t (s ∷ ts) = refl

module _ (ms : List JsonMember) (i : ℕ) (m : JsonMember) (below : i < length ms) (is : m ≡ get_or ms i m) where
  -- the member, and those after it
  abbrev here : Tag
  here = (m.at, (m.value.at, form_view m.value.form))

  abbrev later : List Tag
  later = tags (members_view (drop (i + 1) ms))

  tags_next : (b : Bool) → is_tag (string_bytes m.name) ≡ b → tags (members_view (drop i ms)) ≡ tag_before b here later
  tags_next b e = ap tags (members_next ms i m below is) ∙ ap (λ (c : Bool). tag_before c here later) e

  pub tag_passed : (v : Option Placed) → is_tag (string_bytes m.name) ≡ false → tag_after v (tags (members_view (drop i ms))) ≡ tag_after v later
  tag_passed v e = ap (tag_after v) (tags_next false e)

  pub tag_found : {A : Type 0} (f : A → Placed) (o : Option A) → is_some o ≡ false → is_tag (string_bytes m.name) ≡ true
      → tag_after (option_map f o) (tags (members_view (drop i ms))) ≡ tag_after (Some here.1) later
  tag_found f None none e = ap (tag_after None) (tags_next true e) ∙ tag_first here later
  tag_found f (Some v) none e = absurd (false≢true (sym none))

  pub tag_again : {A : Type 0} (f : A → Placed) (o : Option A) → is_some o ≡ true → is_tag (string_bytes m.name) ≡ true
      → tag_after (option_map f o) (tags (members_view (drop i ms))) ≡ Err (fault m.at RepeatedName)
  tag_again f None some e = absurd (false≢true some)
  tag_again f (Some v) some e = ap (tag_after (Some (f v))) (tags_next true e)

abbrev refused_message : JsonReadError → Read Message
refused_message e = Err e

abbrev refused_tag : JsonReadError → Read (Option Placed)
refused_tag e = Err e

-- a second one
pub second_refused : (ts : List Tag) (at : ℕ) (e : JsonReadError) → e ≡ fault at RepeatedName → only_tag ts ≡ Err (fault at RepeatedName) → Err e ≡ only_tag ts
second_refused ts at e same is = ap refused_tag same ∙ sym is

-- no member, or some
untagged_some : (ms : List JsonMember) → (length ms ≡ 0 → ⊥) → untagged (members_view ms) ≡ None
untagged_some [] h = absurd (h refl)
untagged_some (m ∷ ms) h = refl

pub untagged_refused : (ms : List JsonMember) (at : ℕ) (b : Bool) (e : JsonReadError) → b ≡ (length ms == 0) → b ≡ false → e ≡ fault at BadValue
    → Err e ≡ given at (untagged (members_view ms))
untagged_refused ms at b e is full same =
    ap refused_message same ∙ ap (λ (o : Option Message). given at o) (sym (untagged_some ms (λ zero. false≢true (sym full ∙ is ∙ ap (λ (n : ℕ). n == 0) zero))))

-- THE BYTES

pub encodes_long : (pool : Types) (t at : ℕ) (b : Message) (e : JsonReadError) → IsWellFormed pool t b → 2 ^ 31 ≤ length (canon_bytes pool t b) → e ≡ fault at BadValue
    → Encodes pool t at b (Err e)
encodes_long pool t at b e well long is = inr (well, long, is)

pub encodes_deep : (pool : Types) (t at : ℕ) (b : Message) (e : JsonReadError) → (e ≡ out_of_memory) ⊎ ((¬ IsWellFormed pool t b) × (e ≡ fault at TooDeep))
    → (e ≡ out_of_memory) ⊎ Encodes pool t at b (Err e)
encodes_deep pool t at b e (inl none) = inl none
encodes_deep pool t at b e (inr deep) = inr (inl deep)

pub encodes_done : (pool : Types) (t at : ℕ) (b : Message) (bs : List ℕ) → IsWellFormed pool t b → length (canon_bytes pool t b) < 2 ^ 31 → bs ≡ canon_bytes pool t b
    → Encodes pool t at b (Ok bs)
encodes_done pool t at b bs well short is = (well, subst (λ (s : List ℕ). length s < 2 ^ 31) (sym is) short, is)

-- THE OTHER MEMBERS

module _ (pool : Types) (rules : JsonRules) (names : NamesGiven) (meant : List ℕ → Option FieldView) (m : Named) (p : Parts) where
  pub beside_tag : is_tag m.1 ≡ true → ReadsMemberBeside pool rules names meant m p (Ok p)
  beside_tag is = subst (λ (b : Bool). Unless b p (λ r. ReadsMember pool rules names (meant m.1) m p r) (Ok p)) (sym is) refl

  pub beside_other : {X : Type 0} (f : Option FieldView) (new : Parts) (r : Result X JsonReadError) → is_tag m.1 ≡ false → f ≡ meant m.1
      → Changes new (ReadsMember pool rules names f m p) r → Changes new (ReadsMemberBeside pool rules names meant m p) r
  beside_other f new r is same h =
      changes_weaker new (ReadsMember pool rules names f m p) (ReadsMemberBeside pool rules names meant m p) r
      (λ o k. subst (λ (b : Bool). Unless b p (λ s. ReadsMember pool rules names (meant m.1) m p s) o) (sym is)
      (subst (λ (g : Option FieldView). ReadsMember pool rules names g m p o) same k)) h

abbrev Same : (r s : Read Message) → Type 0
Same r s = r ≡ s

ok_ok : (x y : Message) → Same (Ok x) (Ok y) → x ≡ y
ok_ok x y same = cc

ok_err : (x : Message) (e : JsonReadError) → Same (Ok x) (Err e) → ⊥
ok_err x e same = cc

-- THE WHOLE

module _ (pool : Types) (rules : JsonRules) (names : NamesGiven) (at : ℕ) (ms : Members) where
  abbrev Beside : (List ℕ → Option FieldView) → Read Parts → Type 0
  Beside meant o = ReadsBeside pool rules names meant nothing ms o

  abbrev Inside : ℕ → Option FieldView → Read Message → Type 0
  Inside t f o = Then (Beside (beside f (field_meant names pool t))) (λ p r. r ≡ given at (message_beside (is_empty_type pool t) f p.message)) o

  -- the message in an Any
  module _ (t : ℕ) where
    pub in_any_plain : (r : Result Body JsonReadError) → field_of pool t ≡ None
        → Answers body_view (Made (Beside (beside None (field_meant names pool t))) (λ p. p.message)) r → Answers body_view (InAnyOf pool rules names at ms t) r
    in_any_plain r is h = subst (λ (f : Option FieldView). Answers body_view (Inside t f) r) (sym is) h

    pub in_any_held : (b : Message) (r : Result Body JsonReadError) → field_of pool t ≡ Some (value_field t)
        → Made (Beside (beside (Some (value_field t)) (field_meant names pool t))) (λ p. p.message) (Ok b)
        → Answers body_view (λ o. o ≡ given at (message_held (is_empty_type pool t) (get_field 1 (fields_of b)))) r → Answers body_view (InAnyOf pool rules names at ms t) r
    in_any_held b r is (Ok p, first, same) h =
        subst (λ (f : Option FieldView). Answers body_view (Inside t f) r) (sym is)
        (answers_weaker body_view (λ o. o ≡ given at (message_held (is_empty_type pool t) (get_field 1 (fields_of b)))) (Inside t (Some (value_field t))) r
        (λ o held. (Ok p, first, subst (λ (v : Message). o ≡ given at (message_held (is_empty_type pool t) (get_field 1 (fields_of v)))) (ok_ok b p.message same) held)) h)
    in_any_held b r is (Err e, first, same) h = absurd (ok_err b e same)

    pub in_any_stops : (e : JsonReadError) → field_of pool t ≡ Some (value_field t)
        → (e ≡ out_of_memory) ⊎ Made (Beside (beside (Some (value_field t)) (field_meant names pool t))) (λ p. p.message) (Err e)
        → (e ≡ out_of_memory) ⊎ InAnyOf pool rules names at ms t (Err e)
    in_any_stops e is (inl none) = inl none
    in_any_stops e is (inr (Ok p, first, same)) = absurd (ok_err p.message e (sym same))
    in_any_stops e is (inr (Err f, first, same)) = inr (subst (λ (g : Option FieldView). Inside t g (Err e)) (sym is) (Err f, first, same))

  -- an Any, by its fields
  module _ (m : ℕ) where
    pub any_none : (e : JsonReadError) → any_fields (message_fields pool m) ≡ None → e ≡ fault at BadValue → Answers body_view (AnyOf pool rules names at ms m) (Err e)
    any_none e is same =
        subst (λ (fs : Option (FieldView × FieldView)). Answers body_view (ReadsAnyOf pool names at Beside fs ms) (Err e)) (sym is) (none_answers body_view at e same)

    module _ (fs : FieldView × FieldView) (are : any_fields (message_fields pool m) ≡ Some fs) where
      pub any_stops : (e : JsonReadError) → (e ≡ out_of_memory) ⊎ (Err e ≡ only_tag (tags ms)) → (e ≡ out_of_memory) ⊎ AnyOf pool rules names at ms m (Err e)
      any_stops e h =
          subst (λ (gs : Option (FieldView × FieldView)). (e ≡ out_of_memory) ⊎ ReadsAnyOf pool names at Beside gs ms (Err e)) (sym are)
          (or_weaker (after_err (only_tag (tags ms)) (λ v r. ReadsTagged pool names at Beside fs ms v r) e) h)

      pub any_tagged : (v : Option Placed) (r : Result Body JsonReadError) → Ok v ≡ only_tag (tags ms)
          → Answers body_view (ReadsTagged pool names at Beside fs ms v) r → Answers body_view (AnyOf pool rules names at ms m) r
      any_tagged v r found h =
          subst (λ (gs : Option (FieldView × FieldView)). Answers body_view (ReadsAnyOf pool names at Beside gs ms) r) (sym are)
          (answers_weaker body_view (ReadsTagged pool names at Beside fs ms v) (ReadsAnyOf pool names at Beside (Some fs) ms) r
          (λ o k. after_ok (only_tag (tags ms)) v (λ w s. ReadsTagged pool names at Beside fs ms w s) o found k) h)

      pub any_named : (v : Placed) (url : Option (List ℕ × ℕ)) (r : Result Body JsonReadError) → Ok (Some v) ≡ only_tag (tags ms)
          → url ≡ string_meant (url_meant pool) v.1 → Answers body_view (ReadsNamed pool names at Beside fs v.0 url) r → Answers body_view (AnyOf pool rules names at ms m) r
      any_named v url r found is h =
          any_tagged (Some v) r found (subst (λ (u : Option (List ℕ × ℕ)). Answers body_view (ReadsNamed pool names at Beside fs v.0 u) r) is h)
