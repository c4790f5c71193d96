-- A JSON value is read as one thing at most, or has one first fault.
use Rattle.std.proofs.Common.{◌≡◌, ℕ, ◌<◌, ◌≤◌, ◌^◌, List, length, Bool, true, false, Option, Some, None, Ok, Err, inl, inr, refl, sym, ap, ◌∙◌, subst, arith}
use Rattle.std.proofs.lemmas.Bool.{false≢true}
use Rattle.pb_schema.specs.declared.types.Kind.{Kind}
use Rattle.pb_schema.specs.declared.types.Shape.{Shape}
use Rattle.pb_schema.specs.declared.types.Shape.TheVariants as shape
use Rattle.pb_schema.specs.Types.{FieldView, Types, field_numbered, message_fields}
use Rattle.pb_schema.specs.Kinds.{message_of_kind}
use Rattle.pb_schema.specs.Scalar.{Scalar}
use Rattle.pb_value.specs.Data.{Datum, Datums, no_datums, Entries, Holding, Message}
use Rattle.pb_json.specs.declared.well_known.WellKnown.{WellKnown}
use Rattle.pb_json.specs.declared.well_known.WellKnown.TheVariants as form
use Rattle.pb_json.specs.Given.{NamesGiven}
use Rattle.pb_json.specs.WellKnown.{well_known}
use Rattle.pb_json_text.specs.Json.{Json, null, boolean, number, string, array, object, Elements, no_elements, element, Members, no_members, member, Placed}
use Rattle.pb_json_read.specs.declared.rules.JsonRules.{JsonRules}
use Rattle.pb_json_read.specs.Names.{field_meant}
use Rattle.pb_json_read.specs.Steps.{Read, After, Then, Made, NoValue, Parts, nothing, Entered, none_entered, Mapped, with_number, with_oneof, with_held, with_entry, with_datum, is_absent, Unless}
use Rattle.pb_json_read.specs.Steps.{ReadsScalar, ReadsOf, ReadsSingle, ReadsShape, ReadsHeld, ReadsField, ReadsUnder, ReadsEntry}
use Rattle.pb_json_read.specs.Reads.{ReadsMembers, ReadsBeside, ReadsEntries, ReadsElements, ReadsValue, ReadsContent, ReadsMessage}
use Rattle.pb_json_read.specs.Anys.{any_fields, is_tag, Encodes, ReadsAny, ReadsAnyOf, ReadsEncoded, ReadsInAny, ReadsNamed, ReadsTagged}
use Rattle.pb_json_read.specs.Forms.{ReadsAlone, Where, ReadsFlat, ReadsSole, ReadsNested, ReadsDeep, ReadsDynamic, ReadsForm}
use Rattle.pb_json_read.specs.Reads.{OfObject, OfArray, OfLeaf}
use Rattle.pb_json_read.specs.WellKnown.{is_sole, field_for}
use Rattle.pb_json_read.proofs.UniqueScalars.{IsOne, scalar_one, key_of_one}

after_one : {A B : Type 0} (r : Read A) (Next : A → Read B → Type 0) → ((x : A) → IsOne (Next x)) → IsOne (After r Next)
after_one (Ok x) Next one o p a b = one x o p a b
after_one (Err e) Next one o p a b = a ∙ sym b

then_one : {A B : Type 0} (First : Read A → Type 0) (Next : A → Read B → Type 0) → IsOne First → ((x : A) → IsOne (Next x)) → IsOne (Then First Next)
then_one {A} {B} First Next first one o p (r, a, b) (s, c, d) =
    after_one r Next one o p b (subst (λ (t : Read A). After t Next p) (sym (first r s a c)) d)

made_one : {A B : Type 0} (First : Read A → Type 0) (f : A → B) → IsOne First → IsOne (Made First f)
made_one First f first = then_one First (λ x r. r ≡ Ok (f x)) first (λ x o p a b. a ∙ sym b)

none_one : {A : Type 0} (at : ℕ) → IsOne (λ (o : Read A). NoValue at o)
none_one at o p a b = a ∙ sym b

module _ (pool : Types) (rules : JsonRules) (names : NamesGiven) where
  plain_one : (k : Kind) (at : ℕ) (j : Json) → IsOne (ReadsScalar pool rules k at j)
  plain_one k at j (Ok (Some c)) (Ok (Some d)) a b = ap (λ (x : Datum). Ok (Some x)) (scalar_one pool k j c d a b)
  plain_one k at j (Ok (Some c)) (Ok None) a b = absurd (b.0 c a)
  plain_one k at j (Ok (Some c)) (Err e) a b = absurd (b.0 c a)
  plain_one k at j (Ok None) (Ok (Some d)) a b = absurd (a.0 d b)
  plain_one k at j (Ok None) (Ok None) a b = refl
  plain_one k at j (Ok None) (Err e) a b = absurd (false≢true (sym b.1 ∙ a.1))
  plain_one k at j (Err e) (Ok (Some d)) a b = absurd (a.0 d b)
  plain_one k at j (Err e) (Ok None) a b = absurd (false≢true (sym a.1 ∙ b.1))
  plain_one k at j (Err e) (Err f) a b = ap Err (a.2 ∙ sym b.2)

  single_one : (k : Kind) (at : ℕ) (j : Json) (Inside : ℕ → Read Message → Type 0) → ((m : ℕ) → IsOne (Inside m)) → IsOne (ReadsSingle pool rules k at j Inside)
  single_one k at j Inside one = of_one (message_of_kind k)
    where
      of_one : (t : Option ℕ) → IsOne (ReadsOf t (ReadsScalar pool rules k at j) Inside)
      of_one None = plain_one k at j
      of_one (Some m) = made_one (Inside m) _ (one m)

  shape_one : (s : Shape) (Single : Read (Option Datum) → Type 0) (Listed : Read Datums → Type 0) (Mapped : Kind → Read Entries → Type 0)
      → IsOne Single → IsOne Listed → ((k : Kind) → IsOne (Mapped k)) → IsOne (ReadsShape s Single Listed Mapped)
  shape_one shape.Implicit Single Listed Mapped a b c = made_one Single _ a
  shape_one shape.Explicit Single Listed Mapped a b c = made_one Single _ a
  shape_one (shape.OneofMember o) Single Listed Mapped a b c = made_one Single _ a
  shape_one (shape.List p) Single Listed Mapped a b c = made_one Listed _ b
  shape_one (shape.Map key) Single Listed Mapped a b c = made_one (Mapped key) _ (c key)

  held_one : (f : FieldView) (at : ℕ) (Content : Shape → Kind → Read (Option Holding) → Type 0) (absent : Bool) (p : Parts)
      → ((s : Shape) (k : Kind) → IsOne (Content s k)) → IsOne (ReadsHeld f at Content absent p)
  held_one f at Content true p one o q a b = a ∙ sym b
  held_one f at Content false p one o q a b =
      after_one (with_oneof f.shape at p) (λ x r. Made (Content f.shape f.kind) (λ h. with_held f.shape f.number h x) r)
      (λ x. made_one (Content f.shape f.kind) (λ h. with_held f.shape f.number h x) (one f.shape f.kind)) o q a b

  field_one : (f : Option FieldView) (at : ℕ) (j : Json) (Content : Shape → Kind → Read (Option Holding) → Type 0) (p : Parts)
      → ((s : Shape) (k : Kind) → IsOne (Content s k)) → IsOne (ReadsField pool rules f at j Content p)
  field_one None at j Content p one o q a b = a ∙ sym b
  field_one (Some f) at j Content p one o q a b =
      after_one (with_number f.number at p) (λ x r. ReadsHeld f at Content (is_absent pool f.shape f.kind j) x r)
      (λ x. held_one f at Content (is_absent pool f.shape f.kind j) x one) o q a b

  under_one : (x : Scalar) (at : ℕ) (Value : Read (Option Datum) → Type 0) (es : Entered) → IsOne Value → IsOne (ReadsUnder x at Value es)
  under_one x at Value es one =
      after_one _ (λ before r. Made Value (with_entry x before) r) (λ before. made_one Value (with_entry x before) one)

  entry_one : (key : Kind) (name : List ℕ) (at : ℕ) (Value : Read (Option Datum) → Type 0) (es : Entered) → IsOne Value → IsOne (ReadsEntry key name at Value es)
  entry_one key name at Value es one (Ok o) (Ok p) (x, a, b) (y, c, d) =
      under_one x at Value es one (Ok o) (Ok p) b (subst (λ (z : Scalar). ReadsUnder z at Value es (Ok p)) (key_of_one key name y x c a) d)
  entry_one key name at Value es one (Ok o) (Err e) (x, a, b) (inl (y, c, d)) =
      under_one x at Value es one (Ok o) (Err e) b (subst (λ (z : Scalar). ReadsUnder z at Value es (Err e)) (key_of_one key name y x c a) d)
  entry_one key name at Value es one (Ok o) (Err e) (x, a, b) (inr c) = absurd (c.0 x a)
  entry_one key name at Value es one (Err e) (Ok p) (inl (x, a, b)) (y, c, d) =
      under_one x at Value es one (Err e) (Ok p) b (subst (λ (z : Scalar). ReadsUnder z at Value es (Ok p)) (key_of_one key name y x c a) d)
  entry_one key name at Value es one (Err e) (Ok p) (inr c) (y, a, b) = absurd (c.0 y a)
  entry_one key name at Value es one (Err e) (Err f) (inl (x, a, b)) (inl (y, c, d)) =
      under_one x at Value es one (Err e) (Err f) b (subst (λ (z : Scalar). ReadsUnder z at Value es (Err f)) (key_of_one key name y x c a) d)
  entry_one key name at Value es one (Err e) (Err f) (inl (x, a, b)) (inr c) = absurd (c.0 x a)
  entry_one key name at Value es one (Err e) (Err f) (inr c) (inl (y, a, b)) = absurd (c.0 y a)
  entry_one key name at Value es one (Err e) (Err f) (inr c) (inr d) = ap Err (c.1 ∙ sym d.1)

  map_one : (Entering : Read Entered → Type 0) → IsOne Entering → IsOne (Mapped Entering)
  map_one Entering one = made_one Entering (λ s. s.entries) one

  alone_one : (f : Option FieldView) (at : ℕ) (Content : Shape → Kind → Read (Option Holding) → Type 0)
      → ((s : Shape) (k : Kind) → IsOne (Content s k)) → IsOne (ReadsAlone f at Content)
  alone_one None at Content one = none_one at
  alone_one (Some f) at Content one = made_one (Content f.shape f.kind) (λ h. (with_held f.shape f.number h nothing).message) (one f.shape f.kind)

  where_one : (b : Bool) (at : ℕ) (Inside : Read Message → Type 0) → IsOne Inside → IsOne (Where b at Inside)
  where_one true at Inside one = one
  where_one false at Inside one = none_one at

  given_one : (x : Read Message) → IsOne (λ (o : Read Message). o ≡ x)
  given_one x o p a b = a ∙ sym b

  module _ (at : ℕ) (j : Json) (Mapped : Kind → Kind → Read Entries → Type 0) (Listed : Kind → Read Datums → Type 0)
      (mapped : (key k : Kind) → IsOne (Mapped key k)) (listed : (k : Kind) → IsOne (Listed k)) where
    flat_one : (s : Shape) (k : Kind) → IsOne (ReadsFlat pool rules at j Mapped Listed s k)
    flat_one s k = shape_one s _ _ _ (plain_one k at j) (listed k) (λ key. mapped key k)

    sole_one : (m : ℕ) → IsOne (ReadsSole pool rules at j Mapped Listed m)
    sole_one m = alone_one (field_numbered 1 (message_fields pool m)) at _ flat_one

    nested_one : (m : ℕ) → IsOne (ReadsNested pool rules at j Mapped Listed m)
    nested_one m = where_one (is_sole (well_known pool m)) at _ (sole_one m)

    deep_one : (s : Shape) (k : Kind) → IsOne (ReadsDeep pool rules at j Mapped Listed s k)
    deep_one s k = shape_one s _ _ _ (single_one k at j _ nested_one) (listed k) (λ key. mapped key k)

    dynamic_one : (m : ℕ) → IsOne (ReadsDynamic pool rules at j Mapped Listed m)
    dynamic_one m = alone_one (field_numbered (field_for j) (message_fields pool m)) at _ deep_one

    form_one : (w : WellKnown) (Plain Tagged : Read Message → Type 0) (m : ℕ) → IsOne Plain → IsOne Tagged
        → IsOne (ReadsForm pool rules at j Mapped Listed w Plain Tagged m)
    form_one form.Other Plain Tagged m one any = one
    form_one form.Wrapper Plain Tagged m one any = sole_one m
    form_one form.Struct Plain Tagged m one any = sole_one m
    form_one form.ListValue Plain Tagged m one any = sole_one m
    form_one form.Value Plain Tagged m one any = dynamic_one m
    form_one form.Timestamp Plain Tagged m one any = given_one _
    form_one form.Duration Plain Tagged m one any = given_one _
    form_one form.FieldMask Plain Tagged m one any = given_one _
    form_one form.Any Plain Tagged m one any = any

  unless_one : (b : Bool) (p : Parts) (First : Read Parts → Type 0) → IsOne First → IsOne (Unless b p First)
  unless_one true p First one o q a b = a ∙ sym b
  unless_one false p First one o q a b = one o q a b

  too_long : (bs : List ℕ) (n : ℕ) → length bs < 2 ^ 31 → length bs ≡ n → 2 ^ 31 ≤ n → ⊥
  too_long bs n below is above = omega (arith, below, is, above)

  encodes_one : (t at : ℕ) (b : Message) → IsOne (Encodes pool t at b)
  encodes_one t at b (Ok x) (Ok y) p q = ap Ok (p.2 ∙ sym q.2)
  encodes_one t at b (Ok x) (Err e) p (inl q) = absurd (q.0 p.0)
  encodes_one t at b (Ok x) (Err e) p (inr q) = absurd (too_long x _ p.1 (ap (λ (s : List ℕ). length s) p.2) q.1)
  encodes_one t at b (Err e) (Ok y) (inl p) q = absurd (p.0 q.0)
  encodes_one t at b (Err e) (Ok y) (inr p) q = absurd (too_long y _ q.1 (ap (λ (s : List ℕ). length s) q.2) p.1)
  encodes_one t at b (Err e) (Err f) (inl p) (inl q) = ap Err (p.1 ∙ sym q.1)
  encodes_one t at b (Err e) (Err f) (inl p) (inr q) = absurd (p.0 q.0)
  encodes_one t at b (Err e) (Err f) (inr p) (inl q) = absurd (q.0 p.0)
  encodes_one t at b (Err e) (Err f) (inr p) (inr q) = ap Err (p.2 ∙ sym q.2)

  module _ (at : ℕ) (Beside : (List ℕ → Option FieldView) → Read Parts → Type 0) (beside : (meant : List ℕ → Option FieldView) → IsOne (Beside meant)) where
    in_any_one : (t : ℕ) → IsOne (ReadsInAny pool names at Beside t)
    in_any_one t = then_one _ _ (beside _) (λ p. given_one _)

    encoded_one : (t : ℕ) → IsOne (ReadsEncoded pool names at Beside t)
    encoded_one t = then_one _ _ (in_any_one t) (λ b. encodes_one t at b)

    named_one : (fs : FieldView × FieldView) (url_at : ℕ) (url : Option (List ℕ × ℕ)) → IsOne (ReadsNamed pool names at Beside fs url_at url)
    named_one fs url_at None = none_one url_at
    named_one fs url_at (Some url) = made_one _ _ (encoded_one url.1)

    tagged_one : (fs : FieldView × FieldView) (ms : Members) (v : Option Placed) → IsOne (ReadsTagged pool names at Beside fs ms v)
    tagged_one fs ms None = given_one _
    tagged_one fs ms (Some v) = named_one fs v.0 _

    any_of_one : (fs : Option (FieldView × FieldView)) (ms : Members) → IsOne (ReadsAnyOf pool names at Beside fs ms)
    any_of_one None ms = none_one at
    any_of_one (Some fs) ms = after_one _ _ (λ v. tagged_one fs ms v)

    any_one : (m : ℕ) (ms : Members) → IsOne (ReadsAny pool names at Beside m ms)
    any_one m ms = any_of_one (any_fields (message_fields pool m)) ms

  object_one : (at : ℕ) (ms : Members) (Fields : (List ℕ → Option FieldView) → Read Parts → Type 0) (Beside : (List ℕ → Option FieldView) → Read Parts → Type 0)
      (Mapped : Kind → Kind → Read Entries → Type 0)
      → ((meant : List ℕ → Option FieldView) → IsOne (Fields meant)) → ((meant : List ℕ → Option FieldView) → IsOne (Beside meant)) → ((key k : Kind) → IsOne (Mapped key k))
      → (m : ℕ) → IsOne (OfObject pool rules names at ms Fields Beside Mapped m)
  object_one at ms Fields Beside Mapped fields beside mapped m =
      form_one at (object ms) Mapped (λ e r. NoValue at r) mapped (λ e. none_one at) (well_known pool m) _ _ m
      (made_one (Fields (field_meant names pool m)) (λ p. p.message) (fields (field_meant names pool m))) (any_one at Beside beside m ms)

  array_one : (at : ℕ) (js : Elements) (Listed : Kind → Read Datums → Type 0) → ((k : Kind) → IsOne (Listed k)) → (m : ℕ) → IsOne (OfArray pool rules at js Listed m)
  array_one at js Listed listed m =
      form_one at (array js) (λ key e r. NoValue at r) Listed (λ key e. none_one at) listed (well_known pool m) (λ r. NoValue at r) (λ r. NoValue at r) m (none_one at)
      (none_one at)

  leaf_one : (at : ℕ) (j : Json) (m : ℕ) → IsOne (OfLeaf pool rules at j m)
  leaf_one at j m =
      form_one at j (λ key e r. NoValue at r) (λ e r. NoValue at r) (λ key e. none_one at) (λ e. none_one at) (well_known pool m) (λ r. NoValue at r)
      (λ r. NoValue at r) m (none_one at) (none_one at)

  mutual
    pub members_one : (meant : List ℕ → Option FieldView) (p : Parts) (ms : Members) → IsOne (ReadsMembers pool rules names meant p ms)
    members_one meant p no_members o q a b = a ∙ sym b
    members_one meant p (member at name value_at j ms) o q a b =
        then_one _ _ (field_one (meant name) at j _ p (λ s k. content_one s k value_at j)) (λ x. members_one meant x ms) o q a b

    pub beside_one : (meant : List ℕ → Option FieldView) (p : Parts) (ms : Members) → IsOne (ReadsBeside pool rules names meant p ms)
    beside_one meant p no_members o q a b = a ∙ sym b
    beside_one meant p (member at name value_at j ms) o q a b =
        then_one _ _ (unless_one (is_tag name) p _ (field_one (meant name) at j _ p (λ s k. content_one s k value_at j))) (λ x. beside_one meant x ms) o q a b

    pub entries_one : (key k : Kind) (es : Entered) (ms : Members) → IsOne (ReadsEntries pool rules names key k es ms)
    entries_one key k es no_members o q a b = a ∙ sym b
    entries_one key k es (member at name value_at j ms) o q a b =
        then_one _ _ (entry_one key name at _ es (value_one k value_at j)) (λ x. entries_one key k x ms) o q a b

    pub elements_one : (k : Kind) (ds : Datums) (js : Elements) → IsOne (ReadsElements pool rules names k ds js)
    elements_one k ds no_elements o q a b = a ∙ sym b
    elements_one k ds (element at j js) o q a b = then_one _ _ (value_one k at j) (λ d. elements_one k (with_datum ds d) js) o q a b

    pub value_one : (k : Kind) (at : ℕ) (j : Json) → IsOne (ReadsValue pool rules names k at j)
    value_one k at (object ms) o q a b =
        single_one k at (object ms) _ (object_one at ms _ _ _ (λ meant. members_one meant nothing ms) (λ meant. beside_one meant nothing ms) (λ key e. map_one (λ r. ReadsEntries pool rules names key e none_entered ms r) (entries_one key e none_entered ms))) o q a b
    value_one k at (array js) o q a b = single_one k at (array js) _ (array_one at js _ (λ e. elements_one e no_datums js)) o q a b
    value_one k at null o q a b = single_one k at null _ (leaf_one at null) o q a b
    value_one k at (boolean c) o q a b = single_one k at (boolean c) _ (leaf_one at (boolean c)) o q a b
    value_one k at (number s) o q a b = single_one k at (number s) _ (leaf_one at (number s)) o q a b
    value_one k at (string s) o q a b = single_one k at (string s) _ (leaf_one at (string s)) o q a b

    pub content_one : (s : Shape) (k : Kind) (at : ℕ) (j : Json) → IsOne (ReadsContent pool rules names s k at j)
    content_one s k at (object ms) o q a b =
        shape_one s _ _ _ (single_one k at (object ms) _ (object_one at ms _ _ _ (λ meant. members_one meant nothing ms) (λ meant. beside_one meant nothing ms) (λ key e. map_one (λ r. ReadsEntries pool rules names key e none_entered ms r) (entries_one key e none_entered ms))))
        (none_one at) (λ key. map_one (λ r. ReadsEntries pool rules names key k none_entered ms r) (entries_one key k none_entered ms)) o q a b
    content_one s k at (array js) o q a b =
        shape_one s _ _ _ (single_one k at (array js) _ (array_one at js _ (λ e. elements_one e no_datums js))) (elements_one k no_datums js) (λ key. none_one at)
        o q a b
    content_one s k at null o q a b = shape_one s _ _ _ (single_one k at null _ (leaf_one at null)) (none_one at) (λ key. none_one at) o q a b
    content_one s k at (boolean c) o q a b = shape_one s _ _ _ (single_one k at (boolean c) _ (leaf_one at (boolean c))) (none_one at) (λ key. none_one at) o q a b
    content_one s k at (number t) o q a b = shape_one s _ _ _ (single_one k at (number t) _ (leaf_one at (number t))) (none_one at) (λ key. none_one at) o q a b
    content_one s k at (string t) o q a b = shape_one s _ _ _ (single_one k at (string t) _ (leaf_one at (string t))) (none_one at) (λ key. none_one at) o q a b

  pub message_one : (m at : ℕ) (j : Json) → IsOne (ReadsMessage pool rules names m at j)
  message_one m at (object ms) =
      object_one at ms _ _ _ (λ meant. members_one meant nothing ms) (λ meant. beside_one meant nothing ms) (λ key e. map_one (λ r. ReadsEntries pool rules names key e none_entered ms r) (entries_one key e none_entered ms)) m
  message_one m at (array js) = array_one at js _ (λ e. elements_one e no_datums js) m
  message_one m at null = leaf_one at null m
  message_one m at (boolean b) = leaf_one at (boolean b) m
  message_one m at (number s) = leaf_one at (number s) m
  message_one m at (string s) = leaf_one at (string s) m
