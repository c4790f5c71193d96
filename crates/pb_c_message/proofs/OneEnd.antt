-- A change that C says ends in one way: what it makes of a message is a function of what the steps say.
use Rattle.std.proofs.Common.{◌≡◌, ◌-◌, ℕ, List, [], ◌∷◌, map, Option, Some, None, option_map, option_and_then, refl, sym, ap, ◌∙◌, inl, inr, subst, Result, Ok, Err}
use Rattle.std.proofs.Math.Path.{fun_ext}
use Rattle.std.specs.Prelude.{◌⊎◌, suc, IsSomeAnd}
use Rattle.pb_schema.specs.Scalar.{Scalar}
use Rattle.pb_value.specs.Data.{Datum, Holding, one, message, Message, fields_of, get_field, get_entry}
use Rattle.pb_value.specs.Change.{with_fields}
use Rattle.pb_value.specs.Dynamic.{Dynamic}
use Rattle.pb_value.specs.Inner.{nth_datum, type_named}
use Rattle.pb_value.specs.View.{key_view}
use Rattle.pb_place.specs.Ask.{message_in}
use Rattle.pb_place.specs.At.{Part, message_part, scalar_part, list_part, map_part, content_part, value_part, step, part_at, Seen, seen, at}
use Rattle.pb_place.specs.Changed.{Edit, set, clear, push, insert, remove, drop_unknown, edited, levels_above, most_at, target, refusal, refusal_at}
use Rattle.pb_place.specs.Changed.{field_place, IsChangedAt, IsFieldChanged}
use Rattle.pb_place.specs.Changed.{set_element, remove_element, index_place, element_by, element_place, refusal_by, element_refusal, IsElementChanged}
use Rattle.pb_place.specs.Replaced.{in_message, in_list, in_map, in_nth, in_entry, in_field, in_datum, replaced, message_or}
use Rattle.pb_place.specs.declared.error.ChangeError.{ChangeError}
use Rattle.pb_place.specs.declared.error.ChangeError.TheVariants as cause
use Rattle.pb_place.specs.declared.step.PlaceStep.{PlaceStep}
use Rattle.pb_place.specs.declared.step.PlaceStep.TheVariants as place_step
use Rattle.pb_c_message.specs.declared.value.PlainValue.{PlainValue}
use Rattle.pb_c_message.specs.Places.{Bytes, Step, field, index, key, step_view, places}
use Rattle.pb_c_message.specs.NewValue.{value_said}
use Rattle.pb_c_message.specs.Ends.{Outcome, made, unmade, Ends, FieldEnds, ElementEnds, ByIndex, EntryRemoved, OrElse}
use Rattle.pb_c_message.specs.Ends.{entry_place, put_ends, ends_at, ends, memory, IsEnded}
use Rattle.pb_c_message.specs.declared.changing.PlainChange.{PlainChange}
use Rattle.pb_c_message.specs.declared.changing.Put.{Put}
use Rattle.pb_c_message.specs.declared.changing.Put.TheVariants.{Set, Push, Insert}
use Rattle.pb_c_message.specs.declared.changing.PlainChange.TheVariants as change
use Rattle.pb_c_message.specs.declared.unchanged.Unchanged.{Unchanged}
use Rattle.pb_c_message.specs.declared.unchanged.Unchanged.TheVariants.{BadValue, Refused}

-- WHERE STEPS LEAD

abbrev step_by : Step → Part → Option Part
step_by (field n) (message_part v) = option_map (content_part v.pool (type_named v.pool v.kind n)) (get_field n (fields_of v.body))
step_by (field n) (scalar_part d) = None
step_by (field n) (list_part pool t ds) = None
step_by (field n) (map_part pool t es) = None
step_by (index i) (message_part v) = None
step_by (index i) (scalar_part d) = None
step_by (index i) (list_part pool t ds) = option_map (value_part pool t) (nth_datum ds i)
step_by (index i) (map_part pool t es) = None
step_by (key k) (message_part v) = None
step_by (key k) (scalar_part d) = None
step_by (key k) (list_part pool t ds) = None
step_by (key k) (map_part pool t es) = option_map (value_part pool t) (get_entry k es)

abbrev part_by : List Step → Part → Option Part
part_by [] x = Some x
part_by (s ∷ p) x = option_and_then (part_by p) (step_by s x)

step_is : (s : PlaceStep) (x : Part) → step s x ≡ step_by (step_view s) x
step_is (place_step.Field n) (message_part v) = refl
step_is (place_step.Field n) (scalar_part d) = refl
step_is (place_step.Field n) (list_part pool t ds) = refl
step_is (place_step.Field n) (map_part pool t es) = refl
step_is (place_step.Index i) (message_part v) = refl
step_is (place_step.Index i) (scalar_part d) = refl
step_is (place_step.Index i) (list_part pool t ds) = refl
step_is (place_step.Index i) (map_part pool t es) = refl
step_is (place_step.Key k) (message_part v) = refl
step_is (place_step.Key k) (scalar_part d) = refl
step_is (place_step.Key k) (list_part pool t ds) = refl
step_is (place_step.Key k) (map_part pool t es) = refl

then_same : (f g : Part → Option Part) → ((x : Part) → f x ≡ g x) → (o : Option Part) → option_and_then f o ≡ option_and_then g o
then_same f g same None = refl
then_same f g same (Some x) = same x

part_is : (p : List PlaceStep) (x : Part) → part_at p x ≡ part_by (map step_view p) x
part_is [] x = refl
part_is (s ∷ p) x = then_same (part_at p) (part_by (map step_view p)) (part_is p) (step s x) ∙ ap (option_and_then (part_by (map step_view p))) (step_is s x)

-- what is replaced, where the steps say this
abbrev replaced_by : List Step → Message → Holding → Holding
replaced_by [] new h = in_message (λ v. new) h
replaced_by (field n ∷ p) new h = in_message (λ v. with_fields v (in_field (replaced_by p new) n (fields_of v))) h
replaced_by (index i ∷ p) new h = in_list (in_nth (in_datum (replaced_by p new)) i) h
replaced_by (key x ∷ p) new h = in_map (in_entry (in_datum (replaced_by p new)) x) h

replaced_is : (p : List PlaceStep) (new : Message) → replaced p new ≡ replaced_by (map step_view p) new
replaced_is [] new = fun_ext (λ h. refl)
replaced_is (place_step.Field n ∷ p) new =
    fun_ext (λ h. ap (λ (f : Holding → Holding). in_message (λ v. with_fields v (in_field f n (fields_of v))) h) (replaced_is p new))
replaced_is (place_step.Index i ∷ p) new = fun_ext (λ h. ap (λ (f : Holding → Holding). in_list (in_nth (in_datum f) i) h) (replaced_is p new))
replaced_is (place_step.Key k ∷ p) new = fun_ext (λ h. ap (λ (f : Holding → Holding). in_map (in_entry (in_datum f) (key_view k)) h) (replaced_is p new))

abbrev levels_by : List Step → ℕ
levels_by [] = 0
levels_by (field n ∷ p) = suc (levels_by p)
levels_by (index i ∷ p) = levels_by p
levels_by (key x ∷ p) = levels_by p

levels_is : (p : List PlaceStep) → levels_above p ≡ levels_by (map step_view p)
levels_is [] = refl
levels_is (place_step.Field n ∷ p) = ap suc (levels_is p)
levels_is (place_step.Index i ∷ p) = levels_is p
levels_is (place_step.Key k ∷ p) = levels_is p

-- places that say the same
abbrev Alike : List PlaceStep → List PlaceStep → Type 0
Alike p q = map step_view p ≡ map step_view q

target_same : (p q : List PlaceStep) (v : Dynamic) → Alike p q → target p (message_part v) ≡ target q (message_part v)
target_same p q v same =
    ap (λ x. option_and_then message_in (option_map seen x))
    (part_is p (message_part v) ∙ ap (λ s. part_by s (message_part v)) same ∙ sym (part_is q (message_part v)))

at_same : (p q : List PlaceStep) (v : Dynamic) → Alike p q → at p v ≡ at q v
at_same p q v same =
    ap (option_map seen) (part_is p (message_part v) ∙ ap (λ s. part_by s (message_part v)) same ∙ sym (part_is q (message_part v)))

most_same : (p q : List PlaceStep) → Alike p q → most_at p ≡ most_at q
most_same p q same = ap (λ (n : ℕ). 100 - n) (levels_is p ∙ ap levels_by same ∙ sym (levels_is q))

replaced_same : (p q : List PlaceStep) (new : Message) → Alike p q → replaced p new ≡ replaced q new
replaced_same p q new same = replaced_is p new ∙ ap (λ s. replaced_by s new) same ∙ sym (replaced_is q new)

-- PLACES THAT END AT A FIELD, AN INDEX OR A KEY

-- the steps before the last one, and what that is
abbrev end_by : {A : Type 0} → (Step → Option A) → List Step → Option (List Step × A)
end_by last [] = None
end_by last (s ∷ []) = option_map (λ a. ([], a)) (last s)
end_by last (s ∷ t ∷ p) = option_map (λ q. (s ∷ q.0, q.1)) (end_by last (t ∷ p))

abbrev last_field : Step → Option ℕ
last_field (field n) = Some n
last_field (index i) = None
last_field (key x) = None

abbrev last_index : Step → Option ℕ
last_index (field n) = None
last_index (index i) = Some i
last_index (key x) = None

abbrev last_key : Step → Option Scalar
last_key (field n) = None
last_key (index i) = None
last_key (key x) = Some x

abbrev viewed : {A : Type 0} → Option (List PlaceStep × A) → Option (List Step × A)
viewed o = option_map (λ q. (map step_view q.0, q.1)) o

longer : {A : Type 0} (s : PlaceStep) (o : Option (List PlaceStep × A)) (b : Option (List Step × A)) → viewed o ≡ b
    → viewed (option_map (λ q. (s ∷ q.0, q.1)) o) ≡ option_map (λ q. (step_view s ∷ q.0, q.1)) b
longer s None b is = ap (option_map (λ q. (step_view s ∷ q.0, q.1))) is
longer s (Some q) b is = ap (option_map (λ q. (step_view s ∷ q.0, q.1))) is

field_is : (p : List PlaceStep) → viewed (field_place p) ≡ end_by last_field (map step_view p)
field_is [] = refl
field_is (place_step.Field n ∷ []) = refl
field_is (place_step.Index i ∷ []) = refl
field_is (place_step.Key k ∷ []) = refl
field_is (place_step.Field n ∷ t ∷ p) = longer (place_step.Field n) (field_place (t ∷ p)) (end_by last_field (map step_view (t ∷ p))) (field_is (t ∷ p))
field_is (place_step.Index i ∷ t ∷ p) = longer (place_step.Index i) (field_place (t ∷ p)) (end_by last_field (map step_view (t ∷ p))) (field_is (t ∷ p))
field_is (place_step.Key k ∷ t ∷ p) = longer (place_step.Key k) (field_place (t ∷ p)) (end_by last_field (map step_view (t ∷ p))) (field_is (t ∷ p))

index_is : (p : List PlaceStep) → viewed (index_place p) ≡ end_by last_index (map step_view p)
index_is [] = refl
index_is (place_step.Field n ∷ []) = refl
index_is (place_step.Index i ∷ []) = refl
index_is (place_step.Key k ∷ []) = refl
index_is (place_step.Field n ∷ t ∷ p) = longer (place_step.Field n) (index_place (t ∷ p)) (end_by last_index (map step_view (t ∷ p))) (index_is (t ∷ p))
index_is (place_step.Index i ∷ t ∷ p) = longer (place_step.Index i) (index_place (t ∷ p)) (end_by last_index (map step_view (t ∷ p))) (index_is (t ∷ p))
index_is (place_step.Key k ∷ t ∷ p) = longer (place_step.Key k) (index_place (t ∷ p)) (end_by last_index (map step_view (t ∷ p))) (index_is (t ∷ p))

entry_is : (p : List PlaceStep) → viewed (entry_place p) ≡ end_by last_key (map step_view p)
entry_is [] = refl
entry_is (place_step.Field n ∷ []) = refl
entry_is (place_step.Index i ∷ []) = refl
entry_is (place_step.Key k ∷ []) = refl
entry_is (place_step.Field n ∷ t ∷ p) = longer (place_step.Field n) (entry_place (t ∷ p)) (end_by last_key (map step_view (t ∷ p))) (entry_is (t ∷ p))
entry_is (place_step.Index i ∷ t ∷ p) = longer (place_step.Index i) (entry_place (t ∷ p)) (end_by last_key (map step_view (t ∷ p))) (entry_is (t ∷ p))
entry_is (place_step.Key k ∷ t ∷ p) = longer (place_step.Key k) (entry_place (t ∷ p)) (end_by last_key (map step_view (t ∷ p))) (entry_is (t ∷ p))

fields_same : (p q : List PlaceStep) → Alike p q → viewed (field_place p) ≡ viewed (field_place q)
fields_same p q same = field_is p ∙ ap (end_by last_field) same ∙ sym (field_is q)

indexes_same : (p q : List PlaceStep) → Alike p q → viewed (index_place p) ≡ viewed (index_place q)
indexes_same p q same = index_is p ∙ ap (end_by last_index) same ∙ sym (index_is q)

entries_same : (p q : List PlaceStep) → Alike p q → viewed (entry_place p) ≡ viewed (entry_place q)
entries_same p q same = entry_is p ∙ ap (end_by last_key) same ∙ sym (entry_is q)

-- ONE END

abbrev or_this : {A : Type 0} → A → Option A → A
or_this a None = a
or_this a (Some b) = b

some_same : {A : Type 0} (a b : A) → Some a ≡ Some b → a ≡ b
some_same a b e = ap (or_this a) e

some_none : {A : Type 0} (a : A) → Some a ≡ None → ⊥
some_none a e = absurd (cc)

-- ends that have the same cause, and one message if there is none
one_of_both :
    (c d : Option ChangeError) (P Q : Dynamic → Type 0) → c ≡ d → ((a b : Dynamic) → P a → Q b → a ≡ b)
    → (o r : Outcome) → Ends c P o → Ends d Q r → o ≡ r
one_of_both None None P Q same alike (made a) (made b) is also = ap made (alike a b is also)
one_of_both None None P Q same alike (made a) (unmade u) is also = absurd also
one_of_both None None P Q same alike (unmade u) r is also = absurd is
one_of_both None (Some d) P Q same alike o r is also = absurd (some_none d (sym same))
one_of_both (Some c) None P Q same alike o r is also = absurd (some_none c same)
one_of_both (Some c) (Some d) P Q same alike o r is also = is ∙ ap (λ x. unmade (Refused x)) (some_same c d same) ∙ sym also

-- one message is made of the message at a place
one_changed : (t u : Option Dynamic) (f g : Dynamic → Dynamic) → t ≡ u → ((w : Dynamic) → f w ≡ g w) → (a b : Dynamic)
    → IsSomeAnd t (λ w. a ≡ f w) → IsSomeAnd u (λ w. b ≡ g w) → a ≡ b
one_changed None u f g same fs a b is also = absurd is
one_changed (Some w) None f g same fs a b is also = absurd also
one_changed (Some w) (Some x) f g same fs a b is also = is ∙ fs w ∙ ap g (some_same w x same) ∙ sym also

changed_same : (p q : List PlaceStep) (e : Edit) (v a b : Dynamic) → Alike p q → IsChangedAt p e v a → IsChangedAt q e v b → a ≡ b
changed_same p q e v a b same =
    one_changed (target p (message_part v)) (target q (message_part v))
    (λ w. record v { body = message_or v.body (replaced p (edited e w).body (one (message v.body))) })
    (λ w. record v { body = message_or v.body (replaced q (edited e w).body (one (message v.body))) })
    (target_same p q v same)
    (λ w. ap (λ (f : Holding → Holding). record v { body = message_or v.body (f (one (message v.body))) }) (replaced_same p q (edited e w).body same)) a b

message_end :
    (p q : List PlaceStep) (e : Edit) (v : Dynamic) → Alike p q → (o r : Outcome)
    → Ends (refusal (most_at p) e (target p (message_part v))) (IsChangedAt p e v) o
    → Ends (refusal (most_at q) e (target q (message_part v))) (IsChangedAt q e v) r → o ≡ r
message_end p q e v same =
    one_of_both (refusal (most_at p) e (target p (message_part v))) (refusal (most_at q) e (target q (message_part v))) (IsChangedAt p e v) (IsChangedAt q e v)
    (ap (λ n. refusal n e (target p (message_part v))) (most_same p q same) ∙ ap (refusal (most_at q) e) (target_same p q v same))
    (λ a b. changed_same p q e v a b same)

module _ {A : Type 0} (a b : List PlaceStep × A) (same : viewed (Some a) ≡ viewed (Some b)) where
  both_same : ◌≡◌ {A = List Step × A} (map step_view a.0, a.1) (map step_view b.0, b.1)
  both_same = some_same (map step_view a.0, a.1) (map step_view b.0, b.1) same

  before_same : Alike a.0 b.0
  before_same = ap (λ q. q.0) both_same

  last_same : a.1 ≡ b.1
  last_same = ap (λ q. q.1) both_same

-- why a change of a field is refused, by the place of its message
abbrev refused_by : (ℕ → Edit) → Dynamic → Option (List PlaceStep × ℕ) → Option ChangeError
refused_by e v None = Some cause.Absent
refused_by e v (Some q) = refusal (most_at q.0) (e q.1) (target q.0 (message_part v))

refused_is : (p : List PlaceStep) (e : ℕ → Edit) (v : Dynamic) (o : Option (List PlaceStep × ℕ)) → field_place p ≡ o → refusal_at p e v ≡ refused_by e v o
refused_is p e v None is = rw is refl
refused_is p e v (Some q) is = let same = is in cc

refused_same : (e : ℕ → Edit) (v : Dynamic) (a b : Option (List PlaceStep × ℕ)) → viewed a ≡ viewed b → refused_by e v a ≡ refused_by e v b
refused_same e v None None same = refl
refused_same e v None (Some b) same = absurd (some_none (map step_view b.0, b.1) (sym same))
refused_same e v (Some a) None same = absurd (some_none (map step_view a.0, a.1) same)
refused_same e v (Some a) (Some b) same =
    ap (λ n. refusal n (e a.1) (target a.0 (message_part v))) (most_same a.0 b.0 (before_same a b same))
    ∙ ap (λ n. refusal (most_at b.0) (e n) (target a.0 (message_part v))) (last_same a b same)
    ∙ ap (refusal (most_at b.0) (e b.1)) (target_same a.0 b.0 v (before_same a b same))

one_field : (e : ℕ → Edit) (v x y : Dynamic) (a b : Option (List PlaceStep × ℕ)) → viewed a ≡ viewed b
    → IsSomeAnd a (λ q. IsChangedAt q.0 (e q.1) v x) → IsSomeAnd b (λ q. IsChangedAt q.0 (e q.1) v y) → x ≡ y
one_field e v x y None b same is also = absurd is
one_field e v x y (Some a) None same is also = absurd also
one_field e v x y (Some a) (Some b) same is also =
    changed_same a.0 b.0 (e b.1) v x y (before_same a b same) (subst (λ n. IsChangedAt a.0 (e n) v x) (last_same a b same) is) also

field_end : (p q : List PlaceStep) (e : ℕ → Edit) (v : Dynamic) → Alike p q → (o r : Outcome) → FieldEnds p e v o → FieldEnds q e v r → o ≡ r
field_end p q e v same =
    one_of_both (refusal_at p e v) (refusal_at q e v) (IsFieldChanged p e v) (IsFieldChanged q e v)
    (refused_is p e v (field_place p) refl ∙ refused_same e v (field_place p) (field_place q) (fields_same p q same) ∙ sym (refused_is q e v (field_place q) refl))
    (λ a b. one_field e v a b (field_place p) (field_place q) (fields_same p q same))

entry_end :
    (u : Unchanged) (e : Scalar → ℕ → Edit) (v : Dynamic) (a b : Option (List PlaceStep × Scalar)) → viewed a ≡ viewed b → (o r : Outcome)
    → OrElse u a (λ q. FieldEnds q.0 (e q.1) v) o → OrElse u b (λ q. FieldEnds q.0 (e q.1) v) r → o ≡ r
entry_end u e v None None same o r is also = is ∙ sym also
entry_end u e v None (Some b) same o r is also = absurd (some_none (map step_view b.0, b.1) (sym same))
entry_end u e v (Some a) None same o r is also = absurd (some_none (map step_view a.0, a.1) same)
entry_end u e v (Some a) (Some b) same o r is also =
    field_end a.0 b.0 (e b.1) v (before_same a b same) o r (subst (λ x. FieldEnds a.0 (e x) v o) (last_same a b same) is) also

-- an element: the place of the message that has its list, the field's number, and the index
abbrev seen_element : Option ((List PlaceStep × ℕ) × ℕ) → Option ((List Step × ℕ) × ℕ)
seen_element o = option_map (λ q. ((map step_view q.0.0, q.0.1), q.1)) o

with_index : (i : ℕ) (o : Option (List PlaceStep × ℕ)) → seen_element (option_map (λ r. (r, i)) o) ≡ option_map (λ r. (r, i)) (viewed o)
with_index i None = refl
with_index i (Some r) = refl

element_same : (x : Option Seen) (a b : Option (List PlaceStep × ℕ)) → viewed a ≡ viewed b → seen_element (element_by x a) ≡ seen_element (element_by x b)
element_same None a b same = refl
element_same (Some x) None None same = refl
element_same (Some x) None (Some b) same = absurd (some_none (map step_view b.0, b.1) (sym same))
element_same (Some x) (Some a) None same = absurd (some_none (map step_view a.0, a.1) same)
element_same (Some x) (Some a) (Some b) same =
    with_index a.1 (field_place a.0)
    ∙ ap (option_map (λ (r : List Step × ℕ). (r, a.1))) (fields_same a.0 b.0 (before_same a b same))
    ∙ ap (λ (i : ℕ). option_map (λ (r : List Step × ℕ). (r, i)) (viewed (field_place b.0))) (last_same a b same)
    ∙ sym (with_index b.1 (field_place b.0))

elements_same : (p q : List PlaceStep) (v : Dynamic) → Alike p q → seen_element (element_place p v) ≡ seen_element (element_place q v)
elements_same p q v same =
    ap (λ x. seen_element (element_by x (index_place p))) (at_same p q v same)
    ∙ element_same (at q v) (index_place p) (index_place q) (indexes_same p q same)

module _ (a b : (List PlaceStep × ℕ) × ℕ) (same : seen_element (Some a) ≡ seen_element (Some b)) where
  all_same : ◌≡◌ {A = (List Step × ℕ) × ℕ} ((map step_view a.0.0, a.0.1), a.1) ((map step_view b.0.0, b.0.1), b.1)
  all_same = some_same ((map step_view a.0.0, a.0.1), a.1) ((map step_view b.0.0, b.0.1), b.1) same

  parent_same : Alike a.0.0 b.0.0
  parent_same = ap (λ q. q.0.0) all_same

  number_same : a.0.1 ≡ b.0.1
  number_same = ap (λ q. q.0.1) all_same

  index_same : a.1 ≡ b.1
  index_same = ap (λ q. q.1) all_same

element_refused : (e : ℕ → ℕ → Edit) (v : Dynamic) (a b : Option ((List PlaceStep × ℕ) × ℕ)) → seen_element a ≡ seen_element b
    → refusal_by e v a ≡ refusal_by e v b
element_refused e v None None same = refl
element_refused e v None (Some b) same = absurd (some_none ((map step_view b.0.0, b.0.1), b.1) (sym same))
element_refused e v (Some a) None same = absurd (some_none ((map step_view a.0.0, a.0.1), a.1) same)
element_refused e v (Some a) (Some b) same =
    ap (λ n. refusal n (e a.1 a.0.1) (target a.0.0 (message_part v))) (most_same a.0.0 b.0.0 (parent_same a b same))
    ∙ ap (λ i. refusal (most_at b.0.0) (e i a.0.1) (target a.0.0 (message_part v))) (index_same a b same)
    ∙ ap (λ n. refusal (most_at b.0.0) (e b.1 n) (target a.0.0 (message_part v))) (number_same a b same)
    ∙ ap (refusal (most_at b.0.0) (e b.1 b.0.1)) (target_same a.0.0 b.0.0 v (parent_same a b same))

one_element : (e : ℕ → ℕ → Edit) (v x y : Dynamic) (a b : Option ((List PlaceStep × ℕ) × ℕ)) → seen_element a ≡ seen_element b
    → IsSomeAnd a (λ q. IsChangedAt q.0.0 (e q.1 q.0.1) v x) → IsSomeAnd b (λ q. IsChangedAt q.0.0 (e q.1 q.0.1) v y) → x ≡ y
one_element e v x y None b same is also = absurd is
one_element e v x y (Some a) None same is also = absurd also
one_element e v x y (Some a) (Some b) same is also =
    let numbered = subst (λ n. IsChangedAt a.0.0 (e a.1 n) v x) (number_same a b same) is in
    let indexed = subst (λ i. IsChangedAt a.0.0 (e i b.0.1) v x) (index_same a b same) numbered in
    changed_same a.0.0 b.0.0 (e b.1 b.0.1) v x y (parent_same a b same) indexed also

element_end :
    (p q : List PlaceStep) (e : ℕ → ℕ → Edit) (v : Dynamic) → Alike p q → (o r : Outcome) → ElementEnds p e v o → ElementEnds q e v r → o ≡ r
element_end p q e v same =
    one_of_both (element_refusal p e v) (element_refusal q e v) (IsElementChanged p e v) (IsElementChanged q e v)
    (element_refused e v (element_place p v) (element_place q v) (elements_same p q v same))
    (λ a b. one_element e v a b (element_place p v) (element_place q v) (elements_same p q v same))

index_end : (a b : Option (List PlaceStep × ℕ)) (P Q R S : Outcome → Type 0) (o r : Outcome) → viewed a ≡ viewed b
    → (P o → Q r → o ≡ r) → (R o → S r → o ≡ r) → ByIndex a P R o → ByIndex b Q S r → o ≡ r
index_end None None P Q R S o r same element other is also = other is also
index_end None (Some b) P Q R S o r same element other is also = absurd (some_none (map step_view b.0, b.1) (sym same))
index_end (Some a) None P Q R S o r same element other is also = absurd (some_none (map step_view a.0, a.1) same)
index_end (Some a) (Some b) P Q R S o r same element other is also = element is also

value_end :
    (u : Unchanged) (x : Option Datum) (P Q : Datum → Outcome → Type 0) (o r : Outcome) → ((d : Datum) → P d o → Q d r → o ≡ r)
    → OrElse u x P o → OrElse u x Q r → o ≡ r
value_end u None P Q o r alike is also = is ∙ sym also
value_end u (Some d) P Q o r alike is also = alike d is also

module _ (given : List Bytes) (v : Dynamic) (p q : List PlaceStep) (same : Alike p q) (o r : Outcome) where
  put_end : (how : Put) (d : Datum) → put_ends how v p d o → put_ends how v q d r → o ≡ r
  put_end Set d =
      index_end (index_place p) (index_place q) (ElementEnds p (λ i. set_element i d) v) (ElementEnds q (λ i. set_element i d) v)
      (FieldEnds p (set (one d)) v) (FieldEnds q (set (one d)) v) o r (indexes_same p q same)
      (element_end p q (λ i. set_element i d) v same o r) (field_end p q (set (one d)) v same o r)
  put_end Push d = field_end p q (push d) v same o r
  put_end Insert d = entry_end (Refused cause.Absent) (λ y. insert y d) v (entry_place p) (entry_place q) (entries_same p q same) o r

  end_at : (c : PlainChange) → ends_at given c v p o → ends_at given c v q r → o ≡ r
  end_at (change.Put how x) = value_end BadValue (value_said given x) (put_ends how v p) (put_ends how v q) o r (put_end how)
  end_at change.Clear = field_end p q clear v same o r
  end_at change.Remove =
      index_end (index_place p) (index_place q) (ElementEnds p remove_element v) (ElementEnds q remove_element v) (EntryRemoved p v) (EntryRemoved q v) o r
      (indexes_same p q same) (element_end p q remove_element v same o r)
      (entry_end (Refused cause.Absent) remove v (entry_place p) (entry_place q) (entries_same p q same) o r)
  end_at change.DropUnknown = message_end p q drop_unknown v same o r

-- a change ends in one way
pub one_end : (given : List Bytes) (place : List PlainValue) (c : PlainChange) (v : Dynamic) (o r : Outcome) → ends given place c v o → ends given place c v r → o ≡ r
one_end given place c v o r (inl a) (inl b) = a.1 ∙ sym b.1
one_end given place c v o r (inl a) (inr (q, says, is)) = absurd (some_none (map step_view q) (sym says ∙ a.0))
one_end given place c v o r (inr (p, says, is)) (inl b) = absurd (some_none (map step_view p) (sym says ∙ b.0))
one_end given place c v o r (inr (p, says, is)) (inr (q, also, too)) =
    end_at given v p q (some_same (map step_view p) (map step_view q) (sym says ∙ also)) o r c is too

-- WHAT STAYS

-- the pool and the type are those of the message before
abbrev SameType : Dynamic → Dynamic → Type 0
SameType v w = (w.pool ≡ v.pool) × (w.kind ≡ v.kind)

changed_type : (p : List PlaceStep) (e : Edit) (v w : Dynamic) (t : Option Dynamic) → target p (message_part v) ≡ t → IsChangedAt p e v w → SameType v w
changed_type p e v w None found is = absurd (subst (λ t. IsSomeAnd t (λ x. w ≡ record v { body = message_or v.body (replaced p (edited e x).body (one (message v.body))) })) found is)
changed_type p e v w (Some x) found is =
    let new = subst (λ t. IsSomeAnd t (λ x. w ≡ record v { body = message_or v.body (replaced p (edited e x).body (one (message v.body))) })) found is in
    (ap (λ d. d.pool) new, ap (λ d. d.kind) new)

field_type : (e : ℕ → Edit) (v w : Dynamic) (a : Option (List PlaceStep × ℕ)) → IsSomeAnd a (λ q. IsChangedAt q.0 (e q.1) v w) → SameType v w
field_type e v w None is = absurd is
field_type e v w (Some a) is = changed_type a.0 (e a.1) v w (target a.0 (message_part v)) refl is

element_type : (e : ℕ → ℕ → Edit) (v w : Dynamic) (a : Option ((List PlaceStep × ℕ) × ℕ)) → IsSomeAnd a (λ q. IsChangedAt q.0.0 (e q.1 q.0.1) v w)
    → SameType v w
element_type e v w None is = absurd is
element_type e v w (Some a) is = changed_type a.0.0 (e a.1 a.0.1) v w (target a.0.0 (message_part v)) refl is

index_type : (a : Option (List PlaceStep × ℕ)) (P Q : Outcome → Type 0) (v w : Dynamic) → (P (made w) → SameType v w) → (Q (made w) → SameType v w)
    → ByIndex a P Q (made w) → SameType v w
index_type None P Q v w element other is = other is
index_type (Some a) P Q v w element other is = element is

apart : (w : Dynamic) (u : Unchanged) → made w ≡ unmade u → ⊥
apart w u e = absurd (cc)

made_type : (c : Option ChangeError) (P : Dynamic → Type 0) (v w : Dynamic) → (P w → SameType v w) → Ends c P (made w) → SameType v w
made_type None P v w so is = so is
made_type (Some c) P v w so is = absurd (apart w (Refused c) is)

else_type : {A : Type 0} (u : Unchanged) (x : Option A) (P : A → Outcome → Type 0) (v w : Dynamic) → ((a : A) → P a (made w) → SameType v w)
    → OrElse u x P (made w) → SameType v w
else_type u None P v w so is = absurd (apart w u is)
else_type u (Some a) P v w so is = so a is

module _ (given : List Bytes) (v w : Dynamic) where
  at_field : (p : List PlaceStep) (e : ℕ → Edit) → FieldEnds p e v (made w) → SameType v w
  at_field p e = made_type (refusal_at p e v) (IsFieldChanged p e v) v w (field_type e v w (field_place p))

  at_element : (p : List PlaceStep) (e : ℕ → ℕ → Edit) → ElementEnds p e v (made w) → SameType v w
  at_element p e = made_type (element_refusal p e v) (IsElementChanged p e v) v w (element_type e v w (element_place p v))

  at_entry : (p : List PlaceStep) (e : Scalar → ℕ → Edit) → OrElse (Refused cause.Absent) (entry_place p) (λ a. FieldEnds a.0 (e a.1) v) (made w) → SameType v w
  at_entry p e = else_type (Refused cause.Absent) (entry_place p) (λ a. FieldEnds a.0 (e a.1) v) v w (λ a. at_field a.0 (e a.1))

  put_type : (how : Put) (p : List PlaceStep) (d : Datum) → put_ends how v p d (made w) → SameType v w
  put_type Set p d =
      index_type (index_place p) (ElementEnds p (λ i. set_element i d) v) (FieldEnds p (set (one d)) v) v w
      (at_element p (λ i. set_element i d)) (at_field p (set (one d)))
  put_type Push p d = at_field p (push d)
  put_type Insert p d = at_entry p (λ y. insert y d)

  type_at : (c : PlainChange) (p : List PlaceStep) → ends_at given c v p (made w) → SameType v w
  type_at (change.Put how x) p = else_type BadValue (value_said given x) (put_ends how v p) v w (put_type how p)
  type_at change.Clear p = at_field p clear
  type_at change.Remove p =
      index_type (index_place p) (ElementEnds p remove_element v) (EntryRemoved p v) v w (at_element p remove_element) (at_entry p remove)
  type_at change.DropUnknown p =
      made_type (refusal (most_at p) drop_unknown (target p (message_part v))) (IsChangedAt p drop_unknown v) v w
      (changed_type p drop_unknown v w (target p (message_part v)) refl)

-- whether or not the change is made
pub ended_type : {T : Type 0} (given : List Bytes) (p : List PlaceStep) (c : PlainChange) (v new : Dynamic) (r : Result T Unchanged) → IsEnded (ends_at given c v p) v new r → SameType v new
ended_type given p c v new (Ok x) is = type_at given v new c p is
ended_type given p c v new (Err u) is = (ap (λ d. d.pool) is.0, ap (λ d. d.kind) is.0)

-- what is set of the message itself, is set at the place of the one step
pub own_ended :
    (given : List Bytes) (place : List PlainValue) (n : ℕ) (x : PlainValue) (v new : Dynamic) (r : Result Unit Unchanged) → places given place ≡ Some (field n ∷ [])
    → IsEnded (OrElse BadValue (value_said given x) (put_ends Set v (place_step.Field n ∷ []))) v new r → IsEnded (ends given place (change.Put Set x) v) v new r
own_ended given place n x v new (Ok u) says h = inr (place_step.Field n ∷ [], says, h)
own_ended given place n x v new (Err e) says h = (h.0, either h.1)
  where
    either :
        (e ≡ memory) ⊎ OrElse BadValue (value_said given x) (put_ends Set v (place_step.Field n ∷ [])) (unmade e)
        → (e ≡ memory) ⊎ ends given place (change.Put Set x) v (unmade e)
    either (inl q) = inl q
    either (inr w) = inr (inr (place_step.Field n ∷ [], says, w))
