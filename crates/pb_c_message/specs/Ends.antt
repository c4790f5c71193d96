-- How a change ends that C says: of which message it makes which, or why it makes none.
use Rattle.std.specs.Prelude.{◌≡◌, ◌⊎◌, ℕ, List, [], ◌∷◌, map, Option, Some, None, option_map, Result, MatchResult}
use Rattle.pb_schema.specs.Scalar.{Scalar}
use Rattle.pb_value.specs.Data.{Datum, one}
use Rattle.pb_value.specs.Dynamic.{Dynamic}
use Rattle.pb_value.specs.View.{key_view}
use Rattle.pb_value.specs.declared.error.ValueError.TheVariants.{Memory}
use Rattle.pb_place.specs.At.{message_part}
use Rattle.pb_place.specs.Changed.{Edit, set, clear, push, insert, remove, set_element, remove_element, drop_unknown}
use Rattle.pb_place.specs.Changed.{most_at, target, refusal, refusal_at, IsChangedAt, IsFieldChanged}
use Rattle.pb_place.specs.Changed.{index_place, element_refusal, IsElementChanged}
use Rattle.pb_place.specs.declared.error.ChangeError.{ChangeError}
use Rattle.pb_place.specs.declared.error.ChangeError.TheVariants as cause
use Rattle.pb_place.specs.declared.step.PlaceStep.{PlaceStep}
use Rattle.pb_place.specs.declared.step.PlaceStep.TheVariants.{Field, Index, Key}
use Rattle.pb_c_message.specs.Places.{Bytes, places, step_view}
use Rattle.pb_c_message.specs.declared.value.PlainValue.{PlainValue}
use Rattle.pb_c_message.specs.NewValue.{value_said}
use Rattle.pb_c_message.specs.declared.changing.PlainChange.{PlainChange}
use Rattle.pb_c_message.specs.declared.changing.Put.{Put}
use Rattle.pb_c_message.specs.declared.changing.Put.TheVariants.{Set, Push, Insert}
use Rattle.pb_c_message.specs.declared.changing.PlainChange.TheVariants as change
use Rattle.pb_c_message.specs.declared.unchanged.Unchanged.{Unchanged}
use Rattle.pb_c_message.specs.declared.unchanged.Unchanged.TheVariants.{BadPlace, BadValue, Refused}

-- the change is made, and this is the message then; or it is not made
pub data Outcome : Type 0 where
  made : Dynamic → Outcome
  unmade : Unchanged → Outcome

-- made where there is no cause against it
abbrev pub Ends : Option ChangeError → (Dynamic → Type 0) → Outcome → Type 0
Ends None IsMade (made w) = IsMade w
Ends None IsMade (unmade u) = ⊥
Ends (Some c) IsMade o = o ≡ unmade (Refused c)

-- a change of the field that a place ends at
abbrev pub FieldEnds : List PlaceStep → (ℕ → Edit) → Dynamic → Outcome → Type 0
FieldEnds p e v = Ends (refusal_at p e v) (IsFieldChanged p e v)

-- a change of the element of a list that a place ends at
abbrev pub ElementEnds : List PlaceStep → (ℕ → ℕ → Edit) → Dynamic → Outcome → Type 0
ElementEnds p e v = Ends (element_refusal p e v) (IsElementChanged p e v)

-- by whether a place ends at an index: as for the element there, or else as for what it ends at otherwise
abbrev pub ByIndex : Option (List PlaceStep × ℕ) → (Outcome → Type 0) → (Outcome → Type 0) → Outcome → Type 0
ByIndex None Element Other o = Other o
ByIndex (Some q) Element Other o = Element o

-- with what there is, and where there is none not made
abbrev pub OrElse : {A : Type 0} → Unchanged → Option A → (A → Outcome → Type 0) → Outcome → Type 0
OrElse u None Then o = o ≡ unmade u
OrElse u (Some a) Then o = Then a o

-- the steps say this place
abbrev pub Says : List Bytes → List PlainValue → List PlaceStep → Type 0
Says given place p = places given place ≡ Some (map step_view p)

-- at the place that the steps say, and where they say none not made
abbrev pub OnPlace : List Bytes → List PlainValue → (List PlaceStep → Outcome → Type 0) → Outcome → Type 0
OnPlace given place Then o = ((places given place ≡ None) × (o ≡ unmade BadPlace)) ⊎ ((p : List PlaceStep) × Says given place p × Then p o)

-- a place that ends at a key: the place of the map, and the key
abbrev pub entry_place : List PlaceStep → Option (List PlaceStep × Scalar)
entry_place [] = None
entry_place (Key k ∷ []) = Some ([], key_view k)
entry_place (Field n ∷ []) = None
entry_place (Index i ∷ []) = None
entry_place (s ∷ t ∷ p) = option_map (λ q. (s ∷ q.0, q.1)) (entry_place (t ∷ p))

-- how it ends that the entry of the key is removed that a place ends at
abbrev pub EntryRemoved : List PlaceStep → Dynamic → Outcome → Type 0
EntryRemoved p v = OrElse (Refused cause.Absent) (entry_place p) (λ q. FieldEnds q.0 (remove q.1) v)

-- how it ends that a value is put in a field or in place of an element, at the end of a list, or under a key of a map
abbrev pub put_ends : Put → Dynamic → List PlaceStep → Datum → Outcome → Type 0
put_ends Set v p d = ByIndex (index_place p) (ElementEnds p (λ i. set_element i d) v) (FieldEnds p (set (one d)) v)
put_ends Push v p d = FieldEnds p (push d) v
put_ends Insert v p d = OrElse (Refused cause.Absent) (entry_place p) (λ q. FieldEnds q.0 (insert q.1 d) v)

-- how each change ends at a place
abbrev pub ends_at : List Bytes → PlainChange → Dynamic → List PlaceStep → Outcome → Type 0
ends_at given (change.Put how x) v p = OrElse BadValue (value_said given x) (put_ends how v p)
ends_at given change.Clear v p = FieldEnds p clear v
ends_at given change.Remove v p = ByIndex (index_place p) (ElementEnds p remove_element v) (EntryRemoved p v)
ends_at given change.DropUnknown v p = Ends (refusal (most_at p) drop_unknown (target p (message_part v))) (IsChangedAt p drop_unknown v)

-- how it ends at the place that the steps say
abbrev pub ends : List Bytes → List PlainValue → PlainChange → Dynamic → Outcome → Type 0
ends given place change v = OnPlace given place (ends_at given change v)

abbrev pub memory : Unchanged
memory = Refused (cause.Refused Memory)

-- A call ended so, or memory ran out. What is not changed is as it was.
abbrev pub IsEnded : {T : Type 0} → (Outcome → Type 0) → Dynamic → Dynamic → Result T Unchanged → Type 0
IsEnded Ways old new r = MatchResult r (λ _. Ways (made new)) (λ u. (new ≡ old) × ((u ≡ memory) ⊎ Ways (unmade u)))

-- memory ran out, or this is so, with that cause
abbrev pub IsFor : Unchanged → Type 0 → Unchanged → Type 0
IsFor cause Bad u = (u ≡ memory) ⊎ ((u ≡ cause) × Bad)
