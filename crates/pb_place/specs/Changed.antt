-- What a change at a place makes of a message, and why it is refused.
use Rattle.std.specs.Prelude.{◌≡◌, ◌⊎◌, ◌-◌, ℕ, suc, List, [], ◌∷◌, nat_le, Option, Some, None, option_map, option_and_then, IsSomeAnd}
use Rattle.std.specs.Prelude.{Result, MatchResult}
use Rattle.pb_value.specs.Data.{Datum}
use Rattle.pb_value.specs.Dynamic.{Dynamic}
pub use Rattle.pb_value.specs.Edit.{Edit, set, clear, push, insert, remove, set_element, remove_element, drop_unknown, edited, edit_cause, brings, taken_out}
use Rattle.pb_value.specs.Cause.{or_else, unless}
use Rattle.pb_value.specs.declared.error.ValueError.TheVariants.{Memory, TooDeep}
use Rattle.pb_place.specs.declared.error.ChangeError.{ChangeError}
use Rattle.pb_place.specs.declared.error.ChangeError.TheVariants.{Absent, Refused}
use Rattle.pb_place.specs.declared.step.PlaceStep.{PlaceStep}
use Rattle.pb_place.specs.declared.step.PlaceStep.TheVariants.{Field, Index, Key}
use Rattle.pb_place.specs.At.{Part, message_part, part_at, Seen, seen, at}
use Rattle.pb_place.specs.Ask.{message_in}
use Rattle.pb_place.specs.Replaced.{with_at}

-- the message that a part has at a place
abbrev pub target : List PlaceStep → Part → Option Dynamic
target p x = option_and_then message_in (option_map seen (part_at p x))

-- how many messages are around one at a place: each step to a field leads into one more
abbrev pub levels_above : List PlaceStep → ℕ
levels_above [] = 0
levels_above (Field n ∷ p) = suc (levels_above p)
levels_above (Index i ∷ p) = levels_above p
levels_above (Key k ∷ p) = levels_above p

-- Why a change of a message is refused below which at most this many levels may be added: the message is not there, or that change's own cause, and
-- the depth last.
abbrev pub refusal : ℕ → Edit → Option Dynamic → Option ChangeError
refusal most e None = Some Absent
refusal most e (Some w) = option_map Refused (or_else (edit_cause e w.pool w.kind) (unless (nat_le (brings e) most) TooDeep))

-- a call is refused exactly where there is a cause, and with that cause, but where memory runs out
abbrev pub IsRefused : {T : Type 0} → Result T ChangeError → Option ChangeError → Type 0
IsRefused r cause = MatchResult r (λ _. cause ≡ None) (λ e. (e ≡ Refused Memory) ⊎ (cause ≡ Some e))

-- a place that ends at a field: the place of its message, and the field's number
abbrev pub field_place : List PlaceStep → Option (List PlaceStep × ℕ)
field_place [] = None
field_place (Field n ∷ []) = Some ([], n)
field_place (Index i ∷ []) = None
field_place (Key k ∷ []) = None
field_place (s ∷ t ∷ p) = option_map (λ q. (s ∷ q.0, q.1)) (field_place (t ∷ p))

-- at the message of a place, at most this many levels may be added: no more than 100 are below the whole
abbrev pub most_at : List PlaceStep → ℕ
most_at p = 100 - levels_above p

-- why a change at a place is refused
abbrev pub refusal_at : List PlaceStep → (ℕ → Edit) → Dynamic → Option ChangeError
refusal_at place e v = of (field_place place)
  where
    of : Option (List PlaceStep × ℕ) → Option ChangeError
    of None = Some Absent
    of (Some q) = refusal (most_at q.0) (e q.1) (target q.0 (message_part v))

-- The message at a place is changed, and all else is as before.
abbrev pub IsChangedAt : List PlaceStep → Edit → Dynamic → Dynamic → Type 0
IsChangedAt p e v new = IsSomeAnd (target p (message_part v)) (λ w. new ≡ record v { body = with_at p (edited e w).body v.body })

-- the same, where the place ends at a field
abbrev pub IsFieldChanged : List PlaceStep → (ℕ → Edit) → Dynamic → Dynamic → Type 0
IsFieldChanged place e v new = IsSomeAnd (field_place place) (λ q. IsChangedAt q.0 (e q.1) v new)

-- what a change at a place that ends at a field takes out
abbrev pub taken_at : List PlaceStep → (ℕ → Edit) → Dynamic → Option (Option Datum)
taken_at place e v = option_and_then (λ q. option_map (taken_out (e q.1)) (target q.0 (message_part v))) (field_place place)

-- a place that ends at an index: the place of the list, and the index
abbrev pub index_place : List PlaceStep → Option (List PlaceStep × ℕ)
index_place [] = None
index_place (Index i ∷ []) = Some ([], i)
index_place (Field n ∷ []) = None
index_place (Key k ∷ []) = None
index_place (s ∷ t ∷ p) = option_map (λ q. (s ∷ q.0, q.1)) (index_place (t ∷ p))

-- of what is at a place that ends at an index: the place of the message that has the list in a field, the field's number, and the index
abbrev pub element_by : Option Seen → Option (List PlaceStep × ℕ) → Option ((List PlaceStep × ℕ) × ℕ)
element_by None o = None
element_by (Some x) None = None
element_by (Some x) (Some q) = option_map (λ r. (r, q.1)) (field_place q.0)

-- the element of a list that a message has at a place
abbrev pub element_place : List PlaceStep → Dynamic → Option ((List PlaceStep × ℕ) × ℕ)
element_place place v = element_by (at place v) (index_place place)

-- why a change of an element is refused: it is not there, or the change's own cause
abbrev pub refusal_by : (ℕ → ℕ → Edit) → Dynamic → Option ((List PlaceStep × ℕ) × ℕ) → Option ChangeError
refusal_by e v None = Some Absent
refusal_by e v (Some q) = refusal (most_at q.0.0) (e q.1 q.0.1) (target q.0.0 (message_part v))

abbrev pub element_refusal : List PlaceStep → (ℕ → ℕ → Edit) → Dynamic → Option ChangeError
element_refusal place e v = refusal_by e v (element_place place v)

-- The element at a place is changed, and all else is as before.
abbrev pub IsElementChanged : List PlaceStep → (ℕ → ℕ → Edit) → Dynamic → Dynamic → Type 0
IsElementChanged place e v new = IsSomeAnd (element_place place v) (λ q. IsChangedAt q.0.0 (e q.1 q.0.1) v new)

-- what a change of the element at a place takes out
abbrev pub taken_element : List PlaceStep → (ℕ → ℕ → Edit) → Dynamic → Option (Option Datum)
taken_element place e v =
    option_and_then (λ q. option_map (taken_out (e q.1 q.0.1)) (target q.0.0 (message_part v))) (element_place place v)
