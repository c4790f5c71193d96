-- What a call answers that changes the message of a handle.
use Rattle.std.specs.Prelude.{◌≡◌, ◌≢◌, ◌≤◌, ◌⊎◌, ℕ, ◌==◌, if◌then◌else◌, Option, Some}
use Rattle.pb_value.specs.Dynamic.{Dynamic}
use Rattle.pb_value.specs.ErrorName.{number_of}
use Rattle.pb_value.specs.declared.error.ValueError.{ValueError}
use Rattle.pb_value.specs.declared.error.ValueError.TheVariants.{Memory}
use Rattle.pb_place.specs.declared.error.ChangeError.TheVariants as change
use Rattle.pb_c_message.specs.Ends.{Outcome, made, unmade}
use Rattle.pb_c_message.specs.declared.unchanged.Unchanged.{Unchanged}
use Rattle.pb_c_message.specs.declared.unchanged.Unchanged.TheVariants.{BadPlace, BadValue, Refused}

-- a cause has its own number, 21 to 30, but that memory ran out is answered as by every call
abbrev pub cause_answer : ValueError → ℕ
cause_answer e = if number_of e == number_of Memory then 14 else number_of e

abbrev pub unmade_answer : Unchanged → ℕ
unmade_answer BadPlace = 7
unmade_answer BadValue = 8
unmade_answer (Refused change.Absent) = 6
unmade_answer (Refused (change.Refused e)) = cause_answer e

-- The message that is held is changed as the change ends, or is as before, for the reason that is answered. And each end is answered, unless memory
-- runs out.
pub record IsChanged (ends : Dynamic → Outcome → Type 0) (old new : Option Dynamic) (answer : ℕ) : Type 0 where
  pub done : answer ≡ 0 → (v w : Dynamic) × (old ≡ Some v) × (new ≡ Some w) × ends v (made w)
  pub refused : answer ≢ 0 → answer ≢ 3 → answer ≢ 14 → (v : Dynamic) × (u : Unchanged) × (old ≡ Some v) × (answer ≡ unmade_answer u) × ends v (unmade u)
  pub kept : answer ≢ 0 → new ≡ old
  pub makes : (v w : Dynamic) → old ≡ Some v → ends v (made w) → ((answer ≡ 0) × (new ≡ Some w)) ⊎ (answer ≡ 14)
  pub refuses : (v : Dynamic) (u : Unchanged) → old ≡ Some v → ends v (unmade u) → (answer ≡ unmade_answer u) ⊎ (answer ≡ 14)

-- the answers where a message is held
abbrev pub IsChangeAnswer : ℕ → Type 0
IsChangeAnswer a = (a ≡ 0) ⊎ (a ≡ 6) ⊎ (a ≡ 7) ⊎ (a ≡ 8) ⊎ (a ≡ 14) ⊎ ((21 ≤ a) × (a ≤ 30))
