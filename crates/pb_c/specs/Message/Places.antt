-- What is answered of a place in the message that a handle holds.
use Rattle.std.specs.Prelude.{◌≡◌, ◌⊎◌, ℕ, List, Option, Some, None}
use Rattle.pb_value.specs.Dynamic.{Dynamic}
use Rattle.pb_place.specs.At.{Seen}
use Rattle.pb_c_message.specs.Answers.{Answers}
use Rattle.pb_c_message.specs.Places.{Bytes, places}
use Rattle.pb_c_message.specs.declared.miss.Miss.{Miss}
use Rattle.pb_c_message.specs.declared.miss.Miss.TheVariants.{Absent, BadPlace, Memory}
use Rattle.pb_c_message.specs.declared.value.PlainValue.{PlainValue}

abbrev pub miss_number : Miss → ℕ
miss_number Absent = 6
miss_number BadPlace = 7
miss_number Memory = 14

-- the message that is held has this where the steps lead
abbrev pub HeldAnswers : {A : Type 0} → (Seen → Option A) → List Bytes → List PlainValue → Option Dynamic → Option A → Type 0
HeldAnswers asked keys place held a = (v : Dynamic) × (held ≡ Some v) × Answers asked keys place v a

-- a message is held, and the steps say no place
abbrev pub HasNoPlace : List Bytes → List PlainValue → Option Dynamic → Type 0
HasNoPlace keys place held = (v : Dynamic) × (held ≡ Some v) × (places keys place ≡ None)

-- What is answered is true. And what is there is reported, unless memory runs out.
pub record IsAnswered {A : Type 0} (asked : Seen → Option A) (keys : List Bytes) (place : List PlainValue) (held : Option Dynamic) (answer : ℕ)
    (Reported : A → Type 0) : Type 0 where
  pub found : answer ≡ 0 → (a : A) × HeldAnswers asked keys place held (Some a) × Reported a
  pub absent : answer ≡ 6 → HeldAnswers asked keys place held None
  pub no_place : answer ≡ 7 → HasNoPlace keys place held
  pub reported : (a : A) → HeldAnswers asked keys place held (Some a) → ((answer ≡ 0) × Reported a) ⊎ (answer ≡ 14)
  pub missing : HeldAnswers asked keys place held None → (answer ≡ 6) ⊎ (answer ≡ 14)
  pub unsaid : HasNoPlace keys place held → (answer ≡ 7) ⊎ (answer ≡ 14)
