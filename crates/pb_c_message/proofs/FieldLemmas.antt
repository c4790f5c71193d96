-- The fields, the oneofs and the unknown records of what is at a place.
use Rattle.std.proofs.Common.{◌≡◌, ℕ, List, length, Option, Some, None, Result, Ok, Err, option_map, option_and_then, refl, sym, ap, subst}
use Rattle.std.specs.Prelude.{MatchResult}
use Rattle.pb_wire.specs.Record.{Record}
use Rattle.pb_wire.specs.Spell.{shortest_records}
use Rattle.pb_schema.specs.Types.{message_fields}
use Rattle.pb_value.specs.Data.{fields_of, unknown_of}
use Rattle.pb_value.specs.Oneof.{member_set}
use Rattle.pb_place.specs.At.{Seen, whole, single, elements, pairs}
use Rattle.pb_place.specs.Ask.{message_in, numbers_of, laid_over, numbers_into}
use Rattle.pb_c_message.specs.Answers.{IsMissed, member_in, numbers_in, unknown_in}
use Rattle.pb_c_message.specs.Places.{Bytes}
use Rattle.pb_c_message.specs.declared.miss.Miss.{Miss}
use Rattle.pb_c_message.specs.declared.miss.Miss.TheVariants.{Absent, BadPlace, Memory}
use Rattle.pb_c_message.specs.declared.value.PlainValue.{PlainValue}

abbrev count_in : Option Seen → Option ℕ
count_in x = option_map (λ w. length (numbers_of (fields_of w.body))) (option_and_then message_in x)

pub counted :
    (x : Option Seen) (n : ℕ) (old new : List ℕ) → Some n ≡ count_in x → new ≡ numbers_into (option_and_then message_in x) old
    → (ns : List ℕ) × (option_and_then numbers_in x ≡ Some ns) × (n ≡ length ns) × (new ≡ laid_over ns old)
counted None n old new is written = absurd cc
counted (Some (whole v)) n old new is written = (numbers_of (fields_of v.body), refl, cc, written)
counted (Some (single d)) n old new is written = absurd cc
counted (Some (elements ds)) n old new is written = absurd cc
counted (Some (pairs es)) n old new is written = absurd cc

pub uncounted :
    (x : Option Seen) (old new : List ℕ) → None ≡ count_in x → new ≡ numbers_into (option_and_then message_in x) old
    → (option_and_then numbers_in x ≡ None) × (new ≡ old)
uncounted None old new is written = (refl, written)
uncounted (Some (whole v)) old new is written = absurd cc
uncounted (Some (single d)) old new is written = (refl, written)
uncounted (Some (elements ds)) old new is written = (refl, written)
uncounted (Some (pairs es)) old new is written = (refl, written)

-- the member of a oneof of the message that is there
pub member_is :
    (o : ℕ) (x : Option Seen)
    → option_and_then (λ w. member_set (message_fields w.pool w.kind) o (fields_of w.body)) (option_and_then message_in x) ≡ option_and_then (member_in o) x
member_is o None = refl
member_is o (Some (whole v)) = refl
member_is o (Some (single d)) = refl
member_is o (Some (elements ds)) = refl
member_is o (Some (pairs es)) = refl

abbrev records_in : Option Seen → Option (List Record)
records_in x = option_map (λ w. unknown_of w.body) (option_and_then message_in x)

-- the unknown records of the message that is there
pub unknown_is : (x : Option Seen) (rs : List Record) → Some rs ≡ records_in x → option_and_then unknown_in x ≡ Some (shortest_records rs)
unknown_is None rs is = absurd cc
unknown_is (Some (whole v)) rs is = let same : rs ≡ unknown_of v.body = cc in ap (λ us. Some (shortest_records us)) (sym same)
unknown_is (Some (single d)) rs is = absurd cc
unknown_is (Some (elements ds)) rs is = absurd cc
unknown_is (Some (pairs es)) rs is = absurd cc

pub unknown_none : (x : Option Seen) → None ≡ records_in x → option_and_then unknown_in x ≡ None
unknown_none None is = refl
unknown_none (Some (whole v)) is = absurd cc
unknown_none (Some (single d)) is = refl
unknown_none (Some (elements ds)) is = refl
unknown_none (Some (pairs es)) is = refl

-- what is written of them, unless memory runs out
pub written :
    {V : Type 0} (items : V → List ℕ) (r : Result V Miss) (xs : List ℕ) (P : List ℕ → Type 0) (Nothing : Type 0) (keys : List Bytes) (place : List PlainValue)
    → P xs → MatchResult r (λ b. items b ≡ xs) (λ e. e ≡ Memory) → MatchResult r (λ b. P (items b)) (IsMissed Nothing keys place)
written items (Ok b) xs P Nothing keys place has is = subst P (sym is) has
written items (Err Absent) xs P Nothing keys place has is = absurd cc
written items (Err BadPlace) xs P Nothing keys place has is = absurd cc
written items (Err Memory) xs P Nothing keys place has is = tt
