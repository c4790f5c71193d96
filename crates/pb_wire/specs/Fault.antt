-- What is wrong at one place, and the faults of tokens.
use Rattle.std.specs.Prelude.{◌≡◌, ◌≢◌, ℕ, ◌+◌, ◌-◌, ◌*◌, ◌%◌, ◌^◌, ◌<◌, ◌≤◌, List, [], ◌∷◌, ◌++◌, length}
use Rattle.std.specs.Prelude.{take, drop, filter, ◌==◌, All, Option, Some, None, MatchOption, option_map}
use Rattle.pb_wire.specs.declared.fault.Cause.{Cause}
use Rattle.pb_wire.specs.declared.fault.Cause.TheVariants.{Truncated, PastEnd, VarintTooLong, TagTooLarge, NumberZero}
use Rattle.pb_wire.specs.declared.fault.Cause.TheVariants.{BadType, StrayEnd, WrongEnd, LengthTooLarge}
use Rattle.pb_wire.specs.declared.fault.PathStep.{PathStep}
use Rattle.pb_wire.specs.Record.{Record}
use Rattle.pb_wire.specs.Varint.{IsVarint}

-- the step into the record of this number that follows these: how many of them have the number, whatever their wire type
abbrev pub step : ℕ → List Record → PathStep
step k before = record { number = k; occurrence = length (filter (λ r. r.number == k) before) }

pub record Fault : Type 0 where
  pub byte : ℕ
  pub path : List PathStep
  pub cause : Cause

abbrev pub fault : ℕ → List PathStep → Cause → Fault
fault byte path cause = record { byte = byte; path = path; cause = cause }

-- what lies inside the record that this step leads into
abbrev pub inside : PathStep → Fault → Fault
inside s f = record f { path = s ∷ f.path }

-- The place of a reading: a position, how many bytes lie before the known end, and the bytes given from here on.
pub record Place : Type 0 where
  pub at : ℕ
  pub known : Option ℕ
  pub rest : List ℕ

-- the whole input, with no known end
abbrev pub text_at : List ℕ → Place
text_at b = record { at = 0; known = None; rest = b }

-- the end of the input
abbrev pub input_end : Place → ℕ
input_end p = p.at + length p.rest

-- n bytes from here don't pass the known end
abbrev pub IsWithin : Place → ℕ → Type 0
IsWithin p n = MatchOption p.known (Unit {0}) (λ e. n ≤ e)

-- the bytes from here to the lesser of the known end and the end of the input
abbrev pub window : Place → List ℕ
window p = window_of p.known p.rest
  where
    window_of : Option ℕ → List ℕ → List ℕ
    window_of None rest = rest
    window_of (Some e) rest = take e rest

-- q is the place after the bytes of front, which don't pass the known end
pub record Moves (p : Place) (front : List ℕ) (q : Place) : Type 0 where
  pub given : p.rest ≡ front ++ q.rest
  pub within : IsWithin p (length front)
  pub at : q.at ≡ p.at + length front
  pub known : q.known ≡ option_map (λ e. e - length front) p.known

abbrev pub IsHigh : ℕ → Type 0
IsHigh b = 128 ≤ b

-- from p, bytes of which Body holds lead to q
abbrev pub Leads : (List ℕ → Type 0) → Place → Place → Type 0
Leads Body p q = (front : List ℕ) × Body front × Moves p front q

-- a varint of n begins at p, and q is after it
abbrev pub Reads : Place → ℕ → Place → Type 0
Reads p n q = Leads (IsVarint n) p q

-- a whole tag that passes the tests of numbers and types
pub record HasTag (p : Place) (k w : ℕ) (q : Place) : Type 0 where
  pub tag : Reads p (8 * k + w) q
  pub number : (0 < k) × (k < 2 ^ 29)
  pub type : w < 6

-- The varint token that begins here is no whole varint.
pub data VarintFault (p : Place) (f : Fault) : Type 0 where
  too_long : 10 ≤ length (window p) → All IsHigh (take 10 (window p)) → f ≡ fault p.at [] VarintTooLong → VarintFault p f
  past_end :
      length (window p) < 10 → All IsHigh (window p) → p.known ≡ Some (length (window p)) → f ≡ fault p.at [] PastEnd
      → VarintFault p f
  cut_short :
      length (window p) < 10 → All IsHigh (window p) → p.known ≢ Some (length (window p)) → f ≡ fault (input_end p) [] Truncated
      → VarintFault p f

-- The value of this many bytes that begins here isn't whole.
pub data FixedFault (size : ℕ) (p : Place) (f : Fault) : Type 0 where
  past_end : ¬ IsWithin p size → f ≡ fault p.at [] PastEnd → FixedFault size p f
  cut_short : IsWithin p size → length p.rest < size → f ≡ fault (input_end p) [] Truncated → FixedFault size p f

-- a whole length, which is small enough and doesn't pass the known end
pub record HasLength (p : Place) (n : ℕ) (q : Place) : Type 0 where
  pub length_is : Reads p n q
  pub small : n < 2 ^ 31
  pub within : IsWithin q n

-- The length that begins here is refused.
pub data LengthFault (p : Place) (f : Fault) : Type 0 where
  token : VarintFault p f → LengthFault p f
  too_large : {n : ℕ} {q : Place} → Reads p n q → 2 ^ 31 ≤ n → f ≡ fault p.at [] LengthTooLarge → LengthFault p f
  past_end : {n : ℕ} {q : Place} → Reads p n q → n < 2 ^ 31 → ¬ IsWithin q n → f ≡ fault p.at [] PastEnd → LengthFault p f

-- The length that begins here is whole, and its payload isn't.
pub record CutFault (p : Place) (f : Fault) : Type 0 where
  pub size : ℕ
  pub payload : Place
  pub length_is : HasLength p size payload
  pub cut : length payload.rest < size
  pub fault_is : f ≡ fault (input_end payload) [] Truncated

-- The tag that begins here is refused, where the group of this number is open innermost, or none is.
pub data TagFault (innermost : Option ℕ) (p : Place) (f : Fault) : Type 0 where
  token : VarintFault p f → TagFault innermost p f
  too_large : {n : ℕ} {q : Place} → Reads p n q → 2 ^ 32 ≤ n → f ≡ fault p.at [] TagTooLarge → TagFault innermost p f
  number_zero : {n : ℕ} {q : Place} → Reads p n q → n < 8 → f ≡ fault p.at [] NumberZero → TagFault innermost p f
  bad_type :
      {n : ℕ} {q : Place} → Reads p n q → 8 ≤ n → n < 2 ^ 32 → 6 ≤ n % 8 → f ≡ fault p.at [] BadType → TagFault innermost p f
  stray_end : {k : ℕ} {q : Place} → HasTag p k 4 q → innermost ≡ None → f ≡ fault p.at [] StrayEnd → TagFault innermost p f
  wrong_end :
      {k m : ℕ} {q : Place} → HasTag p k 4 q → innermost ≡ Some m → m ≢ k → f ≡ fault p.at [] WrongEnd → TagFault innermost p f

-- the place at this index of an input that has no known end
abbrev pub place : List ℕ → ℕ → Place
place b at = record { at = at; known = None; rest = drop at b }
