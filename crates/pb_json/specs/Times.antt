-- Points in time and lengths of time as strings (ProtoJSON format, "JSON representation"; RFC 3339, section 5.6; timestamp.proto; duration.proto).
use Rattle.std.specs.Prelude.{◌≡◌, ℕ, ◌+◌, ◌/◌, ◌%◌, ◌<◌, ◌≤◌, List, [], ◌∷◌, ◌++◌, Bool, not, ◌&&◌, ◌||◌, ◌==◌, codes, decimal, if◌then◌else◌}
use Rattle.std.specs.Prelude.{ℤ, pos, neg_ℤ, ◌+ℤ◌, ◌*ℤ◌, int_lt, int_le, unsigned_abs}
use Rattle.jiff_core.specs.Calendar.{IsCivilDate, days_from_civil}

-- DIGITS

abbrev pub two_digits : ℕ → List ℕ
two_digits n = (48 + n / 10) ∷ (48 + n % 10) ∷ []

abbrev pub three_digits : ℕ → List ℕ
three_digits n = (48 + n / 100) ∷ (48 + n / 10 % 10) ∷ (48 + n % 10) ∷ []

-- the nanoseconds of a second: nothing, or a point and 3, 6 or 9 digits
abbrev pub fraction : ℕ → List ℕ
fraction n =
    if n == 0 then []
    else if n % 1_000_000 == 0 then codes "." ++ three_digits (n / 1_000_000)
    else if n % 1_000 == 0 then codes "." ++ three_digits (n / 1_000_000) ++ three_digits (n / 1_000 % 1_000)
    else codes "." ++ three_digits (n / 1_000_000) ++ three_digits (n / 1_000 % 1_000) ++ three_digits (n % 1_000)

abbrev pub is_between : ℤ → ℤ → ℤ → Bool
is_between low high z = int_le low z && int_le z high

-- POINTS IN TIME

-- from 0001-01-01T00:00:00Z to 9999-12-31T23:59:59.999999999Z, in seconds since 1970 and nanoseconds after these
abbrev pub is_instant : ℤ → ℤ → Bool
is_instant seconds nanos = is_between (neg_ℤ (pos 62_135_596_800)) (pos 253_402_300_799) seconds && is_between (pos 0) (pos 999_999_999) nanos

abbrev pub date_text : ℕ → ℕ → ℕ → List ℕ
date_text year month day = two_digits (year / 100) ++ two_digits (year % 100) ++ codes "-" ++ two_digits month ++ codes "-" ++ two_digits day

-- a second of a day, by its hour, minute and second
abbrev pub time_text : ℕ → List ℕ
time_text n = two_digits (n / 3_600) ++ codes ":" ++ two_digits (n / 60 % 60) ++ codes ":" ++ two_digits (n % 60)

-- the date this number of days after 1970-01-01, by the Gregorian calendar
pub record IsDateText (days : ℤ) (s : List ℕ) : Type 0 where
  pub year : ℕ
  pub month : ℕ
  pub day : ℕ
  pub since_year_one : 1 ≤ year
  pub on_calendar : IsCivilDate (pos year) month day
  pub counted : days_from_civil (pos year) month day ≡ days
  pub text : s ≡ date_text year month day

-- the point this number of seconds after 1970-01-01T00:00:00Z, and these nanoseconds
pub record IsInstantText (seconds : ℤ) (nanos : ℕ) (s : List ℕ) : Type 0 where
  pub days : ℤ
  pub second : ℕ
  pub within : second < 86_400
  pub counted : seconds ≡ days *ℤ pos 86_400 +ℤ pos second
  pub date : List ℕ
  pub is_date : IsDateText days date
  pub text : s ≡ date ++ codes "T" ++ time_text second ++ fraction nanos ++ codes "Z"

-- LENGTHS OF TIME

-- about 10,000 years at most, in seconds and nanoseconds of the same sign
abbrev pub is_span : ℤ → ℤ → Bool
is_span seconds nanos =
    is_between (neg_ℤ (pos 315_576_000_000)) (pos 315_576_000_000) seconds && is_between (neg_ℤ (pos 999_999_999)) (pos 999_999_999) nanos
    && not (int_lt seconds (pos 0) && int_lt (pos 0) nanos) && not (int_lt (pos 0) seconds && int_lt nanos (pos 0))

abbrev pub sign : Bool → List ℕ
sign negative = if negative then codes "-" else []

abbrev pub span_text : ℤ → ℤ → List ℕ
span_text seconds nanos =
    sign (int_lt seconds (pos 0) || int_lt nanos (pos 0)) ++ decimal (unsigned_abs seconds) ++ fraction (unsigned_abs nanos) ++ codes "s"
