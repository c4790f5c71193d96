-- Days and seconds of the calendar.
use Rattle.std.proofs.Common.{◌≡◌, ℕ, ◌+◌, ◌*◌, ◌<◌, List, ◌∷◌, ◌++◌, refl, sym, ap, ◌∙◌, subst, arith, append_assoc, codes}
use Rattle.std.specs.Prelude.{Bool, ◌||◌, decimal, int_lt, ℤ, pos, ◌+ℤ◌, ◌-ℤ◌, ◌*ℤ◌, ◌≤ℤ◌, unsigned_abs}
use Rattle.std.proofs.lemmas.Int.{by_lt_z, ints}
use Rattle.jiff_core.specs.declared.civil.date.Date.{Date}
use Rattle.jiff_core.specs.Calendar.{IsCivilDate, days_from_civil, day_count, days_of_years, days_of_months}
use Rattle.jiff_core.specs.Date.{epoch_day}
use Rattle.jiff_core.proofs.CalendarLemmas.{day_count-lt_year, days_from_civil-day_count}
use Rattle.jiff_core.proofs.DateLemmas.{civil}
use Rattle.pb_json.specs.Json.{instant}
use Rattle.pb_json.specs.JsonText.{IsJsonText, in_quotes}
use Rattle.pb_json.specs.Times.{IsDateText, date_text, fraction, sign, span_text, time_text}
use Rattle.pb_json.specs.declared.form.Layout.{Layout}

-- DATES

first_day : day_count (pos 1) 1 1 ≡ 3_652_791
unfolding day_count days_of_years days_of_months
first_day = refl

-- a date that is not before 0001-01-01 has a year of which that is so
pub late_year : (d : Date) (n : ℕ) → epoch_day d +ℤ pos 4_371_587 ≡ pos (3_652_425 + n) → pos 1 ≤ℤ d.year
late_year d n e =
    by_lt_z d.year (pos 1)
    (λ lt. absurd (
    let whole = days_from_civil-day_count d.year d.month d.day in
    let before = day_count-lt_year d.year d.month d.day (pos 1) 1 1 (civil d) (omega arith) lt in
    let first = first_day in omega (arith, ints, e, whole, before, first)
    ))
    (λ le. le)

pub date_shown : (d : Date) → pos 1 ≤ℤ d.year → IsDateText (epoch_day d) (date_text (unsigned_abs d.year) d.month d.day)
date_shown d late =
    let e : d.year ≡ pos (unsigned_abs d.year) = omega (arith, ints, late) in record {
      year = unsigned_abs d.year;
      month = d.month;
      day = d.day;
      since_year_one = omega (arith, ints, late, e);
      on_calendar = subst (λ (y : ℤ). IsCivilDate y d.month d.day) e (civil d);
      counted = ap (λ (y : ℤ). days_from_civil y d.month d.day) (sym e);
      text = refl;
    }

-- SECONDS

-- a quote in front, and one at the end
quoted : (y z : List ℕ) → (34 ∷ y) ++ (z ++ codes "\"") ≡ in_quotes (y ++ z)
quoted y z = ap (λ (l : List ℕ). 34 ∷ l) (sym (append_assoc y z (codes "\"")))

seconds_counted : (seconds : ℤ) (days second : ℕ) → pos (days * 86_400 + second) ≡ seconds +ℤ pos 62_135_596_800
    → seconds ≡ (pos days -ℤ pos 719_162) *ℤ pos 86_400 +ℤ pos second
seconds_counted seconds days second e = omega (arith, ints, e)

pub instant_shown :
    (layout : Layout) (indent : ℕ) (seconds nanos : ℤ) (days second : ℕ) (date : List ℕ) → second < 86_400
    → pos (days * 86_400 + second) ≡ seconds +ℤ pos 62_135_596_800 → IsDateText (pos days -ℤ pos 719_162) date
    → IsJsonText layout indent (instant seconds nanos)
    (((((codes "\"" ++ date) ++ codes "T") ++ time_text second) ++ fraction (unsigned_abs nanos)) ++ codes "Z\"")
instant_shown layout indent seconds nanos days second date within e is_date = (
  date ++ codes "T" ++ time_text second ++ fraction (unsigned_abs nanos) ++ codes "Z",
  quoted (((date ++ codes "T") ++ time_text second) ++ fraction (unsigned_abs nanos)) (codes "Z"),
  record {
    days = pos days -ℤ pos 719_162;
    second = second;
    within = within;
    counted = seconds_counted seconds days second e;
    date = date;
    is_date = is_date;
    text = refl;
  },
)

pub span_shown :
    (negative : Bool) (s n : ℕ) (seconds nanos : ℤ) → negative ≡ (int_lt seconds (pos 0) || int_lt nanos (pos 0)) → s ≡ unsigned_abs seconds
    → n ≡ unsigned_abs nanos → (((codes "\"" ++ sign negative) ++ decimal s) ++ fraction n) ++ codes "s\"" ≡ in_quotes (span_text seconds nanos)
span_shown negative s n seconds nanos e0 e1 e2 =
    quoted ((sign negative ++ decimal s) ++ fraction n) (codes "s")
    ∙ ap (λ (b : Bool). in_quotes (((sign b ++ decimal s) ++ fraction n) ++ codes "s")) e0
    ∙ ap (λ (k : ℕ). in_quotes (((sign (int_lt seconds (pos 0) || int_lt nanos (pos 0)) ++ decimal k) ++ fraction n) ++ codes "s")) e1
    ∙ ap (λ (k : ℕ). in_quotes (((sign (int_lt seconds (pos 0) || int_lt nanos (pos 0)) ++ decimal (unsigned_abs seconds)) ++ fraction k) ++ codes "s")) e2
