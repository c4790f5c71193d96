-- Points in time and lengths of time, as strings are read (ProtoJSON format, "JSON representation"; RFC 3339, section 5.6; timestamp.proto; duration.proto).
use Rattle.std.specs.Prelude.{ℕ, ◌+◌, ◌-◌, ◌*◌, ◌^◌, Bool, ◌&&◌, ◌||◌, ◌==◌, nat_lt, nat_le, true, false, List, length, take, drop, slice_index, slice_range, Option, Some, None, option_map, if◌then◌else◌, codes}
use Rattle.std.specs.Prelude.{ℤ, pos, neg_ℤ, ◌+ℤ◌, ◌-ℤ◌, ◌*ℤ◌, int_le}
use Rattle.std.specs.Char.{is_ascii_digit}
use Rattle.std.specs.List.{list_all, prefix_len}
use Rattle.std.specs.Str.{bytes_eq}
use Rattle.std.specs.Str.Parse.{digits_value}
use Rattle.jiff_core.specs.Calendar.{days_from_civil, days_in_month}
use Rattle.pb_json_scalars.specs.declared.times.Time.{Time}

abbrev pub time : ℤ → ℤ → Time
time seconds nanos = record { seconds = seconds; nanos = nanos }

-- DIGITS

-- one digit or more, as a number that is not above a limit
abbrev pub natural : ℕ → List ℕ → Option ℕ
natural most ds = if list_all is_ascii_digit ds && (nat_lt 0 (length ds) && nat_le (digits_value 10 ds) most) then Some (digits_value 10 ds) else None

-- a fraction of a second at the front: a point, and digits; nothing where there is no point
abbrev pub fraction_len : List ℕ → ℕ
fraction_len s = if slice_index s 0 == 46 then 1 + prefix_len is_ascii_digit (drop 1 s) else 0

-- the nanoseconds of digits, of which there are nine at most
abbrev pub nanos_of : List ℕ → Option ℕ
nanos_of ds = if nat_le (length ds) 9 then option_map (λ n. n * 10 ^ (9 - length ds)) (natural 999_999_999 ds) else None

-- the nanoseconds of the fraction at the front
abbrev pub fraction_nanos : List ℕ → Option ℕ
fraction_nanos s = if slice_index s 0 == 46 then nanos_of (slice_range s 1 (fraction_len s)) else Some 0

-- POINTS IN TIME

abbrev pub is_civil : ℕ → ℕ → ℕ → Bool
is_civil year month day = nat_le 1 month && (nat_le month 12 && (nat_le 1 day && nat_le day (days_in_month (pos year) month)))

-- the days since 1970-01-01, by the Gregorian calendar
abbrev pub days_of : Option ℕ → Option ℕ → Option ℕ → Option ℤ
days_of (Some year) (Some month) (Some day) = if is_civil year month day then Some (days_from_civil (pos year) month day) else None
days_of year month day = None

-- full-date = 4DIGIT "-" 2DIGIT "-" 2DIGIT
abbrev pub date_days : List ℕ → Option ℤ
date_days s =
    if (slice_index s 4 == 45) && (slice_index s 7 == 45)
    then days_of (natural 9_999 (slice_range s 0 4)) (natural 99 (slice_range s 5 7)) (natural 99 (slice_range s 8 10)) else None

abbrev pub second_of : Option ℕ → Option ℕ → Option ℕ → Option ℕ
second_of (Some hour) (Some minute) (Some second) = Some (hour * 3_600 + minute * 60 + second)
second_of hour minute second = None

-- 2DIGIT ":" 2DIGIT ":" 2DIGIT: a second of a day, and no leap second
abbrev pub day_second : List ℕ → Option ℕ
day_second s =
    if (slice_index s 2 == 58) && (slice_index s 5 == 58)
    then second_of (natural 23 (slice_range s 0 2)) (natural 59 (slice_range s 3 5)) (natural 59 (slice_range s 6 8)) else None

abbrev pub ahead_by : Bool → Option ℕ → Option ℕ → Option ℤ
ahead_by negative (Some hour) (Some minute) =
    Some (if negative then neg_ℤ (pos (hour * 3_600 + minute * 60)) else pos (hour * 3_600 + minute * 60))
ahead_by negative hour minute = None

-- time-offset = "Z" / ( ( "+" / "-" ) 2DIGIT ":" 2DIGIT ): the seconds that local time is ahead of UTC
abbrev pub offset : List ℕ → Option ℤ
offset s =
    if bytes_eq s (codes "Z") then Some (pos 0)
    else if (length s == 6) && (((slice_index s 0 == 43) || (slice_index s 0 == 45)) && (slice_index s 3 == 58))
    then ahead_by (slice_index s 0 == 45) (natural 23 (slice_range s 1 3)) (natural 59 (slice_range s 4 6)) else None

abbrev pub is_between : ℤ → ℤ → ℤ → Bool
is_between low high z = int_le low z && int_le z high

-- from 0001-01-01T00:00:00Z to 9999-12-31T23:59:59Z, in seconds since 1970-01-01T00:00:00Z
abbrev pub instant : ℤ → ℕ → Option Time
instant seconds nanos =
    if is_between (neg_ℤ (pos 62_135_596_800)) (pos 253_402_300_799) seconds then Some (time seconds (pos nanos)) else None

abbrev pub instant_of : Option ℤ → Option ℕ → Option ℕ → Option ℤ → Option Time
instant_of (Some days) (Some second) (Some nanos) (Some ahead) = instant (days *ℤ pos 86_400 +ℤ pos second -ℤ ahead) nanos
instant_of days second nanos ahead = None

-- date-time = full-date "T" partial-time time-offset, where partial-time ends with the fraction
abbrev pub timestamp : List ℕ → Option Time
timestamp s =
    if nat_le 20 (length s) && (slice_index s 10 == 84)
    then instant_of (date_days (slice_range s 0 10)) (day_second (slice_range s 11 19)) (fraction_nanos (drop 19 s))
    (offset (drop (fraction_len (drop 19 s)) (drop 19 s))) else None

-- LENGTHS OF TIME

abbrev pub is_negative : List ℕ → Bool
is_negative s = slice_index s 0 == 45

abbrev pub signed_time : Bool → Option ℕ → Option ℕ → Option Time
signed_time negative (Some seconds) (Some nanos) =
    Some (if negative then time (neg_ℤ (pos seconds)) (neg_ℤ (pos nanos)) else time (pos seconds) (pos nanos))
signed_time negative seconds nanos = None

-- digits, perhaps a fraction, and s: about 10,000 years at most
abbrev pub unsigned_duration : Bool → ℕ → List ℕ → Option Time
unsigned_duration negative whole s =
    if bytes_eq (drop (fraction_len (drop whole s)) (drop whole s)) (codes "s")
    then signed_time negative (natural 315_576_000_000 (take whole s)) (fraction_nanos (drop whole s)) else None

-- a sign belongs to both numbers
abbrev pub duration : List ℕ → Option Time
duration s =
    if is_negative s then unsigned_duration true (prefix_len is_ascii_digit (drop 1 s)) (drop 1 s) else unsigned_duration false (prefix_len is_ascii_digit s) s
