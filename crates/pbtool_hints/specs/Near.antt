-- Names that are near another one.
use Rattle.std.specs.Prelude.{◌≡◌, ◌≤◌, ◌-◌, ◌/◌, slice_index, ℕ, List, ◌++◌, length, map, nat_lt, if◌then◌else◌}
use Rattle.std.specs.Char.{to_ascii_lowercase}

-- the lists differ in one place alone, where each has at most this number of elements
pub record DifferInOnePlace (most : ℕ) (xs ys : List ℕ) : Type 0 where
  pub before : List ℕ
  pub left : List ℕ
  pub right : List ℕ
  pub after : List ℕ
  pub first : xs ≡ before ++ left ++ after
  pub second : ys ≡ before ++ right ++ after
  pub few_left : length left ≤ most
  pub few_right : length right ≤ most

-- half of a short name, and two bytes of others
abbrev pub most_wrong : ℕ → ℕ
most_wrong size = if nat_lt size 4 then size / 2 else 2

-- a name that may be meant by another: they differ in one place alone, but for ASCII case
abbrev pub IsNear : List ℕ → List ℕ → Type 0
IsNear wanted name = DifferInOnePlace (most_wrong (length wanted)) (map to_ascii_lowercase wanted) (map to_ascii_lowercase name)

-- the bytes at this place of two names are alike, but for ASCII case
abbrev pub AreAlikeAt : List ℕ → List ℕ → ℕ → Type 0
AreAlikeAt xs ys k = to_ascii_lowercase (slice_index xs k) ≡ to_ascii_lowercase (slice_index ys k)

-- the bytes at this place from the ends of two names are alike, but for ASCII case
abbrev pub AreAlikeFromEnd : List ℕ → List ℕ → ℕ → Type 0
AreAlikeFromEnd xs ys k =
    to_ascii_lowercase (slice_index xs (length xs - 1 - k)) ≡ to_ascii_lowercase (slice_index ys (length ys - 1 - k))
