-- The values that are no messages.
use Rattle.std.specs.Prelude.{ℕ, ℤ, pos, negsuc, List, [], ◌∷◌, Bool, true, false, not, ◌==◌}
use Rattle.std.specs.declared.cmp.Ordering.{Ordering}
use Rattle.std.specs.declared.cmp.Ordering.TheVariants.{Less, Equal, Greater}
use Rattle.std.specs.Ordering.{nat_cmp, int_cmp, bool_cmp, match_ordering}

-- An enum's value is its number, a float's its bits, and a string its bytes.
pub data Scalar : Type 0 where
  int32 : ℤ → Scalar
  int64 : ℤ → Scalar
  uint32 : ℕ → Scalar
  uint64 : ℕ → Scalar
  boolean : Bool → Scalar
  float : ℕ → Scalar
  double : ℕ → Scalar
  enum : ℤ → Scalar
  text : List ℕ → Scalar
  bytes : List ℕ → Scalar

-- the value that an absent field of implicit presence has; of a float or double +0 alone
abbrev pub is_default : Scalar → Bool
is_default (int32 (pos n)) = n == 0
is_default (int64 (pos n)) = n == 0
is_default (uint32 n) = n == 0
is_default (uint64 n) = n == 0
is_default (boolean b) = not b
is_default (float n) = n == 0
is_default (double n) = n == 0
is_default (enum (pos n)) = n == 0
is_default (text []) = true
is_default (bytes []) = true
is_default (int32 (negsuc n)) = false
is_default (int64 (negsuc n)) = false
is_default (enum (negsuc n)) = false
is_default (text (x ∷ xs)) = false
is_default (bytes (x ∷ xs)) = false

-- strings by their bytes
abbrev pub bytes_cmp : List ℕ → List ℕ → Ordering
bytes_cmp [] [] = Equal
bytes_cmp [] (y ∷ ys) = Less
bytes_cmp (x ∷ xs) [] = Greater
bytes_cmp (x ∷ xs) (y ∷ ys) = match_ordering (nat_cmp x y) Less (bytes_cmp xs ys) Greater

-- the order of the keys of one map: numbers by value, false before true, strings by bytes
abbrev pub key_cmp : Scalar → Scalar → Ordering
key_cmp (int32 x) (int32 y) = int_cmp x y
key_cmp (int64 x) (int64 y) = int_cmp x y
key_cmp (uint32 x) (uint32 y) = nat_cmp x y
key_cmp (uint64 x) (uint64 y) = nat_cmp x y
key_cmp (boolean x) (boolean y) = bool_cmp x y
key_cmp (text x) (text y) = bytes_cmp x y
key_cmp _ _ = Equal
