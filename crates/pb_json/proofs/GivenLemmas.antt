-- The name that a field is given, as the entries of a map have it.
use Rattle.std.proofs.Common.{◌≡◌, ℕ, Bool, true, false, cond, List, [], ◌∷◌, map, Option, Some, option_map, refl, arith, String, Global, string_bytes, is_eq, nat_cmp, ◌&&◌}
use Rattle.std.specs.Prelude.{◌==◌, if◌then◌else◌}
use Rattle.std.specs.Map.{lookup}
use Rattle.std.specs.Ordering.{ordering_then}
use Rattle.pb_json.specs.Given.{name_given}

-- whether a field is that of the key, in the order of keys
abbrev pub is_at : ℕ → ℕ → ℕ × ℕ → Bool
is_at m n k = is_eq (ordering_then (nat_cmp m k.0) (nat_cmp n k.1))

pub same_key : (m n : ℕ) (k : ℕ × ℕ) → is_at m n k ≡ ((m == k.0) && (n == k.1))
same_key m n k = grind arith

abbrev pub seen : (ℕ × ℕ) × String Global → (ℕ × ℕ) × List ℕ
seen e = (e.0, string_bytes e.1)

pub found_seen : (m n : ℕ) (es : List ((ℕ × ℕ) × String Global)) → option_map string_bytes (lookup (is_at m n) es) ≡ name_given (map seen es) m n
found_seen m n [] = refl
found_seen m n (e ∷ es) = first ((m == e.0.0) && (n == e.0.1)) (same_key m n e.0) (found_seen m n es)
  where
    first : (b : Bool) → is_at m n e.0 ≡ b → option_map string_bytes (lookup (is_at m n) es) ≡ name_given (map seen es) m n
        → option_map string_bytes (cond (is_at m n e.0) (Some e.1) (lookup (is_at m n) es)) ≡ cond b (Some (string_bytes e.1)) (name_given (map seen es) m n)
    first true is later = rw is refl
    first false is later = rw is later

-- after a name was given
pub given_after : (a b m n : ℕ) (s : String Global) (f g : Option (String Global)) → f ≡ cond (is_at a b (m, n)) (Some s) g
    → option_map string_bytes f ≡ (if (m == a) && (n == b) then Some (string_bytes s) else option_map string_bytes g)
given_after a b m n s f g is = is_then (is_at a b (m, n)) refl
  where
    is_then : (t : Bool) → is_at a b (m, n) ≡ t → option_map string_bytes f ≡ (if (m == a) && (n == b) then Some (string_bytes s) else option_map string_bytes g)
    is_then true at = grind (arith, is, at, same_key a b (m, n))
    is_then false at = grind (arith, is, at, same_key a b (m, n))
