-- The hash of a name, and names sorted by their hashes.
use Rattle.std.specs.Prelude.{ℕ, List, ◌+◌, ◌*◌, ◌^◌, ◌%◌}
use Rattle.std.specs.Borrow.{Bor}
use Rattle.std.specs.List.{fold}
use Rattle.std.specs.declared.cmp.Ordering.{Ordering}
use Rattle.std.specs.Ordering.{nat_cmp, ordering_then}
use Rattle.std.specs.Cmp.Lexicographic.{slice_cmp}

-- a hash, and one more byte
unfoldable pub with_byte : ℕ → ℕ → ℕ
with_byte hash byte = ((hash * 6364136223846793005) % 2 ^ 64 + byte) % 2 ^ 64

-- a number for each name
abbrev pub name_hash : List ℕ → ℕ
name_hash name = fold with_byte 0 name

-- how a name compares to one that is kept after its hash
abbrev pub hashed_cmp : List ℕ → (ℕ × Bor (List ℕ)) → Ordering
hashed_cmp name kept = ordering_then (nat_cmp (name_hash name) kept.0) (slice_cmp nat_cmp name kept.1.now)
