-- The first place of a name among names.
use Rattle.std.specs.Prelude.{ℕ, List, Bool, false, not, Option, Some, None, if◌then◌else◌}
use Rattle.std.specs.Borrow.{Bor}
use Rattle.std.specs.BTreeMap.{get_by}
use Rattle.std.specs.Cmp.Lexicographic.{slice_cmp}
use Rattle.std.specs.Ordering.{nat_cmp}
use Rattle.std.specs.Str.{bytes_eq}
use Rattle.pb_names.specs.NameHash.{name_hash}
use Rattle.pb_link_names.specs.declared.firsts.Firsts.{Firsts}

-- the name that is kept for a hash, and its place
abbrev pub kept_at : Firsts → ℕ → Option (Bor (List ℕ) × ℕ)
kept_at t hash = get_by (nat_cmp hash) t.by_hash

-- the place of a name among the others
abbrev pub other_at : Firsts → List ℕ → Option ℕ
other_at t name = get_by (λ k. slice_cmp nat_cmp name k.now) t.others

abbrev pub is_kept_for_another : List ℕ → Option (Bor (List ℕ) × ℕ) → Bool
is_kept_for_another name None = false
is_kept_for_another name (Some kept) = not (bytes_eq kept.0.now name)

-- the place of a name, by what is kept for its hash and by its place among the others
abbrev pub place_by : List ℕ → Option (Bor (List ℕ) × ℕ) → Option ℕ → Option ℕ
place_by name None other = other
place_by name (Some kept) other = if bytes_eq kept.0.now name then Some kept.1 else other

-- the place that a table has for a name
abbrev pub first_at : Firsts → List ℕ → Option ℕ
first_at t name = place_by name (kept_at t (name_hash name)) (other_at t name)
