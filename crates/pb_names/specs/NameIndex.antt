-- Tables by which names are found.
use Rattle.std.specs.Prelude.{◌≡◌, ◌<◌, ℕ, List, map, length, Bool, true, false, Option, None, Some, is_some, ◌==◌, if◌then◌else◌, slice_get, position}
use Rattle.std.specs.Option.{option_map_or}
use Rattle.std.specs.BTreeMap.{BTreeMap, get_by}
use Rattle.std.specs.Cmp.Lexicographic.{slice_cmp}
use Rattle.std.specs.Ordering.{nat_cmp}
use Rattle.std.specs.Str.{bytes_eq}
use Rattle.std.specs.Prelude.{Vec}
use Rattle.std.specs.declared.alloc.Global.{Global}
use Rattle.pb_names.specs.NameHash.{name_hash}

-- the names of these bytes
abbrev pub texts : List (Vec ℕ Global) → List (List ℕ)
texts names = map (λ n. n.items) names

-- the index of the first name with a hash
abbrev pub first_of : BTreeMap ℕ ℕ → ℕ → Option ℕ
first_of by_hash hash = get_by (nat_cmp hash) by_hash

-- the index of another name
abbrev pub other_of : BTreeMap (Vec ℕ Global) ℕ → List ℕ → Option ℕ
other_of others name = get_by (λ k. slice_cmp nat_cmp name k.items) others

-- whether the name is at the index
abbrev pub is_at_index : List (List ℕ) → List ℕ → ℕ → Bool
is_at_index names name i = option_map_or (bytes_eq name) (slice_get names i) false

-- the index of a name, by that of the first name with its hash
abbrev pub found_from : List (List ℕ) → (List ℕ → Option ℕ) → List ℕ → Option ℕ → Option ℕ
found_from names other name None = None
found_from names other name (Some i) = if is_at_index names name i then Some i else other name

-- each name is found by the index of the first name with its hash, or among the other names
pub record IsIndex (names : List (List ℕ)) (first : ℕ → Option ℕ) (other : List ℕ → Option ℕ) : Type 0 where
  pub within : (hash i : ℕ) → first hash ≡ Some i → i < length names
  pub sound : (name : List ℕ) (i : ℕ) → other name ≡ Some i → position (bytes_eq name) names ≡ Some i
  pub found : (name : List ℕ) → found_from names other name (first (name_hash name)) ≡ position (bytes_eq name) names

-- the index is put for a hash
abbrev pub IsPutFirst : ℕ → ℕ → (ℕ → Option ℕ) → (ℕ → Option ℕ) → Type 0
IsPutFirst hash i old new = (other : ℕ) → new other ≡ (if hash == other then Some i else old other)

-- the index is put for another name
abbrev pub IsPutOther : List ℕ → ℕ → (List ℕ → Option ℕ) → (List ℕ → Option ℕ) → Type 0
IsPutOther name i old new = (other : List ℕ) → new other ≡ (if bytes_eq name other then Some i else old other)

-- the index is put for the name, by its hash where no name has this hash
abbrev pub IsPutAt : List ℕ → ℕ → Bool → (ℕ → Option ℕ) → (List ℕ → Option ℕ) → (ℕ → Option ℕ) → (List ℕ → Option ℕ) → Type 0
IsPutAt name i true first other new_first new_other = ((h : ℕ) → new_first h ≡ first h) × IsPutOther name i other new_other
IsPutAt name i false first other new_first new_other = IsPutFirst (name_hash name) i first new_first × ((x : List ℕ) → new_other x ≡ other x)

abbrev pub IsPut : List ℕ → ℕ → (ℕ → Option ℕ) → (List ℕ → Option ℕ) → (ℕ → Option ℕ) → (List ℕ → Option ℕ) → Type 0
IsPut name i first other new_first new_other = IsPutAt name i (is_some (first (name_hash name))) first other new_first new_other
