-- Sets of packages.
use Rattle.std.specs.Prelude.{◌≡◌, ◌≤◌, ℕ, List, Bool, true, false, ◌||◌, ◌==◌, Option, Some, None}
use Rattle.std.specs.List.{list_any, slice_index_or}
use Rattle.std.specs.Str.{bytes_eq}
use Rattle.pb_tries.specs.Tries.{node_of, last_node, IsTrie}
use Rattle.pb_link_names.specs.declared.package_set.PackageSet.{PackageSet}

abbrev pub package_at : PackageSet → ℕ → Bool
package_at p node = slice_index_or p.are_packages.items node false

abbrev pub package_if : PackageSet → Option ℕ → Bool
package_if p None = false
package_if p (Some node) = package_at p node

-- the name is that of a package of the set
abbrev pub has_package : PackageSet → List ℕ → Bool
has_package p name = package_if p (node_of p.names name)

-- packages have nodes
pub record IsPackageSet (p : PackageSet) : Type 0 where
  pub trie : IsTrie p.names
  pub within : (node : ℕ) → package_at p node ≡ true → node ≤ last_node p.names

-- these names are added
pub record AddsNames (names : List (List ℕ)) (old new : PackageSet) : Type 0 where
  pub set : IsPackageSet new
  pub exact : (name : List ℕ) → has_package new name ≡ (list_any (bytes_eq name) names || has_package old name)

-- the name of a node becomes that of a package
pub record Marks (node : ℕ) (old new : PackageSet) : Type 0 where
  pub names : new.names ≡ old.names
  pub marked : (other : ℕ) → package_at new other ≡ ((other == node) || package_at old other)
