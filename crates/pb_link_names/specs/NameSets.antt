-- The packages that files make, and sets of them.
use Rattle.std.specs.Prelude.{◌≡◌, ℕ, List, [], ◌∷◌, ◌++◌, Bool, Option, Some, None, slice_get}
use Rattle.std.specs.List.{list_any}
use Rattle.std.specs.Str.{bytes_eq}
use Rattle.pb_schema.specs.Names.{packages_of}
use Rattle.pb_declarations.specs.Decls.{DeclaredFile}
use Rattle.pb_link_names.specs.Declarations.{Declaration}
use Rattle.pb_link_names.specs.Lookup.{Seen, is_package_name}
use Rattle.pb_link_names.specs.declared.package_set.PackageSet.{PackageSet}
use Rattle.pb_link_names.specs.PackageSets.{has_package, IsPackageSet}
use Rattle.pb_names.specs.NameSets.{NameSet}
use Rattle.pb_names.specs.NameSets.{names_in}

-- the name is in a set
abbrev pub is_in_set : NameSet → List ℕ → Bool
is_in_set p name = list_any (bytes_eq name) (names_in p)

-- the packages that a file's package makes
abbrev pub packages_by : Option DeclaredFile → List (List ℕ)
packages_by None = []
packages_by (Some f) = packages_of f.package_name

abbrev pub packages_at : List DeclaredFile → ℕ → List (List ℕ)
packages_at files i = packages_by (slice_get files i)

-- the names are those of the packages of what is seen
pub record ArePackages (ds : List Declaration) (sees : Seen) (p : PackageSet) : Type 0 where
  pub set : IsPackageSet p
  pub exact : (name : List ℕ) → has_package p name ≡ is_package_name ds sees name

-- the names are those of the packages that the files at these indexes make
pub record ArePackagesAt (files : List DeclaredFile) (indexes : List ℕ) (p : PackageSet) : Type 0 where
  pub set : IsPackageSet p
  pub exact : (name : List ℕ) → has_package p name ≡ list_any (λ i. list_any (bytes_eq name) (packages_at files i)) indexes

-- the index of a file that was looked at
abbrev pub own_index : Option ℕ → List ℕ
own_index None = []
own_index (Some i) = i ∷ []

-- the packages of the files at these indexes are added
abbrev pub AddsPackages : List DeclaredFile → List ℕ → PackageSet → PackageSet → Type 0
AddsPackages files indexes old new = (before : List ℕ) → ArePackagesAt files before old → ArePackagesAt files (before ++ indexes) new
