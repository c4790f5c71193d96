-- Names as words in scopes.
use Rattle.std.specs.Prelude.{◌≡◌, ◌<◌, ◌↔◌, ◌⊎◌, ℕ, List, [], ◌∷◌, ◌++◌, length, Bool, true, false, IsTrue, Option, Some, None, slice_get, Contains}
use Rattle.std.specs.List.{AllByRecursion, AllZip, flat_map}
use Rattle.pb_schema.specs.declared.names.tree.NameTree.{NameTree}
use Rattle.pb_names.specs.NameSets.{names_in}
use Rattle.pb_schema.specs.Types.{FileView}
use Rattle.pb_schema.specs.Rules.{PackagesAreWords}
use Rattle.pb_schema.specs.Names.{is_word, is_package, packages_of, in_scope, name_at, AllDiffer}

-- the name of a scope, of which no scope has the empty one
abbrev pub scope_name : List (List ℕ) → Option ℕ → List ℕ
scope_name full_names None = []
scope_name full_names (Some i) = name_at full_names i

-- the full names of scopes and words in their order, after those before, by these words
abbrev pub names_behind : List (List ℕ) → List (List ℕ) → List (Option ℕ × ℕ) → List (List ℕ)
names_behind words before [] = before
names_behind words before (n ∷ ns) =
    names_behind words (before ++ in_scope (scope_name before n.0) (name_at words n.1) ∷ []) ns

unfoldable pub full_names : List (List ℕ) → List (Option ℕ × ℕ) → List (List ℕ)
full_names words names = names_behind words [] names

-- the full names of a tree; the index of a name is that of its full name
abbrev pub full_names_of : NameTree → List (List ℕ)
full_names_of t = full_names (names_in t.words) t.names.keys

-- the scope is none, or one of the full names
abbrev pub IsScope : List (List ℕ) → Option ℕ → Type 0
IsScope names None = Unit {0}
IsScope names (Some i) = i < length names

abbrev pub IsInTree : NameTree → Option ℕ → Type 0
IsInTree t scope = IsScope (full_names_of t) scope

-- the words are words; they and the full names differ, and each name has its full name
pub record AreNamed (words : List (List ℕ)) (names : List (Option ℕ × ℕ)) (full : List (List ℕ)) : Type 0 where
  pub each_word : AllByRecursion (λ w. IsTrue (is_word w)) words
  pub words_differ : AllDiffer words
  pub differ : AllDiffer full
  pub size : length full ≡ length names
  pub words_within : (i : ℕ) (n : Option ℕ × ℕ) → slice_get names i ≡ Some n → n.1 < length words
  pub scopes_before : (i j : ℕ) (n : Option ℕ × ℕ) → slice_get names i ≡ Some n → n.0 ≡ Some j → j < i
  pub named : (i : ℕ) (n : Option ℕ × ℕ) → slice_get names i ≡ Some n → slice_get full i ≡ Some (in_scope (scope_name full n.0) (name_at words n.1))

pub record IsTree (t : NameTree) : Type 0 where
  pub named : AreNamed (names_in t.words) t.names.keys (full_names_of t)

-- each name keeps its index
abbrev pub Keeps : List (List ℕ) → List (List ℕ) → Type 0
Keeps old new = (i : ℕ) (name : List ℕ) → slice_get old i ≡ Some name → slice_get new i ≡ Some name

-- the full name at the index; it is the last where it is new
abbrev pub IsAddedAt : List (List ℕ) → List (List ℕ) → List ℕ → ℕ → Bool → Type 0
IsAddedAt old new name i true = (new ≡ old ++ name ∷ []) × (i ≡ length old) × ¬ Contains old name
IsAddedAt old new name i false = (new ≡ old) × (slice_get old i ≡ Some name)

pub record NameAdded (old new : NameTree) (name : List ℕ) (i : ℕ) (is_new : Bool) : Type 0 where
  pub tree : IsTree new
  pub at_index : IsAddedAt (full_names_of old) (full_names_of new) name i is_new

-- a word is added in a scope
abbrev pub AddsName : NameTree → NameTree → Option ℕ → List ℕ → (ℕ × Bool) → Type 0
AddsName old new scope word r =
    IsTree old → IsInTree old scope → IsTrue (is_word word) → NameAdded old new (in_scope (scope_name (full_names_of old) scope) word) r.0 r.1

-- the first word of a name, and what comes after its dot
abbrev pub IsSplit : List ℕ → List ℕ → Option (List ℕ) → Type 0
IsSplit name word None = (name ≡ word) × ¬ Contains word 46
IsSplit name word (Some rest) = (name ≡ word ++ 46 ∷ rest) × ¬ Contains word 46

-- the packages that a package's name makes are there, and no name more; the scope is that of the package
pub record PackageAdded (old new : NameTree) (package_name : List ℕ) (scope : Option ℕ) : Type 0 where
  pub tree : IsTree new
  pub kept : Keeps (full_names_of old) (full_names_of new)
  pub in_tree : IsInTree new scope
  pub name : scope_name (full_names_of new) scope ≡ package_name
  pub members : (x : List ℕ) → Contains (full_names_of new) x ↔ (Contains (full_names_of old) x ⊎ Contains (packages_of package_name) x)

abbrev pub AddsPackage : NameTree → NameTree → List ℕ → Option ℕ → Type 0
AddsPackage old new package_name scope = IsTree old → IsTrue (is_package package_name) → PackageAdded old new package_name scope

-- the scopes of the files' packages
abbrev pub ArePackages : List (List ℕ) → List (Option ℕ) → List FileView → Type 0
ArePackages full scopes files = AllZip (λ s f. IsScope full s × (scope_name full s ≡ f.package_name)) scopes files

-- the packages of files are there, and no name more
pub record PackagesAdded (old new : NameTree) (files : List FileView) (scopes : List (Option ℕ)) : Type 0 where
  pub tree : IsTree new
  pub kept : Keeps (full_names_of old) (full_names_of new)
  pub packages : ArePackages (full_names_of new) scopes files
  pub members : (x : List ℕ) → Contains (full_names_of new) x ↔ (Contains (full_names_of old) x ⊎ Contains (flat_map (λ f. packages_of f.package_name) files) x)

abbrev pub AddsPackages : NameTree → NameTree → List FileView → List (Option ℕ) → Type 0
AddsPackages old new files scopes = IsTree old → PackagesAreWords files → PackagesAdded old new files scopes
