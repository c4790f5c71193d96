-- Imports of files as graphs over their indexes.
use Rattle.std.specs.Prelude.{◌≡◌, ◌↔◌, ℕ, ℤ, pos, negsuc, List, map, length, Bool, false, ◌==◌, ◌||◌, Option, Some, None, IsTrue, option_and_then, slice_get, vec_len}
use Rattle.pb_declarations.specs.Decls.{DeclaredFile}
use Rattle.std.specs.List.{enumerate_from, flat_map}
use Rattle.pb_link_names.specs.Sees.{file_named, files_of, public_files_of}
use Rattle.pb_graphs.specs.Flat.{lists_of}
use Rattle.pb_graphs.specs.Reach.{next_of, Reached, IsGraph, is_marked, IsListed}
use Rattle.pb_link_names.specs.declared.imports.Imports.{Imports}
use Rattle.pb_link_names.specs.declared.sight.Sight.{Sight}

-- the file that an import at an index names, by what each import names
abbrev pub target_at : List (Option ℕ) → ℤ → Option ℕ
target_at targets (pos i) = option_and_then (λ o. o) (slice_get targets i)
target_at targets (negsuc i) = None

abbrev pub is_file : Option ℕ → ℕ → Bool
is_file None j = false
is_file (Some i) j = i == j

-- whether the name of each file leads to that file
abbrev pub first_marks : (List ℕ → Option ℕ) → List DeclaredFile → List Bool
first_marks named files = map (λ e. is_file (named e.1.name) e.0) (enumerate_from 0 files)

-- the names of all files, joined in order
abbrev pub joined_names : List DeclaredFile → List ℕ
joined_names files = flat_map (λ f. f.name) files

-- whether each file is the first of its name
abbrev pub AreFirst : List DeclaredFile → Imports → Type 0
AreFirst files m = m.are_first.items ≡ first_marks (file_named files) files

-- the imports of these files, and which of them are public
pub record AreImports (files : List DeclaredFile) (m : Imports) : Type 0 where
  pub all : lists_of m.all ≡ map (λ f. f.imports) (files_of files)
  pub public : lists_of m.public ≡ map (λ f. f.imports) (public_files_of files)

-- what is imported are files
pub record LeadToFiles (m : Imports) : Type 0 where
  pub size : length (lists_of m.public) ≡ length (lists_of m.all)
  pub all : IsGraph (lists_of m.all)
  pub public : IsGraph (lists_of m.public)

-- the file that was looked at last sees this one
abbrev pub sees_by : Sight → ℕ → Bool
sees_by s j = is_file s.file j || is_marked s.reach j

-- the bits are those of the file that was looked at last
pub record KnowsSight (m : Imports) (s : Sight) : Type 0 where
  pub size : vec_len s.reach.bits ≡ length (lists_of m.all)
  pub listed : IsListed s.reach
  pub exact : (i : ℕ) → s.file ≡ Some i → (j : ℕ) → IsTrue (is_marked s.reach j) ↔ Reached (lists_of m.public) (next_of (lists_of m.all) i) j
