-- Which files a file reaches by imports.
pub mod Sight
use Rattle.std.specs.Prelude.{◌≡◌, ◌⊎◌, ℕ, List, [], Option, Some, None, slice_get, Contains}
use Rattle.pb_schema.specs.Types.{FileView}

abbrev pub imports_of : List FileView → ℕ → List ℕ
imports_of files i = of_file (slice_get files i)
  where
    of_file : Option FileView → List ℕ
    of_file None = []
    of_file (Some f) = f.imports

pub data Reaches (files : List FileView) (i : ℕ) : ℕ → Type 0 where
  directly : {j : ℕ} → Contains (imports_of files i) j → Reaches files i j
  further : {k j : ℕ} → Reaches files i k → Contains (imports_of files k) j → Reaches files i j

-- what is declared in file j may be named in file i
abbrev pub IsSeen : List FileView → ℕ → ℕ → Type 0
IsSeen files i j = (i ≡ j) ⊎ Reaches files i j
