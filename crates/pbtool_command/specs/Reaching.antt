-- The state while sources are gathered: the files whose imports are being reached, and the steps that reach them. No public contract rests on it.
use Rattle.std.specs.Prelude.{◌≡◌, ◌⊎◌, ℕ, List, [], ◌∷◌, ◌++◌, true, false, Option, Some, None, map, reverse, drop, string_bytes}
use Rattle.pb_declarations.specs.Decls.{DeclaredFile}
use Rattle.pb_declarations.specs.View.{file_view}
use Rattle.pb_declarations.specs.declared.decl.FileDecl.{FileDecl}
use Rattle.pbtool_files.specs.Answer.{Answer}
use Rattle.pbtool_command.specs.CompileAnswer.{told_of}
use Rattle.pbtool_command.specs.Gathering.{Gathered, Trouble, Origin, imported, IsTaken, IsLeftOut, is_known, with_name, with_file}
use Rattle.pb_names.specs.NameSets.{names_in}
use Rattle.pbtool_command.specs.declared.gathering.Gathering.{Gathering}
use Rattle.pbtool_command.specs.declared.gathering.Open.{Open}

-- a file, and the names of its imports that are left to reach
pub record OpenFile : Type 0 where
  pub file : DeclaredFile
  pub left : List (List ℕ)

abbrev pub opened : DeclaredFile → List (List ℕ) → OpenFile
opened f left = record { file = f; left = left }

abbrev pub open_view : Open → OpenFile
open_view o = opened (file_view o.file) (drop o.next (map string_bytes o.file.imports.items))

-- the files whose imports are being reached, the innermost first
abbrev pub stack_of : List Open → List OpenFile
stack_of opens = reverse (map open_view opens)

-- the file that was found is the innermost now
abbrev pub OpensFound : List Open → Option FileDecl → List Open → Type 0
OpensFound old None new = new ≡ old
OpensFound old (Some f) new = new ≡ old ++ (record { file = f; next = 0 }) ∷ []

abbrev pub reached : Gathering → Gathered
reached g = record { names = names_in g.names; files = map file_view g.files.items }

-- an import is passed over, or its file is read
abbrev pub FindsImport :
    (List ℕ → Type 0) → (List ℕ → DeclaredFile → Type 0) → Gathered → List ℕ → Gathered → Option DeclaredFile → Type 0
FindsImport IsAbsent Declares g name h None = (h ≡ g) × ((is_known g name ≡ true) ⊎ IsLeftOut IsAbsent imported name)
FindsImport IsAbsent Declares g name h (Some f) =
    (h ≡ with_name name g) × (is_known g name ≡ false) × IsTaken imported name × Declares name f

-- an import is refused
abbrev pub RefusesImport : (Origin → List ℕ → Trouble → Type 0) → Gathered → List ℕ → Trouble → Type 0
RefusesImport HasTrouble g name t = (is_known g name ≡ false) × IsTaken imported name × HasTrouble imported name t

-- the next of these imports is refused
abbrev pub StopsInside : (Origin → List ℕ → Trouble → Type 0) → Gathered → List (List ℕ) → Answer → Type 0
StopsInside HasTrouble g left a =
    (name : List ℕ) × (names : List (List ℕ)) × (t : Trouble) × (left ≡ name ∷ names) × RefusesImport HasTrouble g name t × (a ≡ told_of name t)

-- the innermost file is closed, or its next import is passed over or read
pub data Moves (IsAbsent : List ℕ → Type 0) (Declares : List ℕ → DeclaredFile → Type 0) :
    Gathered → List OpenFile → Gathered → List OpenFile → Type 0 where
  closed : {g : Gathered} {f : DeclaredFile} {below : List OpenFile} → Moves IsAbsent Declares g (opened f [] ∷ below) (with_file f g) below
  passed :
      {g : Gathered} {f : DeclaredFile} {name : List ℕ} {names : List (List ℕ)} {below : List OpenFile}
      → (is_known g name ≡ true) ⊎ IsLeftOut IsAbsent imported name → Moves IsAbsent Declares g (opened f (name ∷ names) ∷ below) g (opened f names ∷ below)
  entered :
      {g : Gathered} {f inner : DeclaredFile} {name : List ℕ} {names : List (List ℕ)} {below : List OpenFile} → is_known g name ≡ false
      → IsTaken imported name → Declares name inner
      → Moves IsAbsent Declares g (opened f (name ∷ names) ∷ below) (with_name name g) (opened inner inner.imports ∷ opened f names ∷ below)
