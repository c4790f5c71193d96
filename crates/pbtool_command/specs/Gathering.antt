-- Which sources `compile` gathers: each file in turn, before it its imports in order, each the same way and once. A file is read as it is
-- reached, before its imports, under the first of the roots that has it.
use Rattle.std.specs.Prelude.{◌≡◌, ◌⊎◌, ⊤, ℕ, List, [], ◌∷◌, ◌++◌, codes, Bool, true, false, ◌==◌, ◌||◌, Option, None, Some}
use Rattle.std.specs.List.{list_any, slice_split}
use Rattle.std.specs.Str.{bytes_eq}
use Rattle.pb_declarations.specs.Decls.{DeclaredFile}
use Rattle.pb_source_tokens.specs.declared.fault.SourceCause.{SourceCause}
use Rattle.pb_source.specs.Source.{IsSource, HasFault, IsLenientSource, HasLenientFault}
use Rattle.pbtool_files.specs.declared.set_file.Reading.{Reading}
use Rattle.pbtool_files.specs.declared.set_file.Reading.TheVariants.{Strict, Lenient}

-- NAMES OF FILES

-- the path of a file under a root
abbrev pub path_under : List ℕ → List ℕ → List ℕ
path_under root name = root ++ codes "/" ++ name

-- a part of the name between its slashes is `..`
abbrev pub climbs : List ℕ → Bool
climbs name = list_any (λ part. bytes_eq part (codes "..")) (slice_split (λ b. b == 47) name)

-- an import of this name is no file under a root: the name is empty, begins with a slash, or has a part `..`
abbrev pub leaves_root : List ℕ → Bool
leaves_root [] = true
leaves_root (b ∷ bs) = (b == 47) || climbs (b ∷ bs)

-- WHAT IS GATHERED

-- whether a file was given on the command line, or is the import of another
pub data Origin : Type 0 where
  given : Origin
  imported : Origin

-- the names that were reached, and the files whose imports are all reached
pub record Gathered : Type 0 where
  pub names : List (List ℕ)
  pub files : List DeclaredFile

abbrev pub nothing_yet : Gathered
nothing_yet = record { names = []; files = [] }

abbrev pub with_name : List ℕ → Gathered → Gathered
with_name name g = record g { names = g.names ++ name ∷ [] }

abbrev pub with_file : DeclaredFile → Gathered → Gathered
with_file f g = record g { files = g.files ++ f ∷ [] }

abbrev pub is_known : Gathered → List ℕ → Bool
is_known g name = list_any (bytes_eq name) g.names

-- why a file is refused: nothing can be read at this path, or it is no source, for this fault
pub data Trouble : Type 0 where
  unread : List ℕ → Trouble
  faulty : ℕ → SourceCause → Trouble

-- what comes of reaching names: all that was gathered, or the first file that is refused
pub data Outcome : Type 0 where
  gathered : Gathered → Outcome
  stopped_at : List ℕ → Trouble → Outcome

-- a given file is read wherever its name leads
abbrev pub IsTaken : Origin → List ℕ → Type 0
IsTaken given name = ⊤
IsTaken imported name = leaves_root name ≡ false

-- an import is left out that leaves the root or is not there
abbrev pub IsLeftOut : (List ℕ → Type 0) → Origin → List ℕ → Type 0
IsLeftOut IsAbsent given name = ⊥
IsLeftOut IsAbsent imported name = (leaves_root name ≡ true) ⊎ IsAbsent name

-- Where these say of names which files are not there, what their sources declare, and why they are refused: from these names on, having gathered
-- this, one comes to this.
pub data Gathers
    (IsAbsent : List ℕ → Type 0) (Declares : List ℕ → DeclaredFile → Type 0) (HasTrouble : Origin → List ℕ → Trouble → Type 0) :
    Origin → List (List ℕ) → Gathered → Outcome → Type 0 where
  none_left : {o : Origin} {g : Gathered} → Gathers IsAbsent Declares HasTrouble o [] g (gathered g)
  known :
      {o : Origin} {name : List ℕ} {names : List (List ℕ)} {g : Gathered} {out : Outcome} → is_known g name ≡ true
      → Gathers IsAbsent Declares HasTrouble o names g out → Gathers IsAbsent Declares HasTrouble o (name ∷ names) g out
  left_out :
      {o : Origin} {name : List ℕ} {names : List (List ℕ)} {g : Gathered} {out : Outcome} → IsLeftOut IsAbsent o name
      → Gathers IsAbsent Declares HasTrouble o names g out → Gathers IsAbsent Declares HasTrouble o (name ∷ names) g out
  read :
      {o : Origin} {name : List ℕ} {names : List (List ℕ)} {g h : Gathered} {f : DeclaredFile} {out : Outcome} → is_known g name ≡ false → IsTaken o name
      → Declares name f → Gathers IsAbsent Declares HasTrouble imported f.imports (with_name name g) (gathered h)
      → Gathers IsAbsent Declares HasTrouble o names (with_file f h) out → Gathers IsAbsent Declares HasTrouble o (name ∷ names) g out
  refused_inside :
      {o : Origin} {name met : List ℕ} {names : List (List ℕ)} {g : Gathered} {f : DeclaredFile} {t : Trouble} → is_known g name ≡ false
      → IsTaken o name → Declares name f → Gathers IsAbsent Declares HasTrouble imported f.imports (with_name name g) (stopped_at met t)
      → Gathers IsAbsent Declares HasTrouble o (name ∷ names) g (stopped_at met t)
  refused_here :
      {o : Origin} {name : List ℕ} {names : List (List ℕ)} {g : Gathered} {t : Trouble} → is_known g name ≡ false → IsTaken o name
      → HasTrouble o name t → Gathers IsAbsent Declares HasTrouble o (name ∷ names) g (stopped_at name t)

-- HOW SOURCES ARE READ

-- the bytes are a source of this name that declares f
abbrev pub IsSourceBy : Reading → List ℕ → List ℕ → DeclaredFile → Type 0
IsSourceBy Strict name bytes f = IsSource name bytes f
IsSourceBy Lenient name bytes f = IsLenientSource name bytes f

-- they are none, for this fault
abbrev pub HasFaultBy : Reading → List ℕ → ℕ → SourceCause → Type 0
HasFaultBy Strict bytes place c = HasFault bytes place c
HasFaultBy Lenient bytes place c = HasLenientFault bytes place c

-- where sources are looked for, and how they are read
pub record Places : Type 0 where
  pub reading : Reading
  pub roots : List (List ℕ)

abbrev pub places : Reading → List (List ℕ) → Places
places reading roots = record { reading = reading; roots = roots }

-- AT A PATH, where IsAt says what files are at paths, and Fails that reading there fails

module _ (IsAt : List ℕ → Option (List ℕ) → Type 0) (reading : Reading) (path : List ℕ) where
  abbrev pub DeclaresAt : List ℕ → DeclaredFile → Type 0
  DeclaresAt name f = (bytes : List ℕ) × IsAt path (Some bytes) × IsSourceBy reading name bytes f

  abbrev pub IsFaultyAt : ℕ → SourceCause → Type 0
  IsFaultyAt place c = (bytes : List ℕ) × IsAt path (Some bytes) × HasFaultBy reading bytes place c

  abbrev pub HasTroubleAt : (List ℕ → Type 0) → Trouble → Type 0
  HasTroubleAt Fails (unread p) = (p ≡ path) × Fails path
  HasTroubleAt Fails (faulty place c) = IsFaultyAt place c

-- UNDER ROOTS: a file is looked for under one after another, up to the first that has it

module _ (IsAt : List ℕ → Option (List ℕ) → Type 0) where
  -- the path of a name under one of the roots, where none before it has the file
  abbrev pub IsReached : List (List ℕ) → List ℕ → List ℕ → Type 0
  IsReached [] name path = ⊥
  IsReached (root ∷ roots) name path = (path ≡ path_under root name) ⊎ (IsAt (path_under root name) None × IsReached roots name path)

  abbrev pub IsAbsentUnder : List (List ℕ) → List ℕ → Type 0
  IsAbsentUnder [] name = ⊤
  IsAbsentUnder (root ∷ roots) name = IsAt (path_under root name) None × IsAbsentUnder roots name

  abbrev pub DeclaresUnder : Places → List ℕ → DeclaredFile → Type 0
  DeclaresUnder p name f = (path : List ℕ) × IsReached p.roots name path × DeclaresAt IsAt p.reading path name f

  -- a given file that no root has is refused, by its path under the first
  abbrev pub IsMissing : List (List ℕ) → Origin → List ℕ → Trouble → Type 0
  IsMissing (root ∷ roots) given name (unread path) = (path ≡ path_under root name) × IsAbsentUnder (root ∷ roots) name
  IsMissing _ _ _ _ = ⊥

module _ (IsAt : List ℕ → Option (List ℕ) → Type 0) (Fails : List ℕ → Type 0) (p : Places) where
  abbrev pub HasTroubleUnder : Origin → List ℕ → Trouble → Type 0
  HasTroubleUnder o name t =
      ((path : List ℕ) × IsReached IsAt p.roots name path × HasTroubleAt IsAt p.reading path Fails t) ⊎ IsMissing IsAt p.roots o name t

  abbrev pub GathersUnder : Origin → List (List ℕ) → Gathered → Outcome → Type 0
  GathersUnder = Gathers (IsAbsentUnder IsAt p.roots) (DeclaresUnder IsAt p) HasTroubleUnder
