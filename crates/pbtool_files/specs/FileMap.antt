-- Named files, as a map from paths to bytes.
use Rattle.std.specs.Prelude.{Bool, true, ◌≡◌, ◌≢◌, ℕ, List, [], Option, None, Some, Result, Ok, Err, IfSome, IfOk, OnOk, ⊤}

-- the bytes at each path, or none where no file is there
abbrev pub FileMap : Type 0
FileMap = List ℕ → Option (List ℕ)

-- a map that is known stays as it is
abbrev pub KeepsMap : Option FileMap → Option FileMap → Type 0
KeepsMap None new = ⊤
KeepsMap (Some map) None = ⊥
KeepsMap (Some map) (Some after) = (path : List ℕ) → after path ≡ map path

-- what an opened file has left is the file at the path, and nothing was opened exactly where nothing is there
abbrev pub IsOpened : {I : Type 0} → (I → Option (List ℕ)) → Option (List ℕ) → Option I → Type 0
IsOpened left None None = ⊤
IsOpened left None (Some input) = ⊥
IsOpened left (Some bytes) None = ⊥
IsOpened left (Some bytes) (Some input) = left input ≡ Some bytes

-- opening keeps a map that is known, and opens what it has at the path
abbrev pub OpensAt : {I E : Type 0} → (I → Option (List ℕ)) → Option FileMap → Option FileMap → List ℕ → Result (Option I) E → Type 0
OpensAt left old new path r = KeepsMap old new × IfSome old (λ map. IfOk r (IsOpened left (map path)))

-- every other path is as before
abbrev pub SameBut : List ℕ → FileMap → FileMap → Type 0
SameBut path old new = (other : List ℕ) → other ≢ path → new other ≡ old other

-- a write that succeeds sets the path, and one that fails may leave anything there; every other path is as before
abbrev pub WritesWhole : {E : Type 0} → Option FileMap → Option FileMap → List ℕ → List ℕ → Result Unit E → Type 0
WritesWhole None new path bytes r = ⊤
WritesWhole (Some map) None path bytes r = ⊥
WritesWhole (Some map) (Some after) path bytes r = SameBut path map after × OnOk r (after path ≡ Some bytes)

-- the files do not fail, and these are the bytes at each path
pub record IsHonest {F : Type 0} (contents : F → Option FileMap) (is_steady : F → Bool) (files : F) (map : FileMap) : Type 0 where
  pub steady : is_steady files ≡ true
  pub told : contents files ≡ Some map

-- nothing was written, or the file of this path whole
abbrev pub IsSaved : {F : Type 0} → (F → Option FileMap) → F → F → Option (List ℕ × List ℕ) → Type 0
IsSaved contents old new None = KeepsMap (contents old) (contents new)
IsSaved contents old new (Some file) = WritesWhole {E = Unit {0}} (contents old) (contents new) file.0 file.1 (Ok tt)

-- writing the file of this path failed
abbrev pub IsUnsaved : {F : Type 0} → (F → Option FileMap) → (F → ℕ) → F → F → List ℕ → Type 0
IsUnsaved contents failures old new path = (failures new ≢ failures old) × WritesWhole {E = Unit {0}} (contents old) (contents new) path [] (Err tt)
