-- What is known of files and inputs: where they are honest, and where they do not fail.
use Rattle.std.specs.Prelude.{◌≡◌, ℕ, List, Bool, true, Option, Some, option_map, take}
use Rattle.pbtool_files.specs.FileMap.{FileMap, IsHonest}

-- this holds of the file at a path, where the files are honest
abbrev pub OfFiles : {F : Type 0} → (F → Option FileMap) → (F → Bool) → F → List ℕ → (Option (List ℕ) → Type 0) → Type 0
OfFiles contents is_steady files path P = (map : FileMap) → IsHonest contents is_steady files map → P (map path)

-- this holds of the bytes that are left of an input, where it doesn't fail and reports them
abbrev pub OfInput : {I : Type 0} → (I → Option (List ℕ)) → (I → Bool) → I → (Option (List ℕ) → Type 0) → Type 0
OfInput left is_steady input P = (bytes : List ℕ) → is_steady input ≡ true → left input ≡ Some bytes → P (Some bytes)

-- what was read is what honest files have at the path, up to this number of bytes
abbrev pub IsReadOf : {F : Type 0} → (F → Option FileMap) → (F → Bool) → F → ℕ → List ℕ → Option (List ℕ) → Type 0
IsReadOf contents is_steady files limit path read = OfFiles contents is_steady files path (λ content. read ≡ option_map (take limit) content)

-- the same of one input
abbrev pub IsReadFrom : {I : Type 0} → (I → Option (List ℕ)) → (I → Bool) → I → ℕ → Option (List ℕ) → Type 0
IsReadFrom left is_steady input limit read = OfInput left is_steady input (λ content. read ≡ option_map (take limit) content)
