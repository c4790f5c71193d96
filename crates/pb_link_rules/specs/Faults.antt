-- The fault that is reported where declarations do not link.
use Rattle.std.specs.Prelude.{◌≡◌, ⊤, ℕ, List, Some, slice_get, string_bytes}
use Rattle.pb_declarations.specs.Decls.{DeclaredFile}
use Rattle.pb_link_rules.specs.declared.cause.LinkCause.{LinkCause}
use Rattle.pb_link_rules.specs.declared.error.LinkError.{LinkError}
use Rattle.pb_link_rules.specs.declared.error.LinkError.TheVariants.{Fault, Memory}
use Rattle.pb_link_names.specs.Declarations.{Declaration, full_name}
use Rattle.pb_link_rules.specs.Rules.{World}
use Rattle.pb_link_rules.specs.Link.{IsWorldOf, FailsFirst}

-- the least rule that fails, by place and then by number: the name of the file, the full name of the declaration, and the cause
pub record LinkFault (files : List DeclaredFile) (in_file_name name : List ℕ) (c : LinkCause) : Type 0 where
  pub world : World
  pub is_world : IsWorldOf files world
  pub place : ℕ
  pub fails_first : FailsFirst world place c
  pub declaration : Declaration
  pub there : slice_get world.declared place ≡ Some declaration
  pub named : name ≡ full_name declaration
  pub file : DeclaredFile
  pub in_file : slice_get files declaration.file ≡ Some file
  pub file_named : in_file_name ≡ file.name

-- a fault as it is reported: the name of the file, the full name of the declaration, and the cause
abbrev pub ToldFault : Type 0
ToldFault = List ℕ × List ℕ × LinkCause

abbrev pub HasLinkFault : List DeclaredFile → ToldFault → Type 0
HasLinkFault files f = LinkFault files f.0 f.1 f.2

-- the files are refused for their first fault, or memory ran out
abbrev pub IsUnlinked : List DeclaredFile → LinkError → Type 0
IsUnlinked files (Fault file name cause) = LinkFault files (string_bytes file) (string_bytes name) cause
IsUnlinked files Memory = ⊤

-- an error reports this fault, or that memory ran out
abbrev pub TellsLinkFault : List ℕ → List ℕ → LinkCause → LinkError → Type 0
TellsLinkFault file name c (Fault told_file told_name told) = (string_bytes told_file ≡ file) × (string_bytes told_name ≡ name) × (told ≡ c)
TellsLinkFault file name c Memory = ⊤
