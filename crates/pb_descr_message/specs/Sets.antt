-- Which bytes are a set of declared files, and why sets are not read or written.
use Rattle.std.specs.Prelude.{◌≡◌, ◌≤◌, ◌<◌, ◌^◌, ⊤, ℕ, List, [], ◌++◌, length, slice_get, Some}
use Rattle.pb_wire.specs.Limits.{Bounds, full}
use Rattle.pb_wire.specs.Fault.{Fault, fault}
use Rattle.pb_wire.specs.Grammar.{HasFault}
use Rattle.pb_schema.specs.Context.{a_message, schema_of}
use Rattle.pb_value.specs.Data.{Message, message_depth}
use Rattle.pb_value.specs.Derives.{Text}
use Rattle.pb_value.specs.WellFormed.{IsWellFormed}
use Rattle.pb_value.specs.Canon.{canon_bytes}
use Rattle.pb_descr_message.specs.declared.cause.DeclCause.{DeclCause}
use Rattle.pb_descr_message.specs.declared.error.DescrError.{DescrError}
use Rattle.pb_descr_message.specs.declared.error.DescrError.TheVariants as descr
use Rattle.pb_descr_message.specs.declared.error.WriteSetError.{WriteSetError}
use Rattle.pb_descr_message.specs.declared.error.WriteSetError.TheVariants.{TooDeep, TooLarge, Memory}
use Rattle.pb_declarations.specs.Decls.{DeclaredFile}
use Rattle.pb_descr_message.specs.Pool.{the_set, descriptor_types}
use Rattle.pb_descr_message.specs.Reading.{files_in}
use Rattle.pb_descr_message.specs.Causes.{set_causes}
use Rattle.pb_descr_message.specs.Writing.{set_body}

-- the canonical bytes of the set of some files
abbrev pub set_bytes : List DeclaredFile → List ℕ
set_bytes files = canon_bytes descriptor_types the_set (set_body files)

-- the message of some files' set is well formed, and the wire can hold its bytes
abbrev pub IsWritable : List DeclaredFile → Type 0
IsWritable files = IsWellFormed descriptor_types the_set (set_body files) × (length (set_bytes files) < 2 ^ 31)

-- bytes are a text of a set's message within the limits
abbrev pub IsSetText : Bounds → List ℕ → Message → Type 0
IsSetText limits b set = Text descriptor_types the_set limits b set

-- bytes are a text of a set that shows no cause, and that has these files
pub record IsSetOf (limits : Bounds) (b : List ℕ) (files : List DeclaredFile) : Type 0 where
  pub set : Message
  pub text : IsSetText limits b set
  pub silent : set_causes set ≡ []
  pub declared : files ≡ files_in set

-- the files of a set are appended to the earlier ones
abbrev pub AddsSet : List ℕ → List DeclaredFile → List DeclaredFile → Type 0
AddsSet b old new = (files : List DeclaredFile) × IsSetOf full b files × (new ≡ old ++ files)

-- what is reported of bytes that are not a set of declared files: their fault, or the index of a file and its first cause
pub data SetFault : Type 0 where
  of_bytes : Fault → SetFault
  of_file : ℕ → DeclCause → SetFault

-- bytes do not encode a set's message and have this fault, or encode one whose first cause this is
abbrev pub HasSetFault : Bounds → List ℕ → SetFault → Type 0
HasSetFault limits b (SetFault.of_bytes f) = HasFault (schema_of descriptor_types) (a_message the_set) limits b f
HasSetFault limits b (SetFault.of_file i c) = (set : Message) × IsSetText limits b set × (slice_get (set_causes set) 0 ≡ Some (i, c))

-- bytes do not encode a set, or encode one whose first cause is reported, or memory ran out
abbrev pub IsUnread : Bounds → List ℕ → DescrError → Type 0
IsUnread limits b (descr.Fault byte path cause) = HasFault (schema_of descriptor_types) (a_message the_set) limits b (fault byte path.items cause)
IsUnread limits b (descr.Decl file cause) = (set : Message) × IsSetText limits b set × (slice_get (set_causes set) 0 ≡ Some (file, cause))
IsUnread limits b descr.Memory = ⊤

-- a set's message is refused for its first cause, or memory ran out
abbrev pub IsRefusedSet : Message → DescrError → Type 0
IsRefusedSet set (descr.Fault byte path cause) = ⊥
IsRefusedSet set (descr.Decl file cause) = slice_get (set_causes set) 0 ≡ Some (file, cause)
IsRefusedSet set descr.Memory = ⊤

-- an error reports this fault, or that memory ran out
abbrev pub TellsFault : Fault → DescrError → Type 0
TellsFault f (descr.Fault byte path cause) = fault byte path.items cause ≡ f
TellsFault f (descr.Decl file cause) = ⊥
TellsFault f descr.Memory = ⊤

-- an error reports this cause of this file, or that memory ran out
abbrev pub TellsCause : ℕ → DeclCause → DescrError → Type 0
TellsCause i c (descr.Fault byte path cause) = ⊥
TellsCause i c (descr.Decl file cause) = (file ≡ i) × (cause ≡ c)
TellsCause i c descr.Memory = ⊤

-- the set of some files nests too deep, or has too many bytes, or memory ran out
abbrev pub IsUnwritten : List DeclaredFile → WriteSetError → Type 0
IsUnwritten files TooDeep = 100 < message_depth (set_body files)
IsUnwritten files TooLarge = (message_depth (set_body files) ≤ 100) × (2 ^ 31 ≤ length (set_bytes files))
IsUnwritten files Memory = ⊤

-- something that takes `levels` levels is not written where only `depth_left` are left, or memory ran out
abbrev pub CutAt : ℕ → ℕ → WriteSetError → Type 0
CutAt depth_left levels TooDeep = depth_left < levels
CutAt depth_left levels TooLarge = ⊥
CutAt depth_left levels Memory = ⊤
