-- Which types the bytes of a descriptor set make, and why they make none. A set is read strictly, or leniently: without what strict reading refuses in
-- sets of proto2.
use Rattle.std.specs.Prelude.{◌≡◌, ℕ, List, length, slice_get, Some}
use Rattle.pb_wire.specs.Limits.{full}
use Rattle.pb_schema.specs.Types.{Types}
use Rattle.pb_value.specs.Data.{Message}
use Rattle.pb_declarations.specs.Decls.{DeclaredFile}
use Rattle.pb_descr_message.specs.Causes.{set_causes}
use Rattle.pb_descr_message.specs.Lenient.{IsLenientSetOf}
use Rattle.pb_descr_message.specs.Omitted.{OmittedView, omitted_in}
use Rattle.pb_descr_message.specs.Sets.{IsSetOf, IsSetText, SetFault, HasSetFault, set_bytes}
use Rattle.pb_descr_message.specs.Without.{without_parts}
use Rattle.pb_link.specs.Linking.{Links}
use Rattle.pb_link.specs.ToDecls.{decls_of}
use Rattle.pb_link_rules.specs.Faults.{LinkFault}
use Rattle.pb_c.specs.PoolFault.{PoolFault}

-- ---- however a set is read

-- the bytes are a set of these files, and the files link to these types
pub record FilesMake (AreFiles : List DeclaredFile → Type 0) (ts : Types) : Type 0 where
  pub files : List DeclaredFile
  pub is_set : AreFiles files
  pub links : Links files ts

-- the bytes are no set of declared files, or are one whose files do not link
abbrev pub FilesFail : (List DeclaredFile → Type 0) → (SetFault → Type 0) → PoolFault → Type 0
FilesFail AreFiles HasFault (PoolFault.in_bytes f) = HasFault (SetFault.of_bytes f)
FilesFail AreFiles HasFault (PoolFault.in_file i c) = HasFault (SetFault.of_file i c)
FilesFail AreFiles HasFault (PoolFault.in_source i byte c) = ⊥
FilesFail AreFiles HasFault (PoolFault.in_link file name c) = (files : List DeclaredFile) × AreFiles files × LinkFault files file name c

-- ---- read strictly

abbrev pub SetMakes : List ℕ → Types → Type 0
SetMakes set ts = FilesMake (IsSetOf full set) ts

abbrev pub SetFails : List ℕ → PoolFault → Type 0
SetFails set w = FilesFail (IsSetOf full set) (HasSetFault full set) w

-- the bytes are the canonical ones of a set of the declarations of a pool's types, and make these types
pub record IsSetOfPool (ts : Types) (set : List ℕ) : Type 0 where
  pub bytes : set ≡ set_bytes (decls_of ts)
  pub makes : SetMakes set ts

-- ---- read leniently

-- the bytes are a set that has these files without its parts
abbrev pub IsLenientSet : List ℕ → List DeclaredFile → Type 0
IsLenientSet set files = (omitted : List OmittedView) × IsLenientSetOf full set files omitted

-- the bytes have this fault, or are a set that without its parts shows this cause first
abbrev pub HasLenientFault : List ℕ → SetFault → Type 0
HasLenientFault set (SetFault.of_bytes f) = HasSetFault full set (SetFault.of_bytes f)
HasLenientFault set (SetFault.of_file i c) = (m : Message) × IsSetText full set m × (slice_get (set_causes (without_parts m)) 0 ≡ Some (i, c))

abbrev pub LenientSetMakes : List ℕ → Types → Type 0
LenientSetMakes set ts = FilesMake (IsLenientSet set) ts

abbrev pub LenientSetFails : List ℕ → PoolFault → Type 0
LenientSetFails set w = FilesFail (IsLenientSet set) (HasLenientFault set) w

-- the bytes are a set, of which this number of parts is left out
abbrev pub LeavesOut : List ℕ → ℕ → Type 0
LeavesOut set count = (m : Message) × IsSetText full set m × (count ≡ length (omitted_in m))
