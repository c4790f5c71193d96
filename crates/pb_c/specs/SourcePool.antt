-- Which types sources make, and why they make none.
use Rattle.std.specs.Prelude.{◌≡◌, ⊤, ℕ, zero, suc, List, [], ◌∷◌, length, IsUtf8}
use Rattle.std.specs.Borrow.{Bor}
use Rattle.std.specs.List.{AllByRecursion}
use Rattle.pb_schema.specs.Types.{Types}
use Rattle.pb_declarations.specs.Decls.{DeclaredFile}
use Rattle.pb_source.specs.declared.reading.Reading.{Reading}
use Rattle.pb_source.specs.declared.reading.Reading.TheVariants.{Strict, Lenient}
use Rattle.pb_source.specs.Source.{IsSourceIn, HasFaultIn}
use Rattle.pb_source_tokens.specs.declared.fault.SourceCause.{SourceCause}
use Rattle.pb_link.specs.EnumMaps.{ListsEnumMaps}
use Rattle.pb_link.specs.Linking.{Links}
use Rattle.pb_link_rules.specs.Faults.{LinkFault}
use Rattle.pb_c.specs.declared.pool.compile.Unparsed.{Unparsed}
use Rattle.pb_c.specs.declared.pool.compile.Unparsed.TheVariants.{Source, Memory}
use Rattle.pb_c.specs.PoolFault.{PoolFault}

-- bytes of the caller's
abbrev pub Bytes : Type 0
Bytes = Bor (List ℕ)

abbrev pub AreNames : List Bytes → Type 0
AreNames names = AllByRecursion (λ name. IsUtf8 name.now) names

-- there is a name for each text, and each name is UTF-8
abbrev pub AreNamed : List Bytes → List Bytes → Type 0
AreNamed names texts = (length names ≡ length texts) × AreNames names

-- the files that are linked: read leniently, maps of enums in files of proto2 are lists of their entries
abbrev pub IsLinkedAs : Reading → List DeclaredFile → List DeclaredFile → Type 0
IsLinkedAs Strict parsed files = files ≡ parsed
IsLinkedAs Lenient parsed files = ListsEnumMaps parsed files

-- the sources are read by a grammar: the strict one of proto3, or the lenient one
module _ (grammar : Reading) where
  -- the texts are sources that declare these files, each by its name
  abbrev pub AreSources : List Bytes → List Bytes → List DeclaredFile → Type 0
  AreSources [] [] [] = ⊤
  AreSources [] [] (d ∷ ds) = ⊥
  AreSources [] (text ∷ texts) ds = ⊥
  AreSources (name ∷ names) [] ds = ⊥
  AreSources (name ∷ names) (text ∷ texts) [] = ⊥
  AreSources (name ∷ names) (text ∷ texts) (d ∷ ds) = IsSourceIn grammar name.now text.now d × AreSources names texts ds

  -- the text of this index is no source and has this fault, and those before it are sources
  abbrev pub SourceFails : List Bytes → List Bytes → ℕ → ℕ → SourceCause → Type 0
  SourceFails [] texts i byte c = ⊥
  SourceFails (name ∷ names) [] i byte c = ⊥
  SourceFails (name ∷ names) (text ∷ texts) zero byte c = HasFaultIn grammar text.now byte c
  SourceFails (name ∷ names) (text ∷ texts) (suc i) byte c = ((d : DeclaredFile) × IsSourceIn grammar name.now text.now d) × SourceFails names texts i byte c

  -- the texts are sources, and these are the files that are linked
  abbrev pub AreRead : List Bytes → List Bytes → List DeclaredFile → Type 0
  AreRead names texts files = (parsed : List DeclaredFile) × AreSources names texts parsed × IsLinkedAs grammar parsed files

  -- the texts are sources, and their files link to these types
  pub record SourcesMake (names texts : List Bytes) (ts : Types) : Type 0 where
    pub files : List DeclaredFile
    pub are_read : AreRead names texts files
    pub links : Links files ts

  -- a text is no source, or all are and their files do not link
  abbrev pub SourcesFail : List Bytes → List Bytes → PoolFault → Type 0
  SourcesFail names texts (PoolFault.in_bytes f) = ⊥
  SourcesFail names texts (PoolFault.in_file i c) = ⊥
  SourcesFail names texts (PoolFault.in_source i byte c) = SourceFails names texts i byte c
  SourcesFail names texts (PoolFault.in_link file name c) = (files : List DeclaredFile) × AreRead names texts files × LinkFault files file name c

-- a source is at fault, of whose index, byte and cause a fact holds, or memory ran out
abbrev pub IsUnparsed : (ℕ → ℕ → SourceCause → Type 0) → Unparsed → Type 0
IsUnparsed Fails (Source i byte c) = Fails i byte c
IsUnparsed Fails Memory = ⊤
