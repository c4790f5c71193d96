-- What `compile` answers: its sources are there and are sources, link, and as a set have at most 2^31 - 1 bytes.
use Rattle.std.specs.Prelude.{◌≡◌, ◌<◌, ◌≤◌, ◌^◌, ℕ, List, ◌∷◌, Option, length, map}
use Rattle.std.specs.Borrow.{Bor}
use Rattle.pb_declarations.specs.Decls.{DeclaredFile}
use Rattle.pb_descr_message.specs.Sets.{set_bytes}
use Rattle.pb_link_rules.specs.Faults.{LinkFault}
use Rattle.pb_link.specs.EnumMaps.{ListsEnumMaps}
use Rattle.pb_link.specs.Resolved.{Resolves}
use Rattle.pb_link_rules.specs.declared.cause.LinkCause.{LinkCause}
use Rattle.pbtool_files.specs.Answer.{Answer, saves, refused, device_failed}
use Rattle.pbtool_command.specs.Gathering.{Gathered, GathersUnder, Places, places, Trouble, unread, faulty, gathered, stopped_at, given, nothing_yet}
use Rattle.pbtool_files.specs.Report.{link_line, source_line, too_large_line}
use Rattle.pbtool_files.specs.declared.set_file.Reading.{Reading}
use Rattle.pbtool_files.specs.declared.set_file.Reading.TheVariants.{Strict, Lenient}
use Rattle.pbtool_command.specs.declared.command.Roots.{Roots}

-- the sources that are referred to
abbrev pub texts_of : List (Bor (List ℕ)) → List (List ℕ)
texts_of = map (λ t. t.now)

-- where sources are looked for, and how they are read
abbrev pub places_of : Roots → Places
places_of r = places r.reading (r.root.now ∷ texts_of r.others.now)

-- how the trouble with a file is reported
abbrev pub told_of : List ℕ → Trouble → Answer
told_of name (unread path) = device_failed path
told_of name (faulty place c) = refused (source_line name place c)

-- the files that are linked, of those that the sources declare: read leniently, maps of enums in files of proto2 are lists of their entries
abbrev pub IsLinkedAs : Reading → List DeclaredFile → List DeclaredFile → Type 0
IsLinkedAs Strict declared files = files ≡ declared
IsLinkedAs Lenient declared files = ListsEnumMaps declared files

-- where IsAt says what files are at paths, and Fails that reading there fails: these files under roots, compiled to the file of a path
pub data CompileAnswer
    (IsAt : List ℕ → Option (List ℕ) → Type 0) (Fails : List ℕ → Type 0) (p : Places) (out : List ℕ) (names : List (List ℕ))
    (answer : Answer) : Type 0 where
  untaken :
      {name : List ℕ} {t : Trouble} → GathersUnder IsAt Fails p given names nothing_yet (stopped_at name t) → answer ≡ told_of name t
      → CompileAnswer IsAt Fails p out names answer
  unlinked :
      {g : Gathered} {files : List DeclaredFile} {file full_name : List ℕ} {c : LinkCause}
      → GathersUnder IsAt Fails p given names nothing_yet (gathered g) → IsLinkedAs p.reading g.files files
      → LinkFault files file full_name c → answer ≡ refused (link_line file full_name c) → CompileAnswer IsAt Fails p out names answer
  too_large :
      {g : Gathered} {files resolved : List DeclaredFile} → GathersUnder IsAt Fails p given names nothing_yet (gathered g)
      → IsLinkedAs p.reading g.files files → Resolves files resolved → 2 ^ 31 ≤ length (set_bytes resolved)
      → answer ≡ refused too_large_line → CompileAnswer IsAt Fails p out names answer
  compiled :
      {g : Gathered} {files resolved : List DeclaredFile} → GathersUnder IsAt Fails p given names nothing_yet (gathered g)
      → IsLinkedAs p.reading g.files files → Resolves files resolved → length (set_bytes resolved) < 2 ^ 31
      → answer ≡ saves out (set_bytes resolved) → CompileAnswer IsAt Fails p out names answer
