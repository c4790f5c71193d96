-- Why a set makes no pool, from what its steps leave.
use Rattle.std.proofs.Common.{◌≡◌, ◌≤◌, ◌+◌, ◌⊎◌, ℕ, List, [], ◌++◌, length, Bool, true, Option, Some, refl}
use Rattle.std.specs.Borrow.{Bor}
use Rattle.std.specs.Io.KnownBytes.{Consumes}
use Rattle.pb_wire.specs.Limits.{full}
use Rattle.pb_declarations.specs.Decls.{DeclaredFile}
use Rattle.pb_descr_message.specs.Lenient.{IsLenientSetOf}
use Rattle.pb_descr_message.specs.Omitted.{OmittedView}
use Rattle.pb_descr_message.specs.Sets.{IsSetOf}
use Rattle.pb_descr_message.specs.declared.error.DescrError.{DescrError}
use Rattle.pb_descr_message.specs.declared.error.DescrError.TheVariants as descr
use Rattle.pb_link_rules.specs.Faults.{IsUnlinked}
use Rattle.pb_link_rules.specs.declared.error.LinkError.{LinkError}
use Rattle.pb_link_rules.specs.declared.error.LinkError.TheVariants as link
use Rattle.pbtool_files.specs.Known.{IsReadFrom}
use Rattle.pbtool_files.specs.Refusal.{IsToldOfLink, IsToldOfSet, Refuses}
use Rattle.pbtool_files.specs.SetFile.{IsSetBy, IsUnreadBy, NoPool, no_file, no_text, no_set, no_links}
use Rattle.pbtool_files.specs.declared.report.Refusal.{Refusal}
use Rattle.pbtool_files.specs.declared.report.Refusal.TheVariants as refusal
use Rattle.pbtool_files.specs.declared.set_file.Reading.{Reading}
use Rattle.pbtool_files.specs.declared.set_file.Reading.TheVariants.{Strict, Lenient}
use Rattle.pbtool_files.proofs.FirstPieces.{early_refuses, stop_refuses}

-- strict reading leaves nothing out
pub set_strictly : (b : List ℕ) (files : List DeclaredFile) → IsSetOf full b files → IsSetBy Strict b files []
set_strictly b files s = record { set = s.set; text = s.text; silent = s.silent; declared = s.declared; left_out = refl }

pub set_leniently : (b : List ℕ) (files : List DeclaredFile) (omitted : List OmittedView) → IsLenientSetOf full b files omitted → IsSetBy Lenient b files omitted
set_leniently b files omitted s = record { set = s.set; text = s.text; silent = s.silent; declared = s.declared; left_out = s.left_out }

-- the bytes are no set, or a file of it is refused
pub told_of_set :
    (reading : Reading) (path b : List ℕ) (e : DescrError) (f : Refusal) → IsToldOfSet e f → IsUnreadBy reading b e → Refuses (NoPool reading path (Some b)) f
told_of_set Strict path b (descr.Fault byte steps cause) f told h = rw told (no_text refl h refl)
told_of_set Strict path b (descr.Decl file cause) f told h = rw told (no_set refl h.1 h.2 refl)
told_of_set Strict path b descr.Memory f told h = rw told tt
told_of_set Lenient path b (descr.Fault byte steps cause) f told h = rw told (no_text refl h refl)
told_of_set Lenient path b (descr.Decl file cause) f told h = rw told (no_set refl h.1 h.2 refl)
told_of_set Lenient path b descr.Memory f told h = rw told tt

-- the files don't link
pub told_of_link :
    (reading : Reading) (path b : List ℕ) (files : List DeclaredFile) (omitted : List OmittedView) (e : LinkError) (f : Refusal) → IsToldOfLink e f
    → IsSetBy reading b files omitted → IsUnlinked files e → Refuses (NoPool reading path (Some b)) f
told_of_link reading path b files omitted (link.Fault file full_name cause) f told is h = rw told (no_links refl is h refl)
told_of_link reading path b files omitted link.Memory f told is h = rw told tt

-- READING

module _ {I : Type 0} (left : I → Option (List ℕ)) (is_steady : I → Bool) (input : I) where
  -- a fault of the first bytes is reported for all
  pub early_no_pool :
      (path text : List ℕ) (new : Option (List ℕ)) (e : Refusal) → Consumes (left input) new text → length text ≤ full.bytes + 1
      → ((reading : Reading) (path more : List ℕ) → Refuses (NoPool reading path (Some (text ++ more))) e) → (reading : Reading)
      → Refuses (λ a. (content : Option (List ℕ)) × IsReadFrom left is_steady input (full.bytes + 1) content × NoPool reading path content a) e
  early_no_pool path text new e taken within refused reading =
      early_refuses left is_steady input (full.bytes + 1) (NoPool reading path) text new e taken within (refused reading path)

  -- memory ran out, or the input failed
  pub stop_no_pool :
      (path : Bor (List ℕ)) (e : Refusal) → (e ≡ refusal.Memory) ⊎ ((e ≡ refusal.Device path) × (is_steady input ≡ true → ⊥)) → (reading : Reading)
      → Refuses (λ a. (content : Option (List ℕ)) × IsReadFrom left is_steady input (full.bytes + 1) content × NoPool reading path.now content a) e
  stop_no_pool path e stopped reading =
      stop_refuses left is_steady input (full.bytes + 1) (NoPool reading path.now) path e (no_file refl refl) stopped
