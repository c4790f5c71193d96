-- What `compile` comes to, from what its steps leave.
use Rattle.std.proofs.Common.{◌≡◌, ◌≤◌, ◌^◌, ℕ, List, [], ◌∷◌, Option, length, refl, subst, sym}
use Rattle.std.proofs.KnownBytes.{Appends-nil}
use Rattle.std.specs.List.{AllByRecursion}
use Rattle.std.specs.Prelude.{Result}
use Rattle.pb_value.specs.Data.{message_depth}
use Rattle.pb_declarations.specs.Decls.{DeclaredFile}
use Rattle.pb_descr_message.specs.Sets.{set_bytes}
use Rattle.pb_descr_message.specs.Writing.{set_body}
use Rattle.pb_link_rules.specs.Faults.{IsUnlinked}
use Rattle.pb_link.specs.Resolved.{Resolves}
use Rattle.pb_link_rules.specs.declared.error.LinkError.{LinkError}
use Rattle.pb_link_rules.specs.declared.error.LinkError.TheVariants as link
use Rattle.pb_link_names.proofs.BehindLemmas.{all_append}
use Rattle.pbtool_files.specs.Answer.{Answer, refused}
use Rattle.pbtool_command.specs.CompileAnswer.{CompileAnswer, IsLinkedAs, unlinked, too_large}
use Rattle.pbtool_files.specs.FileMap.{FileMap, IsSaved, IsUnsaved, KeepsMap}
use Rattle.pbtool_command.specs.Gathering.{Gathered, GathersUnder, Places, Origin, Outcome, gathered, given, nothing_yet, none_left, known, left_out, read, refused_inside, refused_here}
use Rattle.pbtool_files.specs.Refusal.{IsToldOfLink, Refuses}
use Rattle.pbtool_files.specs.Report.{too_large_line}
use Rattle.pb_output.specs.Sending.{Cut, Sent}
use Rattle.pbtool_command.specs.Steps.{Comes}
use Rattle.pbtool_files.specs.declared.report.Refusal.{Refusal}
use Rattle.pbtool_files.proofs.RefusalLemmas.{refuses_map}
use Rattle.pbtool_command.proofs.Coming.{comes_map}
use Rattle.pbtool_command.proofs.FileSteps.{saved_later, unsaved_later}
use Rattle.pbtool_command.proofs.SetLevels.{HasSource, set_fits}

module _ (IsAt : List ℕ → Option (List ℕ) → Type 0) (Fails : List ℕ → Type 0) (p : Places) where
  -- each file that is gathered has a source
  each_has_source :
      {o : Origin} {names : List (List ℕ)} {g : Gathered} {comes : Outcome} (whole : Gathered) → GathersUnder IsAt Fails p o names g comes
      → comes ≡ gathered whole → AllByRecursion HasSource g.files → AllByRecursion HasSource whole.files
  each_has_source {g = g} whole none_left e all =
      let same : g ≡ whole = cc in subst (λ (k : Gathered). AllByRecursion HasSource k.files) same all
  each_has_source whole (known k r) e all = each_has_source whole r e all
  each_has_source whole (left_out l r) e all = each_has_source whole r e all
  each_has_source whole (read {name = name} {h = inner} {f = f} k t declares first r) e all =
      each_has_source whole r e
      (all_append HasSource inner.files (f ∷ []) (each_has_source inner first refl all) ((p.reading, name, declares.2.0, declares.2.2), tt))
  each_has_source whole (refused_inside k t declares first) e all = absurd (cc)
  each_has_source whole (refused_here k t why) e all = absurd (cc)

  module _ (out : List ℕ) (names : List (List ℕ)) (g : Gathered) (gathers : GathersUnder IsAt Fails p given names nothing_yet (gathered g))
      (linked : List DeclaredFile) (as_read : IsLinkedAs p.reading g.files linked) where
    -- a set of them that is resolved nests no deeper than its bytes may
    pub set_within : (files : List DeclaredFile) → Resolves linked files → message_depth (set_body files) ≤ 100
    set_within files resolves = set_fits p.reading g.files linked files (each_has_source g gathers refl tt) as_read resolves

    -- they don't link
    pub told_unlinked : (e : LinkError) (f : Refusal) → IsToldOfLink e f → IsUnlinked linked e → Refuses (CompileAnswer IsAt Fails p out names) f
    told_unlinked (link.Fault file full_name cause) f told h = rw told (unlinked gathers as_read h refl)
    told_unlinked link.Memory f told h = rw told tt

    -- the bytes of their set are too many
    pub told_too_large :
        (files : List DeclaredFile) (f : Refusal) → Resolves linked files
        → Refuses (λ a. (2 ^ 31 ≤ length (set_bytes files)) × (a ≡ refused too_large_line)) f → Refuses (CompileAnswer IsAt Fails p out names) f
    told_too_large files f resolves h =
        refuses_map (λ a. (2 ^ 31 ≤ length (set_bytes files)) × (a ≡ refused too_large_line)) (CompileAnswer IsAt Fails p out names) f
        (λ a large. too_large gathers as_read resolves large.0 large.1) h

-- what was opened before a file is written leaves the files as they were
pub comes_later :
    {F : Type 0} (contents : F → Option FileMap) (failures : F → ℕ) (old mid new : F) (Out Cut : List ℕ → Type 0) (P : Answer → Type 0)
    (B : List ℕ → Type 0) (r : Result Unit Refusal) → KeepsMap (contents old) (contents mid) → failures mid ≡ failures old
    → Comes Out Cut (IsSaved contents mid new) (IsUnsaved contents failures mid new) P B r
    → Comes Out Cut (IsSaved contents old new) (IsUnsaved contents failures old new) P B r
comes_later contents failures old mid new Out Cut P B r kept same h =
    comes_map Out Out Cut Cut (IsSaved contents mid new) (IsSaved contents old new) (IsUnsaved contents failures mid new)
    (IsUnsaved contents failures old new) P P B B r (λ text sent. sent) (λ text cut. cut)
    (λ saved is. saved_later contents old mid new saved kept is) (λ path is. unsaved_later contents failures old mid new path kept same is)
    (λ a right. right) (λ text begun. begun) h

-- what comes where nothing goes to an output
pub nothing_out :
    {D : Type 0} (written : D → Option (List ℕ)) (failures : D → ℕ) (out : D) (Saved : Option (List ℕ × List ℕ) → Type 0) (Unsaved : List ℕ → Type 0)
    (P : Answer → Type 0) (B : List ℕ → Type 0) (r : Result Unit Refusal) → Comes (λ text. text ≡ []) (λ _. ⊥) Saved Unsaved P B r
    → Comes (Sent written failures out out) (Cut written failures out out) Saved Unsaved P B r
nothing_out written failures out Saved Unsaved P B r h =
    comes_map (λ text. text ≡ []) (Sent written failures out out) (λ _. ⊥) (Cut written failures out out) Saved Saved Unsaved Unsaved P P B B r
    (λ text none. subst (Sent written failures out out) (sym none) (refl, Appends-nil (written out))) (λ text cut. absurd cut) (λ saved is. is)
    (λ path is. is) (λ a right. right) (λ text begun. begun) h
