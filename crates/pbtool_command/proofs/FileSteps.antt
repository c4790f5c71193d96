-- What comes of files after something was opened.
use Rattle.std.proofs.Common.{◌≡◌, ℕ, List, [], Option, None, Some, sym, ◌∙◌}
use Rattle.std.specs.Prelude.{Result, Ok, Err}
use Rattle.pbtool_files.specs.FileMap.{FileMap, KeepsMap, WritesWhole, IsSaved, IsUnsaved}
use Rattle.pbtool_files.specs.Answer.{Answer}
use Rattle.pbtool_command.specs.Steps.{Comes}
use Rattle.pbtool_files.specs.declared.report.Refusal.{Refusal}
use Rattle.pbtool_files.proofs.KnownLemmas.{keeps_then}
use Rattle.pbtool_command.proofs.Coming.{comes_map}

writes_then :
    {E : Type 0} (a b c : Option FileMap) (path bytes : List ℕ) (r : Result Unit E) → KeepsMap a b → WritesWhole b c path bytes r → WritesWhole a c path bytes r
writes_then None b c path bytes r kept wrote = tt
writes_then (Some a) None c path bytes r kept wrote = absurd kept
writes_then (Some a) (Some b) None path bytes r kept wrote = absurd wrote
writes_then (Some a) (Some b) (Some c) path bytes r kept wrote = (λ other differs. wrote.0 other differs ∙ kept other, wrote.1)

pub saved_later :
    {F : Type 0} (contents : F → Option FileMap) (old mid new : F) (s : Option (List ℕ × List ℕ)) → KeepsMap (contents old) (contents mid) → IsSaved contents mid new s → IsSaved contents old new s
saved_later contents old mid new None kept saved = keeps_then (contents old) (contents mid) (contents new) kept saved
saved_later contents old mid new (Some file) kept saved = writes_then (contents old) (contents mid) (contents new) file.0 file.1 (Ok tt) kept saved

pub unsaved_later :
    {F : Type 0} (contents : F → Option FileMap) (failures : F → ℕ) (old mid new : F) (path : List ℕ) → KeepsMap (contents old) (contents mid) → failures mid ≡ failures old → IsUnsaved contents failures mid new path
    → IsUnsaved contents failures old new path
unsaved_later contents failures old mid new path kept same unsaved =
    (λ e. unsaved.0 (e ∙ sym same), writes_then (contents old) (contents mid) (contents new) path [] (Err tt) kept unsaved.1)

-- what comes of later files comes of the earlier ones, which they are as
pub later_comes :
    {F : Type 0} (contents : F → Option FileMap) (failures : F → ℕ) (old mid new : F) (Out Cut : List ℕ → Type 0) (P Q : Answer → Type 0)
    (B C : List ℕ → Type 0) (r : Result Unit Refusal) → KeepsMap (contents old) (contents mid) → failures mid ≡ failures old
    → ((a : Answer) → P a → Q a) → ((text : List ℕ) → B text → C text)
    → Comes Out Cut (IsSaved contents mid new) (IsUnsaved contents failures mid new) P B r
    → Comes Out Cut (IsSaved contents old new) (IsUnsaved contents failures old new) Q C r
later_comes contents failures old mid new Out Cut P Q B C r kept same right begun h =
    comes_map Out Out Cut Cut (IsSaved contents mid new) (IsSaved contents old new) (IsUnsaved contents failures mid new)
    (IsUnsaved contents failures old new) P Q B C r (λ text sent. sent) (λ text cut. cut)
    (λ file saved. saved_later contents old mid new file kept saved) (λ path unsaved. unsaved_later contents failures old mid new path kept same unsaved)
    right begun h
