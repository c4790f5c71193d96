-- What steps come to, from what is known of them.
use Rattle.std.proofs.Common.{◌≢◌, ℕ, List, [], Option, None, Some, refl, inl, inr, subst, sym}
use Rattle.std.specs.Prelude.{Result, Ok, Err}
use Rattle.pbtool_files.specs.Answer.{Answer, saves, refused, stopped, broken, device_failed, IsPrinted}
use Rattle.pbtool_files.specs.FileMap.{FileMap, KeepsMap, WritesWhole, IsSaved, IsUnsaved}
use Rattle.pbtool_files.specs.Refusal.{Refuses}
use Rattle.pbtool_command.specs.Steps.{Comes, FailsAt, NoFile}
use Rattle.pbtool_files.specs.declared.report.Refusal.{Refusal}
use Rattle.pbtool_files.proofs.RefusalLemmas.{by_refusal_map}

-- a refusal before anything is printed
pub refused_comes :
    (Out Cut : List ℕ → Type 0) (Saved : Option (List ℕ × List ℕ) → Type 0) (Unsaved : List ℕ → Type 0) (P : Answer → Type 0) (B : List ℕ → Type 0)
    (e : Refusal) → Out [] → Saved None → B [] → Refuses P e → Comes Out Cut Saved Unsaved P B (Err e)
refused_comes Out Cut Saved Unsaved P B e out saved begun h =
    by_refusal_map (λ line. P (refused line)) (λ line. (text : List ℕ) × P (stopped text line) × Out text × Saved None)
    (λ path. P (device_failed path)) (FailsAt Out Cut Saved Unsaved P B) (Unit {0}) ((text : List ℕ) × B text × Out text × Saved None) e
    (λ line p. ([], p, out, saved)) (λ path p. inl ([], p, out, saved)) (λ u. ([], begun, out, saved)) h

-- the same of what more is known
pub comes_map :
    (Out Out' Cut Cut' : List ℕ → Type 0) (Saved Saved' : Option (List ℕ × List ℕ) → Type 0) (Unsaved Unsaved' : List ℕ → Type 0)
    (P Q : Answer → Type 0) (B C : List ℕ → Type 0) (r : Result Unit Refusal) → ((text : List ℕ) → Out text → Out' text)
    → ((text : List ℕ) → Cut text → Cut' text) → ((s : Option (List ℕ × List ℕ)) → Saved s → Saved' s) → ((path : List ℕ) → Unsaved path → Unsaved' path)
    → ((a : Answer) → P a → Q a) → ((text : List ℕ) → B text → C text) → Comes Out Cut Saved Unsaved P B r → Comes Out' Cut' Saved' Unsaved' Q C r
comes_map Out Out' Cut Cut' Saved Saved' Unsaved Unsaved' P Q B C (Ok u) out cut saved unsaved right begun h =
    (h.0, right h.0 h.1, h.2, h.3, out h.0.text h.4, saved h.0.saved h.5)
comes_map Out Out' Cut Cut' Saved Saved' Unsaved Unsaved' P Q B C (Err e) out cut saved unsaved right begun h =
    by_refusal_map (λ line. (text : List ℕ) × P (stopped text line) × Out text × Saved None)
    (λ line. (text : List ℕ) × Q (stopped text line) × Out' text × Saved' None) (FailsAt Out Cut Saved Unsaved P B)
    (FailsAt Out' Cut' Saved' Unsaved' Q C) ((text : List ℕ) × B text × Out text × Saved None) ((text : List ℕ) × C text × Out' text × Saved' None) e
    (λ line p. (p.0, right (stopped p.0 line) p.1, out p.0 p.2, saved None p.3)) (λ path p. fails path p)
    (λ p. (p.0, begun p.0 p.1, out p.0 p.2, saved None p.3)) h
  where
    printed : (text : List ℕ) → IsPrinted P B text → IsPrinted Q C text
    printed text (inl p) = inl (p.0, right p.0 p.1, p.2)
    printed text (inr p) = inr (begun text p)

    fails : (path : List ℕ) → FailsAt Out Cut Saved Unsaved P B path → FailsAt Out' Cut' Saved' Unsaved' Q C path
    fails path (inl p) = inl (p.0, right (broken p.0 path) p.1, out p.0 p.2, saved None p.3)
    fails path (inr (inl p)) = inr (inl (p.0, p.1, printed p.0 p.2, cut p.0 p.3, saved None p.4))
    fails path (inr (inr p)) = inr (inr (p.0, p.1, right p.0 p.2, p.3, out [] p.4, unsaved path p.5))

-- a write that succeeded, whatever its errors are
wrote_whole :
    (E : Type 0) (old new : Option FileMap) (path bytes : List ℕ) → WritesWhole {E = E} old new path bytes (Ok tt)
    → WritesWhole {E = Unit {0}} old new path bytes (Ok tt)
wrote_whole E None new path bytes h = tt
wrote_whole E (Some map) None path bytes h = absurd h
wrote_whole E (Some map) (Some after) path bytes h = h

-- one that failed, whatever was to be written
wrote_in_part :
    {E : Type 0} (e : E) (old new : Option FileMap) (path bytes : List ℕ) → WritesWhole {E = E} old new path bytes (Err e)
    → WritesWhole {E = Unit {0}} old new path [] (Err tt)
wrote_in_part e None new path bytes h = tt
wrote_in_part e (Some map) None path bytes h = absurd h
wrote_in_part e (Some map) (Some after) path bytes h = h

module _
    {F : Type 0} (contents : F → Option FileMap) (failures : F → ℕ) (old new : F) (Out Cut : List ℕ → Type 0) (P : Answer → Type 0) (B : List ℕ → Type 0)
    (path bytes : List ℕ) (right : P (saves path bytes)) (out : Out []) where
  -- the file that a right answer writes was written
  pub save_comes :
      (E : Type 0) → WritesWhole {E = E} (contents old) (contents new) path bytes (Ok tt)
      → Comes Out Cut (IsSaved contents old new) (IsUnsaved contents failures old new) P B (Ok tt)
  save_comes E wrote = (saves path bytes, right, refl, refl, out, wrote_whole E (contents old) (contents new) path bytes wrote)

  -- or writing it failed
  pub unsaved_fails :
      {E : Type 0} (e : E) → failures new ≢ failures old → WritesWhole {E = E} (contents old) (contents new) path bytes (Err e)
      → FailsAt Out Cut (IsSaved contents old new) (IsUnsaved contents failures old new) P B path
  unsaved_fails e failed wrote =
      inr (inr (saves path bytes, bytes, right, refl, out, (failed, wrote_in_part e (contents old) (contents new) path bytes wrote)))

-- what comes where no file is written is what comes where none was
pub no_file_kept :
    {F : Type 0} (contents : F → Option FileMap) (old new : F) → KeepsMap (contents old) (contents new) → (saved : Option (List ℕ × List ℕ)) → NoFile saved
    → IsSaved contents old new saved
no_file_kept contents old new kept saved none = subst (IsSaved contents old new) (sym none) kept
