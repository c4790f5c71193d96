-- The line of a refusal, and what follows it.
use Rattle.std.proofs.Common.{◌≡◌, ℕ, List, [], Option, arith, inl, inr, sym, ◌∙◌}
use Rattle.std.specs.Prelude.{Result, Ok, Err, MatchResult}
use Rattle.pbtool_files.specs.Refusal.{refusal_status}
use Rattle.pbtool_files.specs.declared.report.Refusal.{Refusal}
use Rattle.pbtool_files.specs.declared.report.Refusal.TheVariants.{Fault, Set, SetFile, Link, UnknownType, TooLarge, Frame, Frames, Source, Json, Device, File, Memory}
use Rattle.pbtool_files.specs.declared.report.Refusal.TheVariants.{Breaks, FrameJson, JsonText}
use Rattle.pb_output.specs.Sending.{Cut, Sent, SentOrCut}
use Rattle.pbtool_hints.specs.Lines.{AreLines}
use Rattle.pbtool_hints.specs.Lines.AreLines.{none}
use Rattle.pbtool_cli.specs.Explained.{WithMore}
use Rattle.pbtool_command.proofs.JsonSteps.{cut_longer, sent_cut, sent_then}

module _ {D : Type 0} (written : D → Option (List ℕ)) (failures : D → ℕ) where
  -- lines were written after it
  pub more_after :
      (old mid new : D) (line : List ℕ) → Sent written failures old mid line
      → (more : List ℕ) × AreLines more × SentOrCut written failures mid new more → WithMore (SentOrCut written failures old new) line
  more_after old mid new line first (more, are, inl sent) = (more, are, inl (sent_then written failures old mid new line more first sent))
  more_after old mid new line first (more, are, inr cut) = (more, are, inr (sent_cut written failures old mid new line more first cut))

  -- the line was cut, and nothing follows it
  pub none_after : (old new : D) (line : List ℕ) → Cut written failures old new line → WithMore (SentOrCut written failures old new) line
  none_after old new line cut = ([], none, inr (cut_longer written failures old new line [] cut))

-- nothing was written where the status is 0
pub quiet_at_zero :
    (Quiet : Type 0) (Told : Refusal → Type 0) (r : Result Unit Refusal) (status : ℕ)
    → MatchResult r (λ _. (status ≡ 0) × Quiet) (λ e. (status ≡ refusal_status e) × Told e) → status ≡ 0 → Quiet
quiet_at_zero Quiet Told (Ok u) status concluded zero = concluded.1
quiet_at_zero Quiet Told (Err e) status concluded zero = absurd (no_zero e (sym concluded.0 ∙ zero))
  where
    no_zero : (e : Refusal) → refusal_status e ≡ 0 → ⊥
    no_zero (Fault byte path cause) is = omega (arith, is)
    no_zero (Set byte path cause) is = omega (arith, is)
    no_zero (SetFile file cause) is = omega (arith, is)
    no_zero (Link file full_name cause) is = omega (arith, is)
    no_zero (UnknownType name) is = omega (arith, is)
    no_zero TooLarge is = omega (arith, is)
    no_zero (Frame index byte path cause) is = omega (arith, is)
    no_zero (FrameJson index path cause) is = omega (arith, is)
    no_zero (Frames lines refused count) is = omega (arith, is)
    no_zero (Source file byte cause) is = omega (arith, is)
    no_zero (Json path cause) is = omega (arith, is)
    no_zero (JsonText byte cause) is = omega (arith, is)
    no_zero Breaks is = omega (arith, is)
    no_zero (Device path) is = omega (arith, is)
    no_zero (File path) is = omega (arith, is)
    no_zero Memory is = omega (arith, is)
