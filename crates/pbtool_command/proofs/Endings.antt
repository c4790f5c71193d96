-- How a run ends, from what its command came to and what was reported.
use Rattle.std.proofs.Common.{◌≡◌, ◌≢◌, ℕ, List, [], Option, None, false, refl, inl, inr, ap, sym, ◌∙◌, subst, arith}
use Rattle.std.specs.Prelude.{Result, Ok, Err, MatchResult, string_bytes}
use Rattle.pbtool_files.specs.Answer.{Answer, stopped, Ends, delivered, output_failed, file_failed, out_of_memory}
use Rattle.pbtool_files.specs.Report.{device_line}
use Rattle.pbtool_files.specs.Refusal.{names_device, refusal_line, refusal_status}
use Rattle.pbtool_command.specs.Steps.{Comes, FailsAt}
use Rattle.pbtool_files.specs.declared.report.Refusal.{Refusal}
use Rattle.pbtool_files.specs.declared.report.Refusal.TheVariants.{Fault, Set, SetFile, Link, UnknownType, TooLarge, Frame, Frames, Source, Json, Device, File, Memory}
use Rattle.pbtool_files.specs.declared.report.Refusal.TheVariants.{Breaks, FrameJson, JsonText}

module _
    (Out Cut Told : List ℕ → Type 0) (Saved : Option (List ℕ × List ℕ) → Type 0) (Unsaved : List ℕ → Type 0) (status : ℕ)
    (P : Answer → Type 0) (B : List ℕ → Type 0) where
  abbrev Ended : Type 0
  Ended = Ends Out Cut Told Saved Unsaved status P B

  stop_ends : (line : List ℕ) → (text : List ℕ) × P (stopped text line) × Out text × Saved None → (status ≡ 1) × Told line → Ended
  stop_ends line h told = delivered h.1 told.0 h.2 told.1 h.3

  fail_ends : (path : List ℕ) → FailsAt Out Cut Saved Unsaved P B path → (status ≡ 3) × Told (device_line path) → Ended
  fail_ends path (inl h) told = delivered h.1 told.0 h.2 told.1 h.3
  fail_ends path (inr (inl h)) told = output_failed h.2 told.0 h.3 (subst Told (ap device_line h.1) told.1) h.4
  fail_ends path (inr (inr h)) told = file_failed h.2 h.3 told.0 h.4 told.1 h.5

  -- the line of a refusal was reported, and the status answered
  pub ends_from :
      (Quiet : Type 0) (r : Result Unit Refusal) → (Quiet → Told []) → Comes Out Cut Saved Unsaved P B r
      → MatchResult r (λ _. (status ≡ 0) × Quiet) (λ e. (status ≡ refusal_status e) × Told (refusal_line e)) → Ended
  ends_from Quiet (Ok u) quiet h told = delivered h.1 (told.0 ∙ sym h.2) h.4 (subst Told (sym h.3) (quiet told.1)) h.5
  ends_from Quiet (Err (Fault byte path cause)) quiet h told = stop_ends _ h told
  ends_from Quiet (Err (Set byte path cause)) quiet h told = stop_ends _ h told
  ends_from Quiet (Err (SetFile file cause)) quiet h told = stop_ends _ h told
  ends_from Quiet (Err (Link file full_name cause)) quiet h told = stop_ends _ h told
  ends_from Quiet (Err (UnknownType name)) quiet h told = stop_ends _ h told
  ends_from Quiet (Err TooLarge) quiet h told = stop_ends _ h told
  ends_from Quiet (Err (Frame index byte path cause)) quiet h told = stop_ends _ h told
  ends_from Quiet (Err (FrameJson index path cause)) quiet h told = stop_ends _ h told
  ends_from Quiet (Err (Frames lines refused count)) quiet h told = stop_ends _ h told
  ends_from Quiet (Err (Source file byte cause)) quiet h told = stop_ends _ h told
  ends_from Quiet (Err (Json path cause)) quiet h told = stop_ends _ h told
  ends_from Quiet (Err (JsonText byte cause)) quiet h told = stop_ends _ h told
  ends_from Quiet (Err Breaks) quiet h told = stop_ends _ h told
  ends_from Quiet (Err (Device path)) quiet h told = fail_ends path.now h told
  ends_from Quiet (Err (File path)) quiet h told = fail_ends (string_bytes path) h told
  ends_from Quiet (Err Memory) quiet h told = out_of_memory h.1 told.0 h.2 told.1 h.3

-- no command answers the status of words that are none
pub never_two :
    (Quiet : Type 0) (Told : Refusal → Type 0) (r : Result Unit Refusal) (status : ℕ)
    → MatchResult r (λ _. (status ≡ 0) × Quiet) (λ e. (status ≡ refusal_status e) × Told e) → status ≢ 2
never_two Quiet Told (Ok u) status concluded two = absurd (omega (arith, concluded.0, two))
never_two Quiet Told (Err e) status concluded two = no_two e (sym concluded.0 ∙ two)
  where
    no_two : (e : Refusal) → refusal_status e ≡ 2 → ⊥
    no_two (Fault byte path cause) is = omega (arith, is)
    no_two (Set byte path cause) is = omega (arith, is)
    no_two (SetFile file cause) is = omega (arith, is)
    no_two (Link file full_name cause) is = omega (arith, is)
    no_two (UnknownType name) is = omega (arith, is)
    no_two TooLarge is = omega (arith, is)
    no_two (Frame index byte path cause) is = omega (arith, is)
    no_two (FrameJson index path cause) is = omega (arith, is)
    no_two (Frames lines refused count) is = omega (arith, is)
    no_two (Source file byte cause) is = omega (arith, is)
    no_two (Json path cause) is = omega (arith, is)
    no_two (JsonText byte cause) is = omega (arith, is)
    no_two Breaks is = omega (arith, is)
    no_two (Device path) is = omega (arith, is)
    no_two (File path) is = omega (arith, is)
    no_two Memory is = omega (arith, is)

-- what holds of a command where its refusal names no device holds where the status is not 3
pub kept_but_at_three :
    (Quiet : Type 0) (Told : Refusal → Type 0) (r : Result Unit Refusal) (status : ℕ) (Kept : Type 0)
    → MatchResult r (λ _. (status ≡ 0) × Quiet) (λ e. (status ≡ refusal_status e) × Told e)
    → MatchResult r (λ _. Kept) (λ e. names_device e ≡ false → Kept) → status ≢ 3 → Kept
kept_but_at_three Quiet Told (Ok u) status Kept concluded kept other = kept
kept_but_at_three Quiet Told (Err e) status Kept concluded kept other = by e concluded.0 kept
  where
    by : (e : Refusal) → status ≡ refusal_status e → (names_device e ≡ false → Kept) → Kept
    by (Fault byte path cause) is kept = kept refl
    by (Set byte path cause) is kept = kept refl
    by (SetFile file cause) is kept = kept refl
    by (Link file full_name cause) is kept = kept refl
    by (UnknownType name) is kept = kept refl
    by TooLarge is kept = kept refl
    by (Frame index byte path cause) is kept = kept refl
    by (FrameJson index path cause) is kept = kept refl
    by (Frames lines refused count) is kept = kept refl
    by (Source file byte cause) is kept = kept refl
    by (Json path cause) is kept = kept refl
    by (JsonText byte cause) is kept = kept refl
    by Breaks is kept = kept refl
    by (Device path) is kept = absurd (other is)
    by (File path) is kept = absurd (other is)
    by Memory is kept = kept refl

-- where that does not hold, the line that is reported names a device
pub device_told :
    (Quiet : Type 0) (Told : List ℕ → Type 0) (r : Result Unit Refusal) (status : ℕ) (Kept : Type 0)
    → MatchResult r (λ _. (status ≡ 0) × Quiet) (λ e. (status ≡ refusal_status e) × Told (refusal_line e))
    → MatchResult r (λ _. Kept) (λ e. names_device e ≡ false → Kept) → (Kept → ⊥) → (path : List ℕ) × Told (device_line path)
device_told Quiet Told (Ok u) status Kept concluded kept failed = absurd (failed kept)
device_told Quiet Told (Err e) status Kept concluded kept failed = by e concluded.1 kept
  where
    by : (e : Refusal) → Told (refusal_line e) → (names_device e ≡ false → Kept) → (path : List ℕ) × Told (device_line path)
    by (Fault byte path cause) told kept = absurd (failed (kept refl))
    by (Set byte path cause) told kept = absurd (failed (kept refl))
    by (SetFile file cause) told kept = absurd (failed (kept refl))
    by (Link file full_name cause) told kept = absurd (failed (kept refl))
    by (UnknownType name) told kept = absurd (failed (kept refl))
    by TooLarge told kept = absurd (failed (kept refl))
    by (Frame index byte path cause) told kept = absurd (failed (kept refl))
    by (FrameJson index path cause) told kept = absurd (failed (kept refl))
    by (Frames lines refused count) told kept = absurd (failed (kept refl))
    by (Source file byte cause) told kept = absurd (failed (kept refl))
    by (Json path cause) told kept = absurd (failed (kept refl))
    by (JsonText byte cause) told kept = absurd (failed (kept refl))
    by Breaks told kept = absurd (failed (kept refl))
    by (Device path) told kept = (path.now, told)
    by (File path) told kept = (string_bytes path, told)
    by Memory told kept = absurd (failed (kept refl))
