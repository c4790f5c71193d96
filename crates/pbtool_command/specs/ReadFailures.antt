-- Failed reads of a stream: a refusal names a device where the count of the input's failures changed, and nowhere else.
use Rattle.std.specs.Prelude.{◌≡◌, ◌≢◌, ℕ, true, false, Option, None, Some}
use Rattle.pbtool_files.specs.Refusal.{names_device}
use Rattle.pbtool_files.specs.declared.report.Refusal.{Refusal}
use Rattle.pbtool_command.specs.declared.frames.Next.{Next}
use Rattle.pbtool_command.specs.declared.frames.Next.TheVariants.{Put, End, Refused}
use Rattle.pbtool_command.specs.declared.all_frames.Turn.{Turn}
use Rattle.pbtool_command.specs.declared.all_frames.Turn.TheVariants.{GoesOn, Ends, Stops}

module _ (before after : ℕ) where
  abbrev pub RefusalCounts : Refusal → Type 0
  RefusalCounts e = (names_device e ≡ false → after ≡ before) × (names_device e ≡ true → after ≢ before)

  -- of what follows a frame, of where frames stop, and of the frame that follows if refused ones are passed over
  abbrev pub NextCounts : Next → Type 0
  NextCounts Put = after ≡ before
  NextCounts End = after ≡ before
  NextCounts (Refused e) = RefusalCounts e

  abbrev pub StopCounts : Option Refusal → Type 0
  StopCounts None = after ≡ before
  StopCounts (Some e) = RefusalCounts e

  abbrev pub TurnCounts : Turn → Type 0
  TurnCounts GoesOn = after ≡ before
  TurnCounts (Ends count) = after ≡ before
  TurnCounts (Stops e) = RefusalCounts e
