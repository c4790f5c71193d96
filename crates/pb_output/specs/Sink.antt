-- Bytes on their way to a device, whose first failure is kept.
use Rattle.std.specs.Prelude.{◌≡◌, ◌≢◌, ◌<◌, ◌^◌, ℕ, List, ◌++◌, length, Bool, true, false, Option, Result, MatchResult, OnOk}
use Rattle.std.specs.Io.KnownBytes.{Appends}
use Rattle.pb_wire.specs.declared.device.DeviceFault.{DeviceFault}
use Rattle.pb_output.specs.Sending.{Sent, Cut}
use Rattle.pb_output.specs.declared.sink.Sink.{Sink}

-- the rest of a text is held, or some of it was lost where the device failed
abbrev pub IsRest : Bool → ℕ → ℕ → List ℕ → List ℕ → Type 0
IsRest true before after held rest = (after ≢ before) × (0 < length rest)
IsRest false before after held rest = (after ≡ before) × (rest ≡ held)

-- since start, a beginning of the text went out, of as many bytes as are counted
pub record Carries {D : Type 0} (written : D → Option (List ℕ)) (failures : D → ℕ) (start now : D) (b : Sink) (text : List ℕ) : Type 0 where
  pub front : List ℕ
  pub rest : List ℕ
  pub whole : text ≡ front ++ rest
  pub went_out : Appends (written start) (written now) front
  pub counted : length text < 2 ^ 64 → b.sent ≡ length front
  pub state : IsRest b.failed (failures start) (failures now) b.held rest

-- the bytes follow whatever text was carried before
pub record Puts {D : Type 0} (written : D → Option (List ℕ)) (failures : D → ℕ) (old new : D) (a b : Sink) (bytes : List ℕ) : Type 0 where
  pub follow : (start : D) (text : List ℕ) → Carries written failures start old a text → Carries written failures start new b (text ++ bytes)

-- what was held went out; the answer is whether the device failed, and so whether a text that was carried went out whole or in part
pub record Finishes {D : Type 0} (written : D → Option (List ℕ)) (failures : D → ℕ) (old new : D) (b : Sink) (r : Result Unit DeviceFault) : Type 0 where
  pub well : OnOk r (b.failed ≡ false)
  pub answers :
      (start : D) (text : List ℕ) → Carries written failures start old b text
      → MatchResult r (λ _. Sent written failures start new text) (λ _. Cut written failures start new text)
