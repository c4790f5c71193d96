-- What went out to a device of a text.
use Rattle.std.specs.Prelude.{◌≡◌, ◌≢◌, ◌⊎◌, ℕ, List, take, Option}
use Rattle.std.specs.Io.KnownBytes.{Appends}

module _ {D : Type 0} (written : D → Option (List ℕ)) (failures : D → ℕ) (old new : D) where
  -- the bytes went out whole
  abbrev pub Sent : List ℕ → Type 0
  Sent bytes = (failures new ≡ failures old) × Appends (written old) (written new) bytes

  -- the device failed, after a beginning of the bytes
  abbrev pub Cut : List ℕ → Type 0
  Cut bytes = (failures new ≢ failures old) × ((n : ℕ) × Appends (written old) (written new) (take n bytes))

  -- the bytes went out whole unless the device failed
  abbrev pub SentOrCut : List ℕ → Type 0
  SentOrCut bytes = Sent bytes ⊎ Cut bytes
