-- Bytes that are there, of which a frame may be taken without waiting for more.
use Rattle.std.specs.Prelude.{◌≡◌, ◌+◌, ◌≤◌, ℕ, List, ◌++◌, length, take}
use Rattle.pb_wire.specs.Varint.{IsVarint}
use Rattle.pb_wire.specs.Limits.{Bounds}
use Rattle.pb_stream.specs.Spans.{IsSpan}

-- they begin with all bytes of a frame, whose length is within the limit
pub record HoldsFrame (limits : Bounds) (bytes : List ℕ) : Type 0 where
  pub span : List ℕ
  pub rest : List ℕ
  pub joined : bytes ≡ span ++ rest
  pub is_span : IsSpan span
  pub within : length is_span.text ≤ limits.bytes

-- the length is the first of them, this many bytes that encode the size, and there are as many more as it counts
abbrev pub IsHeld : ℕ → ℕ → List ℕ → Type 0
IsHeld start size bytes = IsVarint size (take start bytes) × (start + size ≤ length bytes)
