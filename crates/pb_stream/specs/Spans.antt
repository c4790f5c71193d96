-- A stream in parts: the bytes of each frame, whatever they hold ("Streaming Multiple Messages" of the techniques of Protocol Buffers).
use Rattle.std.specs.Prelude.{◌≡◌, List, [], ℕ, suc, ◌++◌, length}
use Rattle.pb_wire.specs.Varint.{IsVarint}

-- a length, and as many bytes as it counts
pub record IsSpan (bytes : List ℕ) : Type 0 where
  pub front : List ℕ
  pub text : List ℕ
  pub joined : bytes ≡ front ++ text
  pub counted : IsVarint (length text) front

-- no bytes of a frame are the first: the length can't be read, or the input ends before the bytes that it counts
abbrev pub HasNoSpan : List ℕ → Type 0
HasNoSpan input = (span rest : List ℕ) → input ≡ span ++ rest → IsSpan span → ⊥

-- the bytes of this number of frames, one after another
pub data AreSpans : ℕ → List ℕ → Type 0 where
  none_there : AreSpans 0 []
  one_more : {n : ℕ} {before span : List ℕ} → AreSpans n before → IsSpan span → AreSpans (suc n) (before ++ span)
