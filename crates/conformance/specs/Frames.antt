-- Requests and responses in turn, each after its length.
use Rattle.std.specs.Prelude.{◌≡◌, ℕ, List, [], ◌++◌, ◌≤◌, drop, length, take}
use Rattle.std.specs.Int.{w32, from_le_bytes, to_le_bytes}
use Rattle.pb_schema.specs.Types.{Types}
use Rattle.conformance.specs.Reply.{IsAnswer}

-- bytes after their length: four bytes, the lowest first
abbrev pub frame : List ℕ → List ℕ
frame bytes = to_le_bytes w32 (length bytes) ++ bytes

-- what is left begins with such a length and that number of bytes, and this comes after them
pub record Begins (left bytes rest : List ℕ) : Type 0 where
  pub long : 4 ≤ length left
  pub size : length bytes ≡ from_le_bytes w32 (take 4 left)
  pub follows : drop 4 left ≡ bytes ++ rest

-- the requests at the front of an input, what comes after them, and the frames of what is answered to each
pub data Serves (pool : Types) (request response : ℕ) (input : List ℕ) : List ℕ → List ℕ → Type 0 where
  none_yet : Serves pool request response input input []
  one_more :
      {left given rest out answer : List ℕ} → Serves pool request response input left out → Begins left given rest
      → IsAnswer pool request response given answer → Serves pool request response input rest (out ++ frame answer)
