-- Frames that are passed over, whatever they hold.
use Rattle.std.specs.Prelude.{◌≡◌, ◌<◌, ◌++◌, ℕ, List, Option, Some}
use Rattle.pb_stream.specs.Next.{bounded_size}
use Rattle.pb_stream.specs.Spans.{AreSpans, HasNoSpan}

-- an input began with this number of frames, which have this many bytes, and what follows them is left
pub record PassesSpans (count : ℕ) (input : List ℕ) (left : Option (List ℕ)) (size : ℕ) : Type 0 where
  pub span : List ℕ
  pub rest : List ℕ
  pub joined : input ≡ span ++ rest
  pub are_spans : AreSpans count span
  pub after : left ≡ Some rest
  pub size_is : size ≡ bounded_size span

-- it begins with fewer frames: after them there are no bytes of another
abbrev pub HasFewerSpans : ℕ → List ℕ → Type 0
HasFewerSpans count input =
    (n : ℕ) × (span : List ℕ) × (rest : List ℕ) × (n < count) × (input ≡ span ++ rest) × AreSpans n span × HasNoSpan rest
