-- Bytes that begin with a frame are no part of one, and have no fault.
use Rattle.std.proofs.Common.{◌≡◌, ◌∙◌, inl, inr, ℕ, List, [], ◌∷◌, ◌++◌, sym, append_assoc}
use Rattle.pb_wire.specs.Fault.{Fault}
use Rattle.pb_wire.specs.Limits.{Bounds}
use Rattle.pb_wire.specs.Varint.{EndsOnce}
use Rattle.pb_schema.specs.Types.{Types}
use Rattle.pb_stream.proofs.OneFrame.{frame_not_both}
use Rattle.pb_c.specs.declared.typed.frames.FrameReport.{FrameReport}
use Rattle.pb_c.specs.Typed.Frames.{IsFramed, IsNoFrame, IsPart}

-- a length has a byte
some_length : (front rest : List ℕ) → [] ≡ front ++ rest → EndsOnce front → ⊥
some_length [] rest none ends = ends
some_length (x ∷ front) rest none ends = absurd cc

module _ (pool : Types) (m : ℕ) (limits : Bounds) (bytes : List ℕ) (r : FrameReport) (h : IsFramed pool m limits bytes r) where
  pub no_part : IsPart pool m limits bytes → ⊥
  no_part (inl none) = some_length h.frame.front (h.frame.text ++ h.rest) (sym none ∙ h.frame.joined ∙ append_assoc h.frame.front h.frame.text h.rest) h.frame.counted.ends
  no_part (inr part) = frame_not_both pool m limits part.1 h.frame

  pub no_fault : (f : Fault) → IsNoFrame pool m limits bytes f → ⊥
  no_fault f none = frame_not_both pool m limits none.fault h.frame
