-- What is said of a decoder that a handle holds, case by case.
use Rattle.std.proofs.Common.{◌≡◌, ℕ, List, Option, Some, None, refl}
use Rattle.std.specs.Prelude.{IsSomeAnd}
use Rattle.pb_decode.specs.Decoder.{Decoder, Reading, state_of}
use Rattle.pb_decode.specs.Push.{Took}
use Rattle.pb_c_answers.specs.Decoder.{IsFinished, HasReceived, frame_of}

-- an empty handle has received nothing, and is not finished
empty_received : (b : List ℕ) → HasReceived None b → ⊥
empty_received b on = on

empty_is_not_finished : IsFinished None → ⊥
empty_is_not_finished over = over

-- what has received bytes is not finished
not_both : (d : Decoder) (b : List ℕ) → HasReceived (Some d) b → IsFinished (Some d) → ⊥
not_both d b on over = by d.reading (λ r. Took d.pool d.kind d.limits b (state_of r) r.held) on over
  where
    by : (o : Option Reading) (P : Reading → Type 0) → IsSomeAnd o P → o ≡ None → ⊥
    by (Some r) P on over = absurd (cc)
    by None P on over = on

-- a frame is the decoder without what it has read, and the frame of an empty handle is none
frame_of_one : (d : Decoder) → frame_of (Some d) ≡ Some (record d { reading = None })
frame_of_one d = refl

frame_of_none : frame_of None ≡ None
frame_of_none = refl
