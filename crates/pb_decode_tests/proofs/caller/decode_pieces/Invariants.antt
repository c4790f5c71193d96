use Rattle.std.proofs.Common.{take}
use Rattle.pb_decode.specs.Received.{After}
use Rattle.pb_decode_tests.specs.Answer.{joined}
use Rattle.pb_decode_tests.proofs.JoinedLemmas.{IsOf}
use Rattle.pb_decode_tests.proofs.caller.decode_pieces.Given as goal

-- the decoder has received the pieces so far
abbrev pub invariant-loop-piece : goal.invariant-loop-piece
invariant-loop-piece l = record {
  own : IsOf l.decoder l.pool l.fn.message_type.0 l.fn.limits;
  after : After l.decoder (joined (take l.piece-index l.pieces));
}
