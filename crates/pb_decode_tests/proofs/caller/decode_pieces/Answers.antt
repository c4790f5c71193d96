use Rattle.std.proofs.Common.{take, ap, ◌∙◌}
use Rattle.std.proofs.lemmas.List.{take_all}
use Rattle.pb_decode_tests.specs.Answer.{joined}
use Rattle.pb_decode_tests.proofs.JoinedLemmas.{received_more, refused_pieces, answered_pieces}
use Rattle.pb_decode_tests.proofs.caller.decode_pieces.Goals as goal

pub loop-piece-init : goal.loop-piece-init
loop-piece-init c =
    let of_type = c.in_ok-decoder.ensures.of_type in
    record { own = record { of_pool = of_type.0; of_kind = of_type.1; of_limits = of_type.2 }; after = c.in_ok-decoder.ensures.after }

pub loop-piece-preserved : goal.loop-piece-preserved
loop-piece-preserved c =
    let own = c.loop-piece.invariant.own in
    let same = c.in_default.ensures.same in record {
      own = record { of_pool = same.0 ∙ own.of_pool; of_kind = same.1 ∙ own.of_kind; of_limits = same.2 ∙ own.of_limits };
      after = received_more c.feed.new.self c.args.pieces.now c.loop-piece.piece-index _ c.loop-piece-test.true
          (c.in_default.ensures.after (joined (take c.loop-piece.piece-index c.args.pieces.now)) c.loop-piece.invariant.after);
    }

pub returns-in-Err : goal.returns-in-Err
returns-in-Err c =
    refused_pieces c.loop-piece.decoder c.args.pool.now c.args.message_type.0 c.args.limits c.in-Err.error c.args.pieces.now c.loop-piece.piece-index _ c.loop-piece-test.true
    c.loop-piece.invariant.own c.settled_fault.ensures
    (c.in-Err.ensures.fault (joined (take c.loop-piece.piece-index c.args.pieces.now)) c.loop-piece.invariant.after)

pub returns : goal.returns
returns c =
    answered_pieces c.loop-piece.decoder c.args.pool.now c.args.message_type.0 c.args.limits c.finish.result (joined (take c.loop-piece.piece-index c.args.pieces.now)) (joined c.args.pieces.now)
    c.loop-piece.invariant.own (ap joined (take_all c.loop-piece.piece-index c.args.pieces.now c.loop-piece-test.false))
    (c.finish.ensures.value (joined (take c.loop-piece.piece-index c.args.pieces.now)) c.loop-piece.invariant.after)
    (c.finish.ensures.fault (joined (take c.loop-piece.piece-index c.args.pieces.now)) c.loop-piece.invariant.after)
