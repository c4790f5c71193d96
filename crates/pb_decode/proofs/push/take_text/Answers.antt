-- A piece is taken, or as much of it as the limit leaves.
use Rattle.std.proofs.Common.{◌≡◌, ◌+◌, ◌++◌, ℕ, [], length, take, arith, subst, sym}
use Rattle.std.proofs.lemmas.Result.{err_from_is_err_and}
use Rattle.pb_wire.specs.Exact.{longer}
use Rattle.pb_wire.specs.Fault.{fault, text_at}
use Rattle.pb_wire.specs.declared.fault.Cause.TheVariants.{InputTooLarge}
use Rattle.pb_decode.specs.Reader.{state_view, Reported}
use Rattle.pb_decode.specs.Push.{IsSettled}
use Rattle.pb_decode.proofs.ReaderLemmas.{if_fault_weaker}
use Rattle.pb_decode.proofs.PushLemmas.{front_bad, whole_bad, too_large, took_more}
use Rattle.pb_decode.proofs.Outcomes.{fault_weaker, on_ok_both}
use Rattle.pb_decode.proofs.push.take_text.Goals as goal

pub returns-in_err-take_piece-clause-fault : goal.returns-in_err-take_piece-clause-fault
returns-in_err-take_piece-clause-fault c =
    λ b took.
    let p = err_from_is_err_and c.from_residual.result c.from_residual.ensures.1 in
    let at = took.at in
    let size = took.size in
    let most = c.max_bytes-most.ensures.same in
    let remaining = c.bytes_left-remaining.ensures in
    let is : length b + c.bytes_left-remaining.result ≡ c.args.limits.bytes = omega (arith, at, size, most, remaining) in
    rw (p.1, p.2)
    (if_fault_weaker c.in_err-take_piece.field-0.0 (Reported c.args.pool.now c.args.message_type.0 c.args.limits.depth (longer (text_at b) (take c.bytes_left-remaining.result c.args.piece.now))) (IsSettled c.args.pool.now c.args.message_type.0 c.args.limits (b ++ c.args.piece.now))
    (λ f reported. front_bad b c.args.piece.now c.bytes_left-remaining.result f is (omega arith) reported) (c.in_err-take_piece.ensures.refused c.args.message_type.0 c.args.limits.depth 101 [] (text_at b) took.reads))

pub returns-then-piece-remaining-clause-fault : goal.returns-then-piece-remaining-clause-fault
returns-then-piece-remaining-clause-fault c =
    λ b took.
    let at = took.at in
    let size = took.size in
    let most = c.max_bytes-most.ensures.same in
    let remaining = c.bytes_left-remaining.ensures in
    let is : length b + c.bytes_left-remaining.result ≡ c.args.limits.bytes = omega (arith, at, size, most, remaining) in
    let there = c.in_ok-take_piece.ensures.taken c.args.message_type.0 c.args.limits.depth 101 [] (text_at b) took.reads in
    let settled = too_large b c.args.piece.now c.bytes_left-remaining.result (state_view c.take_piece.new.reading.reader) c.take_piece.new.reading.held.items is (omega arith) there.0 there.1 in
    if_fault_weaker c.too_large.result (λ f. f ≡ fault c.max_bytes-most.result [] InputTooLarge) (IsSettled c.args.pool.now c.args.message_type.0 c.args.limits (b ++ c.args.piece.now))
    (λ f reported.
    subst (IsSettled c.args.pool.now c.args.message_type.0 c.args.limits (b ++ c.args.piece.now)) (sym reported)
    (subst (λ (z : ℕ). IsSettled c.args.pool.now c.args.message_type.0 c.args.limits (b ++ c.args.piece.now) (fault z [] InputTooLarge)) (sym most) settled))
    c.too_large.ensures

pub returns-clause-fault : goal.returns-clause-fault
returns-clause-fault c =
    λ b took.
    let at = took.at in
    let size = took.size in
    let most = c.max_bytes-most.ensures.same in
    let remaining = c.bytes_left-remaining.ensures in
    fault_weaker c.take_piece-2.result (Reported c.args.pool.now c.args.message_type.0 c.args.limits.depth (longer (text_at b) c.args.piece.now)) (IsSettled c.args.pool.now c.args.message_type.0 c.args.limits (b ++ c.args.piece.now))
    (λ f reported. whole_bad b c.args.piece.now f (omega (arith, at, size, most, remaining)) reported) (c.take_piece-2.ensures.refused c.args.message_type.0 c.args.limits.depth 101 [] (text_at b) took.reads)

pub returns-clause-after : goal.returns-clause-after
returns-clause-after c =
    λ b took.
    let at = took.at in
    let size = took.size in
    let most = c.max_bytes-most.ensures.same in
    let remaining = c.bytes_left-remaining.ensures in
    on_ok_both c.take_piece-2.result
    (took_more b c.args.piece.now (state_view c.args.reading.now.reader) (state_view c.take_piece-2.new.reading.reader) c.args.reading.now.held.items c.take_piece-2.new.reading.held.items took (omega (arith, at, size, most, remaining)))
    c.take_piece-2.ensures.at (c.take_piece-2.ensures.taken c.args.message_type.0 c.args.limits.depth 101 [] (text_at b) took.reads)
