use Rattle.std.proofs.Common.{◌≡◌, ℕ, length, take, sym, arith, subst}
use Rattle.std.proofs.lemmas.List.{length-take-le}
use Rattle.pb_stream.proofs.LengthLemmas.{varint_taken}
use Rattle.pb_stream.specs.Taking.{Takes}
use Rattle.pb_stream.proofs.SpanLemmas.{cut_span, unread_span, whole_span}
use Rattle.pb_stream.proofs.skipping.pass_frame.Goals as goal

pub returns-in_default-clause-none : goal.returns-in_default-clause-none
returns-in_default-clause-none g c =
    let bytes = c.take_varint.new.bytes in
    let taken = c.in_ok-taken.ensures in
    let size : length (take c.in_ok-taken.taken bytes) ≡ c.in_ok-taken.taken = length-take-le _ _ (omega (arith, taken.within)) in
    unread_span (take c.in_ok-taken.taken bytes) c.in_default.field-0.byte c.in_default.field-0.cause (g.I.Input.left c.args.input.now)
    (g.I.Input.left c.take_varint.new.input) (omega (arith, size, taken.within)) taken.taken taken.ends c.in_default.ensures.fault

pub returns-then-passed-size-clause-none : goal.returns-then-passed-size-clause-none
returns-then-passed-size-clause-none g c =
    let all = varint_taken _ _ _ _ c.in_ok-taken.ensures.ends c.in-Ok.ensures.within c.in-Ok.ensures.found in
    cut_span c.in-Ok.start c.in-Ok.size c.in_ok-passed.passed (g.I.Input.left c.args.input.now) (g.I.Input.left c.take_varint.new.input)
    (g.I.Input.left c.pass_over.new.input) (_, all.1, sym all.0, c.in_ok-taken.ensures.taken) (omega arith) c.in_ok-passed.ensures.taken
    (c.in_ok-passed.ensures.ends (omega arith))

pub returns-clause-passed : goal.returns-clause-passed
returns-clause-passed g c =
    let all = varint_taken _ _ _ _ c.in_ok-taken.ensures.ends c.in-Ok.ensures.within c.in-Ok.ensures.found in
    let middle = g.I.Input.left c.take_varint.new.input in
    let new = g.I.Input.left c.pass_over.new.input in
    let same : c.in_ok-passed.passed ≡ c.in-Ok.size = omega (arith, c.in_ok-passed.ensures.within) in
    let passed : Takes c.in-Ok.size middle new = subst (λ (k : ℕ). Takes k middle new) same c.in_ok-passed.ensures.taken in
    whole_span c.in-Ok.start c.in-Ok.size c.saturating_add.result (g.I.Input.left c.args.input.now) middle new
    (_, all.1, sym all.0, c.in_ok-taken.ensures.taken) passed (omega (arith, c.saturating_add.ensures))
