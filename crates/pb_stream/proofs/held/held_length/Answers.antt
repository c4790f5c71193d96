use Rattle.std.proofs.Common.{arith}
use Rattle.pb_stream.proofs.HeldLemmas.{not_held}
use Rattle.pb_stream.proofs.SpanLemmas.{no_length}
use Rattle.pb_stream.proofs.held.held_length.Goals as goal

pub returns-in_default-clause-none : goal.returns-in_default-clause-none
returns-in_default-clause-none c = λ h. no_length c.args.bytes.now _ c.in_default.ensures.fault h.span h.rest h.joined h.is_span

pub returns-then-size-min-clause-none : goal.returns-then-size-min-clause-none
returns-then-size-min-clause-none c = λ h.
    not_held c.args.limits c.in-Ok.size c.in-Ok.start c.args.bytes.now c.in-Ok.ensures.within c.in-Ok.ensures.found
    (omega (arith, c.if-size-min.true, c.min.ensures, c.from.ensures, c.max_bytes.ensures.same)) h
