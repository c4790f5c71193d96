use Rattle.std.proofs.Common.{◌+◌, arith, ap, refl}
use Rattle.std.specs.Prelude.{slice_range}
use Rattle.pb_stream.proofs.HeldLemmas.{held_next}
use Rattle.pb_stream.proofs.held.next_held_frame.Goals as goal

pub returns-clause-next : goal.returns-clause-next
returns-clause-next g c = λ more.
    let start = c.in-Some.header.start in
    let size = c.in-Some.header.size in
    let held = rw (c.in-Some.is, c.held.ensures) at c.held_length.ensures.held in
    let small = rw c.in-Some.is at c.held_length.ensures.small in
    rw c.advance.ensures.held
    (held_next c.args.pool.now c.args.message_type.0 c.args.limits c.args.input.now.held _ start size _ more c.in_ok-next.next held small.0 (omega arith) small.1 refl
    (ap (λ b. slice_range b start (start + size)) c.held-2.ensures) c.in_ok-next.ensures.judged)
