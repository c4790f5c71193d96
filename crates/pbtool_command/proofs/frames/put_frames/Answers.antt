use Rattle.std.proofs.Common.{◌-◌, ◌^◌, ◌≤◌, ◌∙◌, arith, append-nil, inl, inr, refl, sym}
use Rattle.pb_input.specs.Buffered.{left_of}
use Rattle.pb_output.proofs.SinkLemmas.{puts_then}
use Rattle.pbtool_command.proofs.ReadFailures.{counts_from}
use Rattle.pbtool_command.proofs.Streams.{read_begun, read_most, read_next, read_to_end, read_unshown, streaming_start}
use Rattle.pbtool_command.proofs.frames.put_frames.Goals as goal

pub loop-index-init : goal.loop-index-init
loop-index-init g c = (streaming_start c.args.form c.args.reader.now c.requires.first c.requires.open c.requires.full, refl)

pub put_next-requires : goal.put_next-requires
put_next-requires g c = c.loop-index.invariant.0.read.goes_on

pub loop-index-preserved : goal.loop-index-preserved
loop-index-preserved g c =
    let before = c.loop-index.invariant.0 in
    let step = rw c.in-Put.is at c.put_next.ensures.puts in
    let same = rw c.in-Put.is at c.put_next.ensures.reads in (
      record { text = _; put = puts_then before.put step.2.2; read = read_next step.0 step.2.0 before.read step.1 step.2.1 },
      same ∙ c.loop-index.invariant.1,
    )

pub returns-then-has_failed-clause-puts : goal.returns-then-has_failed-clause-puts
returns-then-has_failed-clause-puts g c =
    let before = c.loop-index.invariant.0 in
    (before.text, before.put, inr (sym c.has_failed.ensures ∙ c.if-has_failed.true, read_begun before.read))

pub returns-in-End-clause-puts : goal.returns-in-End-clause-puts
returns-in-End-clause-puts g c =
    let before = c.loop-index.invariant.0 in
    let step = rw c.in-End.is at c.put_next.ensures.puts in
    (before.text, rw append-nil at (puts_then before.put step.1), inl (read_to_end c.args.path.now (left_of g.I.Input.left c.put_next.new.reader.input) before.read step.0))

pub returns-in-Refused-clause-puts : goal.returns-in-Refused-clause-puts
returns-in-Refused-clause-puts g c =
    let before = c.loop-index.invariant.0 in
    let step = rw c.in-Refused.is at c.put_next.ensures.puts in
    (before.text, rw append-nil at (puts_then before.put step.1), read_unshown c.args.path c.in-Refused.refusal before.read step.0)

pub returns-clause-puts : goal.returns-clause-puts
returns-clause-puts g c =
    let before = c.loop-index.invariant.0 in
    let most : 2 ^ 64 - 1 ≤ c.loop-index.index = omega arith in
    (before.text, before.put, inl (read_most c.args.path.now before.read most))

pub returns-in-End-clause-reads : goal.returns-in-End-clause-reads
returns-in-End-clause-reads g c =
    let same = rw c.in-End.is at c.put_next.ensures.reads in
    same ∙ c.loop-index.invariant.1

pub returns-in-Refused-clause-reads : goal.returns-in-Refused-clause-reads
returns-in-Refused-clause-reads g c =
    counts_from _ _ _ c.in-Refused.refusal c.loop-index.invariant.1 (rw c.in-Refused.is at c.put_next.ensures.reads)
