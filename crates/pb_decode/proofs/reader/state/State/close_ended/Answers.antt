-- Part by part the reader has read what it had.
use Rattle.std.proofs.Common.{arith, sym, ap, ◌∙◌}
use Rattle.std.specs.Prelude.{is_some}
use Rattle.pb_decode_parts.specs.Open.Openings.{innermost_group}
use Rattle.pb_decode.specs.Reader.{state_view, parents_view, here, path_here}
use Rattle.pb_wire.specs.Fault.{fault}
use Rattle.pb_wire.specs.declared.fault.Cause.TheVariants.{PastEnd}
use Rattle.pb_decode.proofs.ReaderLemmas.{fault_reported, reads_on}
use Rattle.pb_decode.proofs.EndedLemmas.{group_at_end, ends_here}
use Rattle.pb_decode.proofs.reader.state.State.close_ended.Goals as goal

pub close_innermost-requires-clause-can : goal.close_innermost-requires-clause-can
close_innermost-requires-clause-can c =
    let at = c.loop-self.invariant.at in (
      c.requires.can.0,
      reads_on c.args.self.now c.loop-self.self 0 c.requires.can.0 c.requires.can.1 (omega arith) (omega (arith, at)) (λ m depth levels base p0. c.loop-self.invariant.reads m depth levels base p0 c.requires.can.0),
    )

pub returns-then-is_some-clause-refused : goal.returns-then-is_some-clause-refused
returns-then-is_some-clause-refused c =
    λ m depth levels base p0 rest begun.
    fault_reported c.fault_at.result (fault c.loop-self.self.at (path_here (state_view c.loop-self.self)) PastEnd) c.fault_at.ensures
    (group_at_end (state_view c.loop-self.self) rest (c.loop-self.invariant.reads m depth levels base p0 rest begun) c.loop-self.invariant.tag
    (ap is_some (sym c.innermost.ensures.group) ∙ sym c.is_some.ensures ∙ c.if-is_some.true) c.loop-self-test.ensures.1)

pub loop-self-preserved : goal.loop-self-preserved
loop-self-preserved c =
    let at = c.in_ok-close_innermost.ensures.at.0 in
    let was = c.loop-self.invariant.at in
    record {
      at = omega (arith, at, was);
      tag = c.in_ok-close_innermost.ensures.at.1;
      reads = λ m depth levels base p0 rest begun.
          c.in_ok-close_innermost.ensures.closes m depth levels base p0 rest (c.loop-self.invariant.reads m depth levels base p0 rest begun)
          (ends_here c.innermost.result (innermost_group (parents_view c.loop-self.self.parents.items)) (here (state_view c.loop-self.self) rest) c.innermost.ensures.group (sym c.is_some.ensures ∙ c.if-is_some.false) c.loop-self-test.ensures.1);
    }
