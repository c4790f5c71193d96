use Rattle.std.proofs.Common.{◌≡◌, ◌-◌, ◌^◌, ◌∙◌, arith, inr, refl, sym}
use Rattle.pb_input.specs.Buffered.{of_input}
use Rattle.pbtool_command.proofs.ReadFailures.{concluded_none, counts_from, keeps_same}
use Rattle.pbtool_command.proofs.PassedFrames.{going_few, going_start, over_answered, passed_begun, turn_most}
use Rattle.pbtool_command.proofs.all_frames.put_all_frames.Goals as goal

pub loop-index-init : goal.loop-index-init
loop-index-init g c = (going_start c.args.out.now c.args.sink.now c.args.input.now _ refl refl c.new.ensures.items, refl)

pub put_turn-requires-clause-few : goal.put_turn-requires-clause-few
put_turn-requires-clause-few g c = going_few c.loop-index.invariant.0

pub loop-index-preserved : goal.loop-index-preserved
loop-index-preserved g c =
    let same = rw c.in-GoesOn.is at c.put_turn.ensures.reads in
    (rw c.in-GoesOn.is at (c.put_turn.ensures.puts _ _ _ c.loop-index.invariant.0), same ∙ c.loop-index.invariant.1)

pub returns-then-has_failed-clause-puts : goal.returns-then-has_failed-clause-puts
returns-then-has_failed-clause-puts g c =
    let h = c.loop-index.invariant.0 in
    (h.state.text, h.put, inr (sym c.has_failed.ensures ∙ c.if-has_failed.true, passed_begun h.read))

pub returns-in-Ends-clause-puts : goal.returns-in-Ends-clause-puts
returns-in-Ends-clause-puts g c = over_answered c.conclude.result (rw c.in-Ends.is at (c.put_turn.ensures.puts _ _ _ c.loop-index.invariant.0)) c.conclude.ensures

pub returns-in-Stops-clause-puts : goal.returns-in-Stops-clause-puts
returns-in-Stops-clause-puts g c = rw c.in-Stops.is at (c.put_turn.ensures.puts _ _ _ c.loop-index.invariant.0)

pub returns-clause-puts : goal.returns-clause-puts
returns-clause-puts g c =
    let all : c.loop-index.index ≡ 2 ^ 64 - 1 = omega arith in
    over_answered c.conclude-2.result (turn_most _ c.loop-index.invariant.0 all) c.conclude-2.ensures

pub returns-in-Ends-clause-kept : goal.returns-in-Ends-clause-kept
returns-in-Ends-clause-kept g c =
    let same = rw c.in-Ends.is at c.put_turn.ensures.reads in
    keeps_same (of_input g.I.Input.failures) c.args.input.now c.put_turn.new.input c.conclude.result (same ∙ c.loop-index.invariant.1)

pub returns-in-Ends-clause-failed : goal.returns-in-Ends-clause-failed
returns-in-Ends-clause-failed g c = concluded_none _ _ _ c.conclude.result _ c.conclude.ensures

pub returns-in-Stops-clause-kept : goal.returns-in-Stops-clause-kept
returns-in-Stops-clause-kept g c =
    let counts = counts_from _ _ _ c.in-Stops.refusal c.loop-index.invariant.1 (rw c.in-Stops.is at c.put_turn.ensures.reads) in counts.0

pub returns-in-Stops-clause-failed : goal.returns-in-Stops-clause-failed
returns-in-Stops-clause-failed g c =
    let counts = counts_from _ _ _ c.in-Stops.refusal c.loop-index.invariant.1 (rw c.in-Stops.is at c.put_turn.ensures.reads) in counts.1

pub returns-clause-kept : goal.returns-clause-kept
returns-clause-kept g c = keeps_same (of_input g.I.Input.failures) c.args.input.now c.loop-index.input c.conclude-2.result c.loop-index.invariant.1

pub returns-clause-failed : goal.returns-clause-failed
returns-clause-failed g c = concluded_none _ _ _ c.conclude-2.result _ c.conclude-2.ensures
