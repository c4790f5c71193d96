use Rattle.std.proofs.Common.{sym, ◌∙◌}
use Rattle.pb_encode.proofs.WriteLemmas.{written_whole, carries_whole, carries_all, carries_part, open_of, broken_of}
use Rattle.pb_encode.proofs.plan.Plan.write_to.Goals as goal

pub returns-in-None-clause-kept : goal.returns-in-None-clause-kept
returns-in-None-clause-kept g c =
    let walked = written_whole _ _ (c.deref.ensures.value ∙ c.self.invariant.listed) c.write_message.ensures in
    (carries_all _ (carries_whole c.new-sink.result _ c.new-sink.ensures walked c.flush.ensures.puts) (λ _. c.flush.ensures.empty) (open_of _ _ (sym c.failure.ensures ∙ c.in-None.is))).1

pub returns-in-None-clause-written : goal.returns-in-None-clause-written
returns-in-None-clause-written g c =
    let walked = written_whole _ _ (c.deref.ensures.value ∙ c.self.invariant.listed) c.write_message.ensures in
    rw (← c.self.view_is) ((carries_all _ (carries_whole c.new-sink.result _ c.new-sink.ensures walked c.flush.ensures.puts) (λ _. c.flush.ensures.empty) (open_of _ _ (sym c.failure.ensures ∙ c.in-None.is))).0)

pub returns-in-Some-clause-failed : goal.returns-in-Some-clause-failed
returns-in-Some-clause-failed g c =
    let walked = written_whole _ _ (c.deref.ensures.value ∙ c.self.invariant.listed) c.write_message.ensures in
    let failure = broken_of _ c.in-Some.written _ (sym c.failure.ensures ∙ c.in-Some.is) in
    rw (← c.self.view_is) (carries_part _ c.in-Some.written (carries_whole c.new-sink.result _ c.new-sink.ensures walked c.flush.ensures.puts) (rw c.self.invariant.exact at c.self.invariant.fits) failure.0 failure.1)
