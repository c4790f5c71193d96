use Rattle.pb_find.proofs.WalkLemmas.{match_by}
use Rattle.pb_find.proofs.level.Level.record_end.Goals as goal

pub returns : goal.returns
returns c = match_by c.record_end.result _ _ _ _ (λ end w p. (p.0, record { rises = w.0; within = w.1; value = p.1 })) c.record_end.ensures.within c.record_end.ensures.some (λ e. c.record_end.ensures.none e)
