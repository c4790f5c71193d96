use Rattle.std.proofs.Common.{ap, ◌∙◌, length}
use Rattle.pb_value.specs.View.{body_view}
use Rattle.pb_encode.proofs.PartsLemmas.{message_count}
use Rattle.pb_encode.proofs.plan.Plan.entries.Goals as goal

pub returns : goal.returns
returns c = rw (← c.self.view_is) (c.len.ensures ∙ c.self.inside.lengths.ok.0 ∙ ap length c.self.invariant.listed ∙ message_count c.self.inside.pool.now c.self.inside.kind.0 (body_view c.self.inside.body.now))
