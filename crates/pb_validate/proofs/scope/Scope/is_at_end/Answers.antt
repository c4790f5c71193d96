use Rattle.std.proofs.Common.{◌∙◌, sym, length}
use Rattle.std.proofs.lemmas.Bool.{false≢true, eq-eqb}
use Rattle.pb_validate.specs.Contexts.{context_view}
use Rattle.pb_validate.proofs.JudgeLemmas.{begins_given}
use Rattle.pb_validate.proofs.scope.Scope.is_at_end.Goals as goal

pub returns-in-None-clause-goes_on : goal.returns-in-None-clause-goes_on
returns-in-None-clause-goes_on c = λ before no_group.
    begins_given c.args.self.now.group (context_view c.args.self.now.context) c.args.bytes.now c.args.at c.args.self.now.to no_group c.in-None.is c.requires
    (λ e. false≢true (sym before ∙ eq-eqb c.args.at (length c.args.bytes.now) e))
