-- No element is there yet.
use Rattle.std.proofs.Common.{refl, sym, subst, ℕ, Some}
use Rattle.pb_decode_parts.specs.Open.PartView.{scope_view}
use Rattle.pb_wire.specs.Grammar.{payload_at}
use Rattle.pb_decode_parts.specs.declared.tokens.step.Step.TheVariants as steps
use Rattle.pb_decode_parts.specs.Tokens.After.{After}
use Rattle.pb_decode_parts.proofs.ListSteps.{list_begins}
use Rattle.pb_decode_parts.proofs.tokens.step.begin_list.Goals as goal

pub returns-clause-after : goal.returns-clause-after
returns-clause-after c =
    λ pool m depth levels n base p0 u t parents now begun l at.
    subst (λ (z : ℕ). After pool m depth levels base p0 parents (steps.Elements c.args.number c.args.kind c.args.scope.now.end) now (record (scope_view c.args.scope.now) { end = Some z }) (payload_at t n)) (sym at)
    (list_begins c.args.number c.args.kind n begun refl l)
