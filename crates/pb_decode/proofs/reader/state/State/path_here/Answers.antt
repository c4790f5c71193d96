-- The steps of the parents, and that of the record that is begun.
use Rattle.std.proofs.Common.{ap, sym, ◌∙◌, ◌++◌, List}
use Rattle.pb_wire.specs.declared.fault.PathStep.{PathStep}
use Rattle.pb_decode_parts.specs.Open.Parents.{path_of}
use Rattle.pb_decode_parts.specs.Open.PartView.{scope_view}
use Rattle.pb_decode.specs.Reader.{parents_view, own_step}
use Rattle.pb_decode.proofs.Outcomes.{ok_weaker}
use Rattle.pb_decode.proofs.PathLemmas.{path_alone}
use Rattle.pb_decode.proofs.reader.state.State.path_here.Goals as goal

pub returns-in-None : goal.returns-in-None
returns-in-None c =
    ok_weaker c.parent_steps.result _ _
    (λ v are. path_alone c.args.self.now.parents.items c.deref.result.now v.items (own_step c.args.self.now.step (scope_view c.args.self.now.scope)) are c.deref.ensures.value (c.in-None.ensures.none (scope_view c.args.self.now.scope)))
    c.parent_steps.ensures

pub returns-in-Some : goal.returns-in-Some
returns-in-Some c =
    ok_weaker c.path_inside.result _ _ (λ v are. are ∙ ap (λ (z : List PathStep). path_of (parents_view c.args.self.now.parents.items) ++ z) (sym (c.in-Some.ensures.begun (scope_view c.args.self.now.scope)))) c.path_inside.ensures
