-- The steps of the parents, and that of the record.
use Rattle.std.proofs.Common.{◌∷◌, [], refl}
use Rattle.pb_decode_parts.specs.Open.Parents.{next_step}
use Rattle.pb_decode_parts.specs.Open.PartView.{scope_view}
use Rattle.pb_decode.proofs.PathLemmas.{path_begun}
use Rattle.pb_decode.proofs.reader.state.State.path_inside.Goals as goal

pub returns : goal.returns
returns c =
    path_begun c.args.self.now.parents.items c.deref.result.now c.in_ok-path.path.items (next_step c.args.number (scope_view c.args.self.now.scope) ∷ []) c.push.new.self.items
    c.step_into.result (next_step c.args.number (scope_view c.args.self.now.scope)) c.in_ok-path.ensures c.deref.ensures.value refl c.step_into.ensures c.in_ok-push.ensures.items
