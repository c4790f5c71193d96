use Rattle.std.proofs.Common.{◌≡◌, map, take}
use Rattle.pb_decode_parts.specs.Open.Parents.{next_step}
use Rattle.pb_decode_parts.specs.Open.PartView.{scope_view}
use Rattle.pb_decode.proofs.reader.fault.parent_steps.Given as goal

abbrev pub invariant-loop-parent : goal.invariant-loop-parent
invariant-loop-parent l = l.steps.items ≡ map (λ f. next_step f.number (scope_view f.scope)) (take l.parent-index l.parents)
