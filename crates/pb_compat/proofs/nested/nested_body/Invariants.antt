use Rattle.std.proofs.Common.{◌≡◌, ◌-◌, ℕ, Some}
use Rattle.std.specs.Prelude.{slice_get}
use Rattle.pb_value.specs.View.{body_view}
use Rattle.pb_compat.proofs.ClimbLemmas.{IsBuiltUp}
use Rattle.pb_compat.proofs.nested.nested_body.Given as goal

abbrev pub invariant-loop-types : goal.invariant-loop-types
invariant-loop-types l = (at : ℕ) × (slice_get l.compared at ≡ Some l.types) × IsBuiltUp l.old l.new l.compared l.index l.number l.fields at (body_view l.body)

abbrev pub decreases-loop-types : goal.decreases-loop-types
decreases-loop-types l = 100 - l.fields
