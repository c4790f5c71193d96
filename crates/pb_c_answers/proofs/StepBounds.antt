-- How many steps are reported of a fault.
use Rattle.std.proofs.Common.{◌≤◌, ◌+◌, ◌*◌, ℕ, List, length, ap, arith}
use Rattle.pb_wire.specs.Fault.{Fault}
use Rattle.pb_wire.specs.Limits.{Bounds}
use Rattle.pb_wire.proofs.PathBounds.{bounded, text_path}
use Rattle.pb_schema.specs.Types.{Types}
use Rattle.pb_schema.proofs.StepLemmas.{message_uses_levels, nests_once}
use Rattle.pb_decode.specs.Push.{IsFaultOf}
use Rattle.pb_c_answers.specs.Reporting.{Tells}
use Rattle.pb_c_answers.specs.declared.reporting.FaultReport.{FaultReport}
use Rattle.pb_c_answers.specs.declared.reporting.Step.{Step}

-- the steps that are reported are those of the fault's path
pub of_path : {f : Fault} {report : FaultReport} {old new : List Step} {most : ℕ} → length f.path ≤ most → Tells f report old new → report.steps ≤ most
of_path few tells = let is = ap (λ (r : FaultReport). r.steps) tells.told in omega (arith, is, few)

-- of a message of a pool
pub of_message :
    {limits : Bounds} {b : List ℕ} {f : Fault} {report : FaultReport} {old new : List Step} (pool : Types) (m : ℕ)
    → IsFaultOf pool m limits b f → Tells f report old new → report.steps ≤ 2 * limits.depth + 1
of_message pool m is tells = of_path (text_path _ (λ p g inner. (bounded (nests_once pool) inner).plainly (message_uses_levels pool m)) is) tells
