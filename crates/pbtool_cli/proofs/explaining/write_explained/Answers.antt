use Rattle.pbtool_cli.proofs.ExplainedSteps.{more_after, none_after}
use Rattle.pbtool_cli.proofs.explaining.write_explained.Goals as goal

pub returns-in-Ok : goal.returns-in-Ok
returns-in-Ok g c =
    more_after g.E.Output.written g.E.Output.failures _ _ _ _ c.in-Ok.ensures c.write_reasons.ensures

pub returns-in-Err : goal.returns-in-Err
returns-in-Err g c = none_after g.E.Output.written g.E.Output.failures _ _ _ c.in-Err.ensures
