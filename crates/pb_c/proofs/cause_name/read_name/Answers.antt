use Rattle.pb_c.specs.CauseNames.{Names}
use Rattle.pb_c.proofs.cause_name.read_name.Goals as goal

pub returns-in-Some-clause-named : goal.returns-in-Some-clause-named
returns-in-Some-clause-named c = Names.of_reading c.in-Some.cause c.in-Some.ensures.found c.name.ensures
