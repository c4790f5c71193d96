use Rattle.pbtool_command.proofs.executing.execute.Goals as goal

pub returns-clause-honest : goal.returns-clause-honest
returns-clause-honest g c = c.execute_then.ensures.done.0

pub returns-clause-any : goal.returns-clause-any
returns-clause-any g c = c.execute_then.ensures.done.1
