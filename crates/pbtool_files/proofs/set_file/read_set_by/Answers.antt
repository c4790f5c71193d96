use Rattle.pbtool_files.proofs.set_file.read_set_by.Goals as goal

pub returns-in-Strict-clause-declared : goal.returns-in-Strict-clause-declared
returns-in-Strict-clause-declared c = rw c.in-Strict.is c.read_strictly.ensures.declared

pub returns-in-Strict-clause-refused : goal.returns-in-Strict-clause-refused
returns-in-Strict-clause-refused c = rw c.in-Strict.is c.read_strictly.ensures.refused

pub returns-in-Lenient-clause-declared : goal.returns-in-Lenient-clause-declared
returns-in-Lenient-clause-declared c = rw c.in-Lenient.is c.read_leniently.ensures.declared

pub returns-in-Lenient-clause-refused : goal.returns-in-Lenient-clause-refused
returns-in-Lenient-clause-refused c = rw c.in-Lenient.is c.read_leniently.ensures.refused
