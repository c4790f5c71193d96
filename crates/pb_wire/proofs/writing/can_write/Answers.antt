use Rattle.pb_wire.proofs.Unique.{same_spelling, same_records}
use Rattle.pb_wire.proofs.writing.can_write.Goals as goal

pub returns-clause-one_list : goal.returns-clause-one_list
returns-clause-one_list c = same_records

pub returns-clause-no_beginning : goal.returns-clause-no_beginning
returns-clause-no_beginning c = same_spelling
