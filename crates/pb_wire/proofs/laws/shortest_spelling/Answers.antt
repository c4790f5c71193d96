use Rattle.pb_wire.proofs.ShortestLemmas.{shortest_records-spells, shortest_records-least}
use Rattle.pb_wire.proofs.laws.shortest_spelling.Goals as goal

pub returns-clause-spells : goal.returns-clause-spells
returns-clause-spells c = shortest_records-spells

pub returns-clause-least : goal.returns-clause-least
returns-clause-least c = shortest_records-least
