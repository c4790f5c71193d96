use Rattle.pb_link_names.specs.Words.{Keeps, IsAdding}
use Rattle.pb_link_names.proofs.words.Words.add.Given as goal

abbrev pub invariant-loop-index : goal.invariant-loop-index
invariant-loop-index l = Keeps l.initial.self l.self × IsAdding l.self l.name l.index l.at.0 l.at.1
