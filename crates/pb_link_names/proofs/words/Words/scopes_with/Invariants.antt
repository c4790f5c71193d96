use Rattle.pb_link_names.proofs.WordLemmas.{ArePushed}
use Rattle.pb_link_names.proofs.words.Words.scopes_with.Given as goal

abbrev pub invariant-loop-index : goal.invariant-loop-index
invariant-loop-index l = ArePushed l.self l.word l.scope l.index l.at.0 l.at.1 l.lens.items
