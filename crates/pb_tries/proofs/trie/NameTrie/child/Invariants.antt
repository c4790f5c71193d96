use Rattle.pb_tries.proofs.TrieLemmas.{Seeks}
use Rattle.pb_tries.proofs.trie.NameTrie.child.Given as goal

abbrev pub invariant-loop-child : goal.invariant-loop-child
invariant-loop-child l = Seeks l.self.edges.items l.node l.byte l.child

abbrev pub decreases-loop-child : goal.decreases-loop-child
decreases-loop-child l = l.child
