use Rattle.std.proofs.Common.{◌≡◌, Some, take}
use Rattle.pb_tries.specs.Tries.{node_from}
use Rattle.pb_tries.proofs.trie.NameTrie.find.Given as goal

abbrev pub invariant-loop-byte : goal.invariant-loop-byte
invariant-loop-byte l = node_from l.self.edges.items 0 (take l.byte-index l.name) ≡ Some l.node
