use Rattle.std.proofs.Common.{sym, ◌∙◌}
use Rattle.pb_tries.proofs.TrieLemmas.{find_more, find_ends}
use Rattle.pb_tries.proofs.trie.NameTrie.find.Goals as goal

pub returns-in-None : goal.returns-in-None
returns-in-None c =
    sym (find_ends c.args.self.now.edges.items c.args.name.now c.loop-byte.byte-index c.loop-byte.node c.loop-byte-test.true c.loop-byte.invariant (sym c.child.ensures ∙ c.in-None.is))

pub loop-byte-preserved : goal.loop-byte-preserved
loop-byte-preserved c =
    find_more c.args.self.now.edges.items c.args.name.now c.loop-byte.byte-index c.loop-byte.node c.in-Some.child c.loop-byte-test.true c.loop-byte.invariant (sym c.child.ensures ∙ c.in-Some.is)
