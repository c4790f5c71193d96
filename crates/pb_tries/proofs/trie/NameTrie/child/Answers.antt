use Rattle.std.proofs.Common.{◌≡◌, ◌-◌, ◌<◌, ℕ, length, sym, arith}
use Rattle.std.proofs.lemmas.List.{get_or_read}
use Rattle.pb_tries.proofs.TrieLemmas.{seek_found, seek_more, seek_none, get_at}
use Rattle.pb_tries.proofs.trie.NameTrie.child.Goals as goal

pub returns-then-index-byte : goal.returns-then-index-byte
returns-then-index-byte c =
    let es = c.args.self.now.edges.items in
    let e = c.index.result.now in
    let child = c.loop-child.child in
    let inside : child - 1 < length es = omega (arith, c.loop-child-test.true, c.loop-child.invariant.within) in
    sym (seek_found c.args.self.now c.args.node c.args.byte child (child - 1) e c.requires c.loop-child.invariant (omega (arith, c.loop-child-test.true)) (get_at es (child - 1) e inside (get_or_read es (child - 1) e inside c.index.ensures e)) c.if-index-byte.true)

pub loop-child-smaller : goal.loop-child-smaller
loop-child-smaller c =
    let es = c.args.self.now.edges.items in
    let e = c.index.result.now in
    let child = c.loop-child.child in
    let older = c.index-child.result.now in
    let inside : child - 1 < length es = omega (arith, c.loop-child-test.true, c.loop-child.invariant.within) in
    let linked : child < length c.args.self.now.older.items = omega (arith, c.requires.older_size, c.loop-child.invariant.within) in
    (seek_more c.args.self.now c.args.node c.args.byte child (child - 1) older e c.requires c.loop-child.invariant (omega (arith, c.loop-child-test.true)) (get_at es (child - 1) e inside (get_or_read es (child - 1) e inside c.index.ensures e)) c.if-index-byte.false (get_or_read c.args.self.now.older.items child older linked c.index-child.ensures 0)).1

pub loop-child-preserved : goal.loop-child-preserved
loop-child-preserved c =
    let es = c.args.self.now.edges.items in
    let e = c.index.result.now in
    let child = c.loop-child.child in
    let older = c.index-child.result.now in
    let inside : child - 1 < length es = omega (arith, c.loop-child-test.true, c.loop-child.invariant.within) in
    let linked : child < length c.args.self.now.older.items = omega (arith, c.requires.older_size, c.loop-child.invariant.within) in
    (seek_more c.args.self.now c.args.node c.args.byte child (child - 1) older e c.requires c.loop-child.invariant (omega (arith, c.loop-child-test.true)) (get_at es (child - 1) e inside (get_or_read es (child - 1) e inside c.index.ensures e)) c.if-index-byte.false (get_or_read c.args.self.now.older.items child older linked c.index-child.ensures 0)).0

pub returns : goal.returns
returns c =
    sym (seek_none c.args.self.now.edges.items c.args.node c.args.byte c.loop-child.child c.loop-child.invariant (omega (arith, c.loop-child-test.false)))
