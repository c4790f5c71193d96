use Rattle.std.proofs.Common.{◌≡◌, ◌+◌, ◌<◌, ◌++◌, ◌∷◌, [], ℕ, List, length, set, sym, ap, ◌∙◌, subst, arith, length-append}
use Rattle.std.proofs.lemmas.List.{get_or_read}
use Rattle.pb_tries.specs.Tries.{ByteAdded}
use Rattle.pb_tries.proofs.TrieLemmas.{child_added}
use Rattle.pb_tries.proofs.trie.NameTrie.add_child.Goals as goal

pub returns : goal.returns
returns c =
    let t = c.args.self.now in
    let node = c.args.node in
    let size : length t.edges.items + 1 ≡ c.len-child.result = omega (arith, c.len-child.ensures, c.push.new.self.ok.0, ap length c.in_ok-push.ensures.items, length-append t.edges.items ((node, c.args.byte) ∷ [])) in
    let inside : node < length t.newest.items = omega (arith, c.requires.within, c.requires.trie.newest_size) in
    subst (ByteAdded t _ node c.args.byte) size
    (child_added t _ node c.args.byte c.requires.trie c.requires.within c.requires.is_new c.in_ok-push.ensures.items
    (c.in_ok-push-2.ensures.items ∙ ap (λ (x : ℕ). t.older.items ++ x ∷ []) (get_or_read t.newest.items node c.index-older.result.now inside c.index-older.ensures 0))
    (ap (λ (l : List ℕ). set l node c.len-child.result) c.in_ok-push-3.ensures.items ∙ ap (λ (n : ℕ). set (t.newest.items ++ 0 ∷ []) node n) (sym size)))
