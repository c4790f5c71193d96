use Rattle.std.proofs.Common.{◌≡◌, ◌∙◌, ◌==◌, [], ap, Some, take, get_or}
use Rattle.std.proofs.lemmas.List.{take_more}
use Rattle.pb_schema.specs.Names.{with_front}
use Rattle.pb_tries.specs.Tries.{node_of}
use Rattle.pb_tries.specs.declared.trie.NameTrie.{NameTrie}
use Rattle.pb_link_names.proofs.NameSetsLemmas.{front_added, at_within}
use Rattle.pb_link_names.proofs.package_set.PackageSet.add_byte.Goals as goal

pub returns-clause-added : goal.returns-clause-added
returns-clause-added c =
    front_added (with_front (get_or c.args.name.now c.args.index 0 == 46) (take c.args.index c.args.name.now) []) c.args.self.now c.mark_front.new.self c.go_on.new.self c.in_ok-mark_front.ensures.added c.in_ok-next.ensures.added

pub returns-clause-at : goal.returns-clause-at
returns-clause-at c =
    let front = take c.args.index c.args.name.now in
    let kept : node_of c.mark_front.new.self.names front ≡ Some c.args.node = ap (λ (t : NameTrie). node_of t front) c.in_ok-mark_front.ensures.names ∙ c.requires.at in
    ap (node_of c.go_on.new.self.names) (take_more c.args.name.now c.args.index 0 c.requires.within) ∙ c.in_ok-next.ensures.on front kept

pub go_on-requires-clause-within : goal.go_on-requires-clause-within
go_on-requires-clause-within c =
    let front = take c.args.index c.args.name.now in
    at_within c.mark_front.new.self front c.args.node (ap (λ (t : NameTrie). node_of t front) c.in_ok-mark_front.ensures.names ∙ c.requires.at)
