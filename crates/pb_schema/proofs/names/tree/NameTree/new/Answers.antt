use Rattle.pb_schema.proofs.NameTreeLemmas.{tree-none, full_names-none}
use Rattle.pb_schema.proofs.names.tree.NameTree.new.Goals as goal

pub returns-clause-tree : goal.returns-clause-tree
returns-clause-tree c = tree-none _ c.new.ensures c.new-2.ensures.empty

pub returns-clause-empty : goal.returns-clause-empty
returns-clause-empty c = rw c.new-2.ensures.empty (full_names-none c.new.result)
