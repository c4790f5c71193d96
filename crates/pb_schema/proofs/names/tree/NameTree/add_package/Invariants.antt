use Rattle.std.proofs.Common.{IsTrue, option_map}
use Rattle.pb_schema.specs.Names.{is_package}
use Rattle.pb_schema.specs.Names.Tree.{IsTree}
use Rattle.pb_schema.proofs.PackageLemmas.{PackageSoFar, length_left}
use Rattle.pb_schema.proofs.names.tree.NameTree.add_package.Given as goal

abbrev pub invariant-loop-rest : goal.invariant-loop-rest
invariant-loop-rest l =
    IsTree l.fn.self → IsTrue (is_package l.name) → PackageSoFar l.fn.self l.self l.name l.scope (option_map (λ r. r.now) l.rest)

abbrev pub decreases-loop-rest : goal.decreases-loop-rest
decreases-loop-rest l = length_left (option_map (λ r. r.now) l.rest)
