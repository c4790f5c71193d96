use Rattle.std.proofs.Common.{take}
use Rattle.pb_schema.proofs.NameTreeLemmas.{HasNoDot}
use Rattle.pb_schema.proofs.names.tree.split_word.Given as goal

abbrev pub invariant-loop-index : goal.invariant-loop-index
invariant-loop-index l = HasNoDot (take l.index l.name)
