use Rattle.pb_schema.specs.View.{bytes_of}
use Rattle.pb_schema.specs.Names.Set.{IsSetOf}
use Rattle.pb_schema.proofs.names.set.AddedNames.collect.Given as goal

abbrev pub invariant-loop-name : goal.invariant-loop-name
invariant-loop-name l = IsSetOf (bytes_of l.yielded) l.added
