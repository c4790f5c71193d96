-- All names are UTF-8 where those that are left are.
use Rattle.std.proofs.Common.{◌↔◌, drop}
use Rattle.pb_c.specs.SourcePool.{AreNames}
use Rattle.pb_c.proofs.pool.compile.are_names.Given as goal

abbrev pub invariant-loop-name : goal.invariant-loop-name
invariant-loop-name l = AreNames l.names ↔ AreNames (drop l.name-index l.names)
