-- The sources so far are parsed.
use Rattle.std.proofs.Common.{take, map}
use Rattle.pb_declarations.specs.View.{file_view}
use Rattle.pb_c.specs.SourcePool.{AreSources}
use Rattle.pb_c.proofs.pool.compile.parse_all.Given as goal

abbrev pub invariant-loop-i : goal.invariant-loop-i
invariant-loop-i l = AreSources l.grammar (take l.i l.names) (take l.i l.texts) (map file_view l.files.items)
