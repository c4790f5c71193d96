use Rattle.std.proofs.Common.{map}
use Rattle.pb_declarations.specs.View.{file_view}
use Rattle.pb_link_rules.proofs.TableLemmas.{IsWalked}
use Rattle.pb_link_rules.proofs.walk.first_fault.Given as goal

abbrev pub invariant-loop-place : goal.invariant-loop-place
invariant-loop-place l = IsWalked (map file_view l.files) l.row l.names l.map_marks l.place
