use Rattle.std.proofs.Common.{map}
use Rattle.pb_declarations.specs.View.{file_view}
use Rattle.pb_link_rules.proofs.TableLemmas.{walk_begins, walked_some, walked_none}
use Rattle.pb_link_rules.proofs.walk.first_fault.Goals as goal

pub loop-place-init : goal.loop-place-init
loop-place-init c = walk_begins (map file_view c.args.files.now) c.args.row.now c.args.names.now c.args.map_marks.now

pub returns-in-Some : goal.returns-in-Some
returns-in-Some c = walked_some (map file_view c.args.files.now) c.args.row.now c.args.names.now c.args.map_marks.now c.loop-place.place c.index-row-place.result c.at_place-at.result c.judge.result c.in-Some.cause c.loop-place-test.true c.index-row-place.is c.at_place-at.ensures c.in-Some.is c.judge.ensures c.loop-place.invariant

pub loop-place-preserved : goal.loop-place-preserved
loop-place-preserved c = walked_none (map file_view c.args.files.now) c.args.row.now c.args.names.now c.args.map_marks.now c.loop-place.place c.index-row-place.result c.at_place-at.result c.judge.result c.loop-place-test.true c.index-row-place.is c.at_place-at.ensures c.in_default.is c.judge.ensures c.loop-place.invariant
