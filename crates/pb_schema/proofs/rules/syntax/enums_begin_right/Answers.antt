use Rattle.std.proofs.Common.{map, arith}
use Rattle.pb_schema.specs.Types.{EnumView, is_proto2}
use Rattle.pb_schema.specs.View.{file_view, enum_view}
use Rattle.pb_schema.specs.Rules.{BeginsRight}
use Rattle.pb_schema.proofs.Loops.{stops, goes_on}
use Rattle.pb_schema.proofs.rules.syntax.enums_begin_right.Goals as goal

pub returns-then-not-enum_begins_right : goal.returns-then-not-enum_begins_right
returns-then-not-enum_begins_right c =
    stops (λ (e : EnumView). BeginsRight (is_proto2 (map file_view c.args.files.now) e.file) e.values) enum_view _ c.args.enums.now c.loop-entry.entry-index c.entry-item.result c.enum_begins_right.result c.enum_begins_right.ensures c.loop-entry.invariant (omega arith) c.entry-item.is c.if-not-enum_begins_right.true

pub loop-entry-preserved : goal.loop-entry-preserved
loop-entry-preserved c =
    goes_on (λ (e : EnumView). BeginsRight (is_proto2 (map file_view c.args.files.now) e.file) e.values) enum_view _ c.args.enums.now c.loop-entry.entry-index c.entry-item.result c.enum_begins_right.result c.enum_begins_right.ensures c.loop-entry.invariant (omega arith) c.entry-item.is c.if-not-enum_begins_right.false
