use Rattle.std.proofs.Common.{take}
use Rattle.pb_value.specs.View.{fields_view}
use Rattle.pb_value.proofs.OneofLemmas.{NoneSet}
use Rattle.pb_value.proofs.change.oneof.listed_member.Given as goal

abbrev pub invariant-loop-number : goal.invariant-loop-number
invariant-loop-number l = NoneSet (fields_view l.fields.entries) (take l.number-index l.number-items)
