use Rattle.std.proofs.Common.{◌≡◌, map, take}
use Rattle.pb_value.specs.View.{value_view}
use Rattle.pb_descr_message.proofs.declaring.list_in.Given as goal

abbrev pub invariant-loop-value : goal.invariant-loop-value
invariant-loop-value g l = map g.T.Declared.view l.decls.items ≡ map g.T.Declared.given (map value_view (take l.value-index l.values))
