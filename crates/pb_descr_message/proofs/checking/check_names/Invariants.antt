use Rattle.std.proofs.Common.{◌≡◌, flat_map, map}
use Rattle.pb_value.specs.View.{value_view}
use Rattle.pb_descr_message.specs.Causes.{named_causes}
use Rattle.pb_descr_message.proofs.JudgeLemmas.{causes_of_rest}
use Rattle.pb_descr_message.proofs.checking.check_names.Given as goal

abbrev pub invariant-loop-named : goal.invariant-loop-named
invariant-loop-named l = flat_map named_causes (map value_view l.declared) ≡ causes_of_rest named_causes value_view l.named-index l.declared
