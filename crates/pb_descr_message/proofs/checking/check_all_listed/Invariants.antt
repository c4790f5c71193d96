use Rattle.std.proofs.Common.{◌≡◌, flat_map, map}
use Rattle.pb_value.specs.View.{value_view}
use Rattle.pb_descr_message.specs.Causes.{listed_causes}
use Rattle.pb_descr_message.proofs.JudgeLemmas.{causes_of_rest}
use Rattle.pb_descr_message.proofs.checking.check_all_listed.Given as goal

abbrev pub invariant-loop-listed : goal.invariant-loop-listed
invariant-loop-listed l = flat_map listed_causes (map value_view l.declared) ≡ causes_of_rest listed_causes value_view l.listed-index l.declared
