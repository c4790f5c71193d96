use Rattle.std.proofs.Common.{◌≡◌, map}
use Rattle.pb_value.specs.View.{value_view}
use Rattle.pb_descr_message.specs.Causes.{causes_from}
use Rattle.pb_descr_message.proofs.JudgeLemmas.{files_from}
use Rattle.pb_descr_message.proofs.checking.first_cause.Given as goal

abbrev pub invariant-loop-index : goal.invariant-loop-index
invariant-loop-index l = causes_from 0 (map value_view l.files) ≡ files_from value_view l.index l.files
