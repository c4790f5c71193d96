use Rattle.std.proofs.Common.{◌≡◌, List, drop, map}
use Rattle.pb_place.specs.declared.step.PlaceStep.TheVariants.{Field}
use Rattle.pb_c_message.specs.Places.{Bytes, places}
use Rattle.pb_c_message.proofs.StepLemmas.{after}
use Rattle.pb_c_message.proofs.finding.numbers_of.Given as goal

-- what the steps say is the fields that were read, and what the others say
abbrev pub invariant-loop-step : goal.invariant-loop-step
invariant-loop-step l = (keys : List Bytes) → places keys l.place ≡ after (map Field l.numbers.items) (places keys (drop l.step-index l.place))
