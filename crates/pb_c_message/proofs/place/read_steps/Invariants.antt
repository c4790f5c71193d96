use Rattle.std.proofs.Common.{◌≡◌, drop}
use Rattle.pb_c_message.specs.Places.{places}
use Rattle.pb_c_message.proofs.StepLemmas.{after}
use Rattle.pb_c_message.proofs.place.read_steps.Given as goal

-- what the steps say is what was read, and what the others say
abbrev pub invariant-loop-step : goal.invariant-loop-step
invariant-loop-step l = places l.keys l.place ≡ after l.steps.items (places l.keys (drop l.step-index l.place))
