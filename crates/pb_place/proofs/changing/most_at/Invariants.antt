use Rattle.std.proofs.Common.{◌≡◌, ◌-◌, drop}
use Rattle.pb_place.specs.Changed.{levels_above, most_at}
use Rattle.pb_place.proofs.changing.most_at.Given as goal

-- the steps that are left take the rest
abbrev pub invariant-loop-step : goal.invariant-loop-step
invariant-loop-step l = l.left - levels_above (drop l.step-index l.place) ≡ most_at l.fn.place
