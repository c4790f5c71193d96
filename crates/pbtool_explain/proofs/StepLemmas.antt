-- Steps of a path.
use Rattle.pb_wire.specs.declared.fault.PathStep.{PathStep}

-- what is at an index past the end
abbrev pub no_step : PathStep
no_step = record { number = 0; occurrence = 0 }
