-- What a command frees when it is done.
use Rattle.std.specs.Prelude.{Option, None, Some}
use Rattle.pbtool_command.specs.declared.cleanup.Cleanup.{Cleanup}
use Rattle.pbtool_command.specs.declared.cleanup.Cleanup.TheVariants.{Free, LeaveToSystem}

-- a program that goes on frees all of a value, and one that ends frees nothing of it
abbrev pub freed : {T : Type 0} → Cleanup → T → Option T
freed Free value = Some value
freed LeaveToSystem value = None
