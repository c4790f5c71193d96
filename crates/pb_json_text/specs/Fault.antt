-- Faults by their parts.
use Rattle.std.specs.Prelude.{ℕ}
use Rattle.pb_json_text.specs.declared.fault.JsonCause.{JsonCause}
use Rattle.pb_json_text.specs.declared.fault.JsonCause.TheVariants.{OutOfMemory}
use Rattle.pb_json_text.specs.declared.fault.JsonFault.{JsonFault}

abbrev pub fault : ℕ → JsonCause → JsonFault
fault n c = record { byte = n; cause = c }

abbrev pub out_of_memory : JsonFault
out_of_memory = fault 0 OutOfMemory
