-- Faults as the calls report them.
use Rattle.std.specs.Prelude.{ℕ}
use Rattle.pb_source_tokens.specs.declared.fault.SourceCause.{SourceCause}
use Rattle.pb_source_tokens.specs.declared.fault.SourceCause.TheVariants.{Memory}
use Rattle.pb_source_tokens.specs.declared.fault.SourceFault.{SourceFault}

abbrev pub fault : ℕ → SourceCause → SourceFault
fault place c = record { byte = place; cause = c }

abbrev pub out_of_memory : SourceFault
out_of_memory = fault 0 Memory
