-- Faults by their parts.
use Rattle.std.specs.Prelude.{ℕ}
use Rattle.pb_text_tokens.specs.declared.fault.TokenCause.{TokenCause}
use Rattle.pb_text_tokens.specs.declared.fault.TokenCause.TheVariants.{OutOfMemory}
use Rattle.pb_text_tokens.specs.declared.fault.TokenFault.{TokenFault}

abbrev pub fault : ℕ → TokenCause → TokenFault
fault n c = record { byte = n; cause = c }

abbrev pub out_of_memory : TokenFault
out_of_memory = fault 0 OutOfMemory
