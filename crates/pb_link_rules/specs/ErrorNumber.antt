-- The numbers of errors.
use Rattle.std.specs.Prelude.{ℕ}
use Rattle.pb_link_rules.specs.CauseName.{cause_number}
use Rattle.pb_link_rules.specs.declared.error.LinkError.{LinkError}
use Rattle.pb_link_rules.specs.declared.error.LinkError.TheVariants.{Fault, Memory}

abbrev pub link_number : LinkError → ℕ
link_number (Fault file full_name cause) = cause_number cause
link_number Memory = 88
