-- What is reported of symbols that the code refuses.
use Rattle.std.specs.Prelude.{ℕ, List, [], ◌∷◌, Option}
use Rattle.pb_source_tokens.specs.declared.fault.SourceCause.{SourceCause}
use Rattle.pb_source_tokens.specs.declared.fault.SourceCause.TheVariants.{NotProto3}
use Rattle.pb_source_tokens.specs.declared.rule.Rule.{Rule}
use Rattle.pb_source_tokens.specs.declared.symbol.Placed.{Placed}
use Rattle.pb_source_tokens.specs.declared.refusal.Refusal.{Refusal}
use Rattle.pb_source_tokens.specs.declared.refusal.Refusal.TheVariants as refusal
use Rattle.pb_source_tokens.specs.SymbolView.{symbols_of}
use Rattle.pb_source_tokens.specs.Fault.{fault, out_of_memory}
use Rattle.pb_source_tokens.specs.declared.fault.SourceFault.{SourceFault}
use Rattle.pb_source_tokens.specs.Language.{reported}
use Rattle.pb_source.specs.Source.{place_in}

-- the cause of symbols that are refused so: a file without symbols does not begin with its syntax
abbrev pub cause_at : List Placed → Option Rule → SourceCause
cause_at [] rule = NotProto3
cause_at (p ∷ ps) rule = reported rule

-- the fault of symbols that are refused so, where the source ends at this byte
abbrev pub fault_at : List Placed → ℕ → Refusal → SourceFault
fault_at ps end refusal.Memory = out_of_memory
fault_at ps end (refusal.At at rule) = fault (place_in (symbols_of ps) end at) (cause_at ps rule)
