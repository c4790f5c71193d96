-- Faults by their parts.
use Rattle.std.specs.Prelude.{ℕ}
use Rattle.pb_text_tokens.specs.declared.fault.TokenCause.{TokenCause}
use Rattle.pb_text_tokens.specs.declared.fault.TokenCause.TheVariants as token
use Rattle.pb_text_tokens.specs.declared.fault.TokenFault.{TokenFault}
use Rattle.pb_text_tree.specs.declared.fault.SyntaxCause.{SyntaxCause}
use Rattle.pb_text_tree.specs.declared.fault.SyntaxCause.TheVariants.{UnexpectedByte, BadNumber, OpenString, BadEscape, OutOfMemory}
use Rattle.pb_text_tree.specs.declared.fault.SyntaxFault.{SyntaxFault}

abbrev pub fault : ℕ → SyntaxCause → SyntaxFault
fault n c = record { byte = n; cause = c }

abbrev pub out_of_memory : SyntaxFault
out_of_memory = fault 0 OutOfMemory

-- a text that has no tokens
abbrev pub cause_of : TokenCause → SyntaxCause
cause_of token.UnexpectedByte = UnexpectedByte
cause_of token.BadNumber = BadNumber
cause_of token.OpenString = OpenString
cause_of token.BadEscape = BadEscape
cause_of token.OutOfMemory = OutOfMemory

abbrev pub fault_of : TokenFault → SyntaxFault
fault_of f = fault f.byte (cause_of f.cause)
