-- The one fault of symbols that are no file: where they stop beginning one, and why.
use Rattle.std.specs.Prelude.{◌≡◌, ◌≢◌, ℕ, suc, ◌<◌, List, [], length, take}
use Rattle.pb_source.specs.declared.reading.Reading.{Reading}
use Rattle.pb_source.specs.declared.reading.Reading.TheVariants as reading
use Rattle.pb_source_tokens.specs.Symbols.{Symbol}
use Rattle.pb_source_tokens.specs.Language.{Language, Rules, all_rules, without, cause_of, Begins}
use Rattle.pb_source_tokens.specs.declared.rule.Rule.{Rule}
use Rattle.pb_source_tokens.specs.declared.fault.SourceCause.{SourceCause}
use Rattle.pb_source_tokens.specs.declared.fault.SourceCause.TheVariants.{Unexpected, NotProto3}
use Rattle.pb_source.specs.Grammar.{file}

-- The symbols so far begin no file. The cause is the rule without which they would, and where there is none, the last symbol was not expected.
pub data IsCause {A : Type 0} (File : Rules → A → Language) (ts : List Symbol) : SourceCause → Type 0 where
  a_rule : (r : Rule) → Begins (File (without r)) ts → IsCause File ts (cause_of r)
  no_rule : ((r : Rule) → ¬ Begins (File (without r)) ts) → IsCause File ts Unexpected

-- The fault at the symbol of this index; at the index after the last, that of the source's end.
pub data Fault {A : Type 0} (File : Rules → A → Language) (ts : List Symbol) : ℕ → SourceCause → Type 0 where
  no_symbols : ts ≡ [] → ((v : A) → ¬ File all_rules v ts) → Fault File ts 0 NotProto3
  at_end : ts ≢ [] → Begins (File all_rules) ts → ((v : A) → ¬ File all_rules v ts) → Fault File ts (length ts) Unexpected
  at_symbol :
      {k : ℕ} {c : SourceCause} → k < length ts → Begins (File all_rules) (take k ts) → ¬ Begins (File all_rules) (take (suc k) ts)
      → IsCause File (take (suc k) ts) c → Fault File ts k c

abbrev pub SyntaxFaultIn : Reading → List Symbol → ℕ → SourceCause → Type 0
SyntaxFaultIn r = Fault (file r)

-- that of what is read strictly
abbrev pub SyntaxFault : List Symbol → ℕ → SourceCause → Type 0
SyntaxFault = SyntaxFaultIn reading.Strict
