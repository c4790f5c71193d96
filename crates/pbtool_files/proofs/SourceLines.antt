-- The parts of the line of a source.
use Rattle.std.proofs.Common.{◌≡◌, ℕ, List, ◌++◌, ap, append_assoc, codes, decimal}
use Rattle.pb_source_tokens.specs.CauseName as source
use Rattle.pb_source_tokens.specs.declared.fault.SourceCause.{SourceCause}
use Rattle.pbtool_files.specs.Report.{cause_end, source_line}

-- which source is refused, and where
pub source-parts :
    (name : List ℕ) (byte : ℕ) (c : SourceCause)
    → source_line name byte c ≡ (codes "source " ++ name) ++ (codes " byte " ++ decimal byte) ++ cause_end (source.name_of c)
source-parts name byte c =
    ap (λ (l : List ℕ). l ++ cause_end (source.name_of c)) (append_assoc (codes "source " ++ name) (codes " byte ") (decimal byte))
