use Rattle.std.proofs.Common.{◌-◌, List, length}
use Rattle.pb_source.specs.Meaning.{FileStatement}
use Rattle.pb_source.specs.PartsView.{FileHolds}
use Rattle.pb_source.specs.Readers.Lines.{is_package, file_statement_reader}
use Rattle.pb_source.proofs.EndSteps.{HasReadOn}
use Rattle.pb_source.proofs.FileSteps.{Packaged}
use Rattle.pb_source.proofs.parsing.files.file_body.Given as goal

abbrev pub invariant-loop-here : goal.invariant-loop-here
invariant-loop-here l =
    (front : List FileStatement) × FileHolds l.parts front × Packaged l.packaged front × HasReadOn is_package (file_statement_reader l.grammar) l.symbols l.at l.packaged front l.here

abbrev pub decreases-loop-here : goal.decreases-loop-here
decreases-loop-here l = length l.symbols - l.here
