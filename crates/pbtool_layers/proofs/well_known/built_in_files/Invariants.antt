use Rattle.std.proofs.Common.{◌≡◌, take}
use Rattle.std.specs.Prelude.{map}
use Rattle.pbtool_layers.specs.BuiltIn.{source_summary, summary_of}
use Rattle.pbtool_layers.proofs.well_known.built_in_files.Given as goal

abbrev pub invariant-loop-source : goal.invariant-loop-source
invariant-loop-source l = map summary_of l.table.items ≡ map source_summary (take l.source-index l.sources)
