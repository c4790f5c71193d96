use Rattle.std.proofs.Common.{codes, ◌∙◌}
use Rattle.clap.specs.Words.{found_of}
use Rattle.clap.proofs.WalkLemmas.{first_value-rows}
use Rattle.pbtool_cli.proofs.command_line.comparison.Goals as goal

pub returns : goal.returns
returns c = (
  c.reading.ensures,
  c.value.ensures,
  c.value-2.ensures,
  c.get_str.ensures ∙ first_value-rows (found_of c.args.matches.now) (codes "TYPE"),
  c.readers.ensures,
)
