use Rattle.std.proofs.Common.{ap, codes, false, ◌∙◌}
use Rattle.std.specs.Option.{option_map_or}
use Rattle.pbtool_cli.specs.Words.{flag_of}
use Rattle.pbtool_cli.proofs.command_line.explains.Goals as goal

pub returns-in-Some : goal.returns-in-Some
returns-in-Some c = c.flag.ensures ∙ ap (λ o. option_map_or (flag_of (codes "explain")) o false) c.in-Some.ensures.rows

pub returns-in-None : goal.returns-in-None
returns-in-None c = ap (λ o. option_map_or (flag_of (codes "explain")) o false) c.in-None.ensures.rows
