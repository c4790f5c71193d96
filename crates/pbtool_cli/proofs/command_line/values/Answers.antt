use Rattle.std.proofs.Common.{◌∙◌, ap, [], refl}
use Rattle.std.specs.Prelude.{unwrap_or}
use Rattle.clap.specs.Words.{found_of}
use Rattle.clap.proofs.WalkLemmas.{raw_values-rows}
use Rattle.pbtool_command.specs.CompileAnswer.{texts_of}
use Rattle.pbtool_cli.proofs.TextLists.{texts_or_none}
use Rattle.pbtool_cli.proofs.command_line.values.Goals as goal

pub returns : goal.returns
returns c =
    ap (λ r. texts_of r.now) c.unwrap_or.ensures ∙ texts_or_none c.get_strs.result _ refl
    ∙ ap (λ o. unwrap_or o []) (c.get_strs.ensures ∙ raw_values-rows (found_of c.args.matches.now) c.args.id.now)
