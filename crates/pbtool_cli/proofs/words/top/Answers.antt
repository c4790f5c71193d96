use Rattle.std.proofs.Common.{ap, ◌∙◌, true}
use Rattle.clap.specs.Simple.{app_of_fields, on_top}
use Rattle.clap.specs.declared.builder.command.Command.{Command, Command-F}
use Rattle.pbtool_cli.specs.Words.{wants_subcommand, with_version}
use Rattle.pbtool_cli.proofs.words.top.Goals as goal

pub returns-clause-app : goal.returns-clause-app
returns-clause-app c =
    ap app_of_fields (c.disable_help_subcommand.ensures ∙ ap (λ (f : Command-F Command). record f { disable_help_subcommand = true }) c.subcommand_required.ensures)
    ∙ ap (on_top wants_subcommand)
    (ap app_of_fields c.after_help.ensures ∙ ap app_of_fields c.about.ensures ∙ ap app_of_fields c.version.ensures ∙ ap (on_top with_version) c.new.ensures.app)
