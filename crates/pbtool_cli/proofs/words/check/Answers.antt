use Rattle.std.proofs.Common.{rules, ap, ◌∙◌}
use Rattle.clap.specs.Simple.{app_of_fields}
use Rattle.pbtool_cli.specs.Words.{of_source}
use Rattle.pbtool_cli.proofs.words.check.Goals as goal

pub returns-clause-app : goal.returns-clause-app
returns-clause-app c = c.in_ok-whole.ensures.app (search rules) ∙ ap of_source (ap app_of_fields c.after_help-command.ensures ∙ ap app_of_fields c.about.ensures ∙ c.new.ensures.app)
