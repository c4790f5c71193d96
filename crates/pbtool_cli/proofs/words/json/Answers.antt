use Rattle.std.proofs.Common.{rules, ap, ap₂, ◌≡◌, ◌∙◌}
use Rattle.clap.specs.Simple.{app_of_fields}
use Rattle.clap.specs.Words.{rule_of, with_rule}
use Rattle.pbtool_cli.specs.Words.{of_source, pretty_rule}
use Rattle.pbtool_cli.proofs.words.json.Goals as goal

pub returns-clause-app : goal.returns-clause-app
returns-clause-app c =
    let pretty_is : rule_of c.help-pretty.result ≡ pretty_rule = search rules in
    c.in_ok-whole.ensures.app (search rules)
    ∙ ap of_source (c.in_ok-with_pretty.ensures.shape (search rules) ∙ ap₂ with_rule (ap app_of_fields c.after_help-command.ensures ∙ ap app_of_fields c.about.ensures ∙ c.new-2.ensures.app) pretty_is)
