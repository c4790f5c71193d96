use Rattle.std.proofs.Common.{rules, ap, ap₂, codes, ◌≡◌, ◌∙◌}
use Rattle.clap.specs.Simple.{app_of_fields}
use Rattle.clap.specs.Words.{new_rule, rule_of, with_rule}
use Rattle.pbtool_cli.proofs.words.help.Goals as goal

pub returns-clause-app : goal.returns-clause-app
returns-clause-app c =
    let topic_is : rule_of c.help-topic.result ≡ new_rule (codes "COMMAND") = search rules in
    c.in_ok-whole.ensures.shape (search rules)
    ∙ ap₂ with_rule (ap app_of_fields c.after_help-command.ensures ∙ ap app_of_fields c.about.ensures ∙ c.new.ensures.app) topic_is
