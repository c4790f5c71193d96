use Rattle.std.proofs.Common.{rules, ap, ap₂, codes, ◌≡◌, ◌∙◌}
use Rattle.clap.specs.Simple.{app_of_fields}
use Rattle.clap.specs.Words.{rule_of, with_rule}
use Rattle.pbtool_cli.specs.Words.{short_rule, wanted}
use Rattle.pbtool_cli.proofs.words.raw.Goals as goal

pub returns-clause-app : goal.returns-clause-app
returns-clause-app c =
    let short_is : rule_of c.help-short.result ≡ short_rule = search rules in
    let file_is : rule_of c.help-file.result ≡ wanted (codes "FILE") = search rules in
    c.in_ok-whole.ensures.shape (search rules)
    ∙ ap₂ with_rule
    (c.in_ok-with_explain.ensures.shape (search rules)
    ∙ ap₂ with_rule
    (c.in_ok-with_nested.ensures.shape (search rules)
    ∙ ap₂ with_rule
    (c.in_ok-with_short.ensures.shape (search rules)
    ∙ ap₂ with_rule (ap app_of_fields c.after_help-command.ensures ∙ ap app_of_fields c.about.ensures ∙ c.new-3.ensures.app) short_is)
    c.nested_option-nested.ensures.rule)
    c.explain_option-explain.ensures.rule)
    file_is
