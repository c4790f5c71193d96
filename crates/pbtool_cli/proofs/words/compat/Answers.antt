use Rattle.std.proofs.Common.{rules, ap, ap₂, codes, ◌≡◌, ◌∙◌}
use Rattle.clap.specs.Simple.{app_of_fields}
use Rattle.clap.specs.Words.{new_rule, rule_of, with_rule}
use Rattle.pbtool_cli.proofs.words.compat.Goals as goal

pub returns-clause-app : goal.returns-clause-app
returns-clause-app c =
    let name_is : rule_of c.help-name.result ≡ new_rule (codes "TYPE") = search rules in
    c.in_ok-whole.ensures.shape (search rules)
    ∙ ap₂ with_rule
    (c.in_ok-with_new.ensures.shape (search rules)
    ∙ ap₂ with_rule
    (c.in_ok-with_old.ensures.shape (search rules)
    ∙ ap₂ with_rule
    (c.in_ok-with_both.ensures.shape (search rules)
    ∙ ap₂ with_rule
    (c.in_ok-with_lenient.ensures.shape (search rules)
    ∙ ap₂ with_rule (ap app_of_fields c.after_help-command.ensures ∙ ap app_of_fields c.about.ensures ∙ c.new.ensures.app) c.lenient_option-lenient.ensures.rule)
    c.both_option-both.ensures.rule)
    c.wanted-old.ensures.rule)
    c.wanted-new.ensures.rule)
    name_is
