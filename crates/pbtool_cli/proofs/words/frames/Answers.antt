use Rattle.std.proofs.Common.{rules, ap, ap₂, ◌∙◌}
use Rattle.clap.specs.Simple.{app_of_fields}
use Rattle.clap.specs.Words.{with_rule}
use Rattle.pbtool_cli.specs.Words.{of_source}
use Rattle.pbtool_cli.proofs.words.frames.Goals as goal

pub returns-clause-app : goal.returns-clause-app
returns-clause-app c =
    c.in_ok-whole.ensures.app (search rules)
    ∙ ap of_source (c.in_ok-with_keep_going.ensures.shape (search rules)
    ∙ ap₂ with_rule
    (c.in_ok-with_json.ensures.shape (search rules)
    ∙ ap₂ with_rule
    (c.in_ok-with_decimal.ensures.shape (search rules)
    ∙ ap₂ with_rule (ap app_of_fields c.after_help-command.ensures ∙ ap app_of_fields c.about.ensures ∙ c.new.ensures.app) c.decimal_option-decimal.ensures.rule)
    c.json_option-json.ensures.rule)
    c.keep_going_option-keep_going.ensures.rule)
