use Rattle.std.proofs.Common.{rules, ap, ap₂, codes, Some, ◌≡◌, ◌∙◌}
use Rattle.clap.specs.Simple.{app_of_fields}
use Rattle.clap.specs.Words.{rule_of, with_rule}
use Rattle.clap.specs.declared.builder.action.ArgAction.TheVariants.{Append}
use Rattle.pbtool_cli.specs.Words.{wanted}
use Rattle.pbtool_cli.proofs.words.compile.Goals as goal

pub returns-clause-app : goal.returns-clause-app
returns-clause-app c =
    let file_is : rule_of c.action-file.result ≡ record (wanted (codes "FILE")) { action = Some Append } = search rules in
    c.in_ok-whole.ensures.shape (search rules)
    ∙ ap₂ with_rule
    (c.in_ok-with_root.ensures.shape (search rules)
    ∙ ap₂ with_rule
    (c.in_ok-with_output.ensures.shape (search rules)
    ∙ ap₂ with_rule
    (c.in_ok-with_directory.ensures.shape (search rules)
    ∙ ap₂ with_rule
    (c.in_ok-with_lenient.ensures.shape (search rules)
    ∙ ap₂ with_rule
    (c.in_ok-with_explain.ensures.shape (search rules)
    ∙ ap₂ with_rule (ap app_of_fields c.after_help-command.ensures ∙ ap app_of_fields c.override_usage.ensures ∙ ap app_of_fields c.about.ensures ∙ c.new.ensures.app) c.explain_option-explain.ensures.rule)
    c.lenient_sources_option-lenient.ensures.rule)
    c.directory_option-directory.ensures.rule)
    c.output_option-output.ensures.rule)
    c.wanted-root.ensures.rule)
    file_is
