use Rattle.std.proofs.Common.{rules, ap, ap₂, ◌∙◌}
use Rattle.clap.specs.Words.{with_rule}
use Rattle.pbtool_cli.proofs.words.with_source.Goals as goal

pub returns-clause-app : goal.returns-clause-app
returns-clause-app c = λ local.
    c.in_ok-whole.ensures.shape (search rules)
    ∙ ap₂ with_rule
    (c.in_ok-with_type.ensures.shape (search rules)
    ∙ ap₂ with_rule (c.in_ok-with_set.ensures.shape (search rules)
    ∙ ap₂ with_rule
    (c.in_ok-with_lenient.ensures.shape (search rules)
    ∙ ap₂ with_rule (c.in_ok-with_explain.ensures.shape (search rules) ∙ ap (with_rule _) c.explain_option-explain.ensures.rule) c.lenient_option-lenient.ensures.rule)
    c.wanted-set.ensures.rule)
    c.wanted-name.ensures.rule)
    c.wanted-file.ensures.rule
