use Rattle.std.proofs.Common.{ap, ap₂, ◌∙◌}
use Rattle.clap.specs.Words.{App, with_subcommand}
use Rattle.pbtool_cli.proofs.words.definition.Goals as goal

pub returns-clause-app : goal.returns-clause-app
returns-clause-app c =
    let help_is = ap (λ (a : App). a.top) c.in_ok-help.ensures.app in
    let version_is = ap (λ (a : App). a.top) c.version.ensures.app in
    let with_help = c.in_ok-with_help.ensures.shape c.in_ok-help.ensures.local ∙ ap₂ with_subcommand c.in_ok-commands.ensures.app help_is in
    c.in_ok-whole.ensures.shape c.version.ensures.local ∙ ap₂ with_subcommand with_help version_is
