use Rattle.std.proofs.Common.{ap, ap₂, ◌∙◌}
use Rattle.clap.specs.Words.{App, with_subcommand}
use Rattle.pbtool_cli.proofs.words.commands.Goals as goal

pub returns-clause-app : goal.returns-clause-app
returns-clause-app c =
    let compat_is = ap (λ (a : App). a.top) c.in_ok-compat.ensures.app in
    let from_json_is = ap (λ (a : App). a.top) c.in_ok-from_json.ensures.app in
    let with_compat = c.in_ok-with_compat.ensures.shape c.in_ok-compat.ensures.local ∙ ap₂ with_subcommand c.in_ok-others.ensures.app compat_is in
    c.in_ok-whole.ensures.shape c.in_ok-from_json.ensures.local ∙ ap₂ with_subcommand with_compat from_json_is
