use Rattle.std.proofs.Common.{ap, ap₂, ◌∙◌}
use Rattle.clap.specs.Words.{App, with_subcommand}
use Rattle.pbtool_cli.proofs.words.message_commands.Goals as goal

pub returns-clause-app : goal.returns-clause-app
returns-clause-app c =
    let raw_is = ap (λ (a : App). a.top) c.in_ok-raw.ensures.app in
    let check_is = ap (λ (a : App). a.top) c.in_ok-check.ensures.app in
    let show_is = ap (λ (a : App). a.top) c.in_ok-show.ensures.app in
    let canon_is = ap (λ (a : App). a.top) c.in_ok-canon.ensures.app in
    let json_is = ap (λ (a : App). a.top) c.in_ok-json.ensures.app in
    let text_is = ap (λ (a : App). a.top) c.in_ok-text.ensures.app in
    let with_raw = c.in_ok-with_raw.ensures.shape c.in_ok-raw.ensures.local ∙ ap₂ with_subcommand c.top.ensures.app raw_is in
    let with_check = c.in_ok-with_check.ensures.shape c.in_ok-check.ensures.local ∙ ap₂ with_subcommand with_raw check_is in
    let with_show = c.in_ok-with_show.ensures.shape c.in_ok-show.ensures.local ∙ ap₂ with_subcommand with_check show_is in
    let with_canon = c.in_ok-with_canon.ensures.shape c.in_ok-canon.ensures.local ∙ ap₂ with_subcommand with_show canon_is in
    let with_json = c.in_ok-with_json.ensures.shape c.in_ok-json.ensures.local ∙ ap₂ with_subcommand with_canon json_is in
    c.in_ok-whole.ensures.shape c.in_ok-text.ensures.local ∙ ap₂ with_subcommand with_json text_is
