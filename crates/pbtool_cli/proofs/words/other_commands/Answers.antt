use Rattle.std.proofs.Common.{ap, ap₂, ◌∙◌}
use Rattle.clap.specs.Words.{App, with_subcommand}
use Rattle.pbtool_cli.proofs.words.other_commands.Goals as goal

pub returns-clause-app : goal.returns-clause-app
returns-clause-app c =
    let frames_is = ap (λ (a : App). a.top) c.in_ok-frames.ensures.app in
    let types_is = ap (λ (a : App). a.top) c.in_ok-types.ensures.app in
    let compile_is = ap (λ (a : App). a.top) c.in_ok-compile.ensures.app in
    let with_frames = c.in_ok-with_frames.ensures.shape c.in_ok-frames.ensures.local ∙ ap₂ with_subcommand c.in_ok-messages.ensures.app frames_is in
    let with_types = c.in_ok-with_types.ensures.shape c.in_ok-types.ensures.local ∙ ap₂ with_subcommand with_frames types_is in
    c.in_ok-whole.ensures.shape c.in_ok-compile.ensures.local ∙ ap₂ with_subcommand with_types compile_is
