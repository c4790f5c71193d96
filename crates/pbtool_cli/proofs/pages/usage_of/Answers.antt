use Rattle.std.proofs.Common.{sym, ap, ◌∙◌}
use Rattle.clap.specs.Words.{App, fault_of, is_simple_and_free}
use Rattle.pbtool_command.specs.CompileAnswer.{texts_of}
use Rattle.pbtool_cli.proofs.pages.usage_of.Goals as goal

pub unreachable-requires : goal.unreachable-requires
unreachable-requires c =
    let app = c.in_ok-definition.ensures.app in
    c.requires
    (sym (ap (λ (a : App). fault_of a (texts_of c.args.words.now)) app) ∙ c.in-Ok.ensures.kinds (ap is_simple_and_free app))
