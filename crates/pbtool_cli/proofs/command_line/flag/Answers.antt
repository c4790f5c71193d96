use Rattle.std.proofs.Common.{◌≡◌, Some, None, sym, ◌∙◌}
use Rattle.clap.specs.Words.{found_of, first_of, rows_of}
use Rattle.clap.proofs.WalkLemmas.{first_value-rows}
use Rattle.pbtool_cli.proofs.command_line.flag.Goals as goal

pub returns-in-Some : goal.returns-in-Some
returns-in-Some c =
    let first : first_of c.args.id.now (rows_of (found_of c.args.matches.now)) ≡ Some c.in-Some.text.now =
    sym (c.in-Some.ensures ∙ first_value-rows (found_of c.args.matches.now) c.args.id.now) in
    rw first c.eq.ensures

pub returns-in-None : goal.returns-in-None
returns-in-None c =
    let first : first_of c.args.id.now (rows_of (found_of c.args.matches.now)) ≡ None =
    sym (c.in-None.ensures ∙ first_value-rows (found_of c.args.matches.now) c.args.id.now) in
    rw first
