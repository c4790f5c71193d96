use Rattle.std.proofs.Common.{◌≡◌, Some, None, codes, true, false, sym, ◌∙◌}
use Rattle.clap.specs.Words.{first_of, found_of, rows_of}
use Rattle.clap.proofs.WalkLemmas.{first_value-rows}
use Rattle.pbtool_cli.specs.Misuse.{is_topic}
use Rattle.pbtool_cli.proofs.misuse.misuse_of_help.Goals as goal

pub returns-in_default : goal.returns-in_default
returns-in_default c =
    let none : first_of (codes "COMMAND") (rows_of (found_of c.args.matches.now)) ≡ None =
    sym (c.in_default.ensures ∙ first_value-rows (found_of c.args.matches.now) (codes "COMMAND")) in
    rw none

pub returns-then-is_topic : goal.returns-then-is_topic
returns-then-is_topic c =
    let given : first_of (codes "COMMAND") (rows_of (found_of c.args.matches.now)) ≡ Some c.in-Some.word.now =
    sym (c.in-Some.ensures ∙ first_value-rows (found_of c.args.matches.now) (codes "COMMAND")) in
    let known : is_topic c.in-Some.word.now ≡ true = sym c.is_topic.ensures ∙ c.if-is_topic.true in
    rw (given, known)

pub returns : goal.returns
returns c =
    let given : first_of (codes "COMMAND") (rows_of (found_of c.args.matches.now)) ≡ Some c.in-Some.word.now =
    sym (c.in-Some.ensures ∙ first_value-rows (found_of c.args.matches.now) (codes "COMMAND")) in
    let unknown : is_topic c.in-Some.word.now ≡ false = sym c.is_topic.ensures ∙ c.if-is_topic.false in
    rw (given, unknown)
