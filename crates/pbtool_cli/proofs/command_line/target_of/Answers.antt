use Rattle.std.proofs.Common.{◌≡◌, [], ◌∷◌, Some, None, codes, sym, ap, ◌∙◌}
use Rattle.clap.specs.Words.{first_of, found_of, rows_of}
use Rattle.clap.proofs.WalkLemmas.{first_value-rows}
use Rattle.pbtool_command.specs.CompileAnswer.{texts_of}
use Rattle.pbtool_cli.specs.Words.{values_of}
use Rattle.pbtool_cli.proofs.TextLists.{none_of_none}
use Rattle.pbtool_cli.proofs.command_line.target_of.Goals as goal

pub returns-in-Some-clause-out : goal.returns-in-Some-clause-out
returns-in-Some-clause-out c =
    let given : first_of (codes "out") (rows_of (found_of c.args.matches.now)) ≡ Some c.in-Some.out.now =
    sym (c.in-Some.ensures ∙ first_value-rows (found_of c.args.matches.now) (codes "out")) in
    rw given

pub returns-in-Some-clause-names : goal.returns-in-Some-clause-names
returns-in-Some-clause-names c =
    let given : first_of (codes "out") (rows_of (found_of c.args.matches.now)) ≡ Some c.in-Some.out.now =
    sym (c.in-Some.ensures ∙ first_value-rows (found_of c.args.matches.now) (codes "out")) in
    rw given c.values-words.ensures

pub returns-in-Some-split_first-clause-out : goal.returns-in-Some-split_first-clause-out
returns-in-Some-split_first-clause-out c =
    let none : first_of (codes "out") (rows_of (found_of c.args.matches.now)) ≡ None =
    sym (c.in_default.ensures ∙ first_value-rows (found_of c.args.matches.now) (codes "out")) in
    let words : values_of (codes "FILE") (rows_of (found_of c.args.matches.now))
    ≡ c.in-Some-split_first.out.now.now ∷ texts_of c.in-Some-split_first.names.now =
    sym c.values-words.ensures ∙ ap texts_of c.in-Some-split_first.ensures.cases.0 in
    rw (none, words)

pub returns-in-Some-split_first-clause-names : goal.returns-in-Some-split_first-clause-names
returns-in-Some-split_first-clause-names c =
    let none : first_of (codes "out") (rows_of (found_of c.args.matches.now)) ≡ None =
    sym (c.in_default.ensures ∙ first_value-rows (found_of c.args.matches.now) (codes "out")) in
    let words : values_of (codes "FILE") (rows_of (found_of c.args.matches.now))
    ≡ c.in-Some-split_first.out.now.now ∷ texts_of c.in-Some-split_first.names.now =
    sym c.values-words.ensures ∙ ap texts_of c.in-Some-split_first.ensures.cases.0 in
    rw (none, words)

pub returns-in-None-clause-out : goal.returns-in-None-clause-out
returns-in-None-clause-out c =
    let none : first_of (codes "out") (rows_of (found_of c.args.matches.now)) ≡ None =
    sym (c.in_default.ensures ∙ first_value-rows (found_of c.args.matches.now) (codes "out")) in
    let words : values_of (codes "FILE") (rows_of (found_of c.args.matches.now)) ≡ [] =
    sym c.values-words.ensures ∙ none_of_none c.values-words.result.now c.in-None.ensures.cases in
    rw (none, words)
