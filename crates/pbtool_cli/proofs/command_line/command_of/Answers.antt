use Rattle.std.proofs.Common.{refl, codes, ◌∙◌}
use Rattle.clap.specs.Words.{rows_of, found_of, subcommand_name_of}
use Rattle.clap.proofs.WalkLemmas.{first_value-rows}
use Rattle.pbtool_command.specs.declared.command.Command.TheVariants.{Canon, Types}
use Rattle.pbtool_cli.proofs.Matches.{matched_named, no_name_left}
use Rattle.pbtool_cli.proofs.command_line.command_of.Goals as goal

pub returns-in-Some-subcommand_matches-3 : goal.returns-in-Some-subcommand_matches-3
returns-in-Some-subcommand_matches-3 c =
    matched_named c.args.matches.now (codes "canon") (rows_of (found_of c.in-Some-subcommand_matches-3.inner.now))
    (Canon c.get_str-out.result c.source-in-Some-subcommand_matches-3.result) (c.in-Some-subcommand_matches-3.ensures.found.0 refl)
    c.in-Some-subcommand_matches-3.ensures.rows
    (refl, c.get_str-out.ensures ∙ first_value-rows (found_of c.in-Some-subcommand_matches-3.inner.now) (codes "out"), c.source-in-Some-subcommand_matches-3.ensures)

pub returns-in-Some-subcommand_matches-6 : goal.returns-in-Some-subcommand_matches-6
returns-in-Some-subcommand_matches-6 c =
    matched_named c.args.matches.now (codes "frames") (rows_of (found_of c.in-Some-subcommand_matches-6.inner.now)) c.stream.result
    (c.in-Some-subcommand_matches-6.ensures.found.0 refl) c.in-Some-subcommand_matches-6.ensures.rows c.stream.ensures

pub returns-in-Some-subcommand_matches-7 : goal.returns-in-Some-subcommand_matches-7
returns-in-Some-subcommand_matches-7 c =
    matched_named c.args.matches.now (codes "types") (rows_of (found_of c.in-Some-subcommand_matches-7.inner.now))
    (Types c.reading.result c.value.result c.get_str.result) (c.in-Some-subcommand_matches-7.ensures.found.0 refl)
    c.in-Some-subcommand_matches-7.ensures.rows
    (refl, c.reading.ensures, c.value.ensures, c.get_str.ensures ∙ first_value-rows (found_of c.in-Some-subcommand_matches-7.inner.now) (codes "NAME"))

pub unreachable-requires : goal.unreachable-requires
unreachable-requires c =
    no_name_left (subcommand_name_of c.args.matches.now) c.in_default.ensures.found.1 c.in_default-subcommand_matches.ensures.found.1
    c.in_default-subcommand_matches-2.ensures.found.1 c.in_default-subcommand_matches-3.ensures.found.1 c.in_default-subcommand_matches-4.ensures.found.1
    c.in_default-subcommand_matches-5.ensures.found.1 c.in_default-subcommand_matches-6.ensures.found.1 c.in_default-subcommand_matches-7.ensures.found.1
    c.in_default-subcommand_matches-8.ensures.found.1 c.in_default-subcommand_matches-9.ensures.found.1 c.in_default-subcommand_matches-10.ensures.found.1
    c.requires.no_help c.requires.no_version c.requires.names
