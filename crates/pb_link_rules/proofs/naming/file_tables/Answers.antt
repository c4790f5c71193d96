use Rattle.std.proofs.Common.{◌∙◌, map}
use Rattle.pb_link_names.specs.View.{declaration_view}
use Rattle.pb_link_rules.proofs.NamesLemmas.{first_table, imports_table}
use Rattle.pb_link_rules.proofs.naming.file_tables.Goals as goal

pub returns : goal.returns
returns c files w exact first is e =
    let ds = map declaration_view c.args.row.now in
    record {
      file_is_first = c.in_ok-file_is_first.ensures ∙ first_table files w c.args.imports.now ds is first e;
      imports_are_there = c.in_ok-imports_are_there.ensures ∙ imports_table files w c.args.imports.now ds is exact e;
      first_cycle = c.in_ok-first_cycle.ensures files w exact is e;
    }
