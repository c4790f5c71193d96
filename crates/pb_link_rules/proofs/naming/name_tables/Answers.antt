use Rattle.std.proofs.Common.{◌≡◌, ◌∙◌, map, sym, ap}
use Rattle.pb_link_rules.specs.Rules.{lookups}
use Rattle.pb_link_names.specs.View.{declaration_view}
use Rattle.pb_link_rules.proofs.NamesLemmas.{free_table}
use Rattle.pb_link_rules.proofs.naming.name_tables.Goals as goal

pub returns : goal.returns
returns c w is =
    let ds = map declaration_view c.args.row.now in
    let e : w.declared ≡ ds = is.declared ∙ sym c.requires.row in
    record { is_free = c.in_ok-is_free.ensures ∙ free_table w ds e; found = c.in_ok-found.ensures w is ∙ ap (map (lookups w)) (sym e) }
