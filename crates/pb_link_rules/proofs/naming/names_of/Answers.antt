use Rattle.std.proofs.Common.{◌≡◌, ◌∙◌, map, sym}
use Rattle.pb_declarations.specs.View.{file_view}
use Rattle.pb_link_names.specs.View.{declaration_view}
use Rattle.pb_link_rules.proofs.WorldLemmas.{a_world}
use Rattle.pb_link_rules.proofs.naming.names_of.Goals as goal

pub returns : goal.returns
returns c =
    let F = map file_view c.args.files.now in
    let w = (a_world F).0 in
    let is = (a_world F).1 in
    let e : w.declared ≡ map declaration_view c.args.row.now = is.declared ∙ sym c.requires.row in
    (w, is, record { of_files = c.in_ok-file_is_first.ensures F w c.requires.exact c.requires.first is e; of_names = c.in_ok-is_free.ensures w is })
