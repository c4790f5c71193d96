use Rattle.std.proofs.Common.{◌∙◌, map, sym, ap}
use Rattle.pb_declarations.specs.View.{file_view}
use Rattle.pb_link_names.specs.View.{declaration_view}
use Rattle.pb_link_rules.specs.Rules.{lookups}
use Rattle.pb_link_rules.proofs.WorldLemmas.{a_world}
use Rattle.pb_link_rules.proofs.named.named_files.Goals as goal

pub returns : goal.returns
returns c =
    let F = map file_view c.args.files.now in
    let w = (a_world F).0 in
    let is = (a_world F).1 in
    let row = c.in_ok-row.ensures ∙ sym is.declared in
    record {
      world = w;
      is_world = is;
      row = row;
      found = c.in_ok-found.ensures w is ∙ ap (map (lookups w)) (ap (map declaration_view) c.deref.ensures.value ∙ row);
    }
