use Rattle.std.proofs.Common.{sym, ◌∙◌, ap}
use Rattle.std.specs.Prelude.{option_map}
use Rattle.pb_declarations.specs.View.{file_view}
use Rattle.pb_link_names.specs.View.{declaration_view}
use Rattle.pb_link_rules.proofs.NamesLemmas.{cycle_told}
use Rattle.pb_link_rules.proofs.cycles.is_cycle_at.Goals as goal

pub returns-clause-exact : goal.returns-clause-exact
returns-clause-exact c files w place are world =
    cycle_told files w c.args.imports.now place (declaration_view c.args.declaration.now) (file_view c.in-Some.field-0.now) c.in_ok-is_cyclic.is_cyclic are world (sym c.file_in.ensures ∙ ap (option_map (λ f. file_view f.now)) c.in-Some.is) c.in_ok-is_cyclic.ensures.exact
