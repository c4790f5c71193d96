use Rattle.std.proofs.Common.{◌≡◌, map, ◌∙◌, rules}
use Rattle.std.specs.Prelude.{string_bytes}
use Rattle.pb_declarations.specs.View.{method_view}
use Rattle.pb_link_names.specs.View.{declaration_view}
use Rattle.pb_link.specs.Resolving.{methods_read, each_behind, behind_one}
use Rattle.pb_link.proofs.resolving.services.resolve_service.Goals as goal

pub returns-clause-service : goal.returns-clause-service
returns-clause-service c =
    let ds = map declaration_view c.args.row.now in
    let named : string_bytes c.in_ok-name.name ≡ string_bytes c.args.service.now.name = search rules in
    λ k. record {
      name = named k;
      methods = (c.in_ok-methods.ensures.methods ∙ (λ j. methods_read ds (c.skip.ensures j) (map method_view (c.deref.ensures.value j)))) k;
    }

pub returns-clause-behind : goal.returns-clause-behind
returns-clause-behind c = c.in_ok-methods.ensures.behind ∙ (λ j. each_behind behind_one (map method_view (c.deref.ensures.value j)) (c.skip.ensures j))
