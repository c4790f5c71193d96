use Rattle.std.proofs.Common.{map, ap, sym, ◌∙◌}
use Rattle.std.proofs.lemmas.List.{drop-map}
use Rattle.pb_link_names.specs.View.{type_names_view}
use Rattle.pb_link.proofs.resolving.upcoming.Upcoming.skip.Goals as goal

pub returns : goal.returns
returns c = ap (map type_names_view) c.behind-self.ensures ∙ sym (drop-map type_names_view c.args.count c.args.self.now.rest.now)
