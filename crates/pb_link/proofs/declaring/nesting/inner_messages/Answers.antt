use Rattle.std.proofs.Common.{map, ap, ◌∙◌, ◌++◌, List}
use Rattle.std.specs.Prelude.{filter_map}
use Rattle.pb_schema.specs.View.{field_view}
use Rattle.pb_declarations.specs.Decls.{DeclaredMessage}
use Rattle.pb_declarations.specs.View.{message_view}
use Rattle.pb_link.specs.ToDecls.{entry_of_field}
use Rattle.pb_link.proofs.DeclaredLemmas.{map-reverse}
use Rattle.pb_link.proofs.declaring.nesting.inner_messages.Goals as goal

pub returns : goal.returns
returns c = c.in_ok-add_entries.ensures ∙ ap (λ (l : List DeclaredMessage). l ++ filter_map (entry_of_field c.args.pool.now) (map field_view c.args.fields.now)) (ap (map message_view) c.reverse.ensures.items ∙ map-reverse message_view c.args.reversed.items)
