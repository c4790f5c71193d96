use Rattle.std.proofs.Common.{sym, ◌∙◌, subst, List, ℕ}
use Rattle.std.specs.Prelude.{IsAscii}
use Rattle.pb_schema.specs.Names.{entry_name}
use Rattle.pb_schema.specs.View.{field_view}
use Rattle.pb_link.proofs.DeclarableLemmas.{entry_ascii}
use Rattle.pb_link.proofs.declaring.fields.name_of_type.Goals as goal

pub dotted_entry-requires-clause-name : goal.dotted_entry-requires-clause-name
dotted_entry-requires-clause-name c = subst (λ (n : List ℕ). IsAscii (entry_name n)) (sym (c.as_bytes.ensures.value ∙ c.as_str.ensures.value)) (entry_ascii (field_view c.args.field.now) c.in-Map.key c.in-Map.is c.requires.field.words)
