use Rattle.std.proofs.Common.{sym, ◌∙◌, subst, List, ℕ}
use Rattle.std.specs.Prelude.{IsAscii}
use Rattle.pb_schema.specs.Names.{entry_name}
use Rattle.pb_schema.specs.Rules.{HasKeyKind}
use Rattle.pb_schema.specs.View.{field_view}
use Rattle.pb_link.proofs.DeclarableLemmas.{entry_ascii, key_names}
use Rattle.pb_link.proofs.declaring.fields.add_entry.Goals as goal

pub entry_decl-requires-clause-name : goal.entry_decl-requires-clause-name
entry_decl-requires-clause-name c = subst (λ (n : List ℕ). IsAscii (entry_name n)) (sym (c.as_bytes.ensures.value ∙ c.as_str.ensures.value)) (entry_ascii (field_view c.args.field.now) c.in-Map.key c.in-Map.is c.requires.field.words)

pub entry_decl-requires-clause-key : goal.entry_decl-requires-clause-key
entry_decl-requires-clause-key c = key_names _ _ c.in-Map.key (subst HasKeyKind c.in-Map.is c.requires.field.key)

pub entry_decl-requires-clause-value : goal.entry_decl-requires-clause-value
entry_decl-requires-clause-value c = c.requires.field.kind
