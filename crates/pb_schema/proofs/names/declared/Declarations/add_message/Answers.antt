use Rattle.std.proofs.Common.{List, String, Global, Some, map, subst, ap, sym, ◌∙◌, string_bytes}
use Rattle.std.specs.List.{flat_map}
use Rattle.pb_schema.specs.View.{field_view, message_view}
use Rattle.pb_schema.specs.declared.types.Field.{Field}
use Rattle.pb_schema.specs.Names.{names_of_field}
use Rattle.pb_schema.specs.Names.Declared.{Adds, AddsOne}
use Rattle.pb_schema.proofs.DeclareLemmas.{message_added}
use Rattle.pb_schema.proofs.names.declared.Declarations.add_message.Goals as goal

pub returns : goal.returns
returns c =
    let t = c.args.message.now in
    let own = subst (λ n. AddsOne c.args.scope n c.args.self.now c.add.new.self c.in_ok-index.index) (c.as_bytes.ensures.value ∙ c.as_str.ensures.value) c.in_ok-index.ensures in
    message_added c.args.scope (message_view t) (flat_map names_of_field (map field_view c.deref.result.now)) c.args.self.now c.add.new.self c.add_fields.new.self _ c.in_ok-index.index (ap (λ (l : List Field). flat_map names_of_field (map field_view l)) (sym c.deref.ensures.value)) own c.in_ok-add_fields.ensures (subst (λ (l : List (String Global)). Adds (Some c.in_ok-index.index) (map string_bytes l) c.add_fields.new.self c.add_oneofs.new.self) c.deref-2.ensures.value c.in_ok-add_oneofs.ensures)
