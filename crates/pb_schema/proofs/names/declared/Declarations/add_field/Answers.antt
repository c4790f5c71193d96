use Rattle.std.proofs.Common.{[], ◌∷◌, ◌∙◌, sym, ap, subst, string_bytes}
use Rattle.pb_schema.specs.View.{field_view}
use Rattle.pb_schema.specs.Names.{entry_name}
use Rattle.pb_schema.specs.Names.Declared.{Adds}
use Rattle.pb_schema.proofs.DeclareLemmas.{Adds-append, map_names}
use Rattle.pb_schema.proofs.names.declared.Declarations.add_field.Goals as goal

pub returns-in_ok-add_word-2 : goal.returns-in_ok-add_word-2
returns-in_ok-add_word-2 c =
    let f = c.args.field.now in
    let scope = c.args.scope in
    let name = string_bytes f.name in
    let first = subst (λ n. Adds scope (n ∷ []) c.args.self.now c.add_word.new.self) (c.as_bytes.ensures.value ∙ c.as_str.ensures.value) c.in_ok-add_word.ensures in
    let entry = c.deref.ensures.value ∙ c.in_ok-entry.ensures ∙ ap entry_name (c.as_bytes-in-Map.ensures.value ∙ c.as_str-in-Map.ensures.value) in
    let second = subst (λ n. Adds scope (n ∷ []) c.add_word.new.self c.add_word-in-Map.new.self) entry c.in_ok-add_word-2.ensures in
    subst (λ l. Adds scope l c.args.self.now c.add_word-in-Map.new.self) (sym (map_names (field_view f) c.in-Map.key c.in-Map.is)) (Adds-append scope (name ∷ []) (entry_name name ∷ []) c.args.self.now c.add_word.new.self c.add_word-in-Map.new.self first second)
