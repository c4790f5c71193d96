use Rattle.std.proofs.Common.{ℤ, List, [], ◌∷◌, String, Global, ◌∙◌, map, sym, subst, string_bytes}
use Rattle.pb_schema.specs.Names.Declared.{Adds}
use Rattle.pb_schema.proofs.AddLemmas.{map-map}
use Rattle.pb_schema.proofs.DeclareLemmas.{Adds-append}
use Rattle.pb_schema.proofs.names.declared.Declarations.add_enum.Goals as goal

pub returns : goal.returns
returns c =
    let vs = c.args.entry.now.values.items in
    let scope = c.args.scope in
    let name = string_bytes c.args.entry.now.name in
    let first = subst (λ n. Adds scope (n ∷ []) c.args.self.now c.add_word.new.self) (c.as_bytes.ensures.value ∙ c.as_str.ensures.value) c.in_ok-add_word.ensures in
    let others = subst (λ (l : List (String Global × ℤ)). Adds scope (map (λ v. string_bytes v.0) l) c.add_word.new.self c.add_values.new.self) c.deref.ensures.value c.in_ok-add_values.ensures in
    subst (λ l. Adds scope (name ∷ l) c.args.self.now c.add_values.new.self) (sym (map-map (λ v. v.0) (λ (v : String Global × ℤ). (string_bytes v.0, v.1)) vs)) (Adds-append scope (name ∷ []) (map (λ v. string_bytes v.0) vs) c.args.self.now c.add_word.new.self c.add_values.new.self first others)
