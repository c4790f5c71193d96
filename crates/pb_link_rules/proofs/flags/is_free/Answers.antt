use Rattle.std.proofs.Common.{◌≡◌, ◌∙◌, true, sym, ap}
use Rattle.pb_link_names.specs.Declarations.{is_named, full_name}
use Rattle.pb_link_names.specs.View.{declaration_view}
use Rattle.pb_link_rules.specs.Flags.{is_not_before}
use Rattle.pb_link_names.specs.declared.marks.Marks.{Marks}
use Rattle.pb_link_rules.proofs.NamesLemmas.{is_taken_before, is_free_unless}
use Rattle.pb_link_rules.proofs.flags.is_free.Goals as goal

pub returns-then-not-is_not_before : goal.returns-then-not-is_not_before
returns-then-not-is_not_before c ds scene =
    let d = c.args.declaration.now in
    let named : is_named (declaration_view d).item ≡ true = ap (λ (m : Marks). m.is_named) (sym d.marked) ∙ c.if-not-declaration.false in
    let same : c.as_bytes-name.result.now ≡ full_name (declaration_view d) = c.as_bytes-name.ensures.value ∙ c.as_str.ensures.value ∙ d.scoped in
    is_taken_before ds c.args.scene.now c.args.place (declaration_view d) c.as_bytes-name.result.now scene named same (ap (is_not_before c.args.place) (sym c.get.ensures) ∙ sym c.is_not_before.ensures ∙ c.if-not-is_not_before.true)

pub returns : goal.returns
returns c ds scene =
    let d = c.args.declaration.now in
    let named : is_named (declaration_view d).item ≡ true = ap (λ (m : Marks). m.is_named) (sym d.marked) ∙ c.if-not-declaration.false in
    let same : c.as_bytes-name.result.now ≡ full_name (declaration_view d) = c.as_bytes-name.ensures.value ∙ c.as_str.ensures.value ∙ d.scoped in
    is_free_unless ds c.args.scene.now c.args.place (declaration_view d) c.as_bytes-name.result.now c.contains.result scene named same (ap (is_not_before c.args.place) (sym c.get.ensures) ∙ sym c.is_not_before.ensures ∙ c.if-not-is_not_before.false) c.contains.ensures
