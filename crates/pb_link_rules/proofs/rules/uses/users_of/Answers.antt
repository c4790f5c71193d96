use Rattle.std.proofs.Common.{◌≡◌, ◌∙◌, List, map, ap, subst, arith}
use Rattle.std.specs.Prelude.{filter}
use Rattle.std.proofs.lemmas.List.{take_all, length-map}
use Rattle.pb_link_rules.specs.Rules.{lookups, is_field, uses}
use Rattle.pb_link_names.specs.View.{declaration_view, type_names_view}
use Rattle.pb_link_rules.specs.Uses.{target_by, users_at, Sums}
use Rattle.pb_link_names.specs.declared.declaration.Declaration.{Declaration as DeclarationValue}
use Rattle.pb_link_names.specs.declared.found.TypeNames.TheVariants as type_names
use Rattle.pb_link_names.proofs.GraphLemmas.{map_twice}
use Rattle.pb_link_rules.proofs.UseLemmas.{told_at, sums_more}
use Rattle.pb_link_rules.proofs.rules.uses.users_of.Goals as goal

pub loop-place-preserved : goal.loop-place-preserved
loop-place-preserved c = (
  c.add_user.ensures.size ∙ c.loop-place.invariant.0,
  λ w e f.
      let row = c.args.row.now in
      let i = c.loop-place.place in
      let x = c.index-row-place.result in
      let named : type_names_view c.names_at.result ≡ lookups w (declaration_view x) = ap type_names_view c.names_at.ensures ∙ told_at type_names_view (λ (y : DeclarationValue). lookups w (declaration_view y)) c.args.found.now row i x type_names.None (f ∙ ap (map (lookups w)) e ∙ map_twice (lookups w) declaration_view row) c.loop-place-test.true c.index-row-place.is in
      let same : c.target_of-target.result ≡ target_by (is_field (declaration_view x).item) (lookups w (declaration_view x)) = cc (c.target_of-target.ensures, c.index-row-place.is, named) in
      sums_more w declaration_view row i x c.target_of-target.result c.loop-place.users.items c.add_user.new.users.items c.loop-place-test.true c.index-row-place.is (omega (arith, c.loop-place.invariant.0, length-map row declaration_view)) same c.add_user.ensures (c.loop-place.invariant.1 w e f),
)

pub returns : goal.returns
returns c w e f p h =
    let row = c.args.row.now in
    subst (λ (l : List DeclarationValue). Sums (map declaration_view row) (users_at c.loop-place.users.items p) (filter (uses w p) (map declaration_view l))) (take_all c.loop-place.place row c.loop-place-test.false)
    (c.loop-place.invariant.1 w e f p (omega (arith, h, length-map row declaration_view)))
