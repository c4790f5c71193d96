use Rattle.std.proofs.Common.{◌∙◌, List, map, sym, ap, subst}
use Rattle.std.specs.Prelude.{filter}
use Rattle.pb_link_names.specs.Declarations.{Declaration}
use Rattle.pb_link_rules.specs.Rules.{uses}
use Rattle.pb_link_names.specs.View.{declaration_view}
use Rattle.pb_link_rules.specs.Uses.{users_at, Sums}
use Rattle.pb_link_rules.specs.declared.rules.uses.Users.{Users}
use Rattle.pb_link_rules.proofs.UseLemmas.{used_more}
use Rattle.pb_link_rules.proofs.rules.uses.use_marks.Goals as goal

pub loop-place-preserved : goal.loop-place-preserved
loop-place-preserved c w e f =
    let row = c.args.row.now in
    let ds = map declaration_view row in
    let i = c.loop-place.place in
    let sums = subst (λ (l : List Declaration). Sums ds (users_at c.in_ok-users.users.items i) (filter (uses w i) l)) (sym e) (c.in_ok-users.ensures w e f i c.loop-place-test.true) in
    used_more w declaration_view row i c.index-row-place.result c.users_at.result c.loop-place.marks.items c.push.new.self.items c.in_ok-is_used.is_used c.loop-place-test.true c.index-row-place.is
    (subst (λ (u : Users). Sums ds u (filter (uses w i) w.declared)) (sym (c.users_at.ensures ∙ ap (λ (l : List Users). users_at l i) c.deref.ensures.value)) sums)
    c.in_ok-is_used.ensures (c.loop-place.invariant w e f) c.in_ok-push.ensures.items
