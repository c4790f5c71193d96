use Rattle.std.proofs.Common.{◌∙◌, Some, map, take, cond, sym, ap}
use Rattle.pb_link_names.specs.View.{declaration_view}
use Rattle.pb_link_names.specs.Lookup.{decides}
use Rattle.pb_link_names.specs.Scene.{scene_sees}
use Rattle.pb_link_names.specs.Words.{may_hold}
use Rattle.pb_link_names.proofs.WordLemmas.{found_last, scopes_enough, scope_popped, none_found, none_left, decides_may}
use Rattle.pb_link_names.proofs.scene.Scene.deciding_scope_by_words.Goals as goal

pub loop-len-init : goal.loop-len-init
loop-len-init c =
    let ds = map declaration_view c.args.row.now in
    let sees = scene_sees c.args.everywhere c.args.self.now in
    scopes_enough (decides ds sees c.args.name.now) (may_hold c.args.self.now.words c.first_part.result.now) c.args.scope.now (map (λ n. take n c.args.scope.now) c.in_ok-lens.lens.items)
    (λ r is. ap (λ w. may_hold c.args.self.now.words w r) c.first_part.ensures ∙ decides_may ds sees c.args.self.now.words c.args.name.now c.requires.words r is) c.in_ok-lens.ensures

pub returns-then-branch : goal.returns-then-branch
returns-then-branch c =
    let t = decides (map declaration_view c.args.row.now) (scene_sees c.args.everywhere c.args.self.now) c.args.name.now in
    let here = take c.in-Some.len c.args.scope.now in
    ap Some c.beginning-scope.ensures
    ∙ sym (c.loop-len.invariant ∙ scope_popped t c.args.scope.now c.loop-len.lens.items c.pop.new.self.items c.in-Some.len c.in-Some.ensures.items ∙ ap (λ b. cond b (Some here) (found_last t (map (λ n. take n c.args.scope.now) c.pop.new.self.items))) (ap t (sym c.beginning-scope.ensures) ∙ sym c.in_ok-decides.ensures ∙ c.if-branch.true))

pub loop-len-preserved : goal.loop-len-preserved
loop-len-preserved c =
    let t = decides (map declaration_view c.args.row.now) (scene_sees c.args.everywhere c.args.self.now) c.args.name.now in
    let here = take c.in-Some.len c.args.scope.now in
    c.loop-len.invariant ∙ scope_popped t c.args.scope.now c.loop-len.lens.items c.pop.new.self.items c.in-Some.len c.in-Some.ensures.items ∙ ap (λ b. cond b (Some here) (found_last t (map (λ n. take n c.args.scope.now) c.pop.new.self.items))) (ap t (sym c.beginning-scope.ensures) ∙ sym c.in_ok-decides.ensures ∙ c.if-branch.false)

pub returns : goal.returns
returns c =
    let t = decides (map declaration_view c.args.row.now) (scene_sees c.args.everywhere c.args.self.now) c.args.name.now in
    sym (c.loop-len.invariant ∙ none_found t c.args.scope.now c.loop-len.lens.items (none_left c.loop-len.lens c.in_default.ensures.cases.0))
