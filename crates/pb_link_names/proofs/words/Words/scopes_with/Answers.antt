use Rattle.std.proofs.Common.{◌∙◌, ℕ, Option, length, subst, ap, arith}
use Rattle.pb_link_names.specs.Words.{child_if, PushesScope}
use Rattle.pb_link_names.proofs.WordLemmas.{pushed_first, pushed_byte, pushed_all}
use Rattle.pb_link_names.proofs.words.Words.scopes_with.Goals as goal

pub loop-index-init : goal.loop-index-init
loop-index-init c =
    pushed_first c.args.self.now c.args.word.now c.args.scope.now c.new-lens.result.items c.push_scope.new.lens.items c.new-lens.ensures.items c.in_ok-push_scope.ensures

pub loop-index-preserved : goal.loop-index-preserved
loop-index-preserved c =
    let are = c.loop-index.invariant in
    pushed_byte c.args.self.now c.args.word.now c.args.scope.now c.loop-index.index c.loop-index.at.0 c.pass-next.result.0 c.loop-index.at.1 c.pass-next.result.1 c.loop-index.lens.items c.push_outer.new.lens.items (omega arith)
    (c.pass-next.ensures.at are.at) (λ dot. c.pass-next.ensures.node are.at dot) are c.in_ok-push_outer.ensures.dot c.in_ok-push_outer.ensures.other

pub returns : goal.returns
returns c =
    pushed_all c.args.self.now c.args.word.now c.args.scope.now c.loop-index.index c.loop-index.at.0 c.loop-index.at.1 c.loop-index.lens.items c.push_whole.new.lens.items (omega arith) c.loop-index.invariant
    (λ some. subst (λ (o : Option ℕ). PushesScope c.args.self.now o c.args.word.now (length c.args.scope.now) c.loop-index.lens.items c.push_whole.new.lens.items) (c.child_if-node.ensures ∙ ap (child_if c.args.self.now c.loop-index.at.0) c.part.ensures) (c.in_ok-push_whole.ensures.some some))
    c.in_ok-push_whole.ensures.none
