use Rattle.std.proofs.Common.{◌≡◌, ◌<◌, ◌∙◌, [], ◌∷◌, ◌++◌, length, set, sym, ap, subst, arith}
use Rattle.std.specs.Prelude.{slice_get}
use Rattle.std.proofs.lemmas.List.{get_or_read}
use Rattle.pb_graphs.specs.declared.cycles.Progress.TheVariants.{Unseen, Open, Done}
use Rattle.pb_graphs.specs.Flat.{lists_of}
use Rattle.pb_graphs.specs.Reach.{next_of}
use Rattle.pb_graphs.specs.Walks.{progress_of}
use Rattle.pb_graphs.proofs.CycleLemmas.{Walk, becomes-set, top_of, walk-start, walk-push, walk-advance, walk-pop, walk-reaches, walk-cycle, walk-answers, work-push, work-advance, work-pop, onward-start, onward-push, onward-pop, target_is_there}
use Rattle.pb_graphs.proofs.cycles.walk_from.Goals as goal

pub loop-index-init : goal.loop-index-init
loop-index-init c =
    let F = lists_of c.args.graph.now in
    let P = c.args.progress.now.items in
    let within : c.args.start < length F = c.requires.within in
    let in_list : c.args.start < length P = omega (arith, within, c.requires.settled.done.size) in
    rw (c.in_ok-push.ensures.items, c.requires.empty) (walk-start F P c.args.start c.requires.settled within c.requires.unseen, onward-start c.args.start P in_list c.requires.unseen)

pub index_mut-requires-in-None : goal.index_mut-requires-in-None
index_mut-requires-in-None c =
    let F = lists_of c.args.graph.now in
    let w = subst (Walk F c.loop-index.progress.items) c.in-Some.ensures.items c.loop-index.invariant.0 in
    omega (arith, c.loop-index.progress.ok.0, w.done.size, (top_of F c.loop-index.progress.items c.pop.new.self.items c.in-Some.index c.in-Some.next w).within)

pub loop-index-smaller-in-None : goal.loop-index-smaller-in-None
loop-index-smaller-in-None c =
    let F = lists_of c.args.graph.now in
    let P = c.loop-index.progress.items in
    let w = subst (Walk F P) c.in-Some.ensures.items c.loop-index.invariant.0 in
    rw c.in-Some.ensures.items (work-pop F P c.pop.new.self.items c.in-Some.index c.in-Some.next w)

pub loop-index-preserved-in-None : goal.loop-index-preserved-in-None
loop-index-preserved-in-None c =
    let F = lists_of c.args.graph.now in
    let P = c.loop-index.progress.items in
    let f = c.in-Some.index in
    let w = subst (Walk F P) c.in-Some.ensures.items c.loop-index.invariant.0 in
    let in_list : f < length P = omega (arith, w.done.size, (top_of F P c.pop.new.self.items f c.in-Some.next w).within) in (
      walk-pop F P _ c.pop.new.self.items f c.in-Some.next w (sym c.target_at.ensures.exact ∙ c.in-None.is) (becomes-set f Done P in_list),
      onward-pop F c.pop.new.self.items c.args.start f c.in-Some.next c.args.progress.now.items P w c.loop-index.invariant.1,
    )

pub index-requires : goal.index-requires
index-requires c =
    let F = lists_of c.args.graph.now in
    let w = c.loop-index.invariant.0 in
    let there : c.in-Some-target_at.target < length F = target_is_there F c.in-Some.index c.in-Some.next c.in-Some-target_at.target c.requires.graph (sym c.target_at.ensures.exact ∙ c.in-Some-target_at.is) in
    omega (arith, c.loop-index.progress.ok.0, w.done.size, there)

pub loop-index-smaller-in-Continue-branch-2 : goal.loop-index-smaller-in-Continue-branch-2
loop-index-smaller-in-Continue-branch-2 c =
    let F = lists_of c.args.graph.now in
    rw (c.in-Some.ensures.items, c.in_ok-push-in-Done.ensures.items) (work-advance F c.loop-index.progress.items c.pop.new.self.items c.in-Some.index c.in-Some.next c.in-Some-target_at.target (sym c.target_at.ensures.exact ∙ c.in-Some-target_at.is))

pub loop-index-preserved-in-Continue-branch-2 : goal.loop-index-preserved-in-Continue-branch-2
loop-index-preserved-in-Continue-branch-2 c =
    let F = lists_of c.args.graph.now in
    let P = c.loop-index.progress.items in
    let j = c.in-Some-target_at.target in
    let w = subst (Walk F P) c.in-Some.ensures.items c.loop-index.invariant.0 in
    let at : slice_get (next_of F c.in-Some.index) c.in-Some.next ≡ _ = sym c.target_at.ensures.exact ∙ c.in-Some-target_at.is in
    let there : j < length F = target_is_there F c.in-Some.index c.in-Some.next j c.requires.graph at in
    let is : progress_of P j ≡ Done = sym (get_or_read P j c.index.result.now (omega (arith, there, w.done.size)) c.index.ensures Unseen) ∙ c.in-Done.is in
    rw c.in_ok-push-in-Done.ensures.items (walk-advance F P c.pop.new.self.items c.in-Some.index c.in-Some.next j w at is, c.loop-index.invariant.1)

pub returns-in-Open-clause-walked : goal.returns-in-Open-clause-walked
returns-in-Open-clause-walked c =
    let F = lists_of c.args.graph.now in
    let P = c.loop-index.progress.items in
    let j = c.in-Some-target_at.target in
    let w = subst (Walk F P) c.in-Some.ensures.items c.loop-index.invariant.0 in
    let at : slice_get (next_of F c.in-Some.index) c.in-Some.next ≡ _ = sym c.target_at.ensures.exact ∙ c.in-Some-target_at.is in
    let there : j < length F = target_is_there F c.in-Some.index c.in-Some.next j c.requires.graph at in
    let is : progress_of P j ≡ Open = sym (get_or_read P j c.index.result.now (omega (arith, there, w.done.size)) c.index.ensures Unseen) ∙ c.in-Open.is in
    (j, walk-cycle F P c.pop.new.self.items c.in-Some.index c.in-Some.next j w at is)

pub index_mut-requires-in-Unseen : goal.index_mut-requires-in-Unseen
index_mut-requires-in-Unseen c =
    let F = lists_of c.args.graph.now in
    let w = c.loop-index.invariant.0 in
    let there : c.in-Some-target_at.target < length F = target_is_there F c.in-Some.index c.in-Some.next c.in-Some-target_at.target c.requires.graph (sym c.target_at.ensures.exact ∙ c.in-Some-target_at.is) in
    omega (arith, c.loop-index.progress.ok.0, w.done.size, there)

pub loop-index-smaller : goal.loop-index-smaller
loop-index-smaller c =
    let F = lists_of c.args.graph.now in
    let P = c.loop-index.progress.items in
    let j = c.in-Some-target_at.target in
    let w = c.loop-index.invariant.0 in
    let at : slice_get (next_of F c.in-Some.index) c.in-Some.next ≡ _ = sym c.target_at.ensures.exact ∙ c.in-Some-target_at.is in
    let there : j < length F = target_is_there F c.in-Some.index c.in-Some.next j c.requires.graph at in
    let in_list : j < length P = omega (arith, there, w.done.size) in
    let is : progress_of P j ≡ Unseen = sym (get_or_read P j c.index.result.now in_list c.index.ensures Unseen) ∙ c.in-Unseen.is in
    rw (c.in-Some.ensures.items, c.in_ok-push-in-Unseen-2.ensures.items, c.in_ok-push-in-Unseen.ensures.items) (work-push F P c.pop.new.self.items c.in-Some.index c.in-Some.next j there in_list is)

pub loop-index-preserved : goal.loop-index-preserved
loop-index-preserved c =
    let F = lists_of c.args.graph.now in
    let P = c.loop-index.progress.items in
    let j = c.in-Some-target_at.target in
    let f = c.in-Some.index in
    let n = c.in-Some.next in
    let E = c.pop.new.self.items in
    let w = subst (Walk F P) c.in-Some.ensures.items c.loop-index.invariant.0 in
    let at : slice_get (next_of F f) n ≡ _ = sym c.target_at.ensures.exact ∙ c.in-Some-target_at.is in
    let there : j < length F = target_is_there F f n j c.requires.graph at in
    let in_list : j < length P = omega (arith, there, w.done.size) in
    let is : progress_of P j ≡ Unseen = sym (get_or_read P j c.index.result.now in_list c.index.ensures Unseen) ∙ c.in-Unseen.is in
    let both : c.push-in-Unseen-2.new.self.items ≡ E ++ (f, n) ∷ [] ++ (j, 0) ∷ [] = c.in_ok-push-in-Unseen-2.ensures.items ∙ ap (λ l. l ++ (j, 0) ∷ []) c.in_ok-push-in-Unseen.ensures.items in (
      subst (Walk F (set P j Open)) (sym both) (walk-push F P (set P j Open) (E ++ (f, n) ∷ []) j w there is (walk-reaches F P E f n j w at) (becomes-set j Open P in_list)),
      onward-push c.args.start j c.args.progress.now.items P c.loop-index.invariant.1 in_list is,
    )

pub returns-clause-walked : goal.returns-clause-walked
returns-clause-walked c =
    walk-answers (lists_of c.args.graph.now) c.args.start c.args.progress.now.items c.loop-index.progress.items c.loop-index.path.items (omega (arith, c.loop-index.path.ok.0, c.in_default.ensures.cases)) c.loop-index.invariant.0 c.loop-index.invariant.1
