use Rattle.std.proofs.Common.{◌≡◌, ◌≤◌, ◌+◌, ℕ, length, [], ◌∷◌, Some, None, sym, ap, subst, arith, length-append}
use Rattle.std.proofs.lemmas.Option.{slice_get_within}
use Rattle.std.specs.Prelude.{slice_get}
use Rattle.pb_compat.specs.Walk.{pairs_of, FollowsAll, AreCompared}
use Rattle.pb_compat.proofs.ComparedLemmas.{compared_none, next_within, next_step, compared_more, compared_all}
use Rattle.pb_compat.proofs.ClimbLemmas.{compared_linked}
use Rattle.pb_compat.proofs.comparing.compare_few.Goals as goal

pub loop-from-init : goal.loop-from-init
loop-from-init c =
    let none = c.new-compared.ensures.items in (
      subst (λ cs. AreCompared c.args.old.now c.args.new.now c.args.starts.now c.in_ok-pairs.pairs cs) (sym none)
          (compared_none c.args.old.now c.args.new.now c.args.starts.now c.in_ok-pairs.pairs (c.in_ok-pairs.ensures c.args.old.now c.args.new.now c.requires.differ c.requires.within)),
      omega (arith, ap length none),
    )

pub compare_types-requires-clause-old : goal.compare_types-requires-clause-old
compare_types-requires-clause-old c =
    let cs = c.loop-from.compared.items in
    let p : ℕ × ℕ = (c.in-Some.from, c.in-Some.to) in
    let same : c.len.result ≡ length cs = omega (arith, c.len.ensures, c.loop-from.compared.ok.0) in
    let at : slice_get (pairs_of c.loop-from.pairs) (length cs) ≡ Some p = subst (λ i. slice_get (pairs_of c.loop-from.pairs) i ≡ Some p) same (sym c.in-Some.ensures) in
    (next_within c.args.old.now c.args.new.now c.args.starts.now c.loop-from.pairs cs p c.loop-from.invariant.0 at).0

pub compare_types-requires-clause-new : goal.compare_types-requires-clause-new
compare_types-requires-clause-new c =
    let cs = c.loop-from.compared.items in
    let p : ℕ × ℕ = (c.in-Some.from, c.in-Some.to) in
    let same : c.len.result ≡ length cs = omega (arith, c.len.ensures, c.loop-from.compared.ok.0) in
    let at : slice_get (pairs_of c.loop-from.pairs) (length cs) ≡ Some p = subst (λ i. slice_get (pairs_of c.loop-from.pairs) i ≡ Some p) same (sym c.in-Some.ensures) in
    (next_within c.args.old.now c.args.new.now c.args.starts.now c.loop-from.pairs cs p c.loop-from.invariant.0 at).1

pub compare_types-requires-clause-size : goal.compare_types-requires-clause-size
compare_types-requires-clause-size c =
    let cs = c.loop-from.compared.items in
    let p : ℕ × ℕ = (c.in-Some.from, c.in-Some.to) in
    let same : c.len.result ≡ length cs = omega (arith, c.len.ensures, c.loop-from.compared.ok.0) in
    let at : slice_get (pairs_of c.loop-from.pairs) (length cs) ≡ Some p = subst (λ i. slice_get (pairs_of c.loop-from.pairs) i ≡ Some p) same (sym c.in-Some.ensures) in
    let less = next_step c.args.old.now c.args.new.now c.args.starts.now c.loop-from.pairs cs p c.loop-from.invariant.0 at in
    omega (arith, less, c.len-index.ensures, c.loop-from.compared.ok.0)

pub loop-from-preserved : goal.loop-from-preserved
loop-from-preserved c =
    let cs = c.loop-from.compared.items in
    let p : ℕ × ℕ = (c.in-Some.from, c.in-Some.to) in
    let same : c.len.result ≡ length cs = omega (arith, c.len.ensures, c.loop-from.compared.ok.0) in
    let index : c.len-index.result ≡ length cs = omega (arith, c.len-index.ensures, c.loop-from.compared.ok.0) in
    let at : slice_get (pairs_of c.loop-from.pairs) (length cs) ≡ Some p = subst (λ i. slice_get (pairs_of c.loop-from.pairs) i ≡ Some p) same (sym c.in-Some.ensures) in
    let most = slice_get_within (pairs_of c.loop-from.pairs) (length cs) p at in
    let few : length cs + 1 ≤ c.args.max_pairs = omega (arith, most, c.len-reached.ensures, c.if-reached-max_pairs.false) in (
      subst (λ ds. AreCompared c.args.old.now c.args.new.now c.args.starts.now c.compare_types.new.pairs ds) (sym c.in_ok-push.ensures.items)
          (compared_more c.args.old.now c.args.new.now c.args.starts.now c.loop-from.pairs c.compare_types.new.pairs cs c.in_ok-types.types p c.loop-from.invariant.0 at
          (subst (λ i. FollowsAll c.args.old.now c.args.new.now i p c.loop-from.pairs c.compare_types.new.pairs) index c.in_ok-types.ensures.followed)
          c.in_ok-types.ensures.types
          (subst (λ i. slice_get c.compare_types.new.pairs.steps.items i ≡ Some c.in_ok-types.types.reached_by) index c.in_ok-types.ensures.step)
          c.in_ok-types.ensures.differences),
      omega (arith, few, ap length c.in_ok-push.ensures.items, length-append cs (c.in_ok-types.types ∷ [])),
    )

pub returns-clause-compared : goal.returns-clause-compared
returns-clause-compared c =
    let cs = c.loop-from.compared.items in
    let same : c.len.result ≡ length cs = omega (arith, c.len.ensures, c.loop-from.compared.ok.0) in
    compared_all c.args.old.now c.args.new.now c.args.starts.now c.loop-from.pairs cs c.loop-from.invariant.0
    (subst (λ i. slice_get (pairs_of c.loop-from.pairs) i ≡ None) same (sym c.in_default.ensures))

pub returns-clause-linked : goal.returns-clause-linked
returns-clause-linked c =
    let cs = c.loop-from.compared.items in
    let same : c.len.result ≡ length cs = omega (arith, c.len.ensures, c.loop-from.compared.ok.0) in
    compared_linked c.args.old.now c.args.new.now c.args.starts.now c.loop-from.pairs cs c.loop-from.invariant.0
    (subst (λ i. slice_get (pairs_of c.loop-from.pairs) i ≡ None) same (sym c.in_default.ensures))
