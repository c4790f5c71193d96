use Rattle.std.proofs.Common.{rules, ◌≡◌, ◌^◌, ℕ, true, refl, sym, subst, arith, w32, FitsSigned}
use Rattle.pb_compat.specs.Scalars.{declares_within}
use Rattle.pb_compat.proofs.ScalarLemmas.{within_none, within_next, others_all, undeclared_other}
use Rattle.pb_compat.proofs.scalars.undeclared.Goals as goal

pub loop-size-init : goal.loop-size-init
loop-size-init c = within_none c.args.pool.now c.args.entry.0

pub returns-in-Some-clause-all : goal.returns-in-Some-clause-all
returns-in-Some-clause-all c =
    let fits : FitsSigned w32 c.in-Some.number = search rules in
    sym (undeclared_other c.args.pool.now c.args.entry.0 c.in-Some.number fits c.in-Some.ensures.other c.in-Some.ensures.some)

pub loop-size-preserved : goal.loop-size-preserved
loop-size-preserved c = within_next c.args.pool.now c.args.entry.0 c.loop-size.size true refl c.in_default.ensures.all c.loop-size.invariant

pub returns-clause-all : goal.returns-clause-all
returns-clause-all c =
    let pool = c.args.pool.now in
    let e = c.args.entry.0 in
    let all : c.loop-size.size ≡ 2 ^ 31 = omega (arith, c.loop-size-test.false, c.loop-size.auto.size-end) in
    sym (others_all pool e (subst (λ (i : ℕ). declares_within pool e i ≡ true) all c.loop-size.invariant))
