use Rattle.std.proofs.Common.{sym, ◌∙◌, arith}
use Rattle.pb_link_rules.proofs.TableLemmas.{held_more, first_failing, none_failing}
use Rattle.pb_link_rules.proofs.cycles.find_cycle.Goals as goal

pub returns-then-branch : goal.returns-then-branch
returns-then-branch c files w are world e =
    let place = c.loop-place.place in
    first_failing w c.args.row.now place c.index-row-place.result e c.loop-place-test.true c.index-row-place.is (sym c.if-branch.true ∙ c.in_ok-is_cycle_at.ensures.exact files w place are world) (c.loop-place.invariant.2 files w are world e)

pub loop-place-preserved : goal.loop-place-preserved
loop-place-preserved c = (
  c.in_ok-is_cycle_at.ensures.listed,
  c.in_ok-is_cycle_at.ensures.size,
  λ files w are world e.
      let place = c.loop-place.place in
      held_more w c.args.row.now place c.index-row-place.result e c.loop-place-test.true c.index-row-place.is (sym (c.in_ok-is_cycle_at.ensures.exact files w place are world) ∙ c.if-branch.false) (c.loop-place.invariant.2 files w are world e),
)

pub returns : goal.returns
returns c files w are world e =
    none_failing w c.args.row.now c.loop-place.place e (omega (arith, c.loop-place-test.false)) (c.loop-place.invariant.2 files w are world e)
