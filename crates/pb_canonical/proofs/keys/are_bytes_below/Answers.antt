use Rattle.std.proofs.Common.{sym, ◌∙◌}
use Rattle.std.proofs.lemmas.Bool.{eqb-true}
use Rattle.pb_canonical.proofs.SplitLemmas.{nonempty}
use Rattle.pb_canonical.proofs.ScalarLemmas.{bytes_no_less, bytes_ended}
use Rattle.pb_canonical.proofs.keys.are_bytes_below.Goals as goal
use Rattle.pb_canonical.proofs.keys.are_bytes_below.Goals.{then-is_empty-via-then-is_empty, then-is_empty-via-else-is_empty+then-other-one}

pub returns-then-is_empty : goal.returns-then-is_empty
returns-then-is_empty c = elim c.then-is_empty.branch [
  | then-is_empty-via-then-is_empty w ↦ (
    λ e. absurd (cc),
    λ e. absurd (bytes_ended c.loop-one.one.now c.loop-one.other.now (eqb-true _ _ (sym c.is_empty-in-loop-one.ensures ∙ w.if-is_empty.true)) (c.loop-one.invariant ∙ e)),
  )
  | then-is_empty-via-else-is_empty+then-other-one w ↦ (
    λ e. absurd (cc),
    λ e.
        absurd
        (bytes_no_less c.loop-one.one.now c.loop-one.other.now (nonempty c.loop-one.one.now (sym c.is_empty.ensures ∙ c.loop-one-test.true))
        (nonempty c.loop-one.other.now (sym c.is_empty-in-loop-one.ensures ∙ w.if-is_empty.false)) w.if-other-one.true (c.loop-one.invariant ∙ e)),
  )
]
