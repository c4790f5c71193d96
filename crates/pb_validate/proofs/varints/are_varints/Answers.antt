use Rattle.std.proofs.Common.{◌≡◌, ℕ, ◌+◌, ◌-◌, arith, subst, take}
use Rattle.pb_wire.specs.Schema.{a_varint}
use Rattle.pb_wire.specs.Sound.{AreElements, no_elements}
use Rattle.pb_validate.proofs.VarintRuns.{begun_after_last}
use Rattle.pb_validate.proofs.varints.are_varints.Goals.{then-bytes-at-lt128, else-bytes-at-lt128+then-begun-lt9}
use Rattle.pb_validate.proofs.varints.are_varints.Goals as goal

pub loop-at-init : goal.loop-at-init
loop-at-init c = (omega arith, record { few = omega arith; there = omega arith; whole = no_elements })

pub loop-at-2-preserved : goal.loop-at-2-preserved
loop-at-2-preserved c =
    let begun = c.loop-at-2.invariant.1 in
    let within = c.loop-at-2-test.true in
    elim c.if-bytes-at-lt128.branch [
      | then-bytes-at-lt128 w ↦ (
        omega (arith, within),
        rw w.begun-is (begun_after_last c.args.bytes.now c.loop-at-2.at c.loop-at-2.begun within begun w.if-bytes-at-lt128.true),
      )
      | else-bytes-at-lt128+then-begun-lt9 w ↦
          let there = begun.there in
          let few = w.if-begun-lt9.true in
          let same : c.loop-at-2.at - c.loop-at-2.begun ≡ c.loop-at-2.at + 1 - (c.loop-at-2.begun + 1) = omega (arith, there) in (
            omega (arith, within),
            rw w.begun-is
                (record {
                  few = omega (arith, few);
                  there = omega (arith, there);
                  whole = subst (λ (n : ℕ). AreElements a_varint (take n c.args.bytes.now)) same begun.whole;
                }),
          )
    ]
