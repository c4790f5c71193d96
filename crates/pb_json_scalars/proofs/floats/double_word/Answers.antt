use Rattle.std.proofs.Common.{refl, sym, ◌∙◌}
use Rattle.pb_json_scalars.proofs.floats.double_word.Goals as goal

pub returns-then-eq : goal.returns-then-eq
unfolding lib.Ieee.of_bits
returns-then-eq c = let first = rw c.as_slice.ensures at (sym c.eq.ensures ∙ c.if-eq.true) in rw first refl

pub returns-then-eq-2 : goal.returns-then-eq-2
unfolding lib.Ieee.of_bits
returns-then-eq-2 c =
    let first = rw c.as_slice.ensures at (sym c.eq.ensures ∙ c.if-eq.false) in
    let second = rw c.as_slice-else-eq.ensures at (sym c.eq-else-eq.ensures ∙ c.if-eq-2.true) in
    rw (first, second) refl

pub returns-then-eq-3 : goal.returns-then-eq-3
unfolding lib.Ieee.of_bits
returns-then-eq-3 c =
    let first = rw c.as_slice.ensures at (sym c.eq.ensures ∙ c.if-eq.false) in
    let second = rw c.as_slice-else-eq.ensures at (sym c.eq-else-eq.ensures ∙ c.if-eq-2.false) in
    let third = rw c.as_slice-else-eq-2.ensures at (sym c.eq-else-eq-2.ensures ∙ c.if-eq-3.true) in
    rw (first, second, third) refl
