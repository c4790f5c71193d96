use Rattle.std.proofs.Common.{rules, refl, arith}
use Rattle.std.proofs.lemmas.Bool.{lt-ltb, true≢false}
use Rattle.std.proofs.lemmas.List.Elements.{recursion_from_All, All-from_get_or}
use Rattle.std.proofs.lemmas.Bool.Decides.{nat_tests}
use Rattle.pb_wire.specs.Ranges.{IsByte, AreBytes}
use Rattle.pb_canonical.proofs.ShortestVarints.{one_taken, overlong_taken, few_taken, ten_taken, ten_bits}
use Rattle.pb_canonical.proofs.first.is_shortest.Goals as goal

pub returns-then-size-eq1 : goal.returns-then-size-eq1
returns-then-size-eq1 c = λ n v. (λ _. one_taken c.args.bytes.now c.args.size n c.requires.within v c.if-size-eq1.true, λ _. refl)

pub returns-then-last-eq0 : goal.returns-then-last-eq0
returns-then-last-eq0 c = λ n v.
    (λ h. absurd (true≢false (cc)), λ e. absurd (overlong_taken c.args.bytes.now c.args.size n c.requires.some c.requires.within v c.if-size-eq1.false c.if-last-eq0.true e))

pub returns-then-size-lt-MAX_VARINT : goal.returns-then-size-lt-MAX_VARINT
returns-then-size-lt-MAX_VARINT c = λ n v.
    let bytes : AreBytes c.args.bytes.now = recursion_from_All IsByte c.args.bytes.now (All-from_get_or IsByte c.args.bytes.now 0 (λ i h. let fits = c.type_inv.bytes i in search (rules, fits))) in (
      λ _. few_taken c.args.bytes.now c.args.size n bytes c.requires.some c.requires.within v c.if-last-eq0.false c.if-size-lt-MAX_VARINT.true,
      λ _. lt-ltb _ _ c.if-size-lt-MAX_VARINT.true,
    )

pub returns-else-size-lt-MAX_VARINT : goal.returns-else-size-lt-MAX_VARINT
returns-else-size-lt-MAX_VARINT c = λ n v.
    let bytes : AreBytes c.args.bytes.now = recursion_from_All IsByte c.args.bytes.now (All-from_get_or IsByte c.args.bytes.now 0 (λ i h. let fits = c.type_inv.bytes i in search (rules, fits))) in
    let ten = c.if-size-lt-MAX_VARINT.false in (
      λ h. ten_taken c.args.bytes.now c.args.size n bytes c.requires.some c.requires.within v (omega (arith, ten)) (grind (arith, nat_tests, h)),
      λ e. let one = ten_bits c.args.bytes.now c.args.size n c.requires.some c.requires.within v (omega (arith, ten)) c.if-last-eq0.false e in grind (arith, nat_tests, one),
    )
