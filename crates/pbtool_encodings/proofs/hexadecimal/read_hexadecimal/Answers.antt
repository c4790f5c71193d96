use Rattle.std.proofs.Common.{◌≡◌, ◌+◌, ◌≤◌, ◌<◌, length, drop, sym, ◌∙◌, arith}
use Rattle.pbtool_encodings.specs.Hexadecimal.{after, hexadecimal}
use Rattle.pbtool_encodings.proofs.HexadecimalLemmas.{blank_passed, no_digit, pair_passed}
use Rattle.pbtool_encodings.proofs.hexadecimal.read_hexadecimal.Goals as goal

pub pairs-preserved-then-is_blank : goal.pairs-preserved-then-is_blank
pairs-preserved-then-is_blank c = (
  omega arith,
  blank_passed c.args.text.now c.pairs.bytes.items c.pairs.at c.pairs.invariant.1 c.pairs-test.true (sym c.is_blank.ensures ∙ c.if-is_blank.true),
)

pub returns-in_default : goal.returns-in_default
returns-in_default c =
    no_digit c.args.text.now c.pairs.bytes.items c.pairs.at c.pairs.invariant.1 c.pairs-test.true (sym c.is_blank.ensures ∙ c.if-is_blank.false)
    (sym c.in_default.ensures.is)

pub pairs-preserved : goal.pairs-preserved
pairs-preserved c =
    let more : c.pairs.at + 1 < length c.args.text.now = omega arith in (
      omega arith,
      rw c.in_ok-push.ensures.items
          (pair_passed c.args.text.now c.pairs.bytes.items c.pairs.at c.pairs.invariant.1 c.pairs-test.true (sym c.is_blank.ensures ∙ c.if-is_blank.false)
          c.in-Some.high (sym c.in-Some.ensures.is) more c.in-Some-digit.low (sym c.in-Some-digit.ensures.is)),
    )
