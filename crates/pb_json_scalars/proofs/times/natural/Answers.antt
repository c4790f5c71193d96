use Rattle.std.proofs.Common.{◌≡◌, ◌∙◌, sym, true}
use Rattle.std.specs.Char.{is_ascii_digit}
use Rattle.std.specs.List.{list_all}
use Rattle.pb_json_scalars.proofs.ClockLemmas.{natural_is, natural_parsed, natural_unread}
use Rattle.pb_json_scalars.proofs.times.natural.Goals as goal

pub returns-in_default-clause-is : goal.returns-in_default-clause-is
returns-in_default-clause-is c =
    let all : list_all is_ascii_digit c.args.digits.now ≡ true = sym c.are_digits.ensures ∙ c.if-not-are_digits.false in
    let parsed = rw c.in_default.is at (natural_parsed c.args.digits.now c.parse_u64.result all c.parse_u64.ensures) in
    sym (natural_unread c.args.most c.args.digits.now all parsed c.ranges.most.fits)

pub returns-then-number-most-clause-is : goal.returns-then-number-most-clause-is
returns-then-number-most-clause-is c =
    let all : list_all is_ascii_digit c.args.digits.now ≡ true = sym c.are_digits.ensures ∙ c.if-not-are_digits.false in
    let parsed = rw c.in-Ok.is at (natural_parsed c.args.digits.now c.parse_u64.result all c.parse_u64.ensures) in
    sym (natural_is c.args.most c.args.digits.now c.in-Ok.number all parsed.0.0 parsed.1 c.if-number-most.true)
