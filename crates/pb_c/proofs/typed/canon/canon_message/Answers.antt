use Rattle.std.specs.Prelude.{true}
use Rattle.std.proofs.Common.{◌≡◌, List, ℕ, refl, inl, inr, ap, subst, arith}
use Rattle.pb_value.specs.Canon.{canon_bytes}
use Rattle.pb_encode.specs.Encoding.{bytes_of}
use Rattle.pb_c_answers.specs.Reporting.{IsLaid}
use Rattle.pb_c_answers.proofs.Making.{the_message, too_many, written}
use Rattle.pb_c.proofs.typed.canon.canon_message.Goals as goal

pub returns-in-Ok-clause-accepted : goal.returns-in-Ok-clause-accepted
returns-in-Ok-clause-accepted c within v text small =
    let same = the_message c.in-Ok.message c.args.input.pool.now c.args.input.type_number v c.in-Ok.ensures.of_type.0 c.in-Ok.ensures.of_type.1 (c.in-Ok.ensures.accepted within v text) in
    written c.write_canonical.result (λ b. IsLaid b c.args.out.now c.write_canonical.new.out c.write_canonical.new.size)
    (bytes_of c.in-Ok.message) (canon_bytes c.args.input.pool.now c.args.input.type_number v) (ap bytes_of same)
    c.write_canonical.ensures.written c.write_canonical.ensures.too_large c.write_canonical.ensures.answers small

pub returns-in-Ok-clause-oversized : goal.returns-in-Ok-clause-oversized
returns-in-Ok-clause-oversized c within v text large =
    let same = the_message c.in-Ok.message c.args.input.pool.now c.args.input.type_number v c.in-Ok.ensures.of_type.0 c.in-Ok.ensures.of_type.1 (c.in-Ok.ensures.accepted within v text) in
    too_many c.write_canonical.result (λ b. IsLaid b c.args.out.now c.write_canonical.new.out c.write_canonical.new.size)
    (bytes_of c.in-Ok.message) (canon_bytes c.args.input.pool.now c.args.input.type_number v) (ap bytes_of same)
    c.write_canonical.ensures.written c.write_canonical.ensures.answers large

pub returns-in-Err-clause-accepted : goal.returns-in-Err-clause-accepted
returns-in-Err-clause-accepted c within v text small = inr (c.in-Err.ensures.accepted within v text)

pub returns-in-Err-clause-oversized : goal.returns-in-Err-clause-oversized
returns-in-Err-clause-oversized c within v text large = inr (c.in-Err.ensures.accepted within v text)

pub returns-then-is_known_canonical-clause-text : goal.returns-then-is_known_canonical-clause-text
returns-then-is_known_canonical-clause-text c = λ is.
    let value = c.is_known_canonical.ensures.value c.if-is_known_canonical.true in
    let same = c.is_known_canonical.ensures.only c.if-is_known_canonical.true value.0 value.1 in
    (value.0, value.1, same.1, subst (λ (b : List ℕ). IsLaid b c.args.out.now c.write_out.new.out c.write_out.new.size) same.0 c.write_out.ensures)

pub returns-then-is_known_canonical-clause-accepted : goal.returns-then-is_known_canonical-clause-accepted
returns-then-is_known_canonical-clause-accepted c within v text small =
    let same = c.is_known_canonical.ensures.only c.if-is_known_canonical.true v text in
    inl (refl, subst (λ (b : List ℕ). IsLaid b c.args.out.now c.write_out.new.out c.write_out.new.size) same.0 c.write_out.ensures)

pub returns-then-is_known_canonical-clause-oversized : goal.returns-then-is_known_canonical-clause-oversized
returns-then-is_known_canonical-clause-oversized c within v text large =
    let same = c.is_known_canonical.ensures.only c.if-is_known_canonical.true v text in absurd (omega (arith, same.1, large))

pub returns-then-is_known_canonical-clause-refused : goal.returns-then-is_known_canonical-clause-refused
returns-then-is_known_canonical-clause-refused c within f fault = absurd (c.is_known_canonical.ensures.faultless c.if-is_known_canonical.true f fault)

pub returns-in-Ok-clause-copied : goal.returns-in-Ok-clause-copied
returns-in-Ok-clause-copied c = λ within canonical v text. let yes : c.is_known_canonical.result ≡ true = c.is_known_canonical.ensures.complete within canonical v text in absurd (cc)

pub returns-in-Err-clause-copied : goal.returns-in-Err-clause-copied
returns-in-Err-clause-copied c = λ within canonical v text. let yes : c.is_known_canonical.result ≡ true = c.is_known_canonical.ensures.complete within canonical v text in absurd (cc)
