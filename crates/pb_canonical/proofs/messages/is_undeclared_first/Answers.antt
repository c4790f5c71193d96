use Rattle.std.proofs.Common.{ℕ, sym, ap, ◌∙◌, arith, Option}
use Rattle.pb_wire.specs.Record.{varint}
use Rattle.pb_schema.specs.Kinds.{closed_enum}
use Rattle.pb_schema.specs.Closed.{is_undeclared}
use Rattle.pb_canonical.proofs.SameLemmas.{plain_at, as_varint}
use Rattle.pb_canonical.proofs.UnknownLemmas.{number_undeclared}
use Rattle.pb_canonical.proofs.FieldNext.{open_enum}
use Rattle.pb_canonical.proofs.messages.is_undeclared_first.Goals as goal

pub returns-then-tag-ne0 : goal.returns-then-tag-ne0
returns-then-tag-ne0 c = λ p s at. sym (number_undeclared c.args.pool.now (closed_enum c.args.kind) p (λ q. c.if-tag-ne0.true (sym at.type ∙ q)))

pub returns-in_default : goal.returns-in_default
returns-in_default c = λ p s at. sym (ap (λ (o : Option ℕ). is_undeclared c.args.pool.now o p) (open_enum c.args.kind c.in_default.not-ClosedEnum))

pub returns-in-Some : goal.returns-in-Some
returns-in-Some c = λ p s at.
    let plain = plain_at c.args.tag.number c.args.tag.wire_type p c.args.bytes.now s (λ q. absurd (omega (arith, q, c.if-tag-ne0.false))) at in
    let v = as_varint c.args.tag.wire_type p c.args.bytes.now s c.if-tag-ne0.false plain.0 plain.1 in
    let same = c.in-Some.ensures.complete v.0 s v.2 v.3 in
    c.is_undeclared.ensures ∙ ap (λ (i : ℕ). is_undeclared c.args.pool.now (closed_enum c.args.kind) (varint i)) same.0 ∙ ap (is_undeclared c.args.pool.now (closed_enum c.args.kind)) (sym v.1)

pub returns-in-None : goal.returns-in-None
returns-in-None c = λ p s at.
    let plain = plain_at c.args.tag.number c.args.tag.wire_type p c.args.bytes.now s (λ q. absurd (omega (arith, q, c.if-tag-ne0.false))) at in
    let v = as_varint c.args.tag.wire_type p c.args.bytes.now s c.if-tag-ne0.false plain.0 plain.1 in
    absurd (c.in-None.ensures.complete v.0 s v.2 v.3)
