use Rattle.std.proofs.Common.{sym, ap, ◌∙◌}
use Rattle.pb_canonical.specs.Parts.{is_zero}
use Rattle.pb_canonical.proofs.ScalarLemmas.{default_off}
use Rattle.pb_schema.specs.PayloadView.{payload_view}
use Rattle.pb_canonical.proofs.HeldLemmas.{given_scalar}
use Rattle.pb_canonical.proofs.messages.implicit_first.Goals as goal

pub returns-else-is_zero-clause-first : goal.returns-else-is_zero-clause-first
returns-else-is_zero-clause-first c =
    given_scalar c.args.pool.now c.args.kind c.args.tag.number c.args.tag.wire_type 0 (payload_view c.in_ok-payload.payload) c.args.bytes.now c.in_ok-payload.rest.now
    (let h = c.in_ok-payload.ensures.of_type in cc) c.in_ok-payload.ensures.plain c.in_ok-payload.ensures.value (sym c.is_zero.ensures ∙ c.if-is_zero.false) c.in_ok-payload.ensures.payload

pub returns-then-tag-wire_type-clause-complete : goal.returns-then-tag-wire_type-clause-complete
returns-then-tag-wire_type-clause-complete c = λ p s type x given e. absurd (c.if-tag-wire_type.true (sym type ∙ sym c.wire_type.ensures))

pub returns-in_err-payload-clause-complete : goal.returns-in_err-payload-clause-complete
returns-in_err-payload-clause-complete c = λ p s type x given e. absurd (c.in_err-payload.ensures.complete p s x e)

pub returns-then-is_zero-clause-complete : goal.returns-then-is_zero-clause-complete
returns-then-is_zero-clause-complete c = λ p s type x given e.
    let same = c.in_ok-payload.ensures.complete p s x e in absurd (default_off (sym c.if-is_zero.true ∙ c.is_zero.ensures ∙ ap is_zero same.0 ∙ given))

pub returns-else-is_zero-clause-complete : goal.returns-else-is_zero-clause-complete
returns-else-is_zero-clause-complete c = λ p s type x given e. (c.in_ok-payload.ensures.complete p s x e).1
