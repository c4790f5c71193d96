use Rattle.std.proofs.Common.{List, ℕ, sym, subst, ◌∙◌, arith}
use Rattle.pb_wire.proofs.Unique.{wire_type_known}
use Rattle.pb_canonical.specs.Parts.{IsPayloadAt}
use Rattle.pb_canonical.proofs.ScalarLemmas.{default_off}
use Rattle.pb_canonical.proofs.messages.next_element.Goals as goal

pub returns-in_err-rest-clause-complete : goal.returns-in_err-rest-clause-complete
returns-in_err-rest-clause-complete c = λ p t s number e at declared.
    let known = wire_type_known p in absurd (c.in_err-rest.ensures.complete t number (omega (arith, known.0, at.type)) e)

pub returns-then-is_undeclared_first-clause-complete : goal.returns-then-is_undeclared_first-clause-complete
returns-then-is_undeclared_first-clause-complete c = λ p t s number e at declared.
    let known = wire_type_known p in
    let same = c.in_ok-rest.ensures.complete t number (omega (arith, known.0, at.type)) e in
    let here = subst (λ (l : List ℕ). IsPayloadAt c.args.tag.number c.args.tag.wire_type p l s) (sym same) at in
    absurd (default_off (sym c.if-is_undeclared_first.true ∙ c.is_undeclared_first.ensures p s here ∙ declared))

pub returns-else-is_undeclared_first-clause-declared : goal.returns-else-is_undeclared_first-clause-declared
returns-else-is_undeclared_first-clause-declared c = λ p s at. sym (c.is_undeclared_first.ensures p s at) ∙ c.if-is_undeclared_first.false

pub returns-else-is_undeclared_first-clause-complete : goal.returns-else-is_undeclared_first-clause-complete
returns-else-is_undeclared_first-clause-complete c = λ p t s number e at declared.
    let known = wire_type_known p in c.in_ok-rest.ensures.complete t number (omega (arith, known.0, at.type)) e
