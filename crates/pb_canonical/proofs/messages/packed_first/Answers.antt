use Rattle.std.proofs.Common.{◌≡◌, sym, subst, ◌∙◌, arith}
use Rattle.std.specs.Prelude.{true}
use Rattle.std.proofs.lemmas.Bool.{eqb-true}
use Rattle.pb_canonical.specs.Parts.{AreElements}
use Rattle.pb_canonical.proofs.SplitLemmas.{nonempty}
use Rattle.pb_canonical.proofs.HeldLemmas.{packed_record, no_length}
use Rattle.pb_canonical.proofs.ValueNext.{packed_at}
use Rattle.pb_canonical.proofs.messages.packed_first.Goals as goal

pub returns-then-tag-ne2-clause-complete : goal.returns-then-tag-ne2-clause-complete
returns-then-tag-ne2-clause-complete c = λ s h. absurd (c.if-tag-ne2.true (packed_at c.args.pool.now c.args.kind c.args.tag.number c.args.tag.wire_type c.args.bytes.now s (omega arith) (omega arith) h).0)

pub returns-in_err-payload-clause-complete : goal.returns-in_err-payload-clause-complete
returns-in_err-payload-clause-complete c = λ s h.
    let at = packed_at c.args.pool.now c.args.kind c.args.tag.number c.args.tag.wire_type c.args.bytes.now s (omega arith) (omega arith) h in absurd (c.in_err-payload.ensures.complete h.payload s at.1)

pub returns-then-is_empty-clause-complete : goal.returns-then-is_empty-clause-complete
returns-then-is_empty-clause-complete c = λ s h.
    let at = packed_at c.args.pool.now c.args.kind c.args.tag.number c.args.tag.wire_type c.args.bytes.now s (omega arith) (omega arith) h in
    let same = c.in_ok-payload.ensures.complete h.payload s at.1 in
    absurd (h.some (sym same.0 ∙ no_length c.in_ok-payload.payload.now (eqb-true _ _ (sym c.is_empty.ensures ∙ c.if-is_empty.true))))

pub returns-then-are_elements-clause-first : goal.returns-then-are_elements-clause-first
returns-then-are_elements-clause-first c =
    rw c.if-tag-ne2.false
    (packed_record c.args.pool.now c.args.kind c.args.tag.number c.in_ok-payload.payload.now c.args.bytes.now c.in_ok-payload.rest.now (c.are_elements.ensures.0 c.if-are_elements.true)
    (nonempty c.in_ok-payload.payload.now (sym c.is_empty.ensures ∙ c.if-is_empty.false)) c.in_ok-payload.ensures.split)

pub returns-then-are_elements-clause-complete : goal.returns-then-are_elements-clause-complete
returns-then-are_elements-clause-complete c = λ s h.
    let at = packed_at c.args.pool.now c.args.kind c.args.tag.number c.args.tag.wire_type c.args.bytes.now s (omega arith) (omega arith) h in (c.in_ok-payload.ensures.complete h.payload s at.1).1

pub returns-else-are_elements-clause-complete : goal.returns-else-are_elements-clause-complete
returns-else-are_elements-clause-complete c = λ s h.
    let at = packed_at c.args.pool.now c.args.kind c.args.tag.number c.args.tag.wire_type c.args.bytes.now s (omega arith) (omega arith) h in
    let same = c.in_ok-payload.ensures.complete h.payload s at.1 in
    let yes : c.are_elements.result ≡ true = c.are_elements.ensures.1 (subst (AreElements c.args.pool.now c.args.kind) (sym same.0) h.elements) in
    absurd (cc)
