use Rattle.std.proofs.Common.{sym, subst, refl, ◌∙◌}
use Rattle.std.proofs.lemmas.Bool.{eqb-true}
use Rattle.pb_schema.specs.PayloadView.{payload_view}
use Rattle.pb_canonical.specs.Parts.{AreElements}
use Rattle.pb_canonical.proofs.SplitLemmas.{nonempty, payload_shorter}
use Rattle.pb_canonical.proofs.HeldLemmas.{no_elements, one_element}
use Rattle.pb_canonical.proofs.ValueNext.{packable_type, elements_next}
use Rattle.pb_canonical.proofs.messages.are_elements.Goals as goal

pub elements-smaller : goal.elements-smaller
elements-smaller c = payload_shorter (payload_view c.in-Some._payload) c.elements.rest.now c.in-Some.after.now c.in-Some.ensures.plain c.in-Some.ensures.payload

pub elements-init : goal.elements-init
elements-init c = record { whole = λ h. h; left = λ h. h }

pub elements-preserved : goal.elements-preserved
elements-preserved c = record {
  whole = λ h.
      c.elements.invariant.whole
      (one_element c.args.pool.now c.args.kind (payload_view c.in-Some._payload) c.elements.rest.now c.in-Some.after.now
      (λ e. packable_type c.args.kind c.requires (sym c.in-Some.ensures.of_type ∙ e)) c.in-Some.ensures.value c.in-Some.ensures.payload h);
  left = λ h.
      let next = elements_next c.args.pool.now c.args.kind c.elements.rest.now c.requires (nonempty c.elements.rest.now (sym c.is_empty.ensures ∙ c.elements-test.true)) (c.elements.invariant.left h) in
      subst (AreElements c.args.pool.now c.args.kind) (sym (c.in-Some.ensures.complete next.payload next.mid next.is next.split).1) next.later;
}

pub returns-in_default : goal.returns-in_default
returns-in_default c = (
  λ e. absurd (cc),
  λ h.
      let next = elements_next c.args.pool.now c.args.kind c.elements.rest.now c.requires (nonempty c.elements.rest.now (sym c.is_empty.ensures ∙ c.elements-test.true)) (c.elements.invariant.left h) in
      absurd (c.in_default.ensures.complete next.payload next.mid next.is next.split),
)

pub returns : goal.returns
returns c = (λ _. c.elements.invariant.whole (no_elements c.args.pool.now c.args.kind c.elements.rest.now (eqb-true _ _ (sym c.is_empty.ensures ∙ c.elements-test.false))), λ h. refl)
