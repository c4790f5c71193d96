use Rattle.std.proofs.Common.{◌≡◌, ℕ, List, arith, ◌∙◌, sym, subst}
use Rattle.std.proofs.lemmas.Bool.{eqb-true}
use Rattle.pb_canonical.specs.Parts.{tagged, UnknownsFirst}
use Rattle.pb_canonical.proofs.SplitLemmas.{nonempty}
use Rattle.pb_canonical.proofs.UnknownLemmas.{unknowns_more, unknown_shorter, unknown_next, unknown_tag, unknown_end, unknown_none_left}
use Rattle.pb_canonical.proofs.unknown.unknowns_first.Goals as goal

pub records-smaller : goal.records-smaller
records-smaller c =
    unknown_shorter c.args.pool.now c.args.message_type.0 c.in_ok-tag.tag.number c.args.levels c.records.rest.now _ c.in_ok-rest.rest.now c.in_ok-tag.ensures.tag c.in_ok-rest.ensures.first

pub records-preserved : goal.records-preserved
records-preserved c = record {
  whole = λ end h.
      c.records.invariant.whole end
      (unknowns_more c.args.pool.now c.args.message_type.0 c.in_ok-tag.tag.number c.args.levels c.records.rest.now _ c.in_ok-rest.rest.now end c.in_ok-tag.ensures.tag c.in_ok-rest.ensures.first h);
  left = λ s stop h.
      let next = unknown_next c.args.pool.now c.args.message_type.0 c.in_ok-tag.tag.number c.in_ok-tag.tag.wire_type c.args.levels c.records.rest.now c.in_ok-tag.after.now s stop (omega arith) c.in_ok-tag.ensures.wire_type c.if-tag-eq4.false c.in_ok-tag.ensures.tag (c.records.invariant.left s stop h) in
      subst (λ (b : List ℕ). UnknownsFirst c.args.pool.now c.args.message_type.0 c.args.levels b s) (sym (c.in_ok-rest.ensures.complete next.mid next.first)) next.later;
}

pub returns-in_err-tag-clause-complete : goal.returns-in_err-tag-clause-complete
returns-in_err-tag-clause-complete c = λ s stop h.
    let tag = unknown_tag c.args.pool.now c.args.message_type.0 c.args.levels c.records.rest.now s stop (nonempty c.records.rest.now (sym c.is_empty.ensures ∙ c.records-test.true)) (c.records.invariant.left s stop h) in
    absurd (c.in_err-tag.ensures.complete tag.number tag.wire_type tag.rest tag.is_number tag.known tag.split)

pub returns-then-tag-eq4-clause-complete : goal.returns-then-tag-eq4-clause-complete
returns-then-tag-eq4-clause-complete c = λ s stop h.
    unknown_end c.args.pool.now c.args.message_type.0 c.in_ok-tag.tag.number c.args.levels c.records.rest.now c.in_ok-tag.after.now s (omega arith)
    (subst (λ (w : ℕ). c.records.rest.now ≡ tagged c.in_ok-tag.tag.number w c.in_ok-tag.after.now) c.if-tag-eq4.true c.in_ok-tag.ensures.tag) (c.records.invariant.left s stop h)

pub returns-in_err-rest-clause-complete : goal.returns-in_err-rest-clause-complete
returns-in_err-rest-clause-complete c = λ s stop h.
    let next = unknown_next c.args.pool.now c.args.message_type.0 c.in_ok-tag.tag.number c.in_ok-tag.tag.wire_type c.args.levels c.records.rest.now c.in_ok-tag.after.now s stop (omega arith) c.in_ok-tag.ensures.wire_type c.if-tag-eq4.false c.in_ok-tag.ensures.tag (c.records.invariant.left s stop h) in
    absurd (c.in_err-rest.ensures.complete next.mid next.first)

pub returns-clause-complete : goal.returns-clause-complete
returns-clause-complete c = λ s stop h.
    unknown_none_left c.args.pool.now c.args.message_type.0 c.args.levels c.records.rest.now s (eqb-true _ _ (sym c.is_empty.ensures ∙ c.records-test.false)) (c.records.invariant.left s stop h)
