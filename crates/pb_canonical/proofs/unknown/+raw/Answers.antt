use Rattle.std.proofs.Common.{◌≡◌, ℕ, List, arith, ◌-◌, ◌∙◌, sym, subst, inr}
use Rattle.std.proofs.lemmas.Bool.{eqb-true}
use Rattle.pb_canonical.specs.Parts.{tagged, InsideFirst}
use Rattle.pb_canonical.proofs.SplitLemmas.{nonempty}
use Rattle.pb_canonical.proofs.SameLemmas.{payload_at, plain_at}
use Rattle.pb_canonical.proofs.UnknownLemmas.{raw_group, inside_none, inside_more, raw_shorter, group_next, inside_next, inside_tag, inside_end, inside_none_left}
use Rattle.pb_canonical.proofs.unknown.+raw.Goals as goal

pub group_first-returns-clause-first : goal.group_first-returns-clause-first
group_first-returns-clause-first t c =
    raw_group c.args.number c.args.levels (c.args.levels - 1) c.args.bytes.now c.in_ok-end.end.now c.in_ok-rest.rest.now (omega (arith, c.if-levels-eq0.false)) c.in_ok-end.ensures.first
    c.in_ok-rest.ensures.split

pub group_first-returns-then-levels-eq0-clause-complete : goal.group_first-returns-then-levels-eq0-clause-complete
group_first-returns-then-levels-eq0-clause-complete t c = λ s h.
    let next = group_next c.args.number c.args.levels c.args.bytes.now s c.requires h in absurd (omega (arith, next.some, c.if-levels-eq0.true))

pub group_first-returns-in_err-end-clause-complete : goal.group_first-returns-in_err-end-clause-complete
group_first-returns-in_err-end-clause-complete t c = λ s h.
    let next = group_next c.args.number c.args.levels c.args.bytes.now s c.requires h in
    absurd (c.in_err-end.ensures.complete next.mid (inr (c.args.number, s, c.requires, next.ends)) (next.inside _ (omega (arith, next.some))))

pub group_first-returns-in_err-rest-clause-complete : goal.group_first-returns-in_err-rest-clause-complete
group_first-returns-in_err-rest-clause-complete t c = λ s h.
    let next = group_next c.args.number c.args.levels c.args.bytes.now s c.requires h in
    let same = c.in_ok-end.ensures.complete next.mid (inr (c.args.number, s, c.requires, next.ends)) (next.inside _ (omega (arith, next.some))) in
    absurd (c.in_err-rest.ensures.complete s c.requires (same ∙ next.ends))

pub group_first-returns-clause-complete : goal.group_first-returns-clause-complete
group_first-returns-clause-complete t c = λ s h.
    let next = group_next c.args.number c.args.levels c.args.bytes.now s c.requires h in
    let same = c.in_ok-end.ensures.complete next.mid (inr (c.args.number, s, c.requires, next.ends)) (next.inside _ (omega (arith, next.some))) in
    c.in_ok-rest.ensures.complete s c.requires (same ∙ next.ends)

pub inside_first-returns-then-tag-eq4-clause-first : goal.inside_first-returns-then-tag-eq4-clause-first
inside_first-returns-then-tag-eq4-clause-first t c = c.records.invariant.whole _ (inside_none c.args.levels _)

pub inside_first-returns-in_err-tag-clause-complete : goal.inside_first-returns-in_err-tag-clause-complete
inside_first-returns-in_err-tag-clause-complete t c = λ s stop h.
    let tag = inside_tag c.args.levels c.records.rest.now s stop (nonempty c.records.rest.now (sym c.is_empty.ensures ∙ c.records-test.true)) (c.records.invariant.left s stop h) in
    absurd (c.in_err-tag.ensures.complete tag.number tag.wire_type tag.rest tag.is_number tag.known tag.split)

pub inside_first-returns-then-tag-eq4-clause-complete : goal.inside_first-returns-then-tag-eq4-clause-complete
inside_first-returns-then-tag-eq4-clause-complete t c = λ s stop h.
    inside_end c.in_ok-tag.tag.number c.args.levels c.records.rest.now c.in_ok-tag.after.now s (omega arith)
    (subst (λ (w : ℕ). c.records.rest.now ≡ tagged c.in_ok-tag.tag.number w c.in_ok-tag.after.now) c.if-tag-eq4.true c.in_ok-tag.ensures.tag) (c.records.invariant.left s stop h)

pub inside_first-returns-in_err-rest-clause-complete : goal.inside_first-returns-in_err-rest-clause-complete
inside_first-returns-in_err-rest-clause-complete t c = λ s stop h.
    let next = inside_next c.in_ok-tag.tag.number c.in_ok-tag.tag.wire_type c.args.levels c.records.rest.now c.in_ok-tag.after.now s stop (omega arith) c.in_ok-tag.ensures.wire_type c.if-tag-eq4.false c.in_ok-tag.ensures.tag (c.records.invariant.left s stop h) in
    absurd (c.in_err-rest.ensures.complete next.mid next.first)

pub inside_first-records-smaller : goal.inside_first-records-smaller
inside_first-records-smaller t c =
    raw_shorter c.in_ok-tag.tag.number c.in_ok-tag.tag.wire_type c.args.levels c.records.rest.now c.in_ok-tag.after.now c.in_ok-rest.rest.now c.in_ok-tag.ensures.tag c.in_ok-rest.ensures.first

pub inside_first-records-preserved : goal.inside_first-records-preserved
inside_first-records-preserved t c = record {
  whole = λ end h.
      c.records.invariant.whole end
      (inside_more c.in_ok-tag.tag.number c.in_ok-tag.tag.wire_type c.args.levels c.records.rest.now c.in_ok-tag.after.now c.in_ok-rest.rest.now end c.in_ok-tag.ensures.number
      c.in_ok-tag.ensures.tag c.in_ok-rest.ensures.first h);
  left = λ s stop h.
      let next = inside_next c.in_ok-tag.tag.number c.in_ok-tag.tag.wire_type c.args.levels c.records.rest.now c.in_ok-tag.after.now s stop (omega arith) c.in_ok-tag.ensures.wire_type c.if-tag-eq4.false c.in_ok-tag.ensures.tag (c.records.invariant.left s stop h) in
      subst (λ (b : List ℕ). InsideFirst c.args.levels b s) (sym (c.in_ok-rest.ensures.complete next.mid next.first)) next.later;
}

pub inside_first-returns-clause-first : goal.inside_first-returns-clause-first
inside_first-returns-clause-first t c = c.records.invariant.whole _ (inside_none c.args.levels _)

pub inside_first-returns-clause-complete : goal.inside_first-returns-clause-complete
inside_first-returns-clause-complete t c = λ s stop h.
    inside_none_left c.args.levels c.records.rest.now s (eqb-true _ _ (sym c.is_empty.ensures ∙ c.records-test.false)) (c.records.invariant.left s stop h)

pub raw_first-returns-in_err-_payload-clause-complete : goal.raw_first-returns-in_err-_payload-clause-complete
raw_first-returns-in_err-_payload-clause-complete t c = λ s h.
    let at = payload_at c.args.tag.number c.args.tag.wire_type h.payload c.args.bytes.now s (omega arith) (omega arith) h.in_range h.split in
    let plain = plain_at c.args.tag.number c.args.tag.wire_type h.payload c.args.bytes.now s c.if-tag-eq3.false at in
    absurd (c.in_err-_payload.ensures.complete h.payload s plain.0 plain.1)

pub raw_first-returns-in_ok-_payload-clause-complete : goal.raw_first-returns-in_ok-_payload-clause-complete
raw_first-returns-in_ok-_payload-clause-complete t c = λ s h.
    let at = payload_at c.args.tag.number c.args.tag.wire_type h.payload c.args.bytes.now s (omega arith) (omega arith) h.in_range h.split in
    let plain = plain_at c.args.tag.number c.args.tag.wire_type h.payload c.args.bytes.now s c.if-tag-eq3.false at in
    (c.in_ok-_payload.ensures.complete h.payload s plain.0 plain.1).1
