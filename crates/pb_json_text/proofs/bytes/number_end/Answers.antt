use Rattle.std.proofs.Common.{sym, ◌∙◌, arith, inr}
use Rattle.pb_json_text.specs.declared.fault.JsonCause.TheVariants as cause
use Rattle.std.specs.Prelude.{slice_range}
use Rattle.pb_json_text.proofs.Steps.{digit_at, number_over_at, number_stops_at, number_ends_at, number_cut_at, stop_is, begun_less}
use Rattle.pb_json_text.proofs.bytes.number_end.Goals as goal

pub bytes-preserved : goal.bytes-preserved
bytes-preserved c = record {
  within = omega arith;
  passed = omega arith;
  begun = λ e. absurd (omega arith);
  runs = λ at v k. digit_at c.args.bytes.now c.args.from c.bytes.at c.bytes.part c.in-Some.next at v k _ c.bytes.invariant.passed c.bytes-test.true (sym c.next.ensures ∙ c.in-Some.is) (c.bytes.invariant.runs at v k);
}

pub returns-in-None-clause-within : goal.returns-in-None-clause-within
returns-in-None-clause-within c =
    (begun_less c.args.from c.bytes.at _ c.bytes.invariant.passed (sym c.is_final.ensures ∙ c.if-is_final.true) c.bytes.invariant.begun, c.bytes.invariant.within)

pub returns-in-None-clause-ok : goal.returns-in-None-clause-ok
returns-in-None-clause-ok c at l k =
    c.bytes.invariant.runs at l k
    ∙ number_over_at c.args.bytes.now c.bytes.at c.bytes.part (slice_range c.args.bytes.now c.args.from c.bytes.at) at l k c.bytes-test.true (sym c.next.ensures ∙ c.in-None.is)
    (sym c.is_final.ensures ∙ c.if-is_final.true)

pub returns-in-None-2-clause-fault : goal.returns-in-None-2-clause-fault
returns-in-None-2-clause-fault c at l k =
    inr (stop_is c.unexpected.result c.bytes.at cause.UnexpectedByte _ c.unexpected.ensures.byte c.unexpected.ensures.cause
    (c.bytes.invariant.runs at l k
    ∙ number_stops_at c.args.bytes.now c.bytes.at c.bytes.part (slice_range c.args.bytes.now c.args.from c.bytes.at) at l k c.bytes-test.true (sym c.next.ensures ∙ c.in-None-2.is)
    (sym c.is_final.ensures ∙ c.if-is_final.false)))

pub returns-then-is_final-2-clause-within : goal.returns-then-is_final-2-clause-within
returns-then-is_final-2-clause-within c =
    (begun_less c.args.from c.bytes.at _ c.bytes.invariant.passed (sym c.is_final-2.ensures ∙ c.if-is_final-2.true) c.bytes.invariant.begun, c.bytes.invariant.within)

pub returns-then-is_final-2-clause-ok : goal.returns-then-is_final-2-clause-ok
returns-then-is_final-2-clause-ok c at l k =
    c.bytes.invariant.runs at l k
    ∙ number_ends_at c.args.bytes.now c.bytes.at c.bytes.part (slice_range c.args.bytes.now c.args.from c.bytes.at) at l k (let e = c.bytes-test.false in omega arith)
    (sym c.is_final-2.ensures ∙ c.if-is_final-2.true)

pub returns-else-is_final-2-clause-fault : goal.returns-else-is_final-2-clause-fault
returns-else-is_final-2-clause-fault c at l k =
    inr (stop_is c.end.result c.bytes.at cause.UnexpectedEnd _ c.end.ensures.byte c.end.ensures.cause
    (c.bytes.invariant.runs at l k
    ∙ number_cut_at c.args.bytes.now c.bytes.at c.bytes.part (slice_range c.args.bytes.now c.args.from c.bytes.at) at l k (let e = c.bytes-test.false in omega arith)
    (sym c.is_final-2.ensures ∙ c.if-is_final-2.false)))
