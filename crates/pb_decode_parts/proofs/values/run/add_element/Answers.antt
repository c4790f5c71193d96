-- With one more of its sort in the part the reader is after it.
use Rattle.std.proofs.Common.{◌∙◌, sym, ap, subst, map}
use Rattle.pb_wire.specs.Record.{Payload}
use Rattle.pb_wire.specs.Scan.{given_at, passed}
use Rattle.pb_wire.specs.Unknown.{payload_of, records_of}
use Rattle.pb_value.specs.View.{value_view}
use Rattle.pb_decode_parts.specs.declared.open.target.Target.TheVariants.{Element}
use Rattle.pb_decode_parts.specs.declared.tokens.step.Step.TheVariants.{Elements}
use Rattle.pb_decode_parts.specs.Open.Parents.{Part}
use Rattle.pb_decode_parts.specs.Tokens.After.{After}
use Rattle.pb_decode_parts.specs.Values.Put.{put_datum, put_record}
use Rattle.pb_decode_parts.specs.Values.Run.{put_listed, put_records, put_run}
use Rattle.pb_decode_parts.specs.Tokens.Number.{IsNumberType}
use Rattle.pb_decode_parts.proofs.NumberTokens.{size_some}
use Rattle.pb_decode_parts.proofs.NumberSteps.{read_some}
use Rattle.pb_decode_parts.proofs.AnswerLemmas.{reported_of}
use Rattle.pb_decode_parts.proofs.ListSteps.{element_put, element_passed}
use Rattle.pb_decode_parts.proofs.RunLemmas.{listed_is, value_added, record_added}
use Rattle.pb_decode_parts.proofs.values.run.add_element.Goals as goal

pub scan_number-requires : goal.scan_number-requires
scan_number-requires c = subst IsNumberType (sym c.wire_type.ensures) c.requires

pub returns-in_ok-push-in-Whole-clause-within : goal.returns-in_ok-push-in-Whole-clause-within
returns-in_ok-push-in-Whole-clause-within c = let reported = c.in-Whole.ensures 0 in (size_some c.in-Whole.value (given_at 0 c.args.left c.args.bytes.now) c.in-Whole.size reported.1.1, reported.0)

pub returns-in_ok-push-in-Whole-clause-put : goal.returns-in_ok-push-in-Whole-clause-put
returns-in_ok-push-in-Whole-clause-put c =
    λ m depth levels at outer base p0 parents scope now begun.
    let number = c.args.number in
    let old = c.args.run.now in
    let reported = c.in-Whole.ensures at in
    subst (λ (z : Part). After c.args.pool.now m depth levels base p0 parents (Elements number c.args.kind outer) z scope (passed (given_at at c.args.left c.args.bytes.now) c.in-Whole.size))
    (sym (record_added number (map value_view old.values.items) old.undeclared.items _ c.unknown_number.result now c.in_ok-push-in-Whole.ensures.items))
    (element_passed number c.args.kind outer c.in-Whole.value (put_record number (payload_of c.unknown_number.result) (put_run number old now)) begun (reported.1.0 ∙ c.wire_type.ensures) (sym c.is_undeclared.ensures ∙ c.if-is_undeclared.true) reported.1.1
    (ap (λ (z : Payload). put_record number z (put_run number old now)) c.unknown_number.ensures))

pub returns-in_ok-push-in-Whole-2-clause-within : goal.returns-in_ok-push-in-Whole-2-clause-within
returns-in_ok-push-in-Whole-2-clause-within c = let reported = c.in-Whole.ensures 0 in (size_some c.in-Whole.value (given_at 0 c.args.left c.args.bytes.now) c.in-Whole.size reported.1.1, reported.0)

pub returns-in_ok-push-in-Whole-2-clause-put : goal.returns-in_ok-push-in-Whole-2-clause-put
returns-in_ok-push-in-Whole-2-clause-put c =
    λ m depth levels at outer base p0 parents scope now begun.
    let number = c.args.number in
    let old = c.args.run.now in
    let reported = c.in-Whole.ensures at in
    let type = reported.1.0 ∙ c.wire_type.ensures in
    let there = read_some c.args.kind c.in-Whole.value type in
    let same = reported_of _ _ there.0 there.1 c.number_value.ensures in
    subst (λ (z : Part). After c.args.pool.now m depth levels base p0 parents (Elements number c.args.kind outer) z scope (passed (given_at at c.args.left c.args.bytes.now) c.in-Whole.size))
    (sym (value_added number old.values.items _ c.number_value.result (put_records (records_of old.undeclared.items) now) c.in_ok-push-in-Whole-2.ensures.items))
    (element_put number c.args.kind outer c.in-Whole.value there.0 (put_listed number (value_view c.number_value.result) (put_run number old now)) begun type there.1 (sym c.is_undeclared.ensures ∙ c.if-is_undeclared.false) reported.1.1
    (listed_is c.args.pool.now number c.args.kind (put_run number old now) (value_view c.number_value.result) ∙ ap (put_datum c.args.pool.now number (Element c.args.kind) (put_run number old now)) same))
