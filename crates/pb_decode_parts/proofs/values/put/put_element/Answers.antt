-- The value goes to the end of the list, and the reader is after it.
use Rattle.std.proofs.Common.{sym, ap, ◌∙◌}
use Rattle.std.proofs.lemmas.Result.{on_ok_weaker}
use Rattle.pb_wire.specs.Record.{Payload}
use Rattle.pb_decode_parts.specs.Open.PartView.{part_view}
use Rattle.pb_decode_parts.specs.declared.open.target.Target.TheVariants.{Element}
use Rattle.pb_decode_parts.specs.Values.Put.{put_datum, put_record}
use Rattle.pb_decode_parts.proofs.AnswerLemmas.{reported_of}
use Rattle.pb_decode_parts.proofs.NumberSteps.{read_some}
use Rattle.pb_decode_parts.proofs.ListSteps.{element_put, element_passed}
use Rattle.pb_decode_parts.proofs.values.put.put_element.Goals as goal

pub returns : goal.returns
returns c =
    λ m depth levels end base p0 u w parents scope begun type follows.
    let there = read_some c.args.kind c.args.value type in
    on_ok_weaker c.put_scalar.result
    (λ put. element_put c.args.number c.args.kind end c.args.value there.0 (part_view c.put_scalar.new.part) begun type there.1 (sym c.is_undeclared.ensures ∙ c.if-is_undeclared.false) follows
    (put ∙ ap (put_datum c.args.pool.now c.args.number (Element c.args.kind) (part_view c.args.part.now)) (reported_of _ _ there.0 there.1 c.number_value.ensures)))
    c.put_scalar.ensures

pub returns-then-is_undeclared : goal.returns-then-is_undeclared
returns-then-is_undeclared c =
    λ m depth levels end base p0 u w parents scope begun type follows.
    on_ok_weaker c.put_unknown.result
    (λ put. element_passed c.args.number c.args.kind end c.args.value (part_view c.put_unknown.new.part) begun type (sym c.is_undeclared.ensures ∙ c.if-is_undeclared.true) follows
    (put ∙ ap (λ (z : Payload). put_record c.args.number z (part_view c.args.part.now)) c.unknown_number.ensures))
    c.put_unknown.ensures
