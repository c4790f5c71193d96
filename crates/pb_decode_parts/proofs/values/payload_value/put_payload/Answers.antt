-- The value, or the unknown record, goes into the part, and the reader is after it; a string that is not UTF-8 is refused.
use Rattle.std.proofs.Common.{sym, ◌∙◌, ap}
use Rattle.std.proofs.lemmas.Result.{err_from_is_err_and}
use Rattle.pb_wire.specs.Record.{Payload, len}
use Rattle.pb_decode_parts.specs.Values.Put.{put_datum, put_record}
use Rattle.pb_decode_parts.proofs.AnswerLemmas.{reported_of}
use Rattle.pb_wire.proofs.UnknownLemmas.{payload_of-Len}
use Rattle.pb_decode_parts.specs.Open.PartView.{part_view}
use Rattle.pb_decode_parts.proofs.PayloadSteps.{if_bad_text, bad_text_within, payload_put, unknown_payload_put, text_reported}
use Rattle.pb_decode_parts.proofs.values.payload_value.put_payload.Goals as goal

pub returns-in_err-value-in-Some-clause-refused : goal.returns-in_err-value-in-Some-clause-refused
returns-in_err-value-in-Some-clause-refused c =
    λ m depth levels n base p0 u w parents scope begun size moves.
    let kind = c.in-Some.kind in
    let of = sym c.scalar_kind.ensures ∙ c.in-Some.is in
    let reported = if_bad_text kind c.args.bytes.now c.in_err-value-in-Some.field-0.0 _ c.in_err-value-in-Some.ensures.fault (λ valid is wrong len_is. text_reported c.args.number c.args.target n begun c.requires.can kind c.args.bytes.now valid of size moves is wrong len_is) in
    let returned = err_from_is_err_and c.from_residual.result c.from_residual.ensures.1 in
    rw (returned.1, returned.2) reported

pub returns-in_err-value-in-Some-clause-within : goal.returns-in_err-value-in-Some-clause-within
returns-in_err-value-in-Some-clause-within c =
    let within = bad_text_within c.in-Some.kind c.args.bytes.now c.in_err-value-in-Some.field-0.0 c.in_err-value-in-Some.ensures.fault in
    let returned = err_from_is_err_and c.from_residual.result c.from_residual.ensures.1 in
    rw (returned.1, returned.2) within

pub returns-in_ok-put_scalar-in-Some-clause-reached : goal.returns-in_ok-put_scalar-in-Some-clause-reached
returns-in_ok-put_scalar-in-Some-clause-reached c =
    λ m depth levels n base p0 u w parents scope begun size moves.
    let kind = c.in-Some.kind in
    let of = sym c.scalar_kind.ensures ∙ c.in-Some.is in
    payload_put c.args.number c.args.target n begun c.requires.can kind c.args.bytes.now (part_view c.put_scalar.new.part) of c.requires.rules c.in_ok-value-in-Some.ensures.text size moves
    (λ x is. c.in_ok-put_scalar-in-Some.ensures ∙ ap (put_datum c.args.pool.now c.args.number c.args.target (part_view c.args.part.now)) (reported_of _ _ x is c.in_ok-value-in-Some.ensures.value))

pub returns-in_ok-put_unknown-in-None-clause-reached : goal.returns-in_ok-put_unknown-in-None-clause-reached
returns-in_ok-put_unknown-in-None-clause-reached c =
    λ m depth levels n base p0 u w parents scope begun size moves.
    unknown_payload_put c.args.number c.args.target n begun c.requires.can c.args.bytes.now (part_view c.put_unknown.new.part) c.requires.bytes (sym c.scalar_kind.ensures ∙ c.in-None.is) c.requires.rules size moves
    (c.in_ok-put_unknown-in-None.ensures ∙ ap (λ (z : Payload). put_record c.args.number z (part_view c.args.part.now)) (payload_of-Len c.in_ok-copy-in-None.copy ∙ ap len c.in_ok-copy-in-None.ensures.items))
