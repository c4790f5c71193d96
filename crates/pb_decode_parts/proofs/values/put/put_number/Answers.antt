-- The value, or the unknown record, goes into the part, and the reader is after it.
use Rattle.std.proofs.Common.{sym, ap, ◌∙◌}
use Rattle.std.proofs.lemmas.Result.{on_ok_weaker}
use Rattle.pb_wire.specs.Record.{Payload}
use Rattle.pb_decode_parts.specs.Open.PartView.{part_view}
use Rattle.pb_decode_parts.specs.Values.Put.{put_datum, put_record}
use Rattle.pb_decode_parts.proofs.AnswerLemmas.{reported_of}
use Rattle.pb_decode_parts.proofs.NumberSteps.{value_there, number_put}
use Rattle.pb_decode_parts.proofs.UnknownSteps.{unknown_put}
use Rattle.pb_decode_parts.proofs.UndeclaredSteps.{undeclared_put}
use Rattle.pb_decode_parts.proofs.values.put.put_number.Goals as goal

pub returns-in-Some : goal.returns-in-Some
returns-in-Some c =
    λ m depth levels base p0 u w parents scope next begun is follows.
    on_ok_weaker c.put_unknown.result
    (λ put. undeclared_put c.args.number c.args.value c.args.target c.in-Some.kind (part_view c.put_unknown.new.part) begun is (sym c.scalar_kind.ensures ∙ c.in-Some.is) c.requires.rules c.requires.can
    (sym c.is_undeclared.ensures ∙ c.if-is_undeclared.true) follows (put ∙ ap (λ (z : Payload). put_record c.args.number z (part_view c.args.part.now)) c.unknown_number.ensures))
    c.put_unknown.ensures

pub returns-in-Some-2 : goal.returns-in-Some-2
returns-in-Some-2 c =
    λ m depth levels base p0 u w parents scope next begun is follows.
    let kind = c.in-Some.kind in
    let of = sym c.scalar_kind.ensures ∙ c.in-Some.is in
    let there = value_there c.args.number c.args.value c.args.target kind begun is of in
    on_ok_weaker c.put_scalar.result
    (λ put. number_put c.args.number c.args.value c.args.target kind begun is of there.0 (part_view c.put_scalar.new.part) c.requires.rules c.requires.can there.1 (sym c.is_undeclared.ensures ∙ c.if-is_undeclared.false) follows
    (put ∙ ap (put_datum c.args.pool.now c.args.number c.args.target (part_view c.args.part.now)) (reported_of _ _ there.0 there.1 c.number_value.ensures)))
    c.put_scalar.ensures

pub returns-in-None : goal.returns-in-None
returns-in-None c =
    λ m depth levels base p0 u w parents scope next begun is follows.
    on_ok_weaker c.put_unknown-in-None.result
    (λ put. unknown_put c.args.number c.args.value c.args.target (part_view c.put_unknown-in-None.new.part) begun is (sym c.scalar_kind.ensures ∙ c.in-None.is) c.requires.rules c.requires.can follows
    (put ∙ ap (λ (z : Payload). put_record c.args.number z (part_view c.args.part.now)) c.unknown_number-in-None.ensures))
    c.put_unknown-in-None.ensures
