-- Where there is no list, the values are it.
use Rattle.std.proofs.Common.{◌≡◌, length, vec_len, sym, ap, ◌∙◌, arith}
use Rattle.std.proofs.lemmas.Result.{on_ok_weaker}
use Rattle.pb_value.specs.Data.{Holding, put_field, fields_of}
use Rattle.pb_value.specs.Change.{with_fields}
use Rattle.pb_value.specs.View.{body_view}
use Rattle.pb_value.proofs.Views.{content_view-List}
use Rattle.pb_decode_parts.proofs.AnswerLemmas.{none_held, on_ok_mapped}
use Rattle.pb_decode_parts.proofs.RunLemmas.{listed_first, nothing_stored, absent, no_values, some_values}
use Rattle.pb_decode_parts.proofs.values.put_run.store_all.Goals as goal

pub returns-then-is_empty : goal.returns-then-is_empty
returns-then-is_empty c =
    let empty = none_held (vec_len c.args.values) c.if-is_empty.ensures in
    let none : length c.args.values.items ≡ 0 = omega (arith, empty) in
    nothing_stored c.args.number _ (body_view c.args.message.now) (no_values c.args.values.items none)

pub returns : goal.returns
returns c =
    let size : vec_len c.args.values ≡ length c.args.values.items = omega arith in
    on_ok_mapped _ c.put_field.result c.map_err-2.result c.map_err-2.ensures.variant
    (on_ok_weaker c.put_field.result (λ put. put
    ∙ ap (λ (h : Holding). with_fields (body_view c.args.message.now) (put_field c.args.number h (fields_of (body_view c.args.message.now)))) (content_view-List c.args.values)
    ∙ listed_first c.args.number _ (body_view c.args.message.now) (some_values c.args.values.items (vec_len c.args.values) size c.if-is_empty.ensures) (absent c.args.number c.args.message.now (sym c.if-contains_key.ensures)) c.put_field.ensures.rises) c.put_field.ensures.ok)
