use Rattle.std.proofs.Common.{◌≡◌, ◌∷◌, ◌∙◌, ◌-◌, ◌+◌, ◌*◌, ◌<◌, List, ℕ, suc, arith, rules, ap, sym}
use Rattle.pb_schema.specs.Types.{message_fields}
use Rattle.pb_schema.specs.View.{field_view}
use Rattle.pb_value.specs.View.{entries_view, fields_view}
use Rattle.pb_value.specs.declared.body.Content.{Content}
use Rattle.pb_value.specs.declared.body.MapKey.{MapKey}
use Rattle.pb_value.specs.declared.body.Value.{Value}
use Rattle.pb_json.specs.Refusals.{entries_refused, fields_refused, message_refused}
use Rattle.pb_json.proofs.RefusalLemmas.{judged_inside, refused_deep, refused_field, refused_itself, refused_unopened, unjudged_refused}
use Rattle.pb_json.proofs.AnyLemmas.{any_declared}
use Rattle.pb_json.proofs.judging.+judging.Goals as goal

pub judge_entries-loop-key-init : goal.judge_entries-loop-key-init
judge_entries-loop-key-init t c =
    let all : c.args.entries.now.entries ≡ c.into_iter-key-iterator.result = search rules in
    ap (λ (es : List (MapKey × Value)). entries_refused c.args.pool.now (message_refused c.args.pool.now c.args.levels) c.args.kind (entries_view es)) all

pub judge_fields-loop-number-init : goal.judge_fields-loop-number-init
judge_fields-loop-number-init t c =
    let all : c.args.fields.now.entries ≡ c.into_iter-number-iterator.result = search rules in
    ap (λ (fs : List (ℕ × Content)). fields_refused c.args.pool.now (message_refused c.args.pool.now c.args.levels) (message_fields c.args.pool.now c.args.id.0) (fields_view fs)) all

pub judge_fields-returns-in-Err : goal.judge_fields-returns-in-Err
judge_fields-returns-in-Err t c =
    let split : c.loop-number.number-iterator ≡ (c.in-Some.number.now, c.in-Some.content.now) ∷ c.next.new.self = search rules in
    unjudged_refused c.args.pool.now _ _ _ _ _ c.loop-number.invariant
    (refused_field c.args.pool.now (message_refused c.args.pool.now c.args.levels) (message_fields c.args.pool.now c.args.id.0) _ _ _ _ (field_view c.in-Some-field_by_number.field.now) split
    (sym c.in-Some-field_by_number.ensures.found))
    (c.below.ensures c.args.pool.now _ (rw c.in-Err.is at c.judge_content.ensures))

pub judge_message-returns-then-levels-eq0 : goal.judge_message-returns-then-levels-eq0
judge_message-returns-then-levels-eq0 t c = refused_deep c.args.pool.now c.args.levels c.args.id.0 _ _ c.if-levels-eq0.true (c.formless.ensures c.args.pool.now)

pub judge_message-returns : goal.judge_message-returns
judge_message-returns t c =
    let deep : c.args.levels ≡ suc (c.args.levels - 1) = omega (arith, c.if-levels-eq0.false) in
    judged_inside c.args.pool.now c.args.levels (c.args.levels - 1) c.args.id.0 _ c.judge_here.result deep c.judge_here.ensures

pub judge_here-returns-in-Some : goal.judge_here-returns-in-Some
judge_here-returns-in-Some t c =
    refused_itself c.args.pool.now (message_refused c.args.pool.now c.args.levels) c.args.id.0 c.args.body.now _ c.in-Some.cause _ c.well_known-form.ensures
    c.in-Some.ensures (c.formless.ensures c.args.pool.now)

pub judge_here-judge_any-requires : goal.judge_here-judge_any-requires
judge_here-judge_any-requires t c =
    let deep : 8 * c.args.levels + 6 < 8 * c.args.levels + 7 = omega arith in
    (search (rules, deep), any_declared c.args.pool.now c.args.id.0 (sym c.well_known-form.ensures ∙ c.in-Any.is))

pub judge_any-returns-in-None : goal.judge_any-returns-in-None
judge_any-returns-in-None t c =
    refused_unopened c.args.pool.now (message_refused c.args.pool.now c.args.levels) (fields_view c.args.fields.now.entries) c.in_ok-opened.opened c.formless.result (sym c.is_unset.ensures ∙ c.if-is_unset.false)
    c.in_ok-opened.ensures.opened c.in-None.is (c.formless.ensures c.args.pool.now)

pub judge_opened-returns-in-Err : goal.judge_opened-returns-in-Err
judge_opened-returns-in-Err t c =
    c.below.ensures c.args.pool.now _ (rw (c.message_type-id.ensures.named, c.body-body.ensures.held, c.in-Err.is) at c.judge_message.ensures)
