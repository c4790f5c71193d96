use Rattle.std.proofs.Common.{◌≡◌, ◌∷◌, ◌++◌, ◌+◌, ◌-◌, suc, [], drop_of_length-le, List, ℕ, rules, refl, ap, sym, ◌∙◌, subst, arith}
use Rattle.std.proofs.lemmas.Result.{on_ok_weaker}
use Rattle.std.specs.Prelude.{codes, option_map, true, false, None, Some}
use Rattle.pb_schema.specs.Types.{message_fields}
use Rattle.pb_schema.specs.View.{field_view}
use Rattle.pb_value.specs.View.{content_view, value_view, entries_view, fields_view, values_view}
use Rattle.pb_value.specs.declared.body.Content.{Content}
use Rattle.pb_value.specs.declared.body.MapKey.{MapKey}
use Rattle.pb_value.specs.declared.body.Value.{Value}
use Rattle.pb_json.specs.JsonText.{AreElements, AreMembers, IsJsonText, closing_line}
use Rattle.pb_json.specs.Mapping.{datum_json, elements_json, entries_json, fields_json, holding_json, message_json, only_json}
use Rattle.pb_json.specs.WellKnown.{well_known}
use Rattle.pb_value.specs.View.{body_view}
use Rattle.pb_json.specs.Json.{Json, Members, member, no_members}
use Rattle.pb_json.proofs.MappingLemmas.{element_joins, member_joins, elements_next, entries_next, fields_next, fields_skip}
use Rattle.pb_json.proofs.MappingLemmas.{as_duration, as_timestamp, levels_json, message_json-none, only_absent, only_first}
use Rattle.pb_json.proofs.AnyLemmas.{any_declared}
use Rattle.pb_json.proofs.TaggedLemmas.{last_member, plain_members, tag_begins, value_joins}
use Rattle.pb_json.specs.Anys.{tagged}
use Rattle.pb_json.proofs.PrintLemmas.{always_err, left_all, left_done, left_more, left_same, left_start, left_start_at, prints_after, prints_as, prints_after_nothing, prints_known, prints_same}
use Rattle.pb_output.proofs.SinkLemmas.{puts_none, puts_then}
use Rattle.pb_json.proofs.messages.+json.Goals as goal

pub put_values-loop-value-init : goal.put_values-loop-value-init
put_values-loop-value-init g t c =
    let form = c.args.context.now.form in
    left_start (AreElements form.layout c.args.at.indent true (elements_json c.args.context.now.pool.now form.names (message_json c.args.context.now.pool.now form.names c.args.at.levels) c.args.kind (values_view c.args.values.now.items))) c.put.ensures

pub put_values-loop-value-preserved : goal.put_values-loop-value-preserved
put_values-loop-value-preserved g t c =
    let below = rw c.deref-value-items.ensures.value at c.loop-value-test.true in
    let item = rw c.deref-value-items.ensures.value at c.value-item.is in
    let form = c.args.context.now.form in
    let next = elements_next c.args.context.now.pool.now form.names (message_json c.args.context.now.pool.now form.names c.args.at.levels) c.args.kind c.args.values.now.items c.loop-value.value-index c.value-item.result below item in
    left_more _ _ c.loop-value.invariant
    (element_joins form.layout c.args.at.indent c.loop-value.is_first _ _ _ next)
    (prints_after (IsJsonText form.layout (c.args.at.indent + 1) (datum_json c.args.context.now.pool.now form.names (message_json c.args.context.now.pool.now form.names c.args.at.levels) c.args.kind (value_view c.value-item.result)))
    (puts_then c.put_separator.ensures c.put_line.ensures) c.in_ok-put_value.ensures.put)

pub put_values-returns-clause-put : goal.put_values-returns-clause-put
put_values-returns-clause-put g t c =
    let form = c.args.context.now.form in
    let none = drop_of_length-le c.args.values.now.items (rw c.deref-value-items.ensures.value at c.loop-value-test.false) in
    left_done c.loop-value.invariant
    (subst (λ (vs : List Value). AreElements form.layout c.args.at.indent c.loop-value.is_first (elements_json c.args.context.now.pool.now form.names (message_json c.args.context.now.pool.now form.names c.args.at.levels) c.args.kind (values_view vs)) (closing_line form.layout c.args.at.indent c.loop-value.is_first ++ codes "]")) (sym none) refl)
    c.put_closing.ensures

pub put_entries-loop-key-init : goal.put_entries-loop-key-init
put_entries-loop-key-init g t c =
    let form = c.args.context.now.form in
    left_start_at
    (λ (es : List (MapKey × Value)). AreMembers form.layout c.args.at.indent true (entries_json c.args.context.now.pool.now form.names (message_json c.args.context.now.pool.now form.names c.args.at.levels) c.args.kind (entries_view es)))
    c.into_iter-key-iterator.result c.args.entries.now.entries (search rules) c.put.ensures

pub put_entries-loop-key-preserved : goal.put_entries-loop-key-preserved
put_entries-loop-key-preserved g t c =
    let form = c.args.context.now.form in
    let split : c.loop-key.key-iterator ≡ (c.in-Some.key.now, c.in-Some.value.now) ∷ c.next.new.self = search rules in
    left_more _ _ c.loop-key.invariant
    (member_joins form.layout c.args.at.indent c.loop-key.is_first _ _ _ _ (entries_next c.args.context.now.pool.now form.names (message_json c.args.context.now.pool.now form.names c.args.at.levels) c.args.kind _ _ _ _ split))
    (prints_after (IsJsonText form.layout (c.args.at.indent + 1) (datum_json c.args.context.now.pool.now form.names (message_json c.args.context.now.pool.now form.names c.args.at.levels) c.args.kind (value_view c.in-Some.value.now)))
    c.put_entry_start.ensures c.in_ok-put_value.ensures.put)

pub put_entries-returns-clause-put : goal.put_entries-returns-clause-put
put_entries-returns-clause-put g t c =
    let form = c.args.context.now.form in
    let end : c.loop-key.key-iterator ≡ [] = search rules in
    left_done c.loop-key.invariant
    (subst (λ (es : List (MapKey × Value)). AreMembers form.layout c.args.at.indent c.loop-key.is_first (entries_json c.args.context.now.pool.now form.names (message_json c.args.context.now.pool.now form.names c.args.at.levels) c.args.kind (entries_view es)) (closing_line form.layout c.args.at.indent c.loop-key.is_first ++ codes "}")) (sym end) refl)
    c.put_closing.ensures

pub put_members-loop-number-init : goal.put_members-loop-number-init
put_members-loop-number-init g t c =
    let form = c.args.context.now.form in
    left_all
    (λ (fs : List (ℕ × Content)). AreMembers form.layout c.args.at.indent c.args.is_first
    (fields_json c.args.context.now.pool.now form.names (message_json c.args.context.now.pool.now form.names c.args.at.levels) c.args.id.0 (fields_view fs)))
    c.into_iter-number-iterator.result c.args.fields.now.entries (search rules)

pub put_members-loop-number-preserved-in-Some-field_by_number : goal.put_members-loop-number-preserved-in-Some-field_by_number
put_members-loop-number-preserved-in-Some-field_by_number g t c =
    let form = c.args.context.now.form in
    let split : c.loop-number.number-iterator ≡ (c.in-Some.number.now, c.in-Some.content.now) ∷ c.next.new.self = search rules in
    left_more _ _ c.loop-number.invariant
    (member_joins form.layout c.args.at.indent c.loop-number.is_first _ _ _ _
    (fields_next c.args.context.now.pool.now form.names (message_json c.args.context.now.pool.now form.names c.args.at.levels) c.args.id.0 _ _ _ _
    (field_view c.in-Some-field_by_number.field.now) split (sym c.in-Some-field_by_number.ensures.found)))
    (prints_after (IsJsonText form.layout (c.args.at.indent + 1)
    (holding_json c.args.context.now.pool.now form.names (message_json c.args.context.now.pool.now form.names c.args.at.levels) c.in-Some-field_by_number.field.now.kind (content_view c.in-Some.content.now)))
    c.put_field_start.ensures c.in_ok-put_content.ensures.put)

pub put_members-loop-number-preserved : goal.put_members-loop-number-preserved
put_members-loop-number-preserved g t c =
    let form = c.args.context.now.form in
    let split : c.loop-number.number-iterator ≡ (c.in-Some.number.now, c.in-Some.content.now) ∷ c.next.new.self = search rules in
    let same = fields_skip c.args.context.now.pool.now form.names (message_json c.args.context.now.pool.now form.names c.args.at.levels) c.args.id.0 _ _ _ _ split
    (sym c.field_by_number.ensures.found ∙ ap (option_map (λ f. field_view f.now)) c.in_default.is) in
    left_same _ c.loop-number.invariant
    (λ after is. subst (λ x. AreMembers form.layout c.args.at.indent c.loop-number.is_first x after) (sym same) is)

pub put_members-returns-clause-put : goal.put_members-returns-clause-put
put_members-returns-clause-put g t c =
    let form = c.args.context.now.form in
    let end : c.loop-number.number-iterator ≡ [] = search rules in
    left_done c.loop-number.invariant
    (subst (λ (fs : List (ℕ × Content)). AreMembers form.layout c.args.at.indent c.loop-number.is_first
    (fields_json c.args.context.now.pool.now form.names (message_json c.args.context.now.pool.now form.names c.args.at.levels) c.args.id.0 (fields_view fs)) (closing_line form.layout c.args.at.indent c.loop-number.is_first ++ codes "}")) (sym end) refl)
    c.put_closing.ensures

pub put_only-loop-number-init : goal.put_only-loop-number-init
put_only-loop-number-init g t c = (search rules, puts_none)

pub put_only-returns-in-Some-field_by_number-clause-put : goal.put_only-returns-in-Some-field_by_number-clause-put
put_only-returns-in-Some-field_by_number-clause-put g t c =
    let form = c.args.context.now.form in
    let split : c.loop-number.number-iterator ≡ (c.in-Some.number.now, c.in-Some.content.now) ∷ c.next.new.self = search rules in
    let first = sym c.loop-number.invariant.0 ∙ split in
    let json = only_first c.args.context.now.pool.now form.names (message_json c.args.context.now.pool.now form.names c.args.at.levels) (well_known c.args.context.now.pool.now c.args.id.0) (message_fields c.args.context.now.pool.now c.args.id.0)
    c.args.fields.now.entries _ _ _ (Some (field_view c.in-Some-field_by_number.field.now)) first (sym c.in-Some-field_by_number.ensures.found) in
    on_ok_weaker c.put_content.result (λ p. prints_after_nothing c.loop-number.invariant.1 (prints_same form.layout c.args.at.indent _ _ json p)) c.put_content.ensures.put

pub put_only-returns-in-None-field_by_number-clause-put : goal.put_only-returns-in-None-field_by_number-clause-put
put_only-returns-in-None-field_by_number-clause-put g t c =
    let form = c.args.context.now.form in
    let split : c.loop-number.number-iterator ≡ (c.in-Some.number.now, c.in-Some.content.now) ∷ c.next.new.self = search rules in
    let none = sym c.field_by_number.ensures.found ∙ ap (option_map (λ f. field_view f.now)) c.in-None-field_by_number.is in
    let json = only_first c.args.context.now.pool.now form.names (message_json c.args.context.now.pool.now form.names c.args.at.levels) (well_known c.args.context.now.pool.now c.args.id.0) (message_fields c.args.context.now.pool.now c.args.id.0)
    c.args.fields.now.entries _ _ _ None (sym c.loop-number.invariant.0 ∙ split) none in
    prints_after_nothing c.loop-number.invariant.1
    (prints_known (IsJsonText form.layout c.args.at.indent (only_json c.args.context.now.pool.now form.names (message_json c.args.context.now.pool.now form.names c.args.at.levels) (well_known c.args.context.now.pool.now c.args.id.0)
    (message_fields c.args.context.now.pool.now c.args.id.0) (fields_view c.args.fields.now.entries)))
    (subst (λ (j : Json). IsJsonText form.layout c.args.at.indent j (codes "null")) (sym json) refl) c.put.ensures)

pub put_only-returns-clause-put : goal.put_only-returns-clause-put
put_only-returns-clause-put g t c =
    let form = c.args.context.now.form in
    let end : c.loop-number.number-iterator ≡ [] = search rules in
    prints_after_nothing c.loop-number.invariant.1
    (prints_same form.layout c.args.at.indent _ _
    (only_absent c.args.context.now.pool.now form.names (message_json c.args.context.now.pool.now form.names c.args.at.levels) (well_known c.args.context.now.pool.now c.args.id.0) (message_fields c.args.context.now.pool.now c.args.id.0)
    c.args.fields.now.entries (sym c.loop-number.invariant.0 ∙ end)) c.put_absent.ensures)

pub put_here-returns-in-Timestamp-clause-put : goal.put_here-returns-in-Timestamp-clause-put
put_here-returns-in-Timestamp-clause-put g t c =
    let form = c.args.context.now.form in
    prints_same form.layout c.args.at.indent _ _
    (as_timestamp c.args.context.now.pool.now form.names (message_json c.args.context.now.pool.now form.names c.args.at.levels) c.args.id.0 c.args.body.now (sym c.well_known.ensures ∙ c.in-Timestamp.is))
    (c.put_timestamp.ensures form.layout c.args.at.indent)

pub put_here-returns-in-Duration-clause-put : goal.put_here-returns-in-Duration-clause-put
put_here-returns-in-Duration-clause-put g t c =
    let form = c.args.context.now.form in
    prints_same form.layout c.args.at.indent _ _
    (as_duration c.args.context.now.pool.now form.names (message_json c.args.context.now.pool.now form.names c.args.at.levels) c.args.id.0 c.args.body.now (sym c.well_known.ensures ∙ c.in-Duration.is))
    (c.put_duration.ensures form.layout c.args.at.indent)

pub put_here-returns-in-Any-clause-memory : goal.put_here-returns-in-Any-clause-memory
put_here-returns-in-Any-clause-memory g t c =
    always_err c.put_any.result (any_declared c.args.context.now.pool.now c.args.id.0 (sym c.well_known.ensures ∙ c.in-Any.is))

pub put_message-returns-then-at-eq0-clause-put : goal.put_message-returns-then-at-eq0-clause-put
put_message-returns-then-at-eq0-clause-put g t c =
    let form = c.args.context.now.form in let pool = c.args.context.now.pool.now in let b = body_view c.args.body.now in
    let none = ap (λ (n : ℕ). message_json pool form.names n c.args.id.0 b) c.if-at-eq0.true ∙ message_json-none pool form.names c.args.id.0 b in
    prints_known (IsJsonText form.layout c.args.at.indent (message_json pool form.names c.args.at.levels c.args.id.0 b))
    (subst (λ (j : Json). IsJsonText form.layout c.args.at.indent j (codes "null")) (sym none) refl) c.put.ensures

pub put_message-returns-clause-put : goal.put_message-returns-clause-put
put_message-returns-clause-put g t c =
    let form = c.args.context.now.form in let pool = c.args.context.now.pool.now in
    let deep : c.args.at.levels ≡ suc (c.args.at.levels - 1) = omega (arith, c.if-at-eq0.false) in
    let json = levels_json pool form.names c.args.at.levels (c.args.at.levels - 1) c.args.id.0 (body_view c.args.body.now) deep in
    on_ok_weaker c.put_here.result (λ p. prints_same form.layout c.args.at.indent _ _ json p) c.put_here.ensures.put

pub put_object-returns-clause-put : goal.put_object-returns-clause-put
put_object-returns-clause-put g t c =
    let form = c.args.context.now.form in
    on_ok_weaker c.put_members.result
    (λ p. prints_after (AreMembers form.layout c.args.at.indent true (fields_json c.args.context.now.pool.now form.names (message_json c.args.context.now.pool.now form.names c.args.at.levels)
    c.args.id.0 (fields_view c.args.fields.now.entries))) c.put.ensures p) c.put_members.ensures.put

pub put_opened-returns-in-Some : goal.put_opened-returns-in-Some
put_opened-returns-in-Some g t c =
    let form = c.args.context.now.form in let pool = c.args.context.now.pool.now in let m = c.args.message.now in
    let named = c.message_type-id.ensures.named in
    let deep : c.args.at.levels ≡ suc c.in-Some.levels = omega (arith, c.in-Some.ensures.some.0) in
    let plain = rw named at c.in-Some.ensures.some.1 in
    let ms = fields_json pool form.names (message_json pool form.names c.in-Some.levels) m.kind (fields_view c.body-body.result.now.fields.entries) in
    let same = plain_members pool form.names c.args.at.levels c.in-Some.levels m.kind c.body-body.result.now m.body deep plain c.body-body.ensures.held in
    on_ok_weaker c.put_members.result
    (λ p. prints_same form.layout c.args.at.indent _ _ (ap (λ (x : Members). tagged c.args.url.now x) same)
    (prints_as _ (IsJsonText form.layout c.args.at.indent (tagged c.args.url.now ms)) (tag_begins form.layout c.args.at.indent c.args.url.now ms)
    (prints_after (AreMembers form.layout c.args.at.indent false ms) c.put_type.ensures p)))
    (rw named at c.put_members.ensures.put)

pub put_opened-returns-in-None : goal.put_opened-returns-in-None
put_opened-returns-in-None g t c =
    let form = c.args.context.now.form in let pool = c.args.context.now.pool.now in let m = c.args.message.now in
    let named = c.message_type-id.ensures.named in let held = c.body-body.ensures.held in
    let either = rw named at (c.levels_in_members.ensures.none c.in-None.is) in
    let ms = member (codes "value") (message_json pool form.names c.args.at.levels m.kind m.body) no_members in
    let same = last_member pool form.names _ c.args.at.levels m.kind m.body either in
    on_ok_weaker c.put_form.result
    (λ p. prints_same form.layout c.args.at.indent _ _ (ap (λ (x : Members). tagged c.args.url.now x) same)
    (prints_as _ (IsJsonText form.layout c.args.at.indent (tagged c.args.url.now ms)) (tag_begins form.layout c.args.at.indent c.args.url.now ms)
    (prints_after (AreMembers form.layout c.args.at.indent false ms) c.put_type.ensures p)))
    (rw (named, held) at c.put_form.ensures)

pub put_form-returns : goal.put_form-returns
put_form-returns g t c =
    let form = c.args.context.now.form in let pool = c.args.context.now.pool.now in
    let p = c.in_ok-put_message.ensures.put in
    let j = message_json pool form.names c.args.at.levels c.args.id.0 (body_view c.args.body.now) in
    prints_known (AreMembers form.layout c.args.at.indent false (member (codes "value") j no_members)) (value_joins form.layout c.args.at.indent j p.bytes p.is)
    (puts_then (puts_then c.put_value_start.ensures p.puts) c.put_closing.ensures)
