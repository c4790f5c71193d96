use Rattle.std.proofs.Common.{◌≡◌, ◌∷◌, [], ◌++◌, suc, codes, drop_of_length-le, List, ℕ, rules, refl, ap, sym, ◌∙◌, subst, arith, add-one}
use Rattle.std.specs.Prelude.{Option, None, option_map}
use Rattle.pb_schema.specs.Kinds.{message_of_kind}
use Rattle.pb_schema.specs.Types.{message_fields}
use Rattle.pb_schema.specs.View.{field_view}
use Rattle.pb_value.specs.Data.{message, entries_depth, fields_depth}
use Rattle.pb_value.specs.View.{body_view, key_view, value_view, entries_view, fields_view, values_view}
use Rattle.pb_value.specs.declared.body.Content.{Content}
use Rattle.pb_value.specs.declared.body.MapKey.{MapKey}
use Rattle.pb_value.specs.declared.body.Value.{Value}
use Rattle.pb_value.proofs.Views.{body_view-out, value_view-Message}
use Rattle.pb_listing.proofs.ListingLemmas.{entries_deep, entry_deep, each_deep, fields_deep}
use Rattle.pb_output.proofs.SinkLemmas.{puts_none, puts_then}
use Rattle.pb_text.specs.Lines.{item}
use Rattle.pb_text.specs.Text.{AreEachLines, AreEntriesLines, AreFieldsLines, AreInside, ArePairLines}
use Rattle.pb_text.proofs.FieldLemmas.{entries_join, each_join, fields_join, fields_skip}
use Rattle.pb_text.proofs.PartLemmas.{begun_end, begun_more, begun_same, begun_start, begun_start_at}
use Rattle.pb_text.proofs.messages.+lines.Goals as goal

pub put_entries-loop-key-init : goal.put_entries-loop-key-init
put_entries-loop-key-init g t c = λ within.
    let context = c.args.context.now in
    begun_start_at c.args.level (λ (es : List (MapKey × Value)). entries_depth (entries_view es))
    (λ (es : List (MapKey × Value)). AreEntriesLines context.form context.pool.now c.args.level c.args.kind c.args.label.now (entries_view es))
    c.into_iter-key-iterator.result c.args.entries.now.entries (search rules) within

pub put_entries-loop-key-preserved : goal.put_entries-loop-key-preserved
put_entries-loop-key-preserved g t c = λ within.
    let context = c.args.context.now in
    let layout = context.form.layout in
    let split : c.loop-key.key-iterator ≡ (c.in-Some.key.now, c.in-Some.value.now) ∷ c.next.new.self = search rules in
    begun_more _ _
    (λ (s : List ℕ). (inside : List ℕ) × (s ≡ item layout c.args.level (c.args.label.now ++ codes " {") ++ inside ++ item layout c.args.level (codes "}"))
    × ArePairLines context.form context.pool.now (suc c.args.level) c.args.kind (key_view c.in-Some.key.now) (value_view c.in-Some.value.now) inside)
    _ (c.loop-key.invariant within) (entries_deep _ _ _ _ split)
    (entries_join context.form context.pool.now c.args.level c.args.kind c.args.label.now _ _ _ _ split)
    (λ below. let pair = c.put_pair.ensures below in (_, (pair.0, refl, pair.1), puts_then (puts_then c.put_start.ensures pair.2) c.put_end.ensures))

pub put_entries-returns : goal.put_entries-returns
put_entries-returns g t c = λ within.
    let context = c.args.context.now in
    let end : c.loop-key.key-iterator ≡ [] = search rules in
    begun_end (c.loop-key.invariant within)
    (subst (λ (es : List (MapKey × Value)). AreEntriesLines context.form context.pool.now c.args.level c.args.kind c.args.label.now (entries_view es) []) (sym end) refl)

pub put_fields-loop-number-init : goal.put_fields-loop-number-init
put_fields-loop-number-init g t c = λ within.
    let context = c.args.context.now in
    begun_start_at c.args.level (λ (fs : List (ℕ × Content)). fields_depth (fields_view fs))
    (λ (fs : List (ℕ × Content)). AreFieldsLines context.form context.pool.now c.args.level (message_fields context.pool.now c.args.message_type.0) (fields_view fs))
    c.into_iter-number-iterator.result c.args.fields.now.entries (search rules) within

pub put_fields-loop-number-preserved-in-Some-field_by_number : goal.put_fields-loop-number-preserved-in-Some-field_by_number
put_fields-loop-number-preserved-in-Some-field_by_number g t c = λ within.
    let context = c.args.context.now in
    let split : c.loop-number.number-iterator ≡ (c.in-Some.number.now, c.in-Some.content.now) ∷ c.next.new.self = search rules in
    begun_more _ _ _ _ (c.loop-number.invariant within) (fields_deep _ _ _ _ split)
    (fields_join context.form context.pool.now c.args.level (message_fields context.pool.now c.args.message_type.0) _ _ _ _
    (field_view c.in-Some-field_by_number.field.now) split (sym c.in-Some-field_by_number.ensures.found))
    c.put_content.ensures

pub put_fields-loop-number-preserved : goal.put_fields-loop-number-preserved
put_fields-loop-number-preserved g t c = λ within.
    let context = c.args.context.now in
    let split : c.loop-number.number-iterator ≡ (c.in-Some.number.now, c.in-Some.content.now) ∷ c.next.new.self = search rules in
    begun_same _ _ _ (c.loop-number.invariant within) (fields_deep _ _ _ _ split)
    (fields_skip context.form context.pool.now c.args.level (message_fields context.pool.now c.args.message_type.0) _ _ _ _ split
    (sym c.field_by_number.ensures.found ∙ ap (option_map (λ f. field_view f.now)) c.in_default.is))

pub put_fields-returns : goal.put_fields-returns
put_fields-returns g t c = λ within.
    let context = c.args.context.now in
    let end : c.loop-number.number-iterator ≡ [] = search rules in
    begun_end (c.loop-number.invariant within)
    (subst (λ (fs : List (ℕ × Content)). AreFieldsLines context.form context.pool.now c.args.level (message_fields context.pool.now c.args.message_type.0) (fields_view fs) [])
    (sym end) refl)

pub put_inside-returns-in_default : goal.put_inside-returns-in_default
put_inside-returns-in_default g t c = λ within.
    let context = c.args.context.now in
    let none : message_of_kind c.args.kind ≡ None = sym c.message.ensures.named ∙ ap (option_map (λ m. m.0)) c.in_default.is in
    ([], subst (λ (o : Option ℕ). AreInside context.form context.pool.now c.args.level o (body_view c.args.body.now) []) (sym none) refl, puts_none)

pub put_message-returns : goal.put_message-returns
put_message-returns g t c = λ within.
    let deep = rw (body_view-out c.args.body.now) at within in
    let unknown = rw c.deref.ensures.value at c.put_unknown.ensures in
    let fields = c.put_fields.ensures (omega (arith, deep)) in
    let others = unknown (omega (arith, deep)) in
    rw (body_view-out c.args.body.now) (_, (fields.0, others.0, refl, fields.1, others.1), puts_then fields.2 others.2)

pub put_value-returns : goal.put_value-returns
put_value-returns g t c = λ within.
    let is : value_view c.args.value.now ≡ message (body_view c.in-Message.body) = ap value_view c.in-Message.is ∙ value_view-Message c.in-Message.body in
    let deep = rw is at within in
    let inside = c.put_inside.ensures (omega (arith, deep)) in
    rw is (_, (inside.0, refl, inside.1), puts_then (puts_then c.put_start.ensures inside.2) c.put_end.ensures)

pub put_values-loop-value-init : goal.put_values-loop-value-init
put_values-loop-value-init g t c = λ within.
    let context = c.args.context.now in
    begun_start _ _ (AreEachLines context.form context.pool.now c.args.level c.args.kind c.args.label.now (values_view c.args.values.now.items)) within

pub put_values-loop-value-preserved : goal.put_values-loop-value-preserved
put_values-loop-value-preserved g t c = λ within.
    let context = c.args.context.now in
    let below = rw c.deref-value-items.ensures.value at c.loop-value-test.true in
    let item = rw c.deref-value-items.ensures.value at c.value-item.is in
    begun_more _ _ _ _ (c.loop-value.invariant within) (each_deep c.args.values.now.items c.loop-value.value-index c.value-item.result below item)
    (each_join context.form context.pool.now c.args.level c.args.kind c.args.label.now c.args.values.now.items c.loop-value.value-index c.value-item.result below item)
    (λ deep. c.put_value.ensures (omega (arith, deep)))

pub put_values-returns : goal.put_values-returns
put_values-returns g t c = λ within.
    let context = c.args.context.now in
    begun_end (c.loop-value.invariant within)
    (subst (λ (vs : List Value). AreEachLines context.form context.pool.now c.args.level c.args.kind c.args.label.now (values_view vs) [])
    (sym (drop_of_length-le c.args.values.now.items (rw c.deref-value-items.ensures.value at c.loop-value-test.false))) refl)

pub put_pair-returns-then-level-lt-DEEPEST : goal.put_pair-returns-then-level-lt-DEEPEST
put_pair-returns-then-level-lt-DEEPEST g t c = λ within.
    let key = rw add-one at c.put_key_line.ensures in
    let put = rw add-one at c.put_value.ensures in
    let value = put (omega (arith, within, entry_deep (value_view c.args.value.now))) in
    (key.0 ++ value.0, (key.0, value.0, refl, key.1, value.1), puts_then key.2 value.2)
