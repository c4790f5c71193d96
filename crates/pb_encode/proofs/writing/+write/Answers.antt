use Rattle.std.proofs.Common.{rules, refl, ap, sym, ◌∙◌, append-nil, option_map}
use Rattle.pb_schema.specs.declared.types.Kind.{Kind}
use Rattle.pb_schema.specs.Kinds.{written}
use Rattle.pb_schema.specs.Types.{message_fields}
use Rattle.pb_schema.specs.View.{field_view}
use Rattle.pb_schema.specs.PayloadView.{payload_view}
use Rattle.pb_value.specs.Canon.{canon_bytes, key_kind, payload_of}
use Rattle.pb_value.specs.View.{key_view, value_view, values_view, body_view}
use Rattle.pb_value.proofs.Views.{body_view-out, value_view-Message, content_view-One, content_view-List, content_view-Map}
use Rattle.pb_encode.specs.Sizes.{is_plain}
use Rattle.pb_encode.proofs.WriteLemmas.{to_write_start, to_write_lost, writes_same, writes_sealed, writes_datum, writes_group, writes_group_lost, writes_message, writes_message_lost, write_fields_start, write_fields_step, write_fields_skip, write_fields_end, write_entries_start, write_entries_step, write_entries_end, writes_entry, write_values_step, write_values_end, writes_packed, writes_unpacked, writes_scalar, plain_value, plain_kind}
use Rattle.pb_encode.proofs.writing.+write.Goals as goal

pub write_content-returns-in-One : goal.write_content-returns-in-One
write_content-returns-in-One g t c = rw (c.in-One.is, content_view-One) (writes_same refl (sym (append-nil _)) c.write_value-next.ensures)

pub write_content-returns-then-is_packed : goal.write_content-returns-then-is_packed
write_content-returns-then-is_packed g t c =
    rw (c.in-List.is, content_view-List)
    (writes_packed c.args.pool.now (field_view c.args.field.now) (values_view c.in-List.values.items) (sym c.is_packed.ensures ∙ c.if-is_packed.true) c.write_packed-next.ensures)

pub write_content-returns-else-is_packed : goal.write_content-returns-else-is_packed
write_content-returns-else-is_packed g t c =
    rw (c.in-List.is, content_view-List)
    (writes_unpacked c.args.pool.now (field_view c.args.field.now) (values_view c.in-List.values.items) (sym c.is_packed.ensures ∙ c.if-is_packed.false) c.write_values-next.ensures)

pub write_content-returns-in-Map : goal.write_content-returns-in-Map
write_content-returns-in-Map g t c = rw (c.in-Map.is, content_view-Map) c.write_entries-next.ensures

pub write_entries-loop-key-init : goal.write_entries-loop-key-init
write_entries-loop-key-init g t c = write_entries_start c.args.pool.now (field_view c.args.field.now) c.args.entries.now.entries c.into_iter-key-iterator.result (search rules)

pub write_entries-returns-then-has_failed : goal.write_entries-returns-then-has_failed
write_entries-returns-then-has_failed g t c = to_write_lost c.loop-key.invariant (sym c.has_failed.ensures ∙ c.if-has_failed.true)

pub write_entries-loop-key-preserved : goal.write_entries-loop-key-preserved
write_entries-loop-key-preserved g t c =
    write_entries_step c.args.pool.now (field_view c.args.field.now) c.loop-key.key-iterator c.next.new.self c.in-Some.key.now c.in-Some.value.now (search rules) (sym c.has_failed.ensures ∙ c.if-has_failed.false)
    c.write_entry-next.ensures c.loop-key.invariant

pub write_entries-returns : goal.write_entries-returns
write_entries-returns g t c = write_entries_end c.args.pool.now (field_view c.args.field.now) c.loop-key.key-iterator (search rules) c.loop-key.invariant

pub write_entry-returns : goal.write_entry-returns
write_entry-returns g t c =
    let f = field_view c.args.field.now in
    writes_entry {d3 = c.write_value-next.new.out} {e = c.write_value-next.new.sink} c.args.field.now.number c.next_length-size.result.0 (written (key_kind f.shape f.kind) (key_view c.args.key.now)) (payload_of c.args.pool.now f.kind (value_view c.args.value.now)) c.next_length-size.ensures
    (rw c.from.ensures at c.put_prefix.ensures)
    (rw (c.key_payload.ensures ∙ ap (λ (k : Kind). written k (key_view c.args.key.now)) c.key_kind.ensures) at c.put_scalar.ensures) c.write_value-next.ensures

pub write_fields-loop-number-init : goal.write_fields-loop-number-init
write_fields-loop-number-init g t c = write_fields_start c.args.pool.now (message_fields c.args.pool.now c.args.message_type.0) c.args.fields.now.entries c.into_iter-number-iterator.result (search rules)

pub write_fields-returns-then-has_failed : goal.write_fields-returns-then-has_failed
write_fields-returns-then-has_failed g t c = to_write_lost c.loop-number.invariant (sym c.has_failed.ensures ∙ c.if-has_failed.true)

pub write_fields-loop-number-preserved-in-Some-field_at : goal.write_fields-loop-number-preserved-in-Some-field_at
write_fields-loop-number-preserved-in-Some-field_at g t c =
    write_fields_step c.args.pool.now (message_fields c.args.pool.now c.args.message_type.0) c.args.fields.now.entries c.loop-number.number-iterator c.next.new.self c.in-Some.number.now c.in-Some.content.now (field_view c.in-Some-field_at.field.now)
    (search rules) (sym c.in-Some-field_at.ensures.found) (sym c.has_failed.ensures ∙ c.if-has_failed.false) c.write_content-next.ensures c.loop-number.invariant

pub write_fields-loop-number-preserved : goal.write_fields-loop-number-preserved
write_fields-loop-number-preserved g t c =
    write_fields_skip c.args.pool.now (message_fields c.args.pool.now c.args.message_type.0) c.args.fields.now.entries c.loop-number.number-iterator c.next.new.self c.in-Some.number.now c.in-Some.content.now (search rules)
    (sym c.field_at.ensures.found ∙ ap (option_map (λ f. field_view f.now)) c.in_default.is) c.loop-number.invariant

pub write_fields-returns : goal.write_fields-returns
write_fields-returns g t c = write_fields_end c.args.pool.now (message_fields c.args.pool.now c.args.message_type.0) c.loop-number.number-iterator (search rules) c.loop-number.invariant

pub write_message-returns-then-has_failed : goal.write_message-returns-then-has_failed
write_message-returns-then-has_failed g t c =
    rw (body_view-out c.args.body.now) (writes_message_lost c.args.pool.now c.args.message_type.0 _ _ c.write_fields-next.ensures (sym c.has_failed.ensures ∙ c.if-has_failed.true))

pub write_message-returns : goal.write_message-returns
write_message-returns g t c =
    rw (body_view-out c.args.body.now)
    (writes_message c.args.pool.now c.args.message_type.0 _ _ c.write_fields-next.ensures (sym c.has_failed.ensures ∙ c.if-has_failed.false) (rw c.deref.ensures.value at c.put_unknowns.ensures))

pub write_value-returns-in-Message-kind : goal.write_value-returns-in-Message-kind
write_value-returns-in-Message-kind g t c =
    let b = body_view c.in-Message.body in
    writes_datum {d1 = c.write_message-next.new.out} {b = c.write_message-next.new.sink} c.args.pool.now c.args.kind (value_view c.args.value.now) b c.in-Message-kind.id c.args.number (ap value_view c.in-Message.is ∙ value_view-Message c.in-Message.body) c.in-Message-kind.is
    (writes_sealed c.args.number c.next_length-size.result.0 (canon_bytes c.args.pool.now c.in-Message-kind.id.0 b) c.next_length-size.ensures (rw c.from.ensures at c.put_prefix.ensures) c.write_message-next.ensures)

pub write_value-returns-in_default : goal.write_value-returns-in_default
write_value-returns-in_default g t c =
    writes_scalar c.args.pool.now c.args.kind (value_view c.args.value.now) c.args.number (payload_view c.scalar_payload-in_default.result) (plain_value c.args.kind c.args.value.now c.in_default.not-Message) c.scalar_payload-in_default.ensures c.put_scalar-in_default.ensures

pub write_value-returns-in_default-kind : goal.write_value-returns-in_default-kind
write_value-returns-in_default-kind g t c =
    writes_scalar c.args.pool.now c.args.kind (value_view c.args.value.now) c.args.number (payload_view c.scalar_payload.result)
    (ap (is_plain c.args.kind) (ap value_view c.in-Message.is ∙ value_view-Message c.in-Message.body) ∙ plain_kind c.args.kind (body_view c.in-Message.body) c.in_default-kind.not-Message c.in_default-kind.not-Group) c.scalar_payload.ensures c.put_scalar.ensures

pub write_values-loop-value-init : goal.write_values-loop-value-init
write_values-loop-value-init g t c = to_write_start _ _ _

pub write_values-returns-then-has_failed : goal.write_values-returns-then-has_failed
write_values-returns-then-has_failed g t c = to_write_lost c.loop-value.invariant (sym c.has_failed.ensures ∙ c.if-has_failed.true)

pub write_values-loop-value-preserved : goal.write_values-loop-value-preserved
write_values-loop-value-preserved g t c =
    write_values_step c.args.pool.now (field_view c.args.field.now) c.args.values.now.items c.loop-value.value-index c.value-item.result (rw c.deref-value-items.ensures.value at c.loop-value-test.true)
    (sym c.has_failed.ensures ∙ c.if-has_failed.false) (rw (← (rw c.deref-value-items.ensures.value at c.value-item.is)) c.write_value-next.ensures) c.loop-value.invariant

pub write_values-returns : goal.write_values-returns
write_values-returns g t c =
    write_values_end c.args.pool.now (field_view c.args.field.now) c.args.values.now.items c.loop-value.value-index (rw c.deref-value-items.ensures.value at c.loop-value-test.false) c.loop-value.invariant

pub write_value-returns-then-has_failed : goal.write_value-returns-then-has_failed
write_value-returns-then-has_failed g t c =
    writes_group_lost c.args.pool.now c.args.kind (value_view c.args.value.now) (body_view c.in-Message.body) c.in-Group.id c.args.number (ap value_view c.in-Message.is ∙ value_view-Message c.in-Message.body) c.in-Group.is
    c.put_tag.ensures c.write_message-next-in-Group.ensures (sym c.has_failed.ensures ∙ c.if-has_failed.true)

pub write_value-returns-else-has_failed : goal.write_value-returns-else-has_failed
write_value-returns-else-has_failed g t c =
    writes_group c.args.pool.now c.args.kind (value_view c.args.value.now) (body_view c.in-Message.body) c.in-Group.id c.args.number (ap value_view c.in-Message.is ∙ value_view-Message c.in-Message.body) c.in-Group.is
    c.put_tag.ensures c.write_message-next-in-Group.ensures (sym c.has_failed.ensures ∙ c.if-has_failed.false) c.put_tag-in-Group.ensures
