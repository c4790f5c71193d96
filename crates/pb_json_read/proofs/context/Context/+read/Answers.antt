use Rattle.std.proofs.Common.{ℕ, ◌+◌, List, Bool, drop, drop_of_length-le, Option, Some, Ok, Err, inr, refl, sym, subst, ap, ◌∙◌}
use Rattle.std.proofs.lemmas.Result.{err_from_is_err_and, on_ok_weaker}
use Rattle.std.specs.Prelude.{None, option_map, if◌then◌else◌}
use Rattle.pb_json_text.specs.View.{elements_view, members_view, form_view}
use Rattle.pb_json_text.specs.declared.value.JsonMember.{JsonMember}
use Rattle.pb_json_text.specs.declared.value.JsonValue.{JsonValue}
use Rattle.pb_json_text.proofs.ViewLemmas.{form_view-Array, form_view-Object}
use Rattle.pb_schema.specs.Types.{FieldView}
use Rattle.pb_schema.specs.View.{field_view}
use Rattle.pb_value.specs.Data.{Datums, one, list, map, message}
use Rattle.pb_value.specs.View.{body_view, content_view, entries_view, key_view, value_view, values_view}
use Rattle.pb_value.proofs.Views.{content_view-One, content_view-List, content_view-Map, value_view-Message}
use Rattle.pb_json_read.specs.Answers.{AreEntered, Changes, entered_view, named, parts_view}
use Rattle.pb_json_read.specs.Steps.{Made, Entered, Parts, with_number, with_oneof, with_entry, with_held, is_absent, ReadsScalar, ReadsHeld}
use Rattle.pb_json_read.specs.Reads.{ReadsMemberUnder, ReadsMemberEntry, ReadsElements, ReadsEntries, ReadsMembers, ReadsMember, ReadsMemberHeld, ReadsContent, ReadsValue, ReadsMessage}
use Rattle.pb_json.specs.declared.well_known.WellKnown.TheVariants.{Other, Wrapper, Struct, ListValue, Value, Timestamp, Duration, FieldMask, Any}
use Rattle.pb_json_read.specs.Answers.{Answers}
use Rattle.pb_json_read.specs.Steps.{ReadsOf, nothing}
use Rattle.pb_json_read.specs.Forms.{ReadsAlone, Where}
use Rattle.pb_json_read.specs.Reads.{FlatOf, SoleOf, NestedOf, DeepOf}
use Rattle.pb_json_read.specs.WellKnown.{is_sole}
use Rattle.pb_json_read.proofs.ReadLemmas.{form_answers, none_answers, answers_done}
use Rattle.pb_json_read.proofs.ReadLemmas.{made_ok, made_err, after_ok, after_err, or_weaker, answers_weaker, changes_weaker, changes_done, content_as, value_plain, value_inside}
use Rattle.pb_json_read.specs.Reads.{ReadsBeside}
use Rattle.pb_json_read.specs.Anys.{beside, only_field}
use Rattle.pb_json_read.proofs.AnyLemmas.{in_any_held, in_any_plain, in_any_stops}
use Rattle.pb_json_read.proofs.ReadLemmas.{beside_step, beside_stop}
use Rattle.pb_json_read.specs.Names.{field_meant}
use Rattle.pb_json_read.proofs.ReadLemmas.{members_step, members_stop, entries_step, entries_stop, elements_step, elements_stop}
use Rattle.pb_json_read.proofs.EntryLemmas.{key_of_kind, under_taken, under_free, entry_keys, entry_under, entry_none}
use Rattle.pb_json_read.proofs.context.Context.+read.Goals as goal

pub read_members-loop-member-init : goal.read_members-loop-member-init
read_members-loop-member-init t c = λ o h.
    subst (λ (p : Parts). ReadsMembers c.args.self.now.pool.now c.args.self.now.rules c.args.self.now.names.now (field_meant c.args.self.now.names.now c.args.self.now.pool.now c.args.id.0) p (members_view c.args.members.now.items) o) c.new-parts.ensures h

pub read_members-loop-member-preserved : goal.read_members-loop-member-preserved
read_members-loop-member-preserved t c = λ o h.
    let below = rw c.deref-member-items.ensures.value at c.loop-member-test.true in
    let item = rw c.deref-member-items.ensures.value at c.member-item.is in
    c.loop-member.invariant o (members_step c.args.self.now.pool.now c.args.self.now.rules c.args.self.now.names.now (field_meant c.args.self.now.names.now c.args.self.now.pool.now c.args.id.0) _ _ c.args.members.now.items c.loop-member.member-index c.member-item.result below item
    c.in_ok-read_member.ensures o h)

pub read_members-returns-in_err-read_member : goal.read_members-returns-in_err-read_member
read_members-returns-in_err-read_member t c =
    let below = rw c.deref-member-items.ensures.value at c.loop-member-test.true in
    let item = rw c.deref-member-items.ensures.value at c.member-item.is in
    let p = err_from_is_err_and c.from_residual.result c.from_residual.ensures.1 in
    rw (p.1, p.2) (made_err _ (λ (q : Parts). q.message) _ (or_weaker (λ h. c.loop-member.invariant (Err _) (members_stop c.args.self.now.pool.now c.args.self.now.rules c.args.self.now.names.now (field_meant c.args.self.now.names.now c.args.self.now.pool.now c.args.id.0) _ c.args.members.now.items c.loop-member.member-index c.member-item.result below item _ h))
    c.in_err-read_member.ensures))

pub read_members-returns : goal.read_members-returns
read_members-returns t c =
    let none = drop_of_length-le c.args.members.now.items (rw c.deref-member-items.ensures.value at c.loop-member-test.false) in
    made_ok _ (λ (q : Parts). q.message) (parts_view c.loop-member.parts) _ refl
    (c.loop-member.invariant (Ok (parts_view c.loop-member.parts))
    (subst (λ (ms : List JsonMember). ReadsMembers c.args.self.now.pool.now c.args.self.now.rules c.args.self.now.names.now (field_meant c.args.self.now.names.now c.args.self.now.pool.now c.args.id.0) (parts_view c.loop-member.parts) (members_view ms) (Ok (parts_view c.loop-member.parts))) (sym none) refl))

pub read_any-returns-in-Object : goal.read_any-returns-in-Object
read_any-returns-in-Object t c = rw (c.in-Object.is, form_view-Object) c.read_any_members.ensures

pub read_beside-loop-member-init : goal.read_beside-loop-member-init
read_beside-loop-member-init t c = λ o h.
    subst (λ (p : Parts). ReadsBeside c.args.self.now.pool.now c.args.self.now.rules c.args.self.now.names.now (beside (option_map (λ f. field_view f.now) c.args.only) (field_meant c.args.self.now.names.now c.args.self.now.pool.now c.args.inner.0)) p (members_view c.args.members.now.items) o) c.new-parts.ensures h

pub read_beside-loop-member-preserved : goal.read_beside-loop-member-preserved
read_beside-loop-member-preserved t c = λ o h.
    let below = rw c.deref-member-items.ensures.value at c.loop-member-test.true in
    let item = rw c.deref-member-items.ensures.value at c.member-item.is in
    c.loop-member.invariant o (beside_step c.args.self.now.pool.now c.args.self.now.rules c.args.self.now.names.now (beside (option_map (λ f. field_view f.now) c.args.only) (field_meant c.args.self.now.names.now c.args.self.now.pool.now c.args.inner.0)) _ _ c.args.members.now.items c.loop-member.member-index c.member-item.result below item
    c.in_ok-read_member_beside.ensures o h)

pub read_beside-returns-in_err-read_member_beside : goal.read_beside-returns-in_err-read_member_beside
read_beside-returns-in_err-read_member_beside t c =
    let below = rw c.deref-member-items.ensures.value at c.loop-member-test.true in
    let item = rw c.deref-member-items.ensures.value at c.member-item.is in
    let p = err_from_is_err_and c.from_residual.result c.from_residual.ensures.1 in
    rw (p.1, p.2) (made_err _ (λ (q : Parts). q.message) _ (or_weaker (λ h. c.loop-member.invariant (Err _) (beside_stop c.args.self.now.pool.now c.args.self.now.rules c.args.self.now.names.now (beside (option_map (λ f. field_view f.now) c.args.only) (field_meant c.args.self.now.names.now c.args.self.now.pool.now c.args.inner.0)) _ c.args.members.now.items c.loop-member.member-index c.member-item.result below item _ h))
    c.in_err-read_member_beside.ensures))

pub read_beside-returns : goal.read_beside-returns
read_beside-returns t c =
    let none = drop_of_length-le c.args.members.now.items (rw c.deref-member-items.ensures.value at c.loop-member-test.false) in
    made_ok _ (λ (q : Parts). q.message) (parts_view c.loop-member.parts) _ refl
    (c.loop-member.invariant (Ok (parts_view c.loop-member.parts))
    (subst (λ (ms : List JsonMember). ReadsBeside c.args.self.now.pool.now c.args.self.now.rules c.args.self.now.names.now (beside (option_map (λ f. field_view f.now) c.args.only) (field_meant c.args.self.now.names.now c.args.self.now.pool.now c.args.inner.0)) (parts_view c.loop-member.parts) (members_view ms) (Ok (parts_view c.loop-member.parts))) (sym none) refl))

pub read_elements-loop-item-init : goal.read_elements-loop-item-init
read_elements-loop-item-init t c = λ o h.
    subst (λ (vs : Datums). ReadsElements c.args.self.now.pool.now c.args.self.now.rules c.args.self.now.names.now c.args.kind vs (elements_view c.args.items.now.items) o) (ap values_view c.new-values.ensures.items) h

pub read_elements-loop-item-preserved : goal.read_elements-loop-item-preserved
read_elements-loop-item-preserved t c = λ o h.
    let below = rw c.deref-item-items.ensures.value at c.loop-item-test.true in
    let item = rw c.deref-item-items.ensures.value at c.item-item.is in
    c.loop-item.invariant o (elements_step c.args.self.now.pool.now c.args.self.now.rules c.args.self.now.names.now c.args.kind _ (option_map value_view c.in_ok-value.value) c.args.items.now.items c.loop-item.item-index c.item-item.result below item
    c.in_ok-value.ensures o (subst (λ (ds : Datums). ReadsElements c.args.self.now.pool.now c.args.self.now.rules c.args.self.now.names.now c.args.kind ds (elements_view (drop (c.loop-item.item-index + 1) c.args.items.now.items)) o) c.in_ok-push_some.ensures.pushed h))

pub read_elements-returns-in_err-value : goal.read_elements-returns-in_err-value
read_elements-returns-in_err-value t c =
    let below = rw c.deref-item-items.ensures.value at c.loop-item-test.true in
    let item = rw c.deref-item-items.ensures.value at c.item-item.is in
    let p = err_from_is_err_and c.from_residual.result c.from_residual.ensures.1 in
    rw (p.1, p.2) (or_weaker (λ h. c.loop-item.invariant (Err _) (elements_stop c.args.self.now.pool.now c.args.self.now.rules c.args.self.now.names.now c.args.kind _ c.args.items.now.items c.loop-item.item-index c.item-item.result below item _ h)) c.in_err-value.ensures)

pub read_elements-returns : goal.read_elements-returns
read_elements-returns t c =
    let none = drop_of_length-le c.args.items.now.items (rw c.deref-item-items.ensures.value at c.loop-item-test.false) in
    c.loop-item.invariant (Ok (values_view c.loop-item.values.items))
    (subst (λ (vs : List JsonValue). ReadsElements c.args.self.now.pool.now c.args.self.now.rules c.args.self.now.names.now c.args.kind (values_view c.loop-item.values.items) (elements_view vs) (Ok (values_view c.loop-item.values.items))) (sym none) refl)

pub read_entries-loop-member-init : goal.read_entries-loop-member-init
read_entries-loop-member-init t c =
    let none = c.new-entries.ensures in record {
      keys = subst (λ (s : Entered). AreEntered c.args.key s) (sym none) (tt, tt);
      left = λ o h. subst (λ (s : Entered). ReadsEntries c.args.self.now.pool.now c.args.self.now.rules c.args.self.now.names.now c.args.key c.args.kind s (members_view c.args.members.now.items) o) none h;
    }

pub read_entries-loop-member-preserved : goal.read_entries-loop-member-preserved
read_entries-loop-member-preserved t c =
    let below = rw c.deref-member-items.ensures.value at c.loop-member-test.true in
    let item = rw c.deref-member-items.ensures.value at c.member-item.is in
    record {
      keys = c.in_ok-read_entry.ensures.keys c.loop-member.invariant.keys;
      left = λ o h. c.loop-member.invariant.left o (entries_step c.args.self.now.pool.now c.args.self.now.rules c.args.self.now.names.now c.args.key c.args.kind _ _ c.args.members.now.items c.loop-member.member-index c.member-item.result below item (c.in_ok-read_entry.ensures.read c.loop-member.invariant.keys) o h);
    }

pub read_entries-returns-in_err-read_entry : goal.read_entries-returns-in_err-read_entry
read_entries-returns-in_err-read_entry t c =
    let below = rw c.deref-member-items.ensures.value at c.loop-member-test.true in
    let item = rw c.deref-member-items.ensures.value at c.member-item.is in
    let p = err_from_is_err_and c.from_residual.result c.from_residual.ensures.1 in
    rw (p.1, p.2)
    (made_err _ (λ (s : Entered). s.entries) _ (or_weaker (λ h. c.loop-member.invariant.left (Err _) (entries_stop c.args.self.now.pool.now c.args.self.now.rules c.args.self.now.names.now c.args.key c.args.kind _ c.args.members.now.items c.loop-member.member-index c.member-item.result below item _ h)) (c.in_err-read_entry.ensures.read c.loop-member.invariant.keys)))

pub read_entries-returns : goal.read_entries-returns
read_entries-returns t c =
    let none = drop_of_length-le c.args.members.now.items (rw c.deref-member-items.ensures.value at c.loop-member-test.false) in
    let all = entered_view c.loop-member.entries in
    made_ok _ (λ (s : Entered). s.entries) all _ refl
    (c.loop-member.invariant.left (Ok all)
    (subst (λ (ms : List JsonMember). ReadsEntries c.args.self.now.pool.now c.args.self.now.rules c.args.self.now.names.now c.args.key c.args.kind all (members_view ms) (Ok all)) (sym none) refl))

pub read_object-returns-in-Object : goal.read_object-returns-in-Object
read_object-returns-in-Object t c = rw (c.in-Object.is, form_view-Object) c.read_members.ensures

pub read_message-returns-in-Other : goal.read_message-returns-in-Other
read_message-returns-in-Other t c =
    form_answers c.args.self.now.pool.now c.args.self.now.rules c.args.self.now.names.now c.args.id.0 c.args.value.now.at (form_view c.args.value.now.form) Other (sym c.well_known.ensures ∙ c.in-Other.is) _ c.read_object.ensures

pub read_message-returns-in-Wrapper : goal.read_message-returns-in-Wrapper
read_message-returns-in-Wrapper t c =
    form_answers c.args.self.now.pool.now c.args.self.now.rules c.args.self.now.names.now c.args.id.0 c.args.value.now.at (form_view c.args.value.now.form) Wrapper (sym c.well_known.ensures ∙ c.in-Wrapper.is) _ c.read_sole.ensures

pub read_message-returns-in-Struct : goal.read_message-returns-in-Struct
read_message-returns-in-Struct t c =
    form_answers c.args.self.now.pool.now c.args.self.now.rules c.args.self.now.names.now c.args.id.0 c.args.value.now.at (form_view c.args.value.now.form) Struct (sym c.well_known.ensures ∙ c.in-Struct.is) _ c.read_sole-in-Struct.ensures

pub read_message-returns-in-ListValue : goal.read_message-returns-in-ListValue
read_message-returns-in-ListValue t c =
    form_answers c.args.self.now.pool.now c.args.self.now.rules c.args.self.now.names.now c.args.id.0 c.args.value.now.at (form_view c.args.value.now.form) ListValue (sym c.well_known.ensures ∙ c.in-ListValue.is) _ c.read_sole-in-ListValue.ensures

pub read_message-returns-in-Value : goal.read_message-returns-in-Value
read_message-returns-in-Value t c =
    form_answers c.args.self.now.pool.now c.args.self.now.rules c.args.self.now.names.now c.args.id.0 c.args.value.now.at (form_view c.args.value.now.form) Value (sym c.well_known.ensures ∙ c.in-Value.is) _ c.read_dynamic.ensures

pub read_message-returns-in-Timestamp : goal.read_message-returns-in-Timestamp
read_message-returns-in-Timestamp t c =
    form_answers c.args.self.now.pool.now c.args.self.now.rules c.args.self.now.names.now c.args.id.0 c.args.value.now.at (form_view c.args.value.now.form) Timestamp (sym c.well_known.ensures ∙ c.in-Timestamp.is) _ c.read_point.ensures

pub read_message-returns-in-Duration : goal.read_message-returns-in-Duration
read_message-returns-in-Duration t c =
    form_answers c.args.self.now.pool.now c.args.self.now.rules c.args.self.now.names.now c.args.id.0 c.args.value.now.at (form_view c.args.value.now.form) Duration (sym c.well_known.ensures ∙ c.in-Duration.is) _ c.read_span.ensures

pub read_message-returns-in-FieldMask : goal.read_message-returns-in-FieldMask
read_message-returns-in-FieldMask t c =
    form_answers c.args.self.now.pool.now c.args.self.now.rules c.args.self.now.names.now c.args.id.0 c.args.value.now.at (form_view c.args.value.now.form) FieldMask (sym c.well_known.ensures ∙ c.in-FieldMask.is) _ c.read_field_mask.ensures

pub read_message-returns-in-Any : goal.read_message-returns-in-Any
read_message-returns-in-Any t c =
    form_answers c.args.self.now.pool.now c.args.self.now.rules c.args.self.now.names.now c.args.id.0 c.args.value.now.at (form_view c.args.value.now.form) Any (sym c.well_known.ensures ∙ c.in-Any.is) _ c.read_any.ensures

pub read_list-returns-in-Array : goal.read_list-returns-in-Array
read_list-returns-in-Array t c = rw (c.in-Array.is, form_view-Array) c.read_elements.ensures

pub read_map-returns-in-Object : goal.read_map-returns-in-Object
read_map-returns-in-Object t c = rw (c.in-Object.is, form_view-Object) c.read_entries.ensures

pub read_member-returns-in-Some : goal.read_member-returns-in-Some
read_member-returns-in-Some t c =
    let found = rw c.as_str.ensures.value at c.in-Some.ensures.found in
    subst (λ (f : Option FieldView). Changes (parts_view c.read_field.new.parts) (ReadsMember c.args.self.now.pool.now c.args.self.now.rules c.args.self.now.names.now f (named c.args.member.now) (parts_view c.args.parts.now)) c.read_field.result) found c.read_field.ensures

pub read_member-returns-in-None : goal.read_member-returns-in-None
read_member-returns-in-None t c =
    let found = rw c.as_str.ensures.value at c.in-None.ensures.found in
    subst (λ (f : Option FieldView). Changes (parts_view c.args.parts.now) (ReadsMember c.args.self.now.pool.now c.args.self.now.rules c.args.self.now.names.now f (named c.args.member.now) (parts_view c.args.parts.now)) c.unknown_name.result) found (c.unknown_name.ensures (parts_view c.args.parts.now))

pub read_field-returns-in_err-note_number : goal.read_field-returns-in_err-note_number
read_field-returns-in_err-note_number t c =
    let p = err_from_is_err_and c.from_residual.result c.from_residual.ensures.1 in
    rw (p.1, p.2) (or_weaker (after_err _ _ _) c.in_err-note_number.ensures)

pub read_field-returns-then-is_absent : goal.read_field-returns-then-is_absent
read_field-returns-then-is_absent t c =
    after_ok _ _ _ _ c.in_ok-note_number.ensures
    (subst (λ (b : Bool). ReadsHeld (field_view c.args.field.now) (named c.args.member.now).0 (λ s k r. ReadsContent c.args.self.now.pool.now c.args.self.now.rules c.args.self.now.names.now s k (named c.args.member.now).2.0 (named c.args.member.now).2.1 r) b (parts_view c.note_number.new.self) (Ok (parts_view c.note_number.new.self))) (sym c.if-is_absent.true ∙ c.is_absent.ensures) refl)

pub read_field-returns : goal.read_field-returns
read_field-returns t c =
    changes_weaker (parts_view c.read_held.new.parts) (ReadsMemberHeld c.args.self.now.pool.now c.args.self.now.rules c.args.self.now.names.now (field_view c.args.field.now) (named c.args.member.now) (parts_view c.note_number.new.self)) (ReadsMember c.args.self.now.pool.now c.args.self.now.rules c.args.self.now.names.now (Some (field_view c.args.field.now)) (named c.args.member.now) (parts_view c.args.parts.now)) c.read_held.result
    (λ o h. after_ok (with_number (field_view c.args.field.now).number (named c.args.member.now).0 (parts_view c.args.parts.now)) (parts_view c.note_number.new.self)
    (λ q s. ReadsHeld (field_view c.args.field.now) (named c.args.member.now).0 (λ s k r. ReadsContent c.args.self.now.pool.now c.args.self.now.rules c.args.self.now.names.now s k (named c.args.member.now).2.0 (named c.args.member.now).2.1 r) (is_absent c.args.self.now.pool.now (field_view c.args.field.now).shape (field_view c.args.field.now).kind (named c.args.member.now).2.1) q s) o c.in_ok-note_number.ensures
    (subst (λ (b : Bool). ReadsHeld (field_view c.args.field.now) (named c.args.member.now).0 (λ s k r. ReadsContent c.args.self.now.pool.now c.args.self.now.rules c.args.self.now.names.now s k (named c.args.member.now).2.0 (named c.args.member.now).2.1 r) b (parts_view c.note_number.new.self) o) (sym c.if-is_absent.false ∙ c.is_absent.ensures) h)) c.read_held.ensures

pub read_held-returns-in_err-note_shape : goal.read_held-returns-in_err-note_shape
read_held-returns-in_err-note_shape t c =
    let p = err_from_is_err_and c.from_residual.result c.from_residual.ensures.1 in
    rw (p.1, p.2) (or_weaker (after_err _ _ _) c.in_err-note_shape.ensures)

pub read_held-returns-in_err-content : goal.read_held-returns-in_err-content
read_held-returns-in_err-content t c =
    let p = err_from_is_err_and c.from_residual-in_err-content.result c.from_residual-in_err-content.ensures.1 in
    rw (p.1, p.2) (or_weaker (λ h. after_ok (with_oneof (field_view c.args.field.now).shape (named c.args.member.now).0 (parts_view c.args.parts.now)) (parts_view c.note_shape.new.self) (λ q s. Made (ReadsContent c.args.self.now.pool.now c.args.self.now.rules c.args.self.now.names.now (field_view c.args.field.now).shape (field_view c.args.field.now).kind (named c.args.member.now).2.0 (named c.args.member.now).2.1) (λ h. with_held (field_view c.args.field.now).shape (field_view c.args.field.now).number h q) s) (Err _) c.in_ok-note_shape.ensures h) (made_err (ReadsContent c.args.self.now.pool.now c.args.self.now.rules c.args.self.now.names.now (field_view c.args.field.now).shape (field_view c.args.field.now).kind (named c.args.member.now).2.0 (named c.args.member.now).2.1) (λ h. with_held (field_view c.args.field.now).shape (field_view c.args.field.now).number h (parts_view c.note_shape.new.self)) _ c.in_err-content.ensures))

pub read_held-returns-in-Some : goal.read_held-returns-in-Some
read_held-returns-in-Some t c =
    changes_done (parts_view c.put.new.self) (with_held (field_view c.args.field.now).shape (field_view c.args.field.now).number (Some (content_view c.in-Some.content)) (parts_view c.note_shape.new.self)) (ReadsMemberHeld c.args.self.now.pool.now c.args.self.now.rules c.args.self.now.names.now (field_view c.args.field.now) (named c.args.member.now) (parts_view c.args.parts.now))
    c.put.result c.put.ensures.put c.put.ensures.memory
    (after_ok (with_oneof (field_view c.args.field.now).shape (named c.args.member.now).0 (parts_view c.args.parts.now)) (parts_view c.note_shape.new.self) (λ q s. Made (ReadsContent c.args.self.now.pool.now c.args.self.now.rules c.args.self.now.names.now (field_view c.args.field.now).shape (field_view c.args.field.now).kind (named c.args.member.now).2.0 (named c.args.member.now).2.1) (λ h. with_held (field_view c.args.field.now).shape (field_view c.args.field.now).number h q) s) _ c.in_ok-note_shape.ensures (made_ok (ReadsContent c.args.self.now.pool.now c.args.self.now.rules c.args.self.now.names.now (field_view c.args.field.now).shape (field_view c.args.field.now).kind (named c.args.member.now).2.0 (named c.args.member.now).2.1) (λ h. with_held (field_view c.args.field.now).shape (field_view c.args.field.now).number h (parts_view c.note_shape.new.self)) (option_map content_view c.in_ok-content.field-0) _ (rw (c.in-Some.is) refl) c.in_ok-content.ensures))

pub read_held-returns-in-None : goal.read_held-returns-in-None
read_held-returns-in-None t c =
    after_ok (with_oneof (field_view c.args.field.now).shape (named c.args.member.now).0 (parts_view c.args.parts.now)) (parts_view c.note_shape.new.self) (λ q s. Made (ReadsContent c.args.self.now.pool.now c.args.self.now.rules c.args.self.now.names.now (field_view c.args.field.now).shape (field_view c.args.field.now).kind (named c.args.member.now).2.0 (named c.args.member.now).2.1) (λ h. with_held (field_view c.args.field.now).shape (field_view c.args.field.now).number h q) s) _ c.in_ok-note_shape.ensures (made_ok (ReadsContent c.args.self.now.pool.now c.args.self.now.rules c.args.self.now.names.now (field_view c.args.field.now).shape (field_view c.args.field.now).kind (named c.args.member.now).2.0 (named c.args.member.now).2.1) (λ h. with_held (field_view c.args.field.now).shape (field_view c.args.field.now).number h (parts_view c.note_shape.new.self)) (option_map content_view c.in_ok-content.field-0) _ (rw (c.in-None.is) refl) c.in_ok-content.ensures)

pub read_content-returns-in-Implicit : goal.read_content-returns-in-Implicit
read_content-returns-in-Implicit t c =
    rw (c.in-Implicit.is) (answers_weaker _ _ _ c.read_one.result (content_as c.args.self.now.pool.now c.args.self.now.rules c.args.self.now.names.now _ c.args.kind _ _) c.read_one.ensures)

pub read_content-returns-in-Explicit : goal.read_content-returns-in-Explicit
read_content-returns-in-Explicit t c =
    rw (c.in-Explicit.is) (answers_weaker _ _ _ c.read_one-in-Explicit.result (content_as c.args.self.now.pool.now c.args.self.now.rules c.args.self.now.names.now _ c.args.kind _ _) c.read_one-in-Explicit.ensures)

pub read_content-returns-in-OneofMember : goal.read_content-returns-in-OneofMember
read_content-returns-in-OneofMember t c =
    rw (c.in-OneofMember.is) (answers_weaker _ _ _ c.read_one-in-OneofMember.result (content_as c.args.self.now.pool.now c.args.self.now.rules c.args.self.now.names.now _ c.args.kind _ _) c.read_one-in-OneofMember.ensures)

pub read_content-returns-in-List : goal.read_content-returns-in-List
read_content-returns-in-List t c =
    rw (c.in-List.is) (answers_weaker _ _ _ c.read_listed.result (content_as c.args.self.now.pool.now c.args.self.now.rules c.args.self.now.names.now _ c.args.kind _ _) c.read_listed.ensures)

pub read_content-returns-in-Map : goal.read_content-returns-in-Map
read_content-returns-in-Map t c =
    rw (c.in-Map.is) (answers_weaker _ _ _ c.read_mapped.result (content_as c.args.self.now.pool.now c.args.self.now.rules c.args.self.now.names.now _ c.args.kind _ _) c.read_mapped.ensures)

pub read_one-returns-in_err-one : goal.read_one-returns-in_err-one
read_one-returns-in_err-one t c =
    let p = err_from_is_err_and c.from_residual.result c.from_residual.ensures.1 in
    rw (p.1, p.2) (made_err _ (option_map one) _ c.in_err-one.ensures)

pub read_one-returns-in-Some : goal.read_one-returns-in-Some
read_one-returns-in-Some t c = made_ok _ (option_map one) (option_map value_view c.in_ok-one.field-0) _ (rw (content_view-One, c.in-Some.is) refl) c.in_ok-one.ensures

pub read_one-returns-in-None : goal.read_one-returns-in-None
read_one-returns-in-None t c = made_ok _ (option_map one) (option_map value_view c.in_ok-one.field-0) _ (rw (c.in-None.is) refl) c.in_ok-one.ensures

pub read_listed-returns-in_err-values : goal.read_listed-returns-in_err-values
read_listed-returns-in_err-values t c =
    let p = err_from_is_err_and c.from_residual.result c.from_residual.ensures.1 in
    rw (p.1, p.2) (made_err _ (λ ds. Some (list ds)) _ c.in_err-values.ensures)

pub read_listed-returns : goal.read_listed-returns
read_listed-returns t c = made_ok _ (λ ds. Some (list ds)) (values_view c.in_ok-values.values.items) _ (rw content_view-List refl) c.in_ok-values.ensures

pub read_mapped-returns-in_err-entries : goal.read_mapped-returns-in_err-entries
read_mapped-returns-in_err-entries t c =
    let p = err_from_is_err_and c.from_residual.result c.from_residual.ensures.1 in
    rw (p.1, p.2) (made_err _ (λ es. Some (map es)) _ c.in_err-entries.ensures)

pub read_mapped-returns : goal.read_mapped-returns
read_mapped-returns t c = made_ok _ (λ es. Some (map es)) (entries_view c.in_ok-entries.entries.entries) _ (rw content_view-Map refl) c.in_ok-entries.ensures

pub read_inside-returns-in_err-body : goal.read_inside-returns-in_err-body
read_inside-returns-in_err-body t c =
    let p = err_from_is_err_and c.from_residual.result c.from_residual.ensures.1 in
    rw (p.1, p.2) (made_err _ (λ b. Some (message b)) _ c.in_err-body.ensures)

pub read_inside-returns : goal.read_inside-returns
read_inside-returns t c = made_ok _ (λ b. Some (message b)) (body_view c.in_ok-body.body) _ (rw value_view-Message refl) c.in_ok-body.ensures

pub read_single-returns-in-Some : goal.read_single-returns-in-Some
read_single-returns-in-Some t c =
    answers_weaker (option_map value_view) (Made (ReadsMessage c.args.self.now.pool.now c.args.self.now.rules c.args.self.now.names.now c.in-Some.id.0 c.args.value.now.at (form_view c.args.value.now.form)) (λ b. Some (message b))) (ReadsValue c.args.self.now.pool.now c.args.self.now.rules c.args.self.now.names.now c.args.kind c.args.value.now.at (form_view c.args.value.now.form)) c.read_inside.result
    (λ o h. value_inside c.args.self.now.pool.now c.args.self.now.rules c.args.self.now.names.now c.args.kind c.args.value.now.at c.in-Some.id.0 (form_view c.args.value.now.form) o (sym c.in-Some.ensures.named) h) c.read_inside.ensures

pub read_single-returns-in-None : goal.read_single-returns-in-None
read_single-returns-in-None t c =
    answers_weaker (option_map value_view) (ReadsScalar c.args.self.now.pool.now c.args.self.now.rules c.args.kind c.args.value.now.at (form_view c.args.value.now.form)) (ReadsValue c.args.self.now.pool.now c.args.self.now.rules c.args.self.now.names.now c.args.kind c.args.value.now.at (form_view c.args.value.now.form)) c.read_plain.result
    (λ o h. value_plain c.args.self.now.pool.now c.args.self.now.rules c.args.self.now.names.now c.args.kind c.args.value.now.at (form_view c.args.value.now.form) o (sym c.in-None.ensures.named) h) c.read_plain.ensures

pub read_under-returns-then-is_taken : goal.read_under-returns-then-is_taken
read_under-returns-then-is_taken t c = λ fits.
    inr (under_taken (key_view c.args.key) (named c.args.member.now).0 (λ r. ReadsValue c.args.self.now.pool.now c.args.self.now.rules c.args.self.now.names.now c.args.kind (named c.args.member.now).2.0 (named c.args.member.now).2.1 r) (entered_view c.args.entries.now) _ (sym c.is_taken.ensures ∙ c.if-is_taken.true) c.refused.ensures)

pub read_under-returns-in_err-value : goal.read_under-returns-in_err-value
read_under-returns-in_err-value t c = λ fits.
    let p = err_from_is_err_and c.from_residual.result c.from_residual.ensures.1 in
    rw (p.1, p.2) (or_weaker (under_free (key_view c.args.key) (named c.args.member.now).0 (λ r. ReadsValue c.args.self.now.pool.now c.args.self.now.rules c.args.self.now.names.now c.args.kind (named c.args.member.now).2.0 (named c.args.member.now).2.1 r) (entered_view c.args.entries.now) (Err _) (sym c.is_taken.ensures ∙ c.if-is_taken.false)) (made_err (ReadsValue c.args.self.now.pool.now c.args.self.now.rules c.args.self.now.names.now c.args.kind (named c.args.member.now).2.0 (named c.args.member.now).2.1) (with_entry (key_view c.args.key) (entered_view c.args.entries.now)) _ c.in_err-value.ensures))

pub read_under-returns : goal.read_under-returns
read_under-returns t c = λ fits.
    changes_done (entered_view c.put_some.new.entries) ((with_entry (key_view c.args.key) (entered_view c.args.entries.now)) (option_map value_view c.in_ok-value.value)) (ReadsMemberUnder c.args.self.now.pool.now c.args.self.now.rules c.args.self.now.names.now (key_view c.args.key) c.args.kind (named c.args.member.now) (entered_view c.args.entries.now))
    c.put_some.result (on_ok_weaker c.put_some.result (λ h. h fits) c.put_some.ensures.put) c.put_some.ensures.memory
    (under_free (key_view c.args.key) (named c.args.member.now).0 (λ r. ReadsValue c.args.self.now.pool.now c.args.self.now.rules c.args.self.now.names.now c.args.kind (named c.args.member.now).2.0 (named c.args.member.now).2.1 r) (entered_view c.args.entries.now) _ (sym c.is_taken.ensures ∙ c.if-is_taken.false)
    (made_ok (ReadsValue c.args.self.now.pool.now c.args.self.now.rules c.args.self.now.names.now c.args.kind (named c.args.member.now).2.0 (named c.args.member.now).2.1) (with_entry (key_view c.args.key) (entered_view c.args.entries.now)) (option_map value_view c.in_ok-value.value) _ refl c.in_ok-value.ensures))

pub read_entry-returns-in-Some-clause-read : goal.read_entry-returns-in-Some-clause-read
read_entry-returns-in-Some-clause-read t c = λ keys.
    let of_kind = key_of_kind c.args.key (named c.args.member.now).1 (key_view c.in-Some.name) (rw (c.as_str.ensures.value, c.in-Some.is) at c.in_ok-name.ensures).0 in
    changes_weaker (entered_view c.read_under.new.entries) (ReadsMemberUnder c.args.self.now.pool.now c.args.self.now.rules c.args.self.now.names.now (key_view c.in-Some.name) c.args.kind (named c.args.member.now) (entered_view c.args.entries.now)) (ReadsMemberEntry c.args.self.now.pool.now c.args.self.now.rules c.args.self.now.names.now c.args.key c.args.kind (named c.args.member.now) (entered_view c.args.entries.now))
    c.read_under.result (entry_under c.args.key (named c.args.member.now).1 (named c.args.member.now).0 (λ r. ReadsValue c.args.self.now.pool.now c.args.self.now.rules c.args.self.now.names.now c.args.kind (named c.args.member.now).2.0 (named c.args.member.now).2.1 r) (entered_view c.args.entries.now) (key_view c.in-Some.name) (rw (c.as_str.ensures.value, c.in-Some.is) at c.in_ok-name.ensures).0) (c.read_under.ensures ((c.args.key, of_kind, keys.0), (c.args.key, of_kind, keys.1)))

pub read_entry-returns-in-Some-clause-keys : goal.read_entry-returns-in-Some-clause-keys
read_entry-returns-in-Some-clause-keys t c = λ keys.
    let of_kind = key_of_kind c.args.key (named c.args.member.now).1 (key_view c.in-Some.name) (rw (c.as_str.ensures.value, c.in-Some.is) at c.in_ok-name.ensures).0 in
    entry_keys (key_view c.in-Some.name) (named c.args.member.now).0 (λ r. ReadsValue c.args.self.now.pool.now c.args.self.now.rules c.args.self.now.names.now c.args.kind (named c.args.member.now).2.0 (named c.args.member.now).2.1 r) (entered_view c.args.entries.now) c.args.key (entered_view c.read_under.new.entries) c.read_under.result of_kind keys (c.read_under.ensures ((c.args.key, of_kind, keys.0), (c.args.key, of_kind, keys.1)))

pub read_entry-returns-in-None-clause-read : goal.read_entry-returns-in-None-clause-read
read_entry-returns-in-None-clause-read t c = λ keys.
    inr (entry_none c.args.key (named c.args.member.now).1 (named c.args.member.now).0 (λ r. ReadsValue c.args.self.now.pool.now c.args.self.now.rules c.args.self.now.names.now c.args.kind (named c.args.member.now).2.0 (named c.args.member.now).2.1 r) (entered_view c.args.entries.now) _ (rw (c.as_str.ensures.value, c.in-None.is) at c.in_ok-name.ensures) c.refused.ensures)

pub read_sole-returns-in-Some : goal.read_sole-returns-in-Some
read_sole-returns-in-Some t c =
    subst (λ (f : Option FieldView). Answers body_view (ReadsAlone f c.args.value.now.at (FlatOf c.args.self.now.pool.now c.args.self.now.rules c.args.self.now.names.now c.args.value.now.at (form_view c.args.value.now.form))) c.read_alone.result)
    c.in-Some.ensures.found c.read_alone.ensures

pub read_sole-returns-in-None : goal.read_sole-returns-in-None
read_sole-returns-in-None t c =
    subst (λ (f : Option FieldView). Answers body_view (ReadsAlone f c.args.value.now.at (FlatOf c.args.self.now.pool.now c.args.self.now.rules c.args.self.now.names.now c.args.value.now.at (form_view c.args.value.now.form))) (Err c.refused.result))
    c.in-None.ensures.found (none_answers body_view c.args.value.now.at _ c.refused.ensures)

pub read_alone-returns-in_err-content : goal.read_alone-returns-in_err-content
read_alone-returns-in_err-content t c =
    let p = err_from_is_err_and c.from_residual.result c.from_residual.ensures.1 in
    rw (p.1, p.2) (made_err (FlatOf c.args.self.now.pool.now c.args.self.now.rules c.args.self.now.names.now c.args.value.now.at (form_view c.args.value.now.form) c.args.field.now.shape c.args.field.now.kind) (λ h. (with_held c.args.field.now.shape c.args.field.now.number h nothing).message) _ c.in_err-content.ensures)

pub read_alone-returns : goal.read_alone-returns
read_alone-returns t c =
    answers_done body_view (FlatOf c.args.self.now.pool.now c.args.self.now.rules c.args.self.now.names.now c.args.value.now.at (form_view c.args.value.now.form) c.args.field.now.shape c.args.field.now.kind) (λ h. (with_held c.args.field.now.shape c.args.field.now.number h nothing).message)
    (option_map content_view c.in_ok-content.content) c.alone.result c.alone.ensures.made c.alone.ensures.memory c.in_ok-content.ensures

pub read_flat-returns-in-Implicit : goal.read_flat-returns-in-Implicit
read_flat-returns-in-Implicit t c = rw (c.in-Implicit.is) c.read_plain_one.ensures

pub read_flat-returns-in-Explicit : goal.read_flat-returns-in-Explicit
read_flat-returns-in-Explicit t c = rw (c.in-Explicit.is) c.read_plain_one-in-Explicit.ensures

pub read_flat-returns-in-OneofMember : goal.read_flat-returns-in-OneofMember
read_flat-returns-in-OneofMember t c = rw (c.in-OneofMember.is) c.read_plain_one-in-OneofMember.ensures

pub read_flat-returns-in-List : goal.read_flat-returns-in-List
read_flat-returns-in-List t c = rw (c.in-List.is) c.read_listed.ensures

pub read_flat-returns-in-Map : goal.read_flat-returns-in-Map
read_flat-returns-in-Map t c = rw (c.in-Map.is) c.read_mapped.ensures

pub read_dynamic-returns-in-Some : goal.read_dynamic-returns-in-Some
read_dynamic-returns-in-Some t c =
    subst (λ (f : Option FieldView). Answers body_view (ReadsAlone f c.args.value.now.at (DeepOf c.args.self.now.pool.now c.args.self.now.rules c.args.self.now.names.now c.args.value.now.at (form_view c.args.value.now.form))) c.read_dynamic_field.result)
    (rw c.field_for.ensures at c.in-Some.ensures.found) c.read_dynamic_field.ensures

pub read_dynamic-returns-in-None : goal.read_dynamic-returns-in-None
read_dynamic-returns-in-None t c =
    subst (λ (f : Option FieldView). Answers body_view (ReadsAlone f c.args.value.now.at (DeepOf c.args.self.now.pool.now c.args.self.now.rules c.args.self.now.names.now c.args.value.now.at (form_view c.args.value.now.form))) (Err c.refused.result))
    (rw c.field_for.ensures at c.in-None.ensures.found) (none_answers body_view c.args.value.now.at _ c.refused.ensures)

pub read_dynamic_field-returns-in_err-content : goal.read_dynamic_field-returns-in_err-content
read_dynamic_field-returns-in_err-content t c =
    let p = err_from_is_err_and c.from_residual.result c.from_residual.ensures.1 in
    rw (p.1, p.2) (made_err (DeepOf c.args.self.now.pool.now c.args.self.now.rules c.args.self.now.names.now c.args.value.now.at (form_view c.args.value.now.form) c.args.field.now.shape c.args.field.now.kind) (λ h. (with_held c.args.field.now.shape c.args.field.now.number h nothing).message) _ c.in_err-content.ensures)

pub read_dynamic_field-returns : goal.read_dynamic_field-returns
read_dynamic_field-returns t c =
    answers_done body_view (DeepOf c.args.self.now.pool.now c.args.self.now.rules c.args.self.now.names.now c.args.value.now.at (form_view c.args.value.now.form) c.args.field.now.shape c.args.field.now.kind) (λ h. (with_held c.args.field.now.shape c.args.field.now.number h nothing).message)
    (option_map content_view c.in_ok-content.content) c.alone.result c.alone.ensures.made c.alone.ensures.memory c.in_ok-content.ensures

pub read_deep-returns-in-Implicit : goal.read_deep-returns-in-Implicit
read_deep-returns-in-Implicit t c = rw (c.in-Implicit.is) c.read_deep_one.ensures

pub read_deep-returns-in-Explicit : goal.read_deep-returns-in-Explicit
read_deep-returns-in-Explicit t c = rw (c.in-Explicit.is) c.read_deep_one-in-Explicit.ensures

pub read_deep-returns-in-OneofMember : goal.read_deep-returns-in-OneofMember
read_deep-returns-in-OneofMember t c = rw (c.in-OneofMember.is) c.read_deep_one-in-OneofMember.ensures

pub read_deep-returns-in-List : goal.read_deep-returns-in-List
read_deep-returns-in-List t c = rw (c.in-List.is) c.read_listed.ensures

pub read_deep-returns-in-Map : goal.read_deep-returns-in-Map
read_deep-returns-in-Map t c = rw (c.in-Map.is) c.read_mapped.ensures

pub read_deep_one-returns-in_err-one : goal.read_deep_one-returns-in_err-one
read_deep_one-returns-in_err-one t c =
    let p = err_from_is_err_and c.from_residual.result c.from_residual.ensures.1 in
    rw (p.1, p.2) (made_err _ (option_map one) _ c.in_err-one.ensures)

pub read_deep_one-returns-in-Some : goal.read_deep_one-returns-in-Some
read_deep_one-returns-in-Some t c = made_ok _ (option_map one) (option_map value_view c.in_ok-one.field-0) _ (rw (content_view-One, c.in-Some.is) refl) c.in_ok-one.ensures

pub read_deep_one-returns-in-None : goal.read_deep_one-returns-in-None
read_deep_one-returns-in-None t c = made_ok _ (option_map one) (option_map value_view c.in_ok-one.field-0) _ (rw (c.in-None.is) refl) c.in_ok-one.ensures

pub read_deep_single-returns-in-Some : goal.read_deep_single-returns-in-Some
read_deep_single-returns-in-Some t c =
    subst (λ (m : Option ℕ). Answers (option_map value_view) (ReadsOf m (ReadsScalar c.args.self.now.pool.now c.args.self.now.rules c.args.kind c.args.value.now.at (form_view c.args.value.now.form)) (NestedOf c.args.self.now.pool.now c.args.self.now.rules c.args.self.now.names.now c.args.value.now.at (form_view c.args.value.now.form))) c.read_nested_value.result)
    c.in-Some.ensures.named c.read_nested_value.ensures

pub read_deep_single-returns-in-None : goal.read_deep_single-returns-in-None
read_deep_single-returns-in-None t c =
    subst (λ (m : Option ℕ). Answers (option_map value_view) (ReadsOf m (ReadsScalar c.args.self.now.pool.now c.args.self.now.rules c.args.kind c.args.value.now.at (form_view c.args.value.now.form)) (NestedOf c.args.self.now.pool.now c.args.self.now.rules c.args.self.now.names.now c.args.value.now.at (form_view c.args.value.now.form))) c.read_plain.result)
    c.in-None.ensures.named c.read_plain.ensures

pub read_nested_value-returns-in_err-body : goal.read_nested_value-returns-in_err-body
read_nested_value-returns-in_err-body t c =
    let p = err_from_is_err_and c.from_residual.result c.from_residual.ensures.1 in
    rw (p.1, p.2) (made_err _ (λ b. Some (message b)) _ c.in_err-body.ensures)

pub read_nested_value-returns : goal.read_nested_value-returns
read_nested_value-returns t c = made_ok _ (λ b. Some (message b)) (body_view c.in_ok-body.body) _ (rw value_view-Message refl) c.in_ok-body.ensures

pub read_nested-returns-then-is_sole : goal.read_nested-returns-then-is_sole
read_nested-returns-then-is_sole t c =
    subst (λ (b : Bool). Answers body_view (Where b c.args.value.now.at (SoleOf c.args.self.now.pool.now c.args.self.now.rules c.args.self.now.names.now c.args.value.now.at (form_view c.args.value.now.form) c.args.id.0)) c.read_sole.result)
    (sym c.if-is_sole.true ∙ c.is_sole.ensures ∙ ap is_sole c.well_known.ensures) c.read_sole.ensures

pub read_nested-returns-else-is_sole : goal.read_nested-returns-else-is_sole
read_nested-returns-else-is_sole t c =
    subst (λ (b : Bool). Answers body_view (Where b c.args.value.now.at (SoleOf c.args.self.now.pool.now c.args.self.now.rules c.args.self.now.names.now c.args.value.now.at (form_view c.args.value.now.form) c.args.id.0)) (Err c.refused.result))
    (sym c.if-is_sole.false ∙ c.is_sole.ensures ∙ ap is_sole c.well_known.ensures) (none_answers body_view c.args.value.now.at _ c.refused.ensures)

pub read_in_any-returns-then-has_members : goal.read_in_any-returns-then-has_members
read_in_any-returns-then-has_members t c =
    let plain = ap (λ (b : Bool). only_field b c.args.inner.0) (sym (sym c.if-has_members.true ∙ c.has_members.ensures)) in
    in_any_plain c.args.self.now.pool.now c.args.self.now.rules c.args.self.now.names.now c.args.at (members_view c.args.members.now.items) c.args.inner.0 c.read_beside.result plain c.read_beside.ensures

pub read_in_any-returns-in_err-body : goal.read_in_any-returns-in_err-body
read_in_any-returns-in_err-body t c =
    let own = ap (λ (b : Bool). only_field b c.args.inner.0) (sym (sym c.if-has_members.false ∙ c.has_members.ensures)) in
    let p = err_from_is_err_and c.from_residual-in_err-body.result c.from_residual-in_err-body.ensures.1 in
    rw (p.1, p.2) (in_any_stops c.args.self.now.pool.now c.args.self.now.rules c.args.self.now.names.now c.args.at (members_view c.args.members.now.items) c.args.inner.0 _ own (rw c.in_ok-field.ensures at c.in_err-body.ensures))

pub read_in_any-returns-in_ok-body : goal.read_in_any-returns-in_ok-body
read_in_any-returns-in_ok-body t c =
    let own = ap (λ (b : Bool). only_field b c.args.inner.0) (sym (sym c.if-has_members.false ∙ c.has_members.ensures)) in
    in_any_held c.args.self.now.pool.now c.args.self.now.rules c.args.self.now.names.now c.args.at (members_view c.args.members.now.items) c.args.inner.0 (body_view c.in_ok-body.body) c.held_message.result own (rw c.in_ok-field.ensures at c.in_ok-body.ensures)
    (rw c.is_empty_type.ensures at c.held_message.ensures)

pub read_only-returns-else-eq : goal.read_only-returns-else-eq
read_only-returns-else-eq t c =
    let other = sym (rw (c.as_str.ensures.value, c.as_str-2.ensures.value) at c.eq.ensures) ∙ c.if-eq.false in
    subst (λ (b : Bool). Changes (parts_view c.args.parts.now) (ReadsMember c.args.self.now.pool.now c.args.self.now.rules c.args.self.now.names.now (if b then Some (field_view c.args.field.now) else None) (named c.args.member.now) (parts_view c.args.parts.now)) c.unknown_name.result)
    (sym other) (c.unknown_name.ensures (parts_view c.args.parts.now))
