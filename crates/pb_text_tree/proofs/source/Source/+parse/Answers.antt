use Rattle.std.proofs.Common.{◌≡◌, ◌+◌, ◌-◌, ℕ, suc, map, ap, sym, ◌∙◌, arith, refl, subst, Ok, Err, inr, length}
use Rattle.std.proofs.lemmas.Result.{err_from_is_err_and}
use Rattle.pb_text_tree.specs.Grammar.{AfterColon, AfterMessage, AfterName, AnotherField, AnotherMessage, AsBraced, AsMessage, AsMessages, AsNamed, AsScalar, AsScalars, Closing, EmptyList, FieldAt, FieldsAt, ItemsAt, ListAt}
use Rattle.pb_text_tree.specs.Grammar.{MessageAt, MessageValue, MessagesAt, MessagesValue, MoreMessages, NameAt, NextMessage, NoMessage, PlacedAt, PlacedValue, ScalarItem, ScalarItems, ScalarsAt, ScalarsValue, Unexpected, ValueAt, WithField, WithMessage}
use Rattle.pb_text_tree.specs.Grammar.{after_mark, byte_at, closing, ends_at, ends_list, mark_at, opens, with_message}
use Rattle.pb_text_tree.specs.Seen.{text_of}
use Rattle.pb_text_tree.specs.Steps.{Answers, Repeats}
use Rattle.pb_text_tree.specs.Tree.{Fields}
use Rattle.pb_text_tree.specs.View.{field_view, fields_view, message_view, messages_view, name_view, placed_view, value_view}
use Rattle.pb_text_tree.specs.declared.source.Close.TheVariants as close
use Rattle.pb_text_tree.proofs.MessageLemmas.{closed_message, deep_message, open_message}
use Rattle.pb_text_tree.proofs.StepLemmas.{or_weaker, reach_on, reach_ends, reach_fails, then_ok, then_err, then_answers, then_answers_err, choose_true, choose_false, answers_true, answers_false, further}
use Rattle.pb_text_tree.proofs.ViewLemmas.{fields_push, messages_push, field_view-parts, message_view-roll, value_view-Scalar, value_view-Message, value_view-Scalars, value_view-Messages}
use Rattle.pb_text_tree.proofs.source.Source.+parse.Goals as goal

-- ---- fields

pub fields-each-preserved : goal.fields-each-preserved
fields-each-preserved t c =
    let x = text_of c.args.self.now in
    let Inside = MessageAt x c.args.levels in
    let before = fields_view c.each.fields.items in
    record {
      passed = omega (arith, c.in_ok-field.ensures.within);
      within = c.in_ok-field.ensures.within.1;
      read = rw (fields_push _ _ _ c.in_ok-push.ensures.items)
          (reach_on (ends_at x c.args.close) (AnotherField x Inside) _ _ before c.each.at _ c.in_ok-field.after c.each.invariant.read (sym c.ends.ensures.is ∙ c.each-test.true)
          (then_ok (FieldAt x Inside c.each.at) (WithField before) (field_view c.in_ok-field.field) c.in_ok-field.after _ c.in_ok-field.ensures.read refl));
    }

pub fields-returns-in_err-field-clause-read : goal.fields-returns-in_err-field-clause-read
fields-returns-in_err-field-clause-read t c =
    let x = text_of c.args.self.now in
    let Inside = MessageAt x c.args.levels in
    let before = fields_view c.each.fields.items in
    let p = err_from_is_err_and c.from_residual.result c.from_residual.ensures.1 in
    rw (p.1, p.2)
    (or_weaker
    (λ h. subst (λ (fs : Fields). Repeats (ends_at x c.args.close) (AnotherField x Inside) fs c.args.from (Err c.in_err-field.field-0.0)) (ap fields_view c.new-fields.ensures.items)
    (reach_fails (ends_at x c.args.close) (AnotherField x Inside) _ _ before c.each.at _ c.each.invariant.read (sym c.ends.ensures.is ∙ c.each-test.true) (then_err (FieldAt x Inside c.each.at) (WithField before) _ h)))
    c.in_err-field.ensures.read)

pub fields-returns-clause-read : goal.fields-returns-clause-read
fields-returns-clause-read t c =
    let x = text_of c.args.self.now in
    let Inside = MessageAt x c.args.levels in
    let all = fields_view c.each.fields.items in
    subst (λ (fs : Fields). Repeats (ends_at x c.args.close) (AnotherField x Inside) fs c.args.from (Ok (all, c.each.at))) (ap fields_view c.new-fields.ensures.items)
    (reach_ends (ends_at x c.args.close) (AnotherField x Inside) _ _ all c.each.at c.each.invariant.read (sym c.ends.ensures.is ∙ c.each-test.false))

-- ---- a field

pub field-returns-in_err-name-clause-read : goal.field-returns-in_err-name-clause-read
field-returns-in_err-name-clause-read t c =
    let x = text_of c.args.self.now in
    let Inside = MessageAt x c.args.levels in
    let p = err_from_is_err_and c.from_residual.result c.from_residual.ensures.1 in
    rw (p.1, p.2) (then_answers_err (NameAt x c.args.at) (AfterName x Inside c.args.at) _ c.in_err-name.ensures.read)

pub field-returns-in_err-value-clause-read : goal.field-returns-in_err-value-clause-read
field-returns-in_err-value-clause-read t c =
    let x = text_of c.args.self.now in
    let Inside = MessageAt x c.args.levels in
    let name = name_view c.in_ok-name.name in
    let p = err_from_is_err_and c.from_residual-in_err-value.result c.from_residual-in_err-value.ensures.1 in
    rw (p.1, p.2)
    (or_weaker
    (λ h. then_ok (NameAt x c.args.at) (AfterName x Inside c.args.at) name c.in_ok-name.after _ c.in_ok-name.ensures.read
    (then_err (ValueAt x Inside c.in_ok-name.after) (AsNamed x c.args.at name) _ h))
    c.in_err-value.ensures.read)

pub field-returns-clause-read : goal.field-returns-clause-read
field-returns-clause-read t c =
    let x = text_of c.args.self.now in
    let Inside = MessageAt x c.args.levels in
    let name = name_view c.in_ok-name.name in
    let value = value_view c.in_ok-value.value in
    then_ok (NameAt x c.args.at) (AfterName x Inside c.args.at) name c.in_ok-name.after _ c.in_ok-name.ensures.read
    (then_ok (ValueAt x Inside c.in_ok-name.after) (AsNamed x c.args.at name) value c.in_ok-value.end _ c.in_ok-value.ensures.read
    (ap (λ f. Ok (f, c.after_separator.result)) (field_view-parts _ ∙ ap (λ n. (n, name, value)) c.byte_at-at.ensures)
    ∙ ap (λ n. Ok ((byte_at x c.args.at, name, value), n)) c.after_separator.ensures.is))

-- ---- values

pub value-returns-clause-read : goal.value-returns-clause-read
value-returns-clause-read t c =
    let x = text_of c.args.self.now in
    let Inside = MessageAt x c.args.levels in
    subst (λ b. Answers value_view (AfterColon x Inside b (after_mark x 58 c.args.at)) c.after_colon.result) c.is_mark-is_marked.ensures.is
    (subst (λ n. Answers value_view (AfterColon x Inside c.is_mark-is_marked.result n) c.after_colon.result) c.after_mark-from.ensures.is c.after_colon.ensures.read)

pub after_colon-returns-in_err-message-clause-read : goal.after_colon-returns-in_err-message-clause-read
after_colon-returns-in_err-message-clause-read t c =
    let x = text_of c.args.self.now in
    let Inside = MessageAt x c.args.levels in
    let at = c.args.at in
    let p = err_from_is_err_and c.from_residual.result c.from_residual.ensures.1 in
    rw (p.1, p.2)
    (or_weaker
    (λ h. choose_true (opens x at) (MessageValue x Inside at) (NoMessage x Inside c.args.is_marked at) _ (sym c.opens.ensures.is ∙ c.if-opens.true) (then_err (Inside at) AsMessage _ h))
    c.in_err-message.ensures.read)

pub after_colon-returns-then-opens-clause-read : goal.after_colon-returns-then-opens-clause-read
after_colon-returns-then-opens-clause-read t c =
    let x = text_of c.args.self.now in
    let Inside = MessageAt x c.args.levels in
    let at = c.args.at in
    choose_true (opens x at) (MessageValue x Inside at) (NoMessage x Inside c.args.is_marked at) _ (sym c.opens.ensures.is ∙ c.if-opens.true)
    (then_ok (Inside at) AsMessage (message_view c.in_ok-message.message) c.in_ok-message.after _ c.in_ok-message.ensures.read
    (ap (λ v. Ok (v, c.in_ok-message.after)) (value_view-Message c.in_ok-message.message)))

pub after_colon-returns-then-is_mark-clause-read : goal.after_colon-returns-then-is_mark-clause-read
after_colon-returns-then-is_mark-clause-read t c =
    let x = text_of c.args.self.now in
    let Inside = MessageAt x c.args.levels in
    let at = c.args.at in
    let colon = c.args.is_marked in
    answers_false value_view (opens x at) (MessageValue x Inside at) (NoMessage x Inside colon at) c.list.result (sym c.opens.ensures.is ∙ c.if-opens.false)
    (answers_true value_view (mark_at x 91 at) (ListAt x Inside colon at) (ScalarItem x Inside colon at) c.list.result (sym c.is_mark.ensures.is ∙ c.if-is_mark.true) c.list.ensures.read)

pub after_colon-returns-then-not-is_marked-clause-read : goal.after_colon-returns-then-not-is_marked-clause-read
after_colon-returns-then-not-is_marked-clause-read t c =
    let x = text_of c.args.self.now in
    let Inside = MessageAt x c.args.levels in
    let at = c.args.at in
    let colon = c.args.is_marked in
    inr (choose_false (opens x at) (MessageValue x Inside at) (NoMessage x Inside colon at) _ (sym c.opens.ensures.is ∙ c.if-opens.false)
    (choose_false (mark_at x 91 at) (ListAt x Inside colon at) (ScalarItem x Inside colon at) _ (sym c.is_mark.ensures.is ∙ c.if-is_mark.false)
    (choose_false colon (PlacedValue x at) (Unexpected x at) _ c.if-not-is_marked.true (ap Err c.unexpected.ensures))))

pub after_colon-returns-in_err-scalar-clause-read : goal.after_colon-returns-in_err-scalar-clause-read
after_colon-returns-in_err-scalar-clause-read t c =
    let x = text_of c.args.self.now in
    let Inside = MessageAt x c.args.levels in
    let at = c.args.at in
    let colon = c.args.is_marked in
    let p = err_from_is_err_and c.from_residual-in_err-scalar.result c.from_residual-in_err-scalar.ensures.1 in
    rw (p.1, p.2)
    (or_weaker
    (λ h. choose_false (opens x at) (MessageValue x Inside at) (NoMessage x Inside colon at) _ (sym c.opens.ensures.is ∙ c.if-opens.false)
    (choose_false (mark_at x 91 at) (ListAt x Inside colon at) (ScalarItem x Inside colon at) _ (sym c.is_mark.ensures.is ∙ c.if-is_mark.false)
    (choose_true colon (PlacedValue x at) (Unexpected x at) _ c.if-not-is_marked.false (then_err (PlacedAt x at) AsScalar _ h))))
    c.in_err-scalar.ensures.read)

pub after_colon-returns-clause-read : goal.after_colon-returns-clause-read
after_colon-returns-clause-read t c =
    let x = text_of c.args.self.now in
    let Inside = MessageAt x c.args.levels in
    let at = c.args.at in
    let colon = c.args.is_marked in
    choose_false (opens x at) (MessageValue x Inside at) (NoMessage x Inside colon at) _ (sym c.opens.ensures.is ∙ c.if-opens.false)
    (choose_false (mark_at x 91 at) (ListAt x Inside colon at) (ScalarItem x Inside colon at) _ (sym c.is_mark.ensures.is ∙ c.if-is_mark.false)
    (choose_true colon (PlacedValue x at) (Unexpected x at) _ c.if-not-is_marked.false
    (then_ok (PlacedAt x at) AsScalar (placed_view c.in_ok-scalar.scalar) c.in_ok-scalar.after _ c.in_ok-scalar.ensures.read
    (ap (λ v. Ok (v, c.in_ok-scalar.after)) (value_view-Scalar c.in_ok-scalar.scalar)))))

-- ---- lists

pub list-returns-then-is_mark-clause-read : goal.list-returns-then-is_mark-clause-read
list-returns-then-is_mark-clause-read t c =
    let x = text_of c.args.self.now in
    let Inside = MessageAt x c.args.levels in
    let at = c.args.at in
    let colon = c.args.is_marked in
    choose_true (mark_at x 93 (at + 1)) (EmptyList colon at) (ItemsAt x Inside colon (at + 1)) _ (sym c.is_mark.ensures.is ∙ c.if-is_mark.true) (ap (λ v. Ok (v, at + 2)) c.empty_list.ensures)

pub list-returns-in_err-items-clause-read : goal.list-returns-in_err-items-clause-read
list-returns-in_err-items-clause-read t c =
    let x = text_of c.args.self.now in
    let Inside = MessageAt x c.args.levels in
    let at = c.args.at in
    let colon = c.args.is_marked in
    let p = err_from_is_err_and c.from_residual.result c.from_residual.ensures.1 in
    rw (p.1, p.2)
    (or_weaker
    (λ h. choose_false (mark_at x 93 (at + 1)) (EmptyList colon at) (ItemsAt x Inside colon (at + 1)) _ (sym c.is_mark.ensures.is ∙ c.if-is_mark.false)
    (choose_true (opens x (at + 1)) (MessagesValue x Inside (at + 1)) (ScalarItems x Inside colon (at + 1)) _ (sym c.opens.ensures.is ∙ c.if-opens.true)
    (then_err (MessagesAt x Inside (at + 1)) AsMessages _ h)))
    c.in_err-items.ensures.read)

pub list-returns-then-opens-clause-read : goal.list-returns-then-opens-clause-read
list-returns-then-opens-clause-read t c =
    let x = text_of c.args.self.now in
    let Inside = MessageAt x c.args.levels in
    let at = c.args.at in
    let colon = c.args.is_marked in
    choose_false (mark_at x 93 (at + 1)) (EmptyList colon at) (ItemsAt x Inside colon (at + 1)) _ (sym c.is_mark.ensures.is ∙ c.if-is_mark.false)
    (choose_true (opens x (at + 1)) (MessagesValue x Inside (at + 1)) (ScalarItems x Inside colon (at + 1)) _ (sym c.opens.ensures.is ∙ c.if-opens.true)
    (then_ok (MessagesAt x Inside (at + 1)) AsMessages (messages_view c.in_ok-items.items.items) c.in_ok-items.after _ c.in_ok-items.ensures.read
    (ap (λ v. Ok (v, c.in_ok-items.after)) (value_view-Messages c.in_ok-items.items))))

pub list-returns-then-not-is_marked-clause-read : goal.list-returns-then-not-is_marked-clause-read
list-returns-then-not-is_marked-clause-read t c =
    let x = text_of c.args.self.now in
    let Inside = MessageAt x c.args.levels in
    let at = c.args.at in
    let colon = c.args.is_marked in
    inr (choose_false (mark_at x 93 (at + 1)) (EmptyList colon at) (ItemsAt x Inside colon (at + 1)) _ (sym c.is_mark.ensures.is ∙ c.if-is_mark.false)
    (choose_false (opens x (at + 1)) (MessagesValue x Inside (at + 1)) (ScalarItems x Inside colon (at + 1)) _ (sym c.opens.ensures.is ∙ c.if-opens.false)
    (choose_false colon (ScalarsValue x (at + 1)) (Unexpected x (at + 1)) _ c.if-not-is_marked.true (ap Err c.unexpected.ensures))))

pub list-returns-in_err-scalars-clause-read : goal.list-returns-in_err-scalars-clause-read
list-returns-in_err-scalars-clause-read t c =
    let x = text_of c.args.self.now in
    let Inside = MessageAt x c.args.levels in
    let at = c.args.at in
    let colon = c.args.is_marked in
    let p = err_from_is_err_and c.from_residual-in_err-scalars.result c.from_residual-in_err-scalars.ensures.1 in
    rw (p.1, p.2)
    (or_weaker
    (λ h. choose_false (mark_at x 93 (at + 1)) (EmptyList colon at) (ItemsAt x Inside colon (at + 1)) _ (sym c.is_mark.ensures.is ∙ c.if-is_mark.false)
    (choose_false (opens x (at + 1)) (MessagesValue x Inside (at + 1)) (ScalarItems x Inside colon (at + 1)) _ (sym c.opens.ensures.is ∙ c.if-opens.false)
    (choose_true colon (ScalarsValue x (at + 1)) (Unexpected x (at + 1)) _ c.if-not-is_marked.false (then_err (ScalarsAt x (at + 1)) AsScalars _ h))))
    c.in_err-scalars.ensures.read)

pub list-returns-clause-read : goal.list-returns-clause-read
list-returns-clause-read t c =
    let x = text_of c.args.self.now in
    let Inside = MessageAt x c.args.levels in
    let at = c.args.at in
    let colon = c.args.is_marked in
    choose_false (mark_at x 93 (at + 1)) (EmptyList colon at) (ItemsAt x Inside colon (at + 1)) _ (sym c.is_mark.ensures.is ∙ c.if-is_mark.false)
    (choose_false (opens x (at + 1)) (MessagesValue x Inside (at + 1)) (ScalarItems x Inside colon (at + 1)) _ (sym c.opens.ensures.is ∙ c.if-opens.false)
    (choose_true colon (ScalarsValue x (at + 1)) (Unexpected x (at + 1)) _ c.if-not-is_marked.false
    (then_ok (ScalarsAt x (at + 1)) AsScalars (map placed_view c.in_ok-scalars.scalars.items) c.in_ok-scalars.after _ c.in_ok-scalars.ensures.read
    (ap (λ v. Ok (v, c.in_ok-scalars.after)) (value_view-Scalars c.in_ok-scalars.scalars)))))

pub more_messages-items-preserved : goal.more_messages-items-preserved
more_messages-items-preserved t c =
    let x = text_of c.args.self.now in
    let Inside = MessageAt x c.args.levels in
    let before = messages_view c.items.items.items in
    record {
      passed = omega (arith, c.in_ok-item.ensures.within);
      read = rw (messages_push _ _ _ c.in_ok-push.ensures.items)
          (reach_on (ends_list x) (AnotherMessage x Inside) _ _ before c.items.at _ c.in_ok-item.after c.items.invariant.read (sym c.is_mark.ensures.is ∙ c.items-test.true)
          (then_ok (NextMessage x Inside c.items.at) (WithMessage before) (message_view c.in_ok-item.item) c.in_ok-item.after _ c.in_ok-item.ensures.read refl));
    }

pub more_messages-returns-in_err-item-clause-read : goal.more_messages-returns-in_err-item-clause-read
more_messages-returns-in_err-item-clause-read t c =
    let x = text_of c.args.self.now in
    let Inside = MessageAt x c.args.levels in
    let before = messages_view c.items.items.items in
    let p = err_from_is_err_and c.from_residual.result c.from_residual.ensures.1 in
    rw (p.1, p.2)
    (or_weaker
    (λ h. then_err (Repeats (ends_list x) (AnotherMessage x Inside) _ c.args.from) Closing _
    (reach_fails (ends_list x) (AnotherMessage x Inside) _ _ before c.items.at _ c.items.invariant.read (sym c.is_mark.ensures.is ∙ c.items-test.true) (then_err (NextMessage x Inside c.items.at) (WithMessage before) _ h)))
    c.in_err-item.ensures.read)

pub more_messages-returns-clause-read : goal.more_messages-returns-clause-read
more_messages-returns-clause-read t c =
    let x = text_of c.args.self.now in
    let Inside = MessageAt x c.args.levels in
    let all = messages_view c.items.items.items in
    then_ok (Repeats (ends_list x) (AnotherMessage x Inside) _ c.args.from) Closing all c.items.at _
    (reach_ends (ends_list x) (AnotherMessage x Inside) _ _ all c.items.at c.items.invariant.read (sym c.is_mark.ensures.is ∙ c.items-test.false)) refl

pub next_message-returns-then-is_mark-clause-read : goal.next_message-returns-then-is_mark-clause-read
next_message-returns-then-is_mark-clause-read t c =
    let x = text_of c.args.self.now in
    let Inside = MessageAt x c.args.levels in
    let at = c.args.at in
    answers_true message_view (mark_at x 44 at) (Inside (at + 1)) (Unexpected x at) c.message.result (sym c.is_mark.ensures.is ∙ c.if-is_mark.true) c.message.ensures.read

pub next_message-returns-clause-read : goal.next_message-returns-clause-read
next_message-returns-clause-read t c =
    let x = text_of c.args.self.now in
    let Inside = MessageAt x c.args.levels in
    let at = c.args.at in
    inr (choose_false (mark_at x 44 at) (Inside (at + 1)) (Unexpected x at) _ (sym c.is_mark.ensures.is ∙ c.if-is_mark.false) (ap Err c.unexpected.ensures))

pub messages-returns-in_err-first-clause-read : goal.messages-returns-in_err-first-clause-read
messages-returns-in_err-first-clause-read t c =
    let x = text_of c.args.self.now in
    let Inside = MessageAt x c.args.levels in
    let p = err_from_is_err_and c.from_residual.result c.from_residual.ensures.1 in
    rw (p.1, p.2) (then_answers_err (Inside c.args.at) (AfterMessage x Inside) _ c.in_err-first.ensures.read)

pub messages-returns-clause-read : goal.messages-returns-clause-read
messages-returns-clause-read t c =
    let x = text_of c.args.self.now in
    let Inside = MessageAt x c.args.levels in
    then_answers (λ v. messages_view v.items) (Inside c.args.at) (AfterMessage x Inside) (message_view c.in_ok-first.first) c.in_ok-first.after c.more_messages.result c.in_ok-first.ensures.read
    (subst (λ ms. Answers (λ v. messages_view v.items) (MoreMessages x Inside ms c.in_ok-first.after) c.more_messages.result)
    (messages_push _ _ _ c.in_ok-push.ensures.items ∙ ap (λ vs. with_message (messages_view vs) (message_view c.in_ok-first.first)) c.new-items.ensures.items)
    c.more_messages.ensures.read)

-- ---- a message

one_less : (n : ℕ) → (n ≡ 0 → ⊥) → n ≡ suc (n - 1)
one_less n h = omega arith

pub message-returns-then-not-opens-clause-read : goal.message-returns-then-not-opens-clause-read
message-returns-then-not-opens-clause-read t c =
    inr (closed_message (text_of c.args.self.now) c.args.levels c.args.at (sym c.opens.ensures.is ∙ c.if-not-opens.true) _ (ap Err c.unexpected.ensures))

pub message-returns-then-levels-eq0-clause-read : goal.message-returns-then-levels-eq0-clause-read
message-returns-then-levels-eq0-clause-read t c =
    inr (deep_message (text_of c.args.self.now) c.args.levels c.args.at (sym c.opens.ensures.is ∙ c.if-not-opens.false) c.if-levels-eq0.true c.byte_at-byte.result c.byte_at-byte.ensures)

pub message-returns-in_err-fields-clause-read : goal.message-returns-in_err-fields-clause-read
message-returns-in_err-fields-clause-read t c =
    let x = text_of c.args.self.now in
    let less = c.args.levels - 1 in
    let p = err_from_is_err_and c.from_residual.result c.from_residual.ensures.1 in
    rw (p.1, p.2)
    (or_weaker
    (λ h. open_message x c.args.levels less c.args.at (one_less c.args.levels c.if-levels-eq0.false) (sym c.opens.ensures.is ∙ c.if-not-opens.false) _
    (then_err (FieldsAt x (MessageAt x less) (close.Mark (closing x c.args.at)) (c.args.at + 1)) (AsBraced x c.args.at) _
    (subst (λ k. FieldsAt x (MessageAt x less) (close.Mark k) (c.args.at + 1) (Err c.in_err-fields.field-0.0)) c.closing.ensures h)))
    c.in_err-fields.ensures.read)

pub message-returns-clause-read : goal.message-returns-clause-read
message-returns-clause-read t c =
    let x = text_of c.args.self.now in
    let less = c.args.levels - 1 in
    let fs = fields_view c.in_ok-fields.fields.items in
    let end = c.in_ok-fields.end in
    open_message x c.args.levels less c.args.at (one_less c.args.levels c.if-levels-eq0.false) (sym c.opens.ensures.is ∙ c.if-not-opens.false) _
    (then_ok (FieldsAt x (MessageAt x less) (close.Mark (closing x c.args.at)) (c.args.at + 1)) (AsBraced x c.args.at) fs end _
    (subst (λ k. FieldsAt x (MessageAt x less) (close.Mark k) (c.args.at + 1) (Ok (fs, end))) c.closing.ensures c.in_ok-fields.ensures.read)
    (ap (λ m. Ok (m, end + 1)) (message_view-roll c.byte_at-byte.result c.in_ok-fields.fields ∙ ap (λ n. (n, fs)) c.byte_at-byte.ensures)))

pub next_message-returns-then-is_mark-clause-within : goal.next_message-returns-then-is_mark-clause-within
next_message-returns-then-is_mark-clause-within t c = further c.message.result c.args.at (c.args.at + 1) (length c.args.self.now.tokens.now) (omega arith) c.message.ensures.within

pub messages-returns-clause-within : goal.messages-returns-clause-within
messages-returns-clause-within t c = further c.more_messages.result c.args.at c.in_ok-first.after (length c.args.self.now.tokens.now) (let w = c.in_ok-first.ensures.within.0 in omega arith) c.more_messages.ensures.within

pub value-returns-clause-within : goal.value-returns-clause-within
value-returns-clause-within t c = further c.after_colon.result c.args.at c.after_mark-from.result (length c.args.self.now.tokens.now) c.after_mark-from.ensures.more c.after_colon.ensures.within
