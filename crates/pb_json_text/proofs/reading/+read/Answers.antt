use Rattle.std.proofs.Common.{rules, ◌≡◌, ◌<◌, ◌+◌, ◌-◌, ℕ, suc, drop, refl, sym, ap, ◌∙◌, arith, inr}
use Rattle.std.proofs.lemmas.Result.{err_from_is_err_and, IfOk-weaker}
use Rattle.pb_json_text.specs.declared.fault.JsonCause.TheVariants as cause
use Rattle.pb_json_text.specs.declared.value.JsonForm.{JsonForm}
use Rattle.pb_json_text.specs.Grammar.{is_blank}
use Rattle.pb_json_text.specs.Json.{Json, array, object, no_elements, no_members}
use Rattle.pb_json_text.specs.View.{form_view, elements_view, members_view}
use Rattle.pb_json_text.specs.Loops.Machine.{in_array, in_object, in_brackets, in_braces, after_value, run}
use Rattle.pb_json_text.specs.Loops.States.{run_begin, run_name}
use Rattle.pb_json_text.specs.Loops.Values.{IsRead}
use Rattle.pb_json_text.proofs.Forward.{skips_brackets, skips_braces}
use Rattle.pb_json_text.proofs.Steps.{stop_is}
use Rattle.pb_json_text.proofs.ReadingSteps.{stop_as, array_begins, object_begins, byte_at, first_at, first_name_at, element_more, element_last, element_wrong, comma_cut}
use Rattle.pb_json_text.proofs.ReadingSteps.{member_more, member_last, member_wrong, name_cut, name_to, colon_to, colon_cut, colon_wanted}
use Rattle.pb_json_text.proofs.ViewLemmas.{form_view-Array, form_view-Object, value_view-parts, member_view-parts, items_push, named_push}
use Rattle.std.specs.Prelude.{string_bytes}
use Rattle.std.proofs.lemmas.Str.{IsCharBoundary-after_ascii}
use Rattle.pb_json_text.proofs.reading.+read.Goals as goal

one_less : (n : ℕ) → 0 < n → suc (n - 1) ≡ n
one_less n l = omega arith

some_level : (n : ℕ) → (n ≡ 0 → ⊥) → 0 < n
some_level n h = omega arith

pub array-returns-in_err-items-clause-fault : goal.array-returns-in_err-items-clause-fault
array-returns-in_err-items-clause-fault t c =
    let p = err_from_is_err_and c.from_residual.result c.from_residual.ensures.1 in
    rw (p.1, p.2) (λ k. stop_as c.in_err-items.field-0.0 _ _ (array_begins c.args.input.now c.args.at c.args.levels k (first_of (omega arith, search rules)) (first_of (omega arith, search rules)) (some_level c.args.levels c.if-levels-eq0.false)) (c.in_err-items.ensures.fault c.args.at k))

pub array-returns-clause-ok : goal.array-returns-clause-ok
array-returns-clause-ok t c =
    let b = c.args.input.now in
    let l = c.args.levels in
    let end = c.in_ok-items.end in
    let r = c.in_ok-items.ensures.ok in
    let r0 = r.0 in
    let more = some_level c.args.levels c.if-levels-eq0.false in (
      omega arith,
      r.1,
      λ k. array_begins b c.args.at l k (first_of (omega arith, search rules)) (first_of (omega arith, search rules)) more ∙ r.2 c.args.at k
          ∙ ap (λ (n : ℕ). run (after_value n c.args.at (array (elements_view c.in_ok-items.items.items)) k) end (drop end b)) (one_less l more)
          ∙ ap (λ (j : Json). run (after_value l c.args.at j k) end (drop end b)) (sym (form_view-Array c.in_ok-items.items)),
    )

pub object-returns-in_err-all-clause-fault : goal.object-returns-in_err-all-clause-fault
object-returns-in_err-all-clause-fault t c =
    let p = err_from_is_err_and c.from_residual.result c.from_residual.ensures.1 in
    rw (p.1, p.2) (λ k. stop_as c.in_err-all.field-0.0 _ _ (object_begins c.args.input.now c.args.at c.args.levels k (first_of (omega arith, search rules)) (first_of (omega arith, search rules)) (some_level c.args.levels c.if-levels-eq0.false)) (c.in_err-all.ensures.fault c.args.at k))

pub object-returns-clause-ok : goal.object-returns-clause-ok
object-returns-clause-ok t c =
    let b = c.args.input.now in
    let l = c.args.levels in
    let end = c.in_ok-all.end in
    let r = c.in_ok-all.ensures.ok in
    let r0 = r.0 in
    let more = some_level c.args.levels c.if-levels-eq0.false in (
      omega arith,
      r.1,
      λ k. object_begins b c.args.at l k (first_of (omega arith, search rules)) (first_of (omega arith, search rules)) more ∙ r.2 c.args.at k
          ∙ ap (λ (n : ℕ). run (after_value n c.args.at (object (members_view c.in_ok-all.all.items)) k) end (drop end b)) (one_less l more)
          ∙ ap (λ (j : Json). run (after_value l c.args.at j k) end (drop end b)) (sym (form_view-Object c.in_ok-all.all)),
    )

pub elements-returns-then-first-eq93-clause-ok : goal.elements-returns-then-first-eq93-clause-ok
elements-returns-then-first-eq93-clause-ok t c =
    let b = c.args.input.now in
    let l = c.args.levels in
    let same = c.as_bytes-bytes.ensures.value in
    let w = rw same at c.in_ok-first.ensures.within in
    let byte = rw same at c.in_ok-first.ensures.byte in
    let w0 = w.0 in
    let w1 = w.1 in (
      omega arith,
      omega arith,
      λ a k. (rw same at c.in_ok-first.ensures.runs) (in_brackets l a k) (skips_brackets l a k)
          ∙ byte_at b c.in_ok-first.at 93 (in_brackets l a k) (after_value (suc l) a (array no_elements) k) w.1 (byte.0 ∙ c.if-first-eq93.true) refl
          ∙ ap (λ vs. run (after_value (suc l) a (array (elements_view vs)) k) (c.in_ok-first.at + 1) (drop (c.in_ok-first.at + 1) b)) (sym c.new-items.ensures.items),
    )

pub elements-items-init : goal.elements-items-init
elements-items-init t c =
    let b = c.args.input.now in
    let l = c.args.levels in
    let same = c.as_bytes-bytes.ensures.value in
    let w = rw same at c.in_ok-first.ensures.within in
    let byte = rw same at c.in_ok-first.ensures.byte in
    let w0 = w.0 in
    let w1 = w.1 in
    record {
      within = w.1;
      passed = w.0;
      runs = λ a k. (rw same at c.in_ok-first.ensures.runs) (in_brackets l a k) (skips_brackets l a k)
          ∙ first_at b c.in_ok-first.at l a k w.1 (ap is_blank byte.0 ∙ byte.1) (λ z. c.if-first-eq93.false (sym byte.0 ∙ z))
          ∙ ap (λ vs. run_begin l (in_array (elements_view vs) a k) c.in_ok-first.at (drop c.in_ok-first.at b)) (sym c.new-items.ensures.items);
    }

pub elements-returns-then-byte-eq93-clause-ok : goal.elements-returns-then-byte-eq93-clause-ok
elements-returns-then-byte-eq93-clause-ok t c =
    let b = c.args.input.now in
    let l = c.args.levels in
    let same = c.as_bytes-bytes.ensures.value in
    let w = rw same at c.in_ok-byte.ensures.within in
    let byte = rw same at c.in_ok-byte.ensures.byte in
    let w0 = w.0 in
    let w1 = w.1 in
    let v0 = c.in_ok-form.ensures.ok.0 in
    let passed = c.items.invariant.passed in (
      omega arith,
      omega arith,
      element_last b l c.items.at c.in_ok-form.end c.in_ok-byte.stop (form_view c.in_ok-form.form) (elements_view c.items.items.items) (elements_view c.push.new.self.items) (λ a k. run (in_brackets l a k) c.args.from (drop c.args.from b)) c.items.invariant.runs c.in_ok-form.ensures.ok.2 (rw same at c.in_ok-byte.ensures.runs) w.1 (byte.0 ∙ c.if-byte-eq93.true)
          (items_push _ _ _ c.items.at (form_view c.in_ok-form.form) c.in_ok-push.ensures.items (value_view-parts _)),
    )

pub elements-returns-then-byte-ne44-clause-fault : goal.elements-returns-then-byte-ne44-clause-fault
elements-returns-then-byte-ne44-clause-fault t c a k =
    let b = c.args.input.now in
    let l = c.args.levels in
    let same = c.as_bytes-bytes.ensures.value in
    let w = rw same at c.in_ok-byte.ensures.within in
    let byte = rw same at c.in_ok-byte.ensures.byte in
    let w0 = w.0 in
    let w1 = w.1 in
    let v0 = c.in_ok-form.ensures.ok.0 in
    let passed = c.items.invariant.passed in
    inr (stop_is c.unexpected.result c.in_ok-byte.stop cause.UnexpectedByte _ c.unexpected.ensures.byte c.unexpected.ensures.cause
    (element_wrong b l c.items.at c.in_ok-form.end c.in_ok-byte.stop (form_view c.in_ok-form.form) (elements_view c.items.items.items) (λ a k. run (in_brackets l a k) c.args.from (drop c.args.from b)) c.items.invariant.runs c.in_ok-form.ensures.ok.2 (rw same at c.in_ok-byte.ensures.runs) w.1 (ap is_blank byte.0 ∙ byte.1) (λ z. c.if-byte-ne44.true (sym byte.0 ∙ z)) (λ z. c.if-byte-eq93.false (sym byte.0 ∙ z)) a k))

pub elements-returns-in_err-next-clause-fault : goal.elements-returns-in_err-next-clause-fault
elements-returns-in_err-next-clause-fault t c =
    let b = c.args.input.now in
    let l = c.args.levels in
    let same = c.as_bytes-bytes.ensures.value in
    let w = rw same at c.in_ok-byte.ensures.within in
    let byte = rw same at c.in_ok-byte.ensures.byte in
    let w0 = w.0 in
    let w1 = w.1 in
    let v0 = c.in_ok-form.ensures.ok.0 in
    let passed = c.items.invariant.passed in
    let p = err_from_is_err_and c.from_residual-in_err-next.result c.from_residual-in_err-next.ensures.1 in
    rw (p.1, p.2) (comma_cut b l c.items.at c.in_ok-form.end c.in_ok-byte.stop (form_view c.in_ok-form.form) (elements_view c.items.items.items) (λ a k. run (in_brackets l a k) c.args.from (drop c.args.from b)) c.in_err-next.field-0.0 c.items.invariant.runs c.in_ok-form.ensures.ok.2 (rw same at c.in_ok-byte.ensures.runs) w.1 (byte.0 ∙ c.if-byte-ne44.false)
    (rw same at c.in_err-next.ensures.fault) (rw same at c.in_err-next.ensures.end).1)

pub elements-items-preserved : goal.elements-items-preserved
elements-items-preserved t c =
    let b = c.args.input.now in
    let l = c.args.levels in
    let same = c.as_bytes-bytes.ensures.value in
    let w = rw same at c.in_ok-byte.ensures.within in
    let byte = rw same at c.in_ok-byte.ensures.byte in
    let w0 = w.0 in
    let w1 = w.1 in
    let v0 = c.in_ok-form.ensures.ok.0 in
    let passed = c.items.invariant.passed in
    let w2 = rw same at c.in_ok-next.ensures.within in
    let byte2 = rw same at c.in_ok-next.ensures.byte in
    let w20 = w2.0 in
    record {
      within = w2.1;
      passed = omega arith;
      runs = element_more b l c.items.at c.in_ok-form.end c.in_ok-byte.stop c.in_ok-next.next (form_view c.in_ok-form.form) (elements_view c.items.items.items) (elements_view c.push.new.self.items) (λ a k. run (in_brackets l a k) c.args.from (drop c.args.from b)) c.items.invariant.runs c.in_ok-form.ensures.ok.2 (rw same at c.in_ok-byte.ensures.runs) w.1 (byte.0 ∙ c.if-byte-ne44.false)
          (rw same at c.in_ok-next.ensures.runs) w2.1 (ap is_blank byte2.0 ∙ byte2.1) (items_push _ _ _ c.items.at (form_view c.in_ok-form.form) c.in_ok-push.ensures.items (value_view-parts _));
    }

pub members-returns-then-first-eq125-clause-ok : goal.members-returns-then-first-eq125-clause-ok
members-returns-then-first-eq125-clause-ok t c =
    let b = c.args.input.now in
    let l = c.args.levels in
    let same = c.as_bytes-bytes.ensures.value in
    let w = rw same at c.in_ok-first.ensures.within in
    let byte = rw same at c.in_ok-first.ensures.byte in
    let w0 = w.0 in
    let w1 = w.1 in (
      omega arith,
      omega arith,
      λ a k. (rw same at c.in_ok-first.ensures.runs) (in_braces l a k) (skips_braces l a k)
          ∙ byte_at b c.in_ok-first.at 125 (in_braces l a k) (after_value (suc l) a (object no_members) k) w.1 (byte.0 ∙ c.if-first-eq125.true) refl
          ∙ ap (λ vs. run (after_value (suc l) a (object (members_view vs)) k) (c.in_ok-first.at + 1) (drop (c.in_ok-first.at + 1) b)) (sym c.new-items.ensures.items),
    )

pub members-items-init : goal.members-items-init
members-items-init t c =
    let b = c.args.input.now in
    let l = c.args.levels in
    let same = c.as_bytes-bytes.ensures.value in
    let w = rw same at c.in_ok-first.ensures.within in
    let byte = rw same at c.in_ok-first.ensures.byte in
    let w0 = w.0 in
    let w1 = w.1 in
    record {
      within = w.1;
      passed = w.0;
      runs = λ a k. (rw same at c.in_ok-first.ensures.runs) (in_braces l a k) (skips_braces l a k)
          ∙ first_name_at b c.in_ok-first.at l a k w.1 (ap is_blank byte.0 ∙ byte.1) (λ z. c.if-first-eq125.false (sym byte.0 ∙ z))
          ∙ ap (λ vs. run_name l a (members_view vs) k c.in_ok-first.at (drop c.in_ok-first.at b)) (sym c.new-items.ensures.items);
    }

pub members-returns-then-byte-eq125-clause-ok : goal.members-returns-then-byte-eq125-clause-ok
members-returns-then-byte-eq125-clause-ok t c =
    let b = c.args.input.now in
    let l = c.args.levels in
    let same = c.as_bytes-bytes.ensures.value in
    let w = rw same at c.in_ok-byte.ensures.within in
    let byte = rw same at c.in_ok-byte.ensures.byte in
    let w0 = w.0 in
    let w1 = w.1 in
    let v0 = c.in_ok-item.ensures.ok.0 in
    let passed = c.items.invariant.passed in (
      omega arith,
      omega arith,
      member_last b l c.items.at (string_bytes c.in_ok-item.item.name) c.in_ok-item.item.value.at c.in_ok-item.end c.in_ok-byte.stop (form_view c.in_ok-item.item.value.form) (members_view c.items.items.items) (members_view c.push.new.self.items) (λ a k. run (in_braces l a k) c.args.from (drop c.args.from b)) c.items.invariant.runs c.in_ok-item.ensures.ok.3 (rw same at c.in_ok-byte.ensures.runs) w.1 (byte.0 ∙ c.if-byte-eq125.true)
          (named_push _ _ c.in_ok-item.item (c.items.at, string_bytes c.in_ok-item.item.name, (c.in_ok-item.item.value.at, form_view c.in_ok-item.item.value.form)) c.in_ok-push.ensures.items (member_view-parts c.in_ok-item.item ∙ ap (λ (n : ℕ). (n, string_bytes c.in_ok-item.item.name, (c.in_ok-item.item.value.at, form_view c.in_ok-item.item.value.form))) c.in_ok-item.ensures.ok.2)),
    )

pub members-returns-then-byte-ne44-clause-fault : goal.members-returns-then-byte-ne44-clause-fault
members-returns-then-byte-ne44-clause-fault t c a k =
    let b = c.args.input.now in
    let l = c.args.levels in
    let same = c.as_bytes-bytes.ensures.value in
    let w = rw same at c.in_ok-byte.ensures.within in
    let byte = rw same at c.in_ok-byte.ensures.byte in
    let w0 = w.0 in
    let w1 = w.1 in
    let v0 = c.in_ok-item.ensures.ok.0 in
    let passed = c.items.invariant.passed in
    inr (stop_is c.unexpected.result c.in_ok-byte.stop cause.UnexpectedByte _ c.unexpected.ensures.byte c.unexpected.ensures.cause
    (member_wrong b l c.items.at (string_bytes c.in_ok-item.item.name) c.in_ok-item.item.value.at c.in_ok-item.end c.in_ok-byte.stop (form_view c.in_ok-item.item.value.form) (members_view c.items.items.items) (λ a k. run (in_braces l a k) c.args.from (drop c.args.from b)) c.items.invariant.runs c.in_ok-item.ensures.ok.3 (rw same at c.in_ok-byte.ensures.runs) w.1 (ap is_blank byte.0 ∙ byte.1) (λ z. c.if-byte-ne44.true (sym byte.0 ∙ z)) (λ z. c.if-byte-eq125.false (sym byte.0 ∙ z)) a k))

pub members-returns-in_err-next-clause-fault : goal.members-returns-in_err-next-clause-fault
members-returns-in_err-next-clause-fault t c =
    let b = c.args.input.now in
    let l = c.args.levels in
    let same = c.as_bytes-bytes.ensures.value in
    let w = rw same at c.in_ok-byte.ensures.within in
    let byte = rw same at c.in_ok-byte.ensures.byte in
    let w0 = w.0 in
    let w1 = w.1 in
    let v0 = c.in_ok-item.ensures.ok.0 in
    let passed = c.items.invariant.passed in
    let p = err_from_is_err_and c.from_residual-in_err-next.result c.from_residual-in_err-next.ensures.1 in
    rw (p.1, p.2) (name_cut b l c.items.at (string_bytes c.in_ok-item.item.name) c.in_ok-item.item.value.at c.in_ok-item.end c.in_ok-byte.stop (form_view c.in_ok-item.item.value.form) (members_view c.items.items.items) (λ a k. run (in_braces l a k) c.args.from (drop c.args.from b)) c.in_err-next.field-0.0 c.items.invariant.runs c.in_ok-item.ensures.ok.3 (rw same at c.in_ok-byte.ensures.runs) w.1 (byte.0 ∙ c.if-byte-ne44.false)
    (rw same at c.in_err-next.ensures.fault) (rw same at c.in_err-next.ensures.end).1)

pub members-items-preserved : goal.members-items-preserved
members-items-preserved t c =
    let b = c.args.input.now in
    let l = c.args.levels in
    let same = c.as_bytes-bytes.ensures.value in
    let w = rw same at c.in_ok-byte.ensures.within in
    let byte = rw same at c.in_ok-byte.ensures.byte in
    let w0 = w.0 in
    let w1 = w.1 in
    let v0 = c.in_ok-item.ensures.ok.0 in
    let passed = c.items.invariant.passed in
    let w2 = rw same at c.in_ok-next.ensures.within in
    let byte2 = rw same at c.in_ok-next.ensures.byte in
    let w20 = w2.0 in
    record {
      within = w2.1;
      passed = omega arith;
      runs = member_more b l c.items.at (string_bytes c.in_ok-item.item.name) c.in_ok-item.item.value.at c.in_ok-item.end c.in_ok-byte.stop c.in_ok-next.next (form_view c.in_ok-item.item.value.form) (members_view c.items.items.items) (members_view c.push.new.self.items) (λ a k. run (in_braces l a k) c.args.from (drop c.args.from b)) c.items.invariant.runs c.in_ok-item.ensures.ok.3 (rw same at c.in_ok-byte.ensures.runs) w.1 (byte.0 ∙ c.if-byte-ne44.false)
          (rw same at c.in_ok-next.ensures.runs) w2.1 (ap is_blank byte2.0 ∙ byte2.1) (named_push _ _ c.in_ok-item.item (c.items.at, string_bytes c.in_ok-item.item.name, (c.in_ok-item.item.value.at, form_view c.in_ok-item.item.value.form)) c.in_ok-push.ensures.items (member_view-parts c.in_ok-item.item ∙ ap (λ (n : ℕ). (n, string_bytes c.in_ok-item.item.name, (c.in_ok-item.item.value.at, form_view c.in_ok-item.item.value.form))) c.in_ok-item.ensures.ok.2));
    }

pub member-string-requires-clause-boundary : goal.member-string-requires-clause-boundary
member-string-requires-clause-boundary t c =
    let same = c.as_bytes-bytes.ensures.value in
    IsCharBoundary-after_ascii c.args.input.now c.args.at (rw same at c.as_bytes-bytes.ensures.utf8) (first_of (omega arith, search rules)) (let q = rw same at c.if-bytes-at-ne34.false in omega arith)

pub member-returns-then-byte-ne58-clause-fault : goal.member-returns-then-byte-ne58-clause-fault
member-returns-then-byte-ne58-clause-fault t c a ms k =
    let b = c.args.input.now in
    let l = c.args.levels in
    let same = c.as_bytes-bytes.ensures.value in
    let quote = rw same at c.if-bytes-at-ne34.false in
    let w = rw same at c.in_ok-byte.ensures.within in
    let byte = rw same at c.in_ok-byte.ensures.byte in
    inr (stop_is c.unexpected-then-byte-ne58.result c.in_ok-byte.colon cause.UnexpectedByte _ c.unexpected-then-byte-ne58.ensures.byte c.unexpected-then-byte-ne58.ensures.cause
    (name_to b l c.args.at (string_bytes c.in_ok-name.name) c.in_ok-name.after c.in_ok-byte.colon (first_of (omega arith, search rules)) quote c.in_ok-name.ensures.ok (rw same at c.in_ok-byte.ensures.runs) a ms k
    ∙ colon_wanted b c.in_ok-byte.colon l a ms c.args.at (string_bytes c.in_ok-name.name) k w.1 (ap is_blank byte.0 ∙ byte.1) (λ z. c.if-byte-ne58.true (sym byte.0 ∙ z))))

pub member-returns-in_err-value_at-clause-fault : goal.member-returns-in_err-value_at-clause-fault
member-returns-in_err-value_at-clause-fault t c =
    let b = c.args.input.now in
    let l = c.args.levels in
    let same = c.as_bytes-bytes.ensures.value in
    let quote = rw same at c.if-bytes-at-ne34.false in
    let w = rw same at c.in_ok-byte.ensures.within in
    let byte = rw same at c.in_ok-byte.ensures.byte in
    let p = err_from_is_err_and c.from_residual-in_err-value_at.result c.from_residual-in_err-value_at.ensures.1 in
    rw (p.1, p.2) (colon_cut b l c.args.at (string_bytes c.in_ok-name.name) c.in_ok-name.after c.in_ok-byte.colon c.in_err-value_at.field-0.0 (first_of (omega arith, search rules)) quote c.in_ok-name.ensures.ok (rw same at c.in_ok-byte.ensures.runs) w.1 (byte.0 ∙ c.if-byte-ne58.false)
    (rw same at c.in_err-value_at.ensures.fault) (rw same at c.in_err-value_at.ensures.end).1)

pub member-returns-in_err-form-clause-fault : goal.member-returns-in_err-form-clause-fault
member-returns-in_err-form-clause-fault t c =
    let b = c.args.input.now in
    let l = c.args.levels in
    let same = c.as_bytes-bytes.ensures.value in
    let quote = rw same at c.if-bytes-at-ne34.false in
    let w = rw same at c.in_ok-byte.ensures.within in
    let byte = rw same at c.in_ok-byte.ensures.byte in
    let w2 = rw same at c.in_ok-value_at.ensures.within in
    let byte2 = rw same at c.in_ok-value_at.ensures.byte in
    let p = err_from_is_err_and c.from_residual-in_err-form.result c.from_residual-in_err-form.ensures.1 in
    rw (p.1, p.2) (λ a ms k. stop_as c.in_err-form.field-0.0 _ _
    (colon_to b l c.args.at (string_bytes c.in_ok-name.name) c.in_ok-name.after c.in_ok-byte.colon c.in_ok-value_at.value_at (first_of (omega arith, search rules)) quote c.in_ok-name.ensures.ok (rw same at c.in_ok-byte.ensures.runs) w.1 (byte.0 ∙ c.if-byte-ne58.false)
    (rw same at c.in_ok-value_at.ensures.runs) w2.1 (ap is_blank byte2.0 ∙ byte2.1) a ms k)
    (c.in_err-form.ensures.fault (in_object ms a c.args.at (string_bytes c.in_ok-name.name) k)))

pub member-returns-clause-ok : goal.member-returns-clause-ok
member-returns-clause-ok t c =
    let b = c.args.input.now in
    let l = c.args.levels in
    let same = c.as_bytes-bytes.ensures.value in
    let quote = rw same at c.if-bytes-at-ne34.false in
    let w = rw same at c.in_ok-byte.ensures.within in
    let byte = rw same at c.in_ok-byte.ensures.byte in
    let w2 = rw same at c.in_ok-value_at.ensures.within in
    let byte2 = rw same at c.in_ok-value_at.ensures.byte in
    let n0 = c.in_ok-name.ensures.within.0 in
    let w0 = w.0 in
    let w20 = w2.0 in
    let f = c.in_ok-form.ensures.ok in
    let f0 = f.0 in (
      omega arith,
      f.1,
      refl,
      λ a ms k.
          colon_to b l c.args.at (string_bytes c.in_ok-name.name) c.in_ok-name.after c.in_ok-byte.colon c.in_ok-value_at.value_at (first_of (omega arith, search rules)) quote c.in_ok-name.ensures.ok (rw same at c.in_ok-byte.ensures.runs) w.1 (byte.0 ∙ c.if-byte-ne58.false)
          (rw same at c.in_ok-value_at.ensures.runs) w2.1 (ap is_blank byte2.0 ∙ byte2.1) a ms k
          ∙ f.2 (in_object ms a c.args.at (string_bytes c.in_ok-name.name) k),
    )

pub value-returns-then-byte-eq34-clause-ok : goal.value-returns-then-byte-eq34-clause-ok
value-returns-then-byte-eq34-clause-ok t c =
    IfOk-weaker c.string_value.result (λ (r : JsonForm × ℕ). (l : ℕ) → IsRead l c.args.at c.args.input.now r.0 r.1) (λ (r : JsonForm × ℕ). IsRead c.args.levels c.args.at c.args.input.now r.0 r.1)
    (λ r h. h c.args.levels) c.string_value.ensures.ok

pub value-returns-then-byte-eq45-clause-ok : goal.value-returns-then-byte-eq45-clause-ok
value-returns-then-byte-eq45-clause-ok t c =
    IfOk-weaker c.number_value.result (λ (r : JsonForm × ℕ). (l : ℕ) → IsRead l c.args.at c.args.input.now r.0 r.1) (λ (r : JsonForm × ℕ). IsRead c.args.levels c.args.at c.args.input.now r.0 r.1)
    (λ r h. h c.args.levels) c.number_value.ensures.ok

pub value-returns-then-byte-eq110-clause-ok : goal.value-returns-then-byte-eq110-clause-ok
value-returns-then-byte-eq110-clause-ok t c =
    IfOk-weaker c.null_value.result (λ (r : JsonForm × ℕ). (l : ℕ) → IsRead l c.args.at c.args.input.now r.0 r.1) (λ (r : JsonForm × ℕ). IsRead c.args.levels c.args.at c.args.input.now r.0 r.1)
    (λ r h. h c.args.levels) c.null_value.ensures.ok

pub value-returns-then-byte-eq116-clause-ok : goal.value-returns-then-byte-eq116-clause-ok
value-returns-then-byte-eq116-clause-ok t c =
    IfOk-weaker c.true_value.result (λ (r : JsonForm × ℕ). (l : ℕ) → IsRead l c.args.at c.args.input.now r.0 r.1) (λ (r : JsonForm × ℕ). IsRead c.args.levels c.args.at c.args.input.now r.0 r.1)
    (λ r h. h c.args.levels) c.true_value.ensures.ok

pub value-returns-then-byte-eq102-clause-ok : goal.value-returns-then-byte-eq102-clause-ok
value-returns-then-byte-eq102-clause-ok t c =
    IfOk-weaker c.false_value.result (λ (r : JsonForm × ℕ). (l : ℕ) → IsRead l c.args.at c.args.input.now r.0 r.1) (λ (r : JsonForm × ℕ). IsRead c.args.levels c.args.at c.args.input.now r.0 r.1)
    (λ r h. h c.args.levels) c.false_value.ensures.ok
