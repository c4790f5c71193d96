use Rattle.std.proofs.Common.{◌≡◌, ◌∙◌, ◌-◌, ◌<◌, ◌^◌, ℕ, List, ap, sym, subst, rules, arith, Some, None, length, length-drop, take, drop}
use Rattle.std.proofs.lemmas.List.{length-take}
use Rattle.pb_wire.specs.Record.{len, group, group_of}
use Rattle.pb_wire.specs.Fault.{HasTag}
use Rattle.pb_wire.proofs.InsideLemmas.{records_spelled-AreRecords}
use Rattle.pb_schema.specs.View.{field_view}
use Rattle.pb_schema.specs.Kinds.{wire_type_of}
use Rattle.pb_value.proofs.GroupLemmas.{records_in-group_of}
use Rattle.pb_value.proofs.JudgeLemmas.{kind_named}
use Rattle.pb_validate.specs.Here.{here}
use Rattle.pb_validate.proofs.JudgeLemmas.{front_push}
use Rattle.std.specs.Prelude.{true, ◌==◌}
use Rattle.pb_value.proofs.Numbers.{number_is}
use Rattle.pb_find.specs.Found.{target, found}
use Rattle.pb_find.specs.View.{found_view}
use Rattle.pb_find.specs.Walk.{record_at}
use Rattle.pb_find.proofs.TargetLemmas.{target_is, reads_string}
use Rattle.pb_find.proofs.PassingLemmas.{front_join, breaks_later, one_more}
use Rattle.pb_find.proofs.WalkLemmas.{path_falls, at_none, map_match, not_read, broken, no_tag, message_value, all_of, group_value_of, no_group, no_message, no_cut_message, string_value, no_string, string_found, leads_number_two, leads_group, leads_message, inside_found}
use Rattle.pb_find.proofs.level.Level.+walking.Goals as goal

pub walk-returns-in_err-here : goal.walk-returns-in_err-here
walk-returns-in_err-here t c = at_none c.from_residual.result _ _ c.from_residual.ensures (broken c.args.self.now.group c.in_err-here.ensures)

pub walk-records-init : goal.walk-records-init
walk-records-init t c = let passed = c.in_ok-here.ensures in (passed.0, passed.1, sym (passed.2 (found_view c.args.before)))

pub walk-returns-in_default : goal.walk-returns-in_default
walk-returns-in_default t c =
    no_tag c.args.self.now.pool.now c.args.self.now.message_type.0 c.args.self.now.levels c.args.self.now.group c.args.self.now.bytes.now c.args.at c.records.here c.records.invariant.0 _
    c.records.invariant.1.front c.records.invariant.1.within (c.goes_on.ensures.goes_on c.records-test.true) c.in_default.ensures.fault

pub walk-target_found-requires : goal.walk-target_found-requires
walk-target_found-requires t c = (
  search rules,
  record {
    can = c.requires.can;
    end_in_bounds = c.in-Ok.ensures.within.1;
    is_tag = subst (λ (n : ℕ). HasTag (here c.args.self.now.bytes.now n None) c.in-Ok.tag.number c.in-Ok.tag.wire_type (here c.args.self.now.bytes.now c.in-Ok.tag.end None)) (sym c.in-Ok.ensures.within.2) c.in-Ok.ensures.ok;
    no_end = c.if-tag-eq4.false;
  },
)

pub walk-returns-in_err-end : goal.walk-returns-in_err-end
walk-returns-in_err-end t c =
    at_none c.from_residual-in_err-end.result _ _ c.from_residual-in_err-end.ensures
    (not_read c.args.self.now.pool.now c.args.self.now.message_type.0 c.args.self.now.levels c.in-Ok.tag.number c.in-Ok.tag.wire_type c.args.self.now.group (here c.args.self.now.bytes.now c.args.at None)
    (here c.args.self.now.bytes.now c.records.here None) (here c.args.self.now.bytes.now c.in-Ok.tag.end None)
    c.records.invariant.0 c.records.invariant.1.front c.in-Ok.ensures.ok c.if-tag-eq4.false c.in_err-end.ensures)

pub walk-returns-in_err-next : goal.walk-returns-in_err-next
walk-returns-in_err-next t c =
    let it = c.in_ok-end.ensures in
    at_none c.from_residual-in_err-next.result _ _ c.from_residual-in_err-next.ensures
    (broken c.args.self.now.group (breaks_later _ (front_push c.records.invariant.0 it.0 c.records.invariant.1.front c.in-Ok.ensures.ok it.1.value) c.in_err-next.ensures))

pub walk-records-preserved : goal.walk-records-preserved
walk-records-preserved t c =
    let moved = c.in-Ok.ensures.within in
    let it = c.in_ok-end.ensures in
    let passed = c.in_ok-next.ensures in (
      _,
      record {
        rises = let h = c.records.invariant.1.rises in let i = it.1.rises in let p = passed.1.rises in omega (arith, h, moved, i, p);
        within = passed.1.within;
        front = front_join _ _ (front_push c.records.invariant.0 it.0 c.records.invariant.1.front c.in-Ok.ensures.ok it.1.value) passed.1.front;
      },
      one_more c.args.self.now (found_view c.args.before) (found_view c.records.found) _ c.records.invariant.0 (record_at c.in-Ok.tag.number it.0) passed.0 c.records.invariant.2 it.2 passed.2,
    )

pub target_found-message_found-requires : goal.target_found-message_found-requires
target_found-message_found-requires t c =
    let own = c.in-Some.own in
    let at : target c.args.self.now.pool.now c.args.self.now.message_type.0 own.field.now.number ≡ Some (field_view own.field.now) = rw c.in-Some.is at c.requires.can.own in (
      search rules,
      (
        c.requires,
        record {
          field = own.field;
          is = c.in-Some.is;
          number = cc;
          fits = cc;
          inner = sym c.in-Some-message.ensures.named;
          of_pool = c.in-Some-message.ensures.within (length c.args.self.now.pool.now.messages) (length c.args.self.now.pool.now.enums)
              (kind_named c.args.self.now.pool.now c.args.self.now.message_type.0 own.field.now.number (field_view own.field.now) c.requires.can.rules
              (target_is c.args.self.now.pool.now c.args.self.now.message_type.0 own.field.now.number (field_view own.field.now) at).0);
        },
      ),
    )

pub target_found-returns-in_err-end : goal.target_found-returns-in_err-end
target_found-returns-in_err-end t c =
    let own = c.in-Some.own in
    let at : target c.args.self.now.pool.now c.args.self.now.message_type.0 own.field.now.number ≡ Some (field_view own.field.now) = rw c.in-Some.is at c.requires.can.own in
    let is = target_is c.args.self.now.pool.now c.args.self.now.message_type.0 own.field.now.number (field_view own.field.now) at in
    let number : c.args.tag.number ≡ own.field.now.number = cc in
    let fits : c.args.tag.wire_type ≡ wire_type_of own.field.now.kind = cc in
    at_none c.from_residual.result _ _ c.from_residual.ensures
    (no_string c.args.self.now.pool.now c.args.self.now.message_type.0 c.args.self.now.levels c.args.tag.number c.args.tag.wire_type (here c.args.self.now.bytes.now c.args.tag.end None)
    (fits ∙ ap wire_type_of c.in-Text.is) (rw number (reads_string c.args.self.now.pool.now c.args.self.now.message_type.0 (field_view own.field.now) is.0 is.1 c.in-Text.is)) c.in_err-end.ensures)

pub target_found-returns : goal.target_found-returns
target_found-returns t c =
    let own = c.in-Some.own in
    let at : target c.args.self.now.pool.now c.args.self.now.message_type.0 own.field.now.number ≡ Some (field_view own.field.now) = rw c.in-Some.is at c.requires.can.own in
    let is = target_is c.args.self.now.pool.now c.args.self.now.message_type.0 own.field.now.number (field_view own.field.now) at in
    let number : c.args.tag.number ≡ own.field.now.number = cc in
    let fits : c.args.tag.wire_type ≡ wire_type_of own.field.now.kind = cc in
    let empty : (length own.rest.now == 0) ≡ true = cc in
    let it = c.in_ok-end.ensures in (
      len c.in_ok-end.string.now,
      record {
        rises = it.0;
        within = it.1;
        value = string_value c.args.self.now.pool.now c.args.self.now.message_type.0 c.args.self.now.levels c.args.tag.number c.args.tag.wire_type (here c.args.self.now.bytes.now c.args.tag.end None)
            (here c.args.self.now.bytes.now c.in_ok-end.end None) c.in_ok-end.string.now (fits ∙ ap wire_type_of c.in-Text.is)
            (rw number (reads_string c.args.self.now.pool.now c.args.self.now.message_type.0 (field_view own.field.now) is.0 is.1 c.in-Text.is)) it.2 it.3;
      },
      c.kept.ensures
          ∙ string_found c.args.self.now own c.args.tag.number (found_view c.args.before) c.in_ok-end.string.now c.in-Some.is c.requires.can number c.in-Text.is (number_is (length own.rest.now) 0 empty),
    )

pub message_found-walk_inside-requires : goal.message_found-walk_inside-requires
message_found-walk_inside-requires t c =
    let most = c.requires.after.can.levels in
    let less = path_falls c.args.self.now.target c.target_of-target.result (record { field = c.requires.leads.field; rest = c.args.rest }) c.requires.leads.is c.target_of-target.ensures.shorter in (
      search (rules, less),
      record {
        can = record {
          rules = c.requires.after.can.rules;
          of_pool = c.requires.leads.of_pool;
          levels = omega (arith, most);
          small = c.requires.after.can.small;
          own = c.target_of-target.ensures.own;
        };
        at_in_bounds = c.requires.after.end_in_bounds;
      },
    )

pub message_found-returns-then-tag-eq3 : goal.message_found-returns-then-tag-eq3
message_found-returns-then-tag-eq3 t c =
    let read = leads_group c.args.self.now c.args.tag c.args.inner.0 c.args.rest c.requires.after.can c.requires.leads c.if-tag-eq3.true in
    map_match c.walk_inside.result _ _ _ _
    (λ none.
    no_group c.args.self.now.pool.now c.args.self.now.message_type.0 c.args.inner.0 c.args.self.now.levels c.args.tag.number c.args.tag.wire_type (here c.args.self.now.bytes.now c.args.tag.end None)
    c.if-tag-eq3.true c.requires.after.is_tag.number read none)
    (λ r h. (
      group (group_of h.2),
      record {
        rises = h.0;
        within = h.1;
        value = group_value_of c.args.self.now.pool.now c.args.self.now.message_type.0 c.args.inner.0 c.args.self.now.levels c.args.tag.number c.args.tag.wire_type
            (here c.args.self.now.bytes.now c.args.tag.end None) (here c.args.self.now.bytes.now r.0 None) h.2 (omega (arith, c.if-self-eq0.false)) c.if-tag-eq3.true read h.3;
      },
      h.4 ∙ c.target_of-target.ensures.found (found_view c.args.before) h.2
          ∙ ap (found c.args.self.now.pool.now c.args.rest.now c.args.inner.0 (found_view c.args.before)) (sym (records_in-group_of h.2))
          ∙ inside_found c.args.self.now c.args.tag c.args.inner.0 c.args.rest c.requires.after.can c.requires.leads (found_view c.args.before) (group (group_of h.2)) (sym c.if-tag-eq3.true),
    ))
    c.walk_inside.ensures

pub message_found-returns-in_default : goal.message_found-returns-in_default
message_found-returns-in_default t c =
    no_cut_message c.args.self.now.pool.now c.args.self.now.message_type.0 c.args.self.now.levels c.args.tag.number c.args.tag.wire_type (here c.args.self.now.bytes.now c.args.tag.end None) _
    (leads_number_two c.args.self.now c.args.tag c.args.inner.0 c.args.rest c.requires.after.can c.requires.leads c.if-tag-eq3.false) c.in_default.ensures.fault

pub message_found-walk_inside-requires-2 : goal.message_found-walk_inside-requires-2
message_found-walk_inside-requires-2 t c =
    let most = c.requires.after.can.levels in
    let less = path_falls c.args.self.now.target c.target_of-target.result (record { field = c.requires.leads.field; rest = c.args.rest }) c.requires.leads.is c.target_of-target.ensures.shorter in
    let taken = length-take (c.in-Ok.end - c.in-Ok.start) (drop c.in-Ok.start c.args.self.now.bytes.now) in
    let left = length-drop c.in-Ok.start c.args.self.now.bytes.now in
    let small = c.requires.after.can.small in (
      search (rules, less),
      record {
        can = record {
          rules = c.requires.after.can.rules;
          of_pool = c.requires.leads.of_pool;
          levels = omega (arith, most);
          small = omega (arith, taken, left, small);
          own = c.target_of-target.ensures.own;
        };
        at_in_bounds = omega arith;
      },
    )

pub message_found-returns-in_err-found : goal.message_found-returns-in_err-found
message_found-returns-in_err-found t c =
    at_none c.from_residual.result _ _ c.from_residual.ensures
    (no_message c.args.self.now.pool.now c.args.self.now.message_type.0 c.args.inner.0 c.args.self.now.levels c.args.tag.number c.args.tag.wire_type c.args.self.now.bytes.now c.args.tag.end c.in-Ok.start c.in-Ok.end
    (leads_number_two c.args.self.now c.args.tag c.args.inner.0 c.args.rest c.requires.after.can c.requires.leads c.if-tag-eq3.false)
    (leads_message c.args.self.now c.args.tag c.args.inner.0 c.args.rest c.requires.after.can c.requires.leads c.if-tag-eq3.false)
    c.in-Ok.ensures.ok c.in_err-found.ensures)

pub message_found-returns : goal.message_found-returns
message_found-returns t c =
    let two : c.args.tag.wire_type ≡ 2 = leads_number_two c.args.self.now c.args.tag c.args.inner.0 c.args.rest c.requires.after.can c.requires.leads c.if-tag-eq3.false in
    let s : List ℕ = take (c.in-Ok.end - c.in-Ok.start) (drop c.in-Ok.start c.args.self.now.bytes.now) in
    let w = c.in-Ok.ensures.within in
    let it = c.in_ok-found.ensures in
    let all = all_of c.args.self.now.pool.now c.args.inner.0 (c.args.self.now.levels - 1) s _ it.2 it.1 it.3 in
    let size : length s < 2 ^ 64 = (let taken = length-take (c.in-Ok.end - c.in-Ok.start) (drop c.in-Ok.start c.args.self.now.bytes.now) in let left = length-drop c.in-Ok.start c.args.self.now.bytes.now in let small = c.requires.after.can.small in omega (arith, taken, left, small)) in (
      len s,
      record {
        rises = omega (arith, w);
        within = w.2;
        value = message_value c.args.self.now.pool.now c.args.self.now.message_type.0 c.args.inner.0 c.args.self.now.levels c.args.tag.number c.args.tag.wire_type c.args.self.now.bytes.now c.args.tag.end c.in-Ok.start c.in-Ok.end it.2
            (omega (arith, c.if-self-eq0.false)) two (leads_message c.args.self.now c.args.tag c.args.inner.0 c.args.rest c.requires.after.can c.requires.leads c.if-tag-eq3.false)
            c.in-Ok.ensures.ok w.1 w.2 all.0 all.1;
      },
      it.4 ∙ c.target_of-target.ensures.found (found_view c.args.before) it.2
          ∙ ap (found c.args.self.now.pool.now c.args.rest.now c.args.inner.0 (found_view c.args.before)) (sym (records_spelled-AreRecords it.2 s all.0 size))
          ∙ inside_found c.args.self.now c.args.tag c.args.inner.0 c.args.rest c.requires.after.can c.requires.leads (found_view c.args.before) (len s) (sym two),
    )
