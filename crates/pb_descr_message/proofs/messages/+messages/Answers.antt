use Rattle.std.proofs.Common.{◌≡◌, ◌<◌, ◌≤◌, map, length, List, get_or, arith, subst}
use Rattle.std.proofs.lemmas.Result.{err_from_is_err_and}
use Rattle.pb_value.specs.Data.{levels_of, datums_depth, datums_of}
use Rattle.pb_value.specs.View.{value_view}
use Rattle.pb_declarations.specs.declared.decl.MessageDecl.{MessageDecl}
use Rattle.pb_declarations.specs.Decls.{messages_of}
use Rattle.pb_declarations.specs.View.{message_view}
use Rattle.pb_descr_message.specs.Writing.{message_body, message_bodies}
use Rattle.pb_descr_message.proofs.DepthLemmas.{message_below, bodies_done, cut_further}
use Rattle.std.specs.List.{AllByRecursion}
use Rattle.pb_schema.proofs.AddLemmas.{take_past}
use Rattle.pb_declarations.specs.Nests.{nests}
use Rattle.pb_descr_message.proofs.NestLemmas.{nest_each, taken_and_next, written_next}
use Rattle.pb_descr_message.proofs.messages.+messages.Goals as goal

pub message_values-returns-in_err-value-clause-refused : goal.message_values-returns-in_err-value-clause-refused
message_values-returns-in_err-value-clause-refused t c =
    let p = err_from_is_err_and c.from_residual-in_err-value.result c.from_residual-in_err-value.ensures.1 in
    let same = c.deref-declared-items.ensures.value in
    let within : c.loop-declared.declared-index < length c.args.messages.now.items = subst (λ (ms : List MessageDecl). c.loop-declared.declared-index < length ms) same c.loop-declared-test.true in
    let is : c.declared-item.result ≡ get_or c.args.messages.now.items c.loop-declared.declared-index c.declared-item.result =
    subst (λ (ms : List MessageDecl). c.declared-item.result ≡ get_or ms c.loop-declared.declared-index c.declared-item.result) same c.declared-item.is in
    let below = message_below c.args.messages.now.items c.loop-declared.declared-index c.declared-item.result within is in
    rw (p.1, p.2) (cut_further c.in_err-value.field-0.0 c.args.depth_left (levels_of (message_body (message_view c.declared-item.result))) c.args.depth_left
    (datums_depth (datums_of (message_bodies (messages_of (map message_view c.args.messages.now.items))))) (λ deep. omega arith) c.in_err-value.ensures.refused)

pub message_values-returns-clause-written : goal.message_values-returns-clause-written
message_values-returns-clause-written t c =
    bodies_done (map value_view c.loop-declared.values.items) c.args.messages.now.items c.loop-declared.declared-index
    (subst (λ (ms : List MessageDecl). length ms ≤ c.loop-declared.declared-index) c.deref-declared-items.ensures.value c.loop-declared-test.false) c.loop-declared.invariant.written

pub message_values-returns-clause-within : goal.message_values-returns-clause-within
message_values-returns-clause-within t c =
    let same = c.deref-declared-items.ensures.value in
    let past = subst (λ (ms : List MessageDecl). length ms ≤ c.loop-declared.declared-index) same c.loop-declared-test.false in
    nest_each c.args.depth_left (map message_view c.args.messages.now.items)
    (subst (λ (ms : List MessageDecl). AllByRecursion (λ m. nests m ≤ c.args.depth_left) (map message_view ms)) (take_past c.args.messages.now.items c.loop-declared.declared-index past) c.loop-declared.invariant.within)

pub message_values-loop-declared-preserved : goal.message_values-loop-declared-preserved
message_values-loop-declared-preserved t c =
    let same = c.deref-declared-items.ensures.value in
    let less : c.loop-declared.declared-index < length c.args.messages.now.items = subst (λ (ms : List MessageDecl). c.loop-declared.declared-index < length ms) same c.loop-declared-test.true in
    let is : c.declared-item.result ≡ get_or c.args.messages.now.items c.loop-declared.declared-index c.declared-item.result =
    subst (λ (ms : List MessageDecl). c.declared-item.result ≡ get_or ms c.loop-declared.declared-index c.declared-item.result) same c.declared-item.is in
    record {
      written = written_next value_view message_body message_view c.args.messages.now.items c.loop-declared.declared-index c.declared-item.result c.loop-declared.values.items c.push.new.self.items c.in_ok-value.value less is c.in_ok-push.ensures.items c.in_ok-value.ensures.written c.loop-declared.invariant.written;
      within = taken_and_next (λ m. nests m ≤ c.args.depth_left) message_view c.args.messages.now.items c.loop-declared.declared-index c.declared-item.result less is c.loop-declared.invariant.within c.in_ok-value.ensures.within;
    }
