-- The pool that was taken out is the one that the handle holds.
use Rattle.std.proofs.Common.{◌≡◌, ◌<◌, ◌∙◌, Some, ap, inl, inr, refl, sym, length, rules}
use Rattle.pb_c_handles.specs.Held.{names_held, types_held}
use Rattle.pb_c.proofs.message.from_json.mb_message_from_json.Goals as goal

pub returns-in-Ok-clause-read : goal.returns-in-Ok-clause-read
returns-in-Ok-clause-read c done =
    let ts = c.deref.result.now.pool.value in
    let names = c.deref-3.result.now in
    let holds : types_held c.args.pool.now ≡ Some ts = search rules in
    let named : names_held c.args.pool.now ≡ Some names = search rules in
    let within : c.args.message_type < length ts.messages = search rules in
    let made = c.in-Ok.ensures.read in
    (ts, record { holds = holds; within = within }, (made.0, (names, named, rw c.rules_of-rules.ensures at made.1), c.hold.ensures ∙ ap (λ d. Some d) made.2))

pub returns-in-Ok-clause-accepted : goal.returns-in-Ok-clause-accepted
returns-in-Ok-clause-accepted c p has v text =
    let holds = rw (sym c.in-Some.ensures.taken) at has.holds in
    let same : c.deref.result.now.pool.value ≡ p = cc in
    let named = rw (sym c.in-Some.ensures.taken) at text.1 in
    let names : c.deref-3.result.now ≡ text.0 = cc in
    let made = c.in-Ok.ensures.accepted (rw same has.within) v (rw (same, names, c.rules_of-rules.ensures) text.2) in
    inl (refl, c.hold.ensures ∙ ap (λ d. Some d) (rw same at made))

pub returns-in-Ok-clause-refused : goal.returns-in-Ok-clause-refused
returns-in-Ok-clause-refused c p has f fault =
    let holds = rw (sym c.in-Some.ensures.taken) at has.holds in
    let same : c.deref.result.now.pool.value ≡ p = cc in
    let named = rw (sym c.in-Some.ensures.taken) at fault.1 in
    let names : c.deref-3.result.now ≡ fault.0 = cc in
    absurd (c.in-Ok.ensures.refused (rw same has.within) f (rw (same, names, c.rules_of-rules.ensures) fault.2))

pub returns-in-Err-clause-fault : goal.returns-in-Err-clause-fault
returns-in-Err-clause-fault c done empty typed memory =
    let ts = c.deref.result.now.pool.value in
    let names = c.deref-3.result.now in
    let holds : types_held c.args.pool.now ≡ Some ts = search rules in
    let named : names_held c.args.pool.now ≡ Some names = search rules in
    let within : c.args.message_type < length ts.messages = search rules in
    let bad = c.in-Err.ensures.fault typed memory in
    (ts, record { holds = holds; within = within }, (bad.0, (names, named, rw c.rules_of-rules.ensures at bad.1), bad.2))

pub returns-in-Err-clause-accepted : goal.returns-in-Err-clause-accepted
returns-in-Err-clause-accepted c p has v text =
    let holds = rw (sym c.in-Some.ensures.taken) at has.holds in
    let same : c.deref.result.now.pool.value ≡ p = cc in
    let named = rw (sym c.in-Some.ensures.taken) at text.1 in
    let names : c.deref-3.result.now ≡ text.0 = cc in
    inr (c.in-Err.ensures.accepted (rw same has.within) v (rw (same, names, c.rules_of-rules.ensures) text.2))

pub returns-in-Err-clause-refused : goal.returns-in-Err-clause-refused
returns-in-Err-clause-refused c p has f fault =
    let holds = rw (sym c.in-Some.ensures.taken) at has.holds in
    let same : c.deref.result.now.pool.value ≡ p = cc in
    let named = rw (sym c.in-Some.ensures.taken) at fault.1 in
    let names : c.deref-3.result.now ≡ fault.0 = cc in
    c.in-Err.ensures.refused (rw same has.within) f (rw (same, names, c.rules_of-rules.ensures) fault.2)
