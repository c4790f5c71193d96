-- The pool that was taken out is the one that the handle holds.
use Rattle.std.proofs.Common.{◌≡◌, ◌<◌, Some, List, ℕ, inl, inr, refl, sym, subst, length, rules}
use Rattle.pb_value.specs.Canon.{canon_bytes}
use Rattle.pb_c_answers.specs.Reporting.{IsLaid}
use Rattle.pb_c_handles.specs.Held.{names_held, types_held}
use Rattle.pb_c.proofs.typed.from_json.mb_from_json.Goals as goal

pub returns-in-Ok-clause-written : goal.returns-in-Ok-clause-written
returns-in-Ok-clause-written c done =
    let ts = c.deref-2.result.now in
    let names = c.deref-4.result.now in
    let holds : types_held c.args.pool.now ≡ Some ts = search rules in
    let named : names_held c.args.pool.now ≡ Some names = search rules in
    let within : c.args.message_type < length ts.messages = search rules in
    let made = c.in-Ok.ensures.read in
    let bytes = made.2 in
    let same : c.deref-in-Ok.result.now ≡ canon_bytes ts c.args.message_type made.0 = cc in
    let laid = subst (λ (b : List ℕ). IsLaid b c.args.out.now c.write_out.new.out c.write_out.new.size) same c.write_out.ensures in
    (ts, record { holds = holds; within = within }, (made.0, (names, named, rw c.rules_of-rules.ensures at made.1), made.3, laid))

pub returns-in-Ok-clause-accepted : goal.returns-in-Ok-clause-accepted
returns-in-Ok-clause-accepted c p has v text small =
    let holds = rw (sym c.in-Some.ensures.taken) at has.holds in
    let same : c.deref-2.result.now ≡ p = cc in
    let named = rw (sym c.in-Some.ensures.taken) at text.1 in
    let names : c.deref-4.result.now ≡ text.0 = cc in
    let made = c.in-Ok.ensures.accepted (rw same has.within) v (rw (same, names, c.rules_of-rules.ensures) text.2) (rw same small) in
    let bytes : c.deref-in-Ok.result.now ≡ canon_bytes p c.args.message_type v = cc in
    inl (refl, subst (λ (b : List ℕ). IsLaid b c.args.out.now c.write_out.new.out c.write_out.new.size) bytes c.write_out.ensures)

pub returns-in-Ok-clause-oversized : goal.returns-in-Ok-clause-oversized
returns-in-Ok-clause-oversized c p has v text large =
    let holds = rw (sym c.in-Some.ensures.taken) at has.holds in
    let same : c.deref-2.result.now ≡ p = cc in
    let named = rw (sym c.in-Some.ensures.taken) at text.1 in
    let names : c.deref-4.result.now ≡ text.0 = cc in
    absurd (c.in-Ok.ensures.oversized (rw same has.within) v (rw (same, names, c.rules_of-rules.ensures) text.2) (rw same large))

pub returns-in-Ok-clause-refused : goal.returns-in-Ok-clause-refused
returns-in-Ok-clause-refused c p has f fault =
    let holds = rw (sym c.in-Some.ensures.taken) at has.holds in
    let same : c.deref-2.result.now ≡ p = cc in
    let named = rw (sym c.in-Some.ensures.taken) at fault.1 in
    let names : c.deref-4.result.now ≡ fault.0 = cc in
    absurd (c.in-Ok.ensures.refused (rw same has.within) f (rw (same, names, c.rules_of-rules.ensures) fault.2))

pub returns-in-Err-clause-too_large : goal.returns-in-Err-clause-too_large
returns-in-Err-clause-too_large c is =
    let ts = c.deref-2.result.now in
    let names = c.deref-4.result.now in
    let holds : types_held c.args.pool.now ≡ Some ts = search rules in
    let named : names_held c.args.pool.now ≡ Some names = search rules in
    let within : c.args.message_type < length ts.messages = search rules in
    let big = c.in-Err.ensures.too_large (cc) in
    (ts, record { holds = holds; within = within }, (big.0, (names, named, rw c.rules_of-rules.ensures at big.1), big.2))

pub returns-in-Err-clause-fault : goal.returns-in-Err-clause-fault
returns-in-Err-clause-fault c done empty typed large memory =
    let ts = c.deref-2.result.now in
    let names = c.deref-4.result.now in
    let holds : types_held c.args.pool.now ≡ Some ts = search rules in
    let named : names_held c.args.pool.now ≡ Some names = search rules in
    let within : c.args.message_type < length ts.messages = search rules in
    let bad = c.in-Err.ensures.fault typed large memory in
    (ts, record { holds = holds; within = within }, (bad.0, (names, named, rw c.rules_of-rules.ensures at bad.1), bad.2))

pub returns-in-Err-clause-accepted : goal.returns-in-Err-clause-accepted
returns-in-Err-clause-accepted c p has v text small =
    let holds = rw (sym c.in-Some.ensures.taken) at has.holds in
    let same : c.deref-2.result.now ≡ p = cc in
    let named = rw (sym c.in-Some.ensures.taken) at text.1 in
    let names : c.deref-4.result.now ≡ text.0 = cc in
    inr (c.in-Err.ensures.accepted (rw same has.within) v (rw (same, names, c.rules_of-rules.ensures) text.2) (rw same small))

pub returns-in-Err-clause-oversized : goal.returns-in-Err-clause-oversized
returns-in-Err-clause-oversized c p has v text large =
    let holds = rw (sym c.in-Some.ensures.taken) at has.holds in
    let same : c.deref-2.result.now ≡ p = cc in
    let named = rw (sym c.in-Some.ensures.taken) at text.1 in
    let names : c.deref-4.result.now ≡ text.0 = cc in
    c.in-Err.ensures.oversized (rw same has.within) v (rw (same, names, c.rules_of-rules.ensures) text.2) (rw same large)

pub returns-in-Err-clause-refused : goal.returns-in-Err-clause-refused
returns-in-Err-clause-refused c p has f fault =
    let holds = rw (sym c.in-Some.ensures.taken) at has.holds in
    let same : c.deref-2.result.now ≡ p = cc in
    let named = rw (sym c.in-Some.ensures.taken) at fault.1 in
    let names : c.deref-4.result.now ≡ fault.0 = cc in
    c.in-Err.ensures.refused (rw same has.within) f (rw (same, names, c.rules_of-rules.ensures) fault.2)
