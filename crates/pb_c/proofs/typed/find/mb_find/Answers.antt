-- The pool that was taken out is the one that the handle holds.
use Rattle.std.proofs.Common.{◌≡◌, ◌≤◌, ◌+◌, ◌*◌, sym}
use Rattle.pb_decode.specs.Push.{IsFaultOf}
use Rattle.pb_c.proofs.FoundTelling.{fault_told, missing_told, refused_told, reported_told}
use Rattle.pb_c_answers.proofs.StepBounds.{of_message}
use Rattle.pb_c.proofs.typed.find.mb_find.Goals as goal

pub returns-clause-steps : goal.returns-clause-steps
returns-clause-steps c is =
    let pool = c.deref-4.result.now in let n = c.in-Some-type_numbered.of_type.0 in let limits = c.in-Some.limits in
    let bad =
    fault_told c.tell_found.result c.tell_found.new.value c.args.out.now c.tell_found.new.out c.tell_found.new.fault c.args.path.now c.tell_found.new.path
    c.find-found.result (IsFaultOf pool n limits c.args.bytes.now) c.tell_found.ensures.told c.find-found.ensures.fault is
    in
    let few : c.tell_found.new.fault.steps ≤ 2 * c.in-Some.limits.depth + 1 = of_message pool n bad.1 bad.2 in
    rw c.in-Some.ensures.1 at few

pub returns-clause-reported : goal.returns-clause-reported
returns-clause-reported c limits p has v text x is =
    let holds = rw (sym c.in-Some-take.ensures.taken) at has.holds in
    let same : c.deref-4.result.now ≡ p = cc in
    let n = c.in-Some-type_numbered.ensures.found.0 in
    let ok = c.find-found.ensures.accepted v (rw (same, n, c.in-Some.ensures.1) text) in
    let in_pool = rw same at ok in let of_type = rw n at in_pool in let there = rw is at of_type in
    reported_told c.tell_found.result c.tell_found.new.value c.args.out.now c.tell_found.new.out c.tell_found.new.fault c.args.path.now c.tell_found.new.path
    c.find-found.result x c.tell_found.ensures.told there

pub returns-clause-missing : goal.returns-clause-missing
returns-clause-missing c limits p has v text is =
    let holds = rw (sym c.in-Some-take.ensures.taken) at has.holds in
    let same : c.deref-4.result.now ≡ p = cc in
    let n = c.in-Some-type_numbered.ensures.found.0 in
    let ok = c.find-found.ensures.accepted v (rw (same, n, c.in-Some.ensures.1) text) in
    let in_pool = rw same at ok in let of_type = rw n at in_pool in let nothing = rw is at of_type in
    missing_told c.tell_found.result c.tell_found.new.value c.args.out.now c.tell_found.new.out c.tell_found.new.fault c.args.path.now c.tell_found.new.path
    c.find-found.result c.tell_found.ensures.told nothing

pub returns-clause-refused : goal.returns-clause-refused
returns-clause-refused c limits p has f fault =
    let holds = rw (sym c.in-Some-take.ensures.taken) at has.holds in
    let same : c.deref-4.result.now ≡ p = cc in
    let n = c.in-Some-type_numbered.ensures.found.0 in
    refused_told c.tell_found.result c.tell_found.new.value c.args.out.now c.tell_found.new.out c.tell_found.new.fault c.args.path.now c.tell_found.new.path
    c.find-found.result f c.tell_found.ensures.told (c.find-found.ensures.refused f (rw (same, n, c.in-Some.ensures.1) fault))
