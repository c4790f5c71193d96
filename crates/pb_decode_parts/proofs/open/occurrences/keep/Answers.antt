use Rattle.std.proofs.Common.{arith}
use Rattle.std.proofs.lemmas.Bool.Decides.{nat_tests}
use Rattle.pb_decode_parts.proofs.CountLemmas.{none_before_at, none_in_gap, found-set, found-changed, found-push, found-entries}
use Rattle.pb_decode_parts.proofs.open.occurrences.keep.Goals as goal

pub returns-in-Ok-clause-kept : goal.returns-in-Ok-clause-kept
returns-in-Ok-clause-kept c =
    let at = rw c.deref.ensures.value at c.in-Ok.ensures.found in
    found-set c.args.run.now.items c.args.others.now.entries c.args.number c.args.count c.in-Ok.at at (none_before_at c.args.run.now.items c.args.number c.in-Ok.at c.requires.rising at)

pub returns-in_ok-insert-in-Err-clause-kept : goal.returns-in_ok-insert-in-Err-clause-kept
returns-in_ok-insert-in-Err-clause-kept c =
    let gap = rw c.deref.ensures.value at c.in-Err.ensures.absent in
    found-changed c.args.run.now.items c.args.others.now.entries c.insert.new.self.entries c.args.number c.args.count (none_in_gap c.args.run.now.items c.args.number c.in-Err.at gap) (λ q.
    let old = found-entries q c.args.others.now.entries in
    let new = found-entries q c.insert.new.self.entries in
    let change = c.in_ok-insert-in-Err.ensures.updates.0 q in
    grind (arith, nat_tests))

pub returns-in_ok-push-in-Err-2-clause-kept : goal.returns-in_ok-push-in-Err-2-clause-kept
returns-in_ok-push-in-Err-2-clause-kept c =
    let gap = rw c.deref.ensures.value at c.in-Err-2.ensures.absent in
    rw c.in_ok-push-in-Err-2.ensures.items (found-push c.args.run.now.items c.args.others.now.entries c.args.number c.args.count (none_in_gap c.args.run.now.items c.args.number _ gap))
