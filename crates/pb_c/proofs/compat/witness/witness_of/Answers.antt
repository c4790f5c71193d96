-- What shows that the difference breaks is a message of the type with which the comparison began.
use Rattle.std.proofs.Common.{◌≡◌, ℕ, sym, subst}
use Rattle.std.specs.Prelude.{true, false}
use Rattle.pb_compat.specs.Nested.{IsReachedFrom, IsFoundWhereNear, IsNestedWitness}
use Rattle.pb_compat.specs.Pairs.{IsComparison}
use Rattle.pb_c.specs.Shown.{IsPairAt, IsShown}
use Rattle.pb_c.proofs.Showing.{shown_by, unshown_absent, unshown_by}
use Rattle.pb_c.proofs.compat.witness.witness_of.Goals as goal

pub returns-in-Ok-boxed-clause-shown : goal.returns-in-Ok-boxed-clause-shown
returns-in-Ok-boxed-clause-shown c =
    let old = c.args.old.now.value in let new = c.args.new.now in let m = c.args.old_type in let n = c.args.new_type in let d = c.args.difference.now in
    let cs = c.in-Ok.compared.items in let i = c.in-Some-pair_index.index in let w = c.in-Ok-Some.message in
    let types = c.deref-4.ensures in let pairs = c.deref-5.ensures.value in let made = c.in-Ok-Some.field-0-is in
    let from = c.in-Some.ensures.found.0 in let to = c.in-Some-type_numbered.ensures.found.0 in
    let compared : IsComparison old new (m, n) cs = rw (c.deref-2.ensures, from, to) at c.in-Ok.ensures.compared in
    let began : (start : ℕ × ℕ) (k j : ℕ) → IsReachedFrom cs start k j → start ≡ (m, n) = rw (from, to) at c.in-Ok.ensures.began in
    let at : IsPairAt cs i d = rw c.deref-3.ensures.value at c.in-Some-pair_index.ensures.found in
    let near : IsFoundWhereNear old new cs i d.number true = rw (types, pairs, made) at c.in-Ok-Some.ensures.reachable in
    let nested : IsNestedWitness old new cs i w.kind w.body = rw (types, pairs, made) at c.in-Ok-Some.ensures.shown in
    let pool : w.pool ≡ old = rw (types, made) at c.in-Ok-Some.ensures.typed in
    subst (IsShown old new m n d) (sym c.in-Ok-boxed.ensures.same)
    (shown_by old new m n cs d compared i w began at near pool nested)

pub returns-in_default-pair_index-clause-absent : goal.returns-in_default-pair_index-clause-absent
returns-in_default-pair_index-clause-absent c =
    let old = c.args.old.now.value in let new = c.args.new.now in let m = c.args.old_type in let n = c.args.new_type in let d = c.args.difference.now in
    let cs = c.in-Ok.compared.items in
    let from = c.in-Some.ensures.found.0 in let to = c.in-Some-type_numbered.ensures.found.0 in
    let compared : IsComparison old new (m, n) cs = rw (c.deref-2.ensures, from, to) at c.in-Ok.ensures.compared in
    let none : (i : ℕ) → ¬ IsPairAt cs i d = rw c.deref-3.ensures.value at c.in_default-pair_index.ensures.none in
    λ e. unshown_absent old new m n cs d compared none

pub returns-in-Ok-None-clause-absent : goal.returns-in-Ok-None-clause-absent
returns-in-Ok-None-clause-absent c =
    let old = c.args.old.now.value in let new = c.args.new.now in let m = c.args.old_type in let n = c.args.new_type in let d = c.args.difference.now in
    let cs = c.in-Ok.compared.items in let i = c.in-Some-pair_index.index in
    let types = c.deref-4.ensures in let pairs = c.deref-5.ensures.value in let made = c.in-Ok-None.field-0-is in
    let from = c.in-Some.ensures.found.0 in let to = c.in-Some-type_numbered.ensures.found.0 in
    let compared : IsComparison old new (m, n) cs = rw (c.deref-2.ensures, from, to) at c.in-Ok.ensures.compared in
    let at : IsPairAt cs i d = rw c.deref-3.ensures.value at c.in-Some-pair_index.ensures.found in
    let near : IsFoundWhereNear old new cs i d.number false = rw (types, pairs, made) at c.in-Ok-None.ensures.reachable in
    λ e. unshown_by old new m n cs d compared i at near
