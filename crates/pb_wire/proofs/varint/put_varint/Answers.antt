use Rattle.std.proofs.Common.{List, ℕ, length, ◌<◌, arith, ◌∙◌, add-one, subst, sym}
use Rattle.std.proofs.lemmas.List.{take_more_set, length-set}
use Rattle.pb_wire.specs.Varint.{IsVarint}
use Rattle.pb_wire.proofs.ShortestLemmas.{shortest-is_varint}
use Rattle.pb_wire.proofs.VarintLemmas.{group_left, next_group, shortest-last, push_group}
use Rattle.pb_wire.proofs.varint.put_varint.Goals as goal

pub bounds-bytes-len : goal.bounds-bytes-len
bounds-bytes-len c = omega arith

pub overflow_add-len : goal.overflow_add-len
overflow_add-len c = omega arith

pub loop-rest-preserved : goal.loop-rest-preserved
loop-rest-preserved c =
    let within : c.loop-rest.len < 9 =
    group_left c.loop-rest.rest c.loop-rest.len c.loop-rest.invariant.1 c.loop-rest.invariant.2 c.loop-rest-test.true in (
      simp length-set (c.loop-rest.invariant.0),
      omega arith,
      rw add-one (next_group c.loop-rest.rest c.loop-rest.len c.loop-rest.invariant.2),
      push_group c.loop-rest.bytes c.loop-rest.len c.loop-rest.rest (omega arith) c.loop-rest-test.true ∙ c.loop-rest.invariant.3,
    )

pub overflow_add-result : goal.overflow_add-result
overflow_add-result c = omega arith

pub returns-clause-shortest : goal.returns-clause-shortest
returns-clause-shortest c =
    let in' : c.loop-rest.len < length c.loop-rest.bytes = omega arith in
    rw (take_more_set c.loop-rest.bytes c.loop-rest.len c.loop-rest.rest in') (rw (← shortest-last c.loop-rest.rest c.loop-rest-test.false) c.loop-rest.invariant.3)

pub returns-clause-spelled : goal.returns-clause-spelled
returns-clause-spelled c =
    subst (λ (v : List ℕ). IsVarint c.args.number v) (sym (returns-clause-shortest c)) (shortest-is_varint c.args.number (omega arith))
