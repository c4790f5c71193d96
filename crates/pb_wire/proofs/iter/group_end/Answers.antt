use Rattle.std.proofs.Common.{◌≡◌, ◌-◌, ◌<◌, suc, [], ◌∷◌, Some, arith, refl, ap, ◌∙◌}
use Rattle.std.proofs.lemmas.Result.{err_from_is_err_and}
use Rattle.pb_wire.specs.WireType.{code_of}
use Rattle.pb_wire.specs.Fault.{place, step}
use Rattle.pb_wire.specs.Fault.{fault as fault_with}
use Rattle.pb_wire.specs.Schema.{in_group}
use Rattle.pb_wire.specs.Grammar.{RecordFault}
use Rattle.pb_wire.specs.declared.fault.Cause.TheVariants.{TooDeep}
use Rattle.pb_wire.proofs.Nesting.{nested_room, nested_first, nested_more, nested_push, nested_pop, nested_last, nested_fault}
use Rattle.pb_wire.proofs.iter.group_end.Goals as goal

pub records-init : goal.records-init
records-init c = (
  omega arith,
  c.requires.start_in_bounds,
  c.args.max_depth - 1,
  rw c.new-groups.ensures (nested_first c.args.bytes.now c.args.number (c.args.max_depth - 1) c.args.start),
)

pub returns-in_err-inside-clause-fault : goal.returns-in_err-inside-clause-fault
returns-in_err-inside-clause-fault c =
    let p = err_from_is_err_and c.from_residual.result c.from_residual.ensures.1 in
    let e = p.0 in
    rw (p.1, p.2)
    (nested_fault c.args.bytes.now c.args.number (c.args.max_depth - 1) c.args.start c.records.invariant.2 c.records.groups c.records.here
    c.innermost.result (fault_with c.in_err-inside.field-0.0.byte [] c.in_err-inside.field-0.0.cause) c.records.invariant.3 c.innermost.ensures
    (RecordFault.tag {before = []} c.in_err-inside.ensures.fault))

pub returns-then-len-eq1-clause-ok : goal.returns-then-len-eq1-clause-ok
returns-then-len-eq1-clause-ok c =
    let last = nested_last c.args.bytes.now c.args.number (c.args.max_depth - 1) c.args.start c.records.invariant.2 c.records.groups c.records.here
    c.innermost.result c.records.invariant.3 c.innermost.ensures (let n = c.len.ensures in omega arith) in
    let named : Some c.innermost.result ≡ Some c.in_ok-inside.inside = c.in_ok-inside.ensures.ends (ap code_of c.in-EndGroup.is) in
    let same : c.in_ok-inside.inside ≡ c.args.number = let e = last.0 in cc in
    (last.1, last.2, rw (same, c.in-EndGroup.is) at c.in_ok-inside.ensures.ok)

pub records-preserved-in-EndGroup : goal.records-preserved-in-EndGroup
records-preserved-in-EndGroup c =
    let named : Some c.innermost.result ≡ Some c.in_ok-inside.inside = c.in_ok-inside.ensures.ends (ap code_of c.in-EndGroup.is) in
    let same : c.in_ok-inside.inside ≡ c.innermost.result = cc in
    let moved = c.in_ok-inside.ensures.within in (
      let h = c.records.invariant.0 in omega arith,
      moved.1,
      suc c.records.invariant.2,
      rw c.pop.ensures
          (nested_pop c.args.bytes.now c.args.number (c.args.max_depth - 1) c.args.start c.records.invariant.2 c.records.groups c.records.here
          c.innermost.result c.in_ok-inside.after c.records.invariant.3 c.innermost.ensures (λ one. c.if-len-eq1.false (c.len.ensures ∙ one))
          (rw (same, c.in-EndGroup.is) at c.in_ok-inside.ensures.ok)),
    )

pub returns-then-len-max_depth-clause-fault : goal.returns-then-len-max_depth-clause-fault
returns-then-len-max_depth-clause-fault c =
    let levels = nested_room c.args.bytes.now c.args.number (c.args.max_depth - 1) c.args.start c.records.invariant.2 c.records.groups c.records.here c.records.invariant.3 in
    let none : c.records.invariant.2 ≡ 0 = let n = c.len-in-StartGroup.ensures in let some = c.requires.a_level in omega arith in
    rw c.refused.ensures
    (nested_fault c.args.bytes.now c.args.number (c.args.max_depth - 1) c.args.start c.records.invariant.2 c.records.groups c.records.here
    c.innermost.result (fault_with c.records.here (step c.in_ok-inside.inside [] ∷ []) TooDeep) c.records.invariant.3 c.innermost.ensures
    (RecordFault.group_too_deep {before = []} (rw c.in-StartGroup.is at c.in_ok-inside.ensures.ok) none refl))

pub push-requires : goal.push-requires
push-requires c =
    let levels = nested_room c.args.bytes.now c.args.number (c.args.max_depth - 1) c.args.start c.records.invariant.2 c.records.groups c.records.here c.records.invariant.3 in
    omega arith

pub records-preserved-in-StartGroup : goal.records-preserved-in-StartGroup
records-preserved-in-StartGroup c =
    let levels = nested_room c.args.bytes.now c.args.number (c.args.max_depth - 1) c.args.start c.records.invariant.2 c.records.groups c.records.here c.records.invariant.3 in
    let some : 0 < c.records.invariant.2 = omega arith in
    let moved = c.in_ok-inside.ensures.within in (
      let h = c.records.invariant.0 in omega arith,
      moved.1,
      c.records.invariant.2 - 1,
      rw c.push.ensures
          (nested_push c.args.bytes.now c.args.number (c.args.max_depth - 1) c.args.start c.records.invariant.2 c.records.groups c.records.here
          c.in_ok-inside.inside c.in_ok-inside.after c.records.invariant.3 some (rw c.in-StartGroup.is at c.in_ok-inside.ensures.ok)),
    )

pub returns-in_err-here-in_default : goal.returns-in_err-here-in_default
returns-in_err-here-in_default c =
    let p = err_from_is_err_and c.from_residual-in_err-here-in_default.result c.from_residual-in_err-here-in_default.ensures.1 in
    rw (p.1, p.2) (record {
      within = tt;
      ok = tt;
      fault =
          nested_fault c.args.bytes.now c.args.number (c.args.max_depth - 1) c.args.start c.records.invariant.2 c.records.groups c.records.here
          c.innermost.result
          (fault_with c.in_err-here-in_default.field-0.0.byte (step c.in_ok-inside.inside [] ∷ []) c.in_err-here-in_default.field-0.0.cause)
          c.records.invariant.3 c.innermost.ensures
          (c.in_err-here-in_default.ensures.fault (in_group c.innermost.result tt) [] c.records.invariant.2 c.in_ok-inside.inside
          (place c.args.bytes.now c.records.here) c.in_ok-inside.ensures.ok);
    })

pub records-preserved : goal.records-preserved
records-preserved c =
    let value = c.in_ok-here-in_default.ensures.ok c.records.invariant.2 c.in_ok-inside.inside in
    let moved = c.in_ok-inside.ensures.within in
    let ended = c.in_ok-here-in_default.ensures.within in (
      let h = c.records.invariant.0 in omega arith,
      ended.1,
      c.records.invariant.2,
      nested_more c.args.bytes.now c.args.number (c.args.max_depth - 1) c.args.start c.records.invariant.2 c.records.groups c.records.here
          c.in_ok-inside.inside (code_of c.in_ok-inside.wire_type) c.in_ok-inside.after c.in_ok-here-in_default.here value.0 c.records.invariant.3
          c.in_ok-inside.ensures.ok value.1,
    )
