-- Element by element they go into the part of their list.
use Rattle.std.proofs.Common.{◌≡◌, ◌+◌, ℕ, Option, ap, ◌∙◌, sym, subst, arith, length, length-drop}
use Rattle.std.specs.Prelude.{IfNone}
use Rattle.pb_wire.specs.Fault.{Place}
use Rattle.pb_wire.specs.Scan.{given_at, passed}
use Rattle.pb_decode_parts.specs.declared.tokens.step.Step.TheVariants.{Elements}
use Rattle.pb_decode_parts.specs.declared.values.run.Run.{Run}
use Rattle.pb_decode_parts.specs.Values.Run.{put_run}
use Rattle.pb_decode_parts.specs.Tokens.After.{After}
use Rattle.pb_decode_parts.proofs.PlaceLemmas.{slice_from, passed_twice, place_after}
use Rattle.pb_decode_parts.proofs.AnswerLemmas.{reported_of}
use Rattle.pb_decode_parts.proofs.values.run.add_elements.Goals as goal

pub loop-here-preserved : goal.loop-here-preserved
loop-here-preserved c =
    let here = c.loop-here.here in
    let used = c.in-Some.size in
    let size = ap length (slice_from here c.args.bytes.now) ∙ length-drop here c.args.bytes.now in
    let within = (reported_of _ c.in_ok-size.field-0 used c.in-Some.is c.in_ok-size.ensures.within).1 in
    record {
      within = omega (arith, size, within);
      put = λ m depth levels at outer base p0 parents scope now begun.
          let p : Place = given_at at c.args.left c.args.bytes.now in
          let after = place_after at c.args.left c.left_after.result c.args.bytes.now here c.left_after.ensures in
          let was =
          subst (After c.args.pool.now m depth levels base p0 parents (Elements c.args.number c.args.kind outer) (put_run c.args.number c.loop-here.run now) scope) after
          (c.loop-here.invariant.put m depth levels at outer base p0 parents scope now begun) in
          subst (After c.args.pool.now m depth levels base p0 parents (Elements c.args.number c.args.kind outer) (put_run c.args.number c.add_element.new.run now) scope)
          (ap (λ (z : Place). passed z used) (sym after) ∙ passed_twice p here used)
          (reported_of _ c.in_ok-size.field-0 used c.in-Some.is c.in_ok-size.ensures.put m depth levels (at + here) outer base p0 parents scope now was);
    }

pub returns-in_default-clause-put : goal.returns-in_default-clause-put
returns-in_default-clause-put c =
    λ m depth levels at outer base p0 parents scope now begun.
    subst (λ (z : Run). After c.args.pool.now m depth levels base p0 parents (Elements c.args.number c.args.kind outer) (put_run c.args.number z now) scope (passed (given_at at c.args.left c.args.bytes.now) c.loop-here.here))
    (sym (subst (λ (o : Option ℕ). IfNone o (c.add_element.new.run ≡ c.loop-here.run)) c.in_default.is c.in_ok-size.ensures.none)) (c.loop-here.invariant.put m depth levels at outer base p0 parents scope now begun)
