use Rattle.std.proofs.Common.{◌≡◌, ◌<◌, ◌≤◌, ◌+◌, length, true, Option, refl, sym, ◌∙◌, ap, arith, rules}
use Rattle.std.specs.Prelude.{is_some, nat_lt}
use Rattle.std.proofs.lemmas.Option.{slice_get_read}
use Rattle.pb_schema.specs.Rules.{IsPool}
use Rattle.pb_value.specs.View.{body_view}
use Rattle.pb_value.specs.declared.body.Body.{Body}
use Rattle.pb_value.proofs.Options.{at_some}
use Rattle.pb_compat.specs.Agrees.{break_among}
use Rattle.pb_compat.specs.Fields.{differences_at}
use Rattle.pb_compat.specs.Nested.{IsBuiltAt}
use Rattle.pb_compat.proofs.ClimbLemmas.{step_within, step_field, built_first, built_next, built_whole, built_few, built_many, none_shown, one_shown}
use Rattle.pb_compat.proofs.nested.nested_body.Goals as goal

pub loop-types-init : goal.loop-types-init
loop-types-init c =
    let old = c.args.old.now in
    let new = c.args.new.now in
    let cs = c.args.compared.now in
    let types = c.index-compared-index.result in
    let at = slice_get_read cs (length cs) c.args.index types refl c.requires.index c.index-compared-index.is in
    let pools = at_some c.in_ok-found.found (λ b. IsPool old × IsPool new) c.in-Some.body c.in_ok-found.ensures.rules c.in-Some.is in
    let built = at_some c.in_ok-found.found (λ b. IsBuiltAt old new types.old.0 types.new.0 c.args.number (body_view b)) c.in-Some.body c.in_ok-found.ensures.built c.in-Some.is in
    let breaks : break_among (differences_at old new types.old.0 types.new.0 c.args.number) ≡ true = sym c.in_ok-found.ensures.exact ∙ ap (λ (o : Option Body). is_some o) c.in-Some.is in
    (c.args.index, at, built_first old new cs c.args.index c.args.number pools.0 pools.1 types at breaks (body_view c.in-Some.body) built)

pub bounds-compared-step : goal.bounds-compared-step
bounds-compared-step c =
    let at = c.loop-types.invariant in
    step_within c.args.old.now c.args.new.now c.args.compared.now c.requires.linked at.0 c.loop-types.types.now c.in-Some-reached_by.step at.1 c.in-Some-reached_by.is

pub offset_bounds-compared-step : goal.offset_bounds-compared-step
offset_bounds-compared-step c =
    let at = c.loop-types.invariant in
    let h : c.in-Some-reached_by.step.from < length c.args.compared.now =
    step_within c.args.old.now c.args.new.now c.args.compared.now c.requires.linked at.0 c.loop-types.types.now c.in-Some-reached_by.step at.1 c.in-Some-reached_by.is in
    search rules

pub body_round-requires-clause-old : goal.body_round-requires-clause-old
body_round-requires-clause-old c =
    let cs = c.args.compared.now in
    let at = c.loop-types.invariant in
    let step = c.in-Some-reached_by.step in
    let within = step_within c.args.old.now c.args.new.now cs c.requires.linked at.0 c.loop-types.types.now step at.1 c.in-Some-reached_by.is in
    (c.requires.linked.within step.from c.index-compared-step.result (slice_get_read cs (length cs) step.from c.index-compared-step.result refl within c.index-compared-step.is)).0

pub body_round-requires-clause-new : goal.body_round-requires-clause-new
body_round-requires-clause-new c =
    let cs = c.args.compared.now in
    let at = c.loop-types.invariant in
    let step = c.in-Some-reached_by.step in
    let within = step_within c.args.old.now c.args.new.now cs c.requires.linked at.0 c.loop-types.types.now step at.1 c.in-Some-reached_by.is in
    (c.requires.linked.within step.from c.index-compared-step.result (slice_get_read cs (length cs) step.from c.index-compared-step.result refl within c.index-compared-step.is)).1

pub body_round-requires-clause-field : goal.body_round-requires-clause-field
body_round-requires-clause-field c =
    let cs = c.args.compared.now in
    let at = c.loop-types.invariant in
    let step = c.in-Some-reached_by.step in
    let within = step_within c.args.old.now c.args.new.now cs c.requires.linked at.0 c.loop-types.types.now step at.1 c.in-Some-reached_by.is in
    step_field c.args.old.now c.args.new.now cs c.requires.linked at.0 c.loop-types.types.now step at.1 c.in-Some-reached_by.is c.index-compared-step.result
    (slice_get_read cs (length cs) step.from c.index-compared-step.result refl within c.index-compared-step.is)

pub loop-types-preserved : goal.loop-types-preserved
loop-types-preserved c =
    let old = c.args.old.now in
    let new = c.args.new.now in
    let cs = c.args.compared.now in
    let at = c.loop-types.invariant in
    let step = c.in-Some-reached_by.step in
    let within = step_within old new cs c.requires.linked at.0 c.loop-types.types.now step at.1 c.in-Some-reached_by.is in
    let from = slice_get_read cs (length cs) step.from c.index-compared-step.result refl within c.index-compared-step.is in
    let most = at.2.few in
    let few : c.loop-types.fields + 1 ≤ 99 = omega (arith, most, c.if-fields-eq-MAX_FIELDS.false) in (
      step.from,
      from,
      built_next old new cs c.args.index c.args.number c.requires.linked c.loop-types.fields at.0 (body_view c.loop-types.body) at.2 c.loop-types.types.now at.1 step c.in-Some-reached_by.is few
          c.index-compared-step.result from (body_view c.in_ok-body.body) c.in_ok-body.ensures,
    )

pub returns-then-fields-eq-MAX_FIELDS-clause-exact : goal.returns-then-fields-eq-MAX_FIELDS-clause-exact
returns-then-fields-eq-MAX_FIELDS-clause-exact c = λ d start n here r.
    let at = c.loop-types.invariant in
    none_shown (break_among (differences_at c.args.old.now c.args.new.now d.old.0 d.new.0 c.args.number)) (nat_lt n 100)
    (built_many c.args.old.now c.args.new.now c.args.compared.now c.args.index c.args.number c.requires.linked c.loop-types.fields at.0 (body_view c.loop-types.body) at.2 c.loop-types.types.now at.1
    c.in-Some-reached_by.step c.in-Some-reached_by.is c.if-fields-eq-MAX_FIELDS.true start n r)

pub returns-clause-shown : goal.returns-clause-shown
returns-clause-shown c =
    let at = c.loop-types.invariant in
    built_whole c.args.old.now c.args.new.now c.args.compared.now c.args.index c.args.number c.requires.linked c.loop-types.fields at.0 (body_view c.loop-types.body) at.2 c.loop-types.types.now at.1
    c.in_default-reached_by.is

pub returns-clause-within : goal.returns-clause-within
returns-clause-within c = let at = c.loop-types.invariant in (c.requires.linked.within at.0 c.loop-types.types.now at.1).0

pub returns-clause-exact : goal.returns-clause-exact
returns-clause-exact c = λ d start n here r.
    let at = c.loop-types.invariant in
    one_shown (break_among (differences_at c.args.old.now c.args.new.now d.old.0 d.new.0 c.args.number)) (nat_lt n 100) (at.2.breaks d here)
    (built_few c.args.old.now c.args.new.now c.args.compared.now c.args.index c.args.number c.requires.linked c.loop-types.fields at.0 (body_view c.loop-types.body) at.2 c.loop-types.types.now at.1
    c.in_default-reached_by.is start n r)
