use Rattle.std.proofs.Common.{◌≡◌, Bool, IfOk, sym, subst}
use Rattle.std.specs.Prelude.{is_some}
use Rattle.pb_schema.specs.View.{field_view}
use Rattle.pb_value.specs.View.{body_view}
use Rattle.pb_schema.specs.Rules.{IsPool}
use Rattle.pb_compat.specs.Nested.{IsBuiltAt}
use Rattle.pb_compat.specs.Witness.{AreFieldsAt, IsBuilt, IsWitness}
use Rattle.pb_compat.proofs.BuiltLemmas.{settable, built_shows, if_ok_some}
use Rattle.pb_compat.proofs.ExactLemmas.{breaks_exactly}
use Rattle.pb_compat.proofs.witnesses.witness_body.Goals as goal

pub witness_between-requires-clause-settable : goal.witness_between-requires-clause-settable
witness_between-requires-clause-settable c =
    settable c.args.old.now c.args.old_type.0 c.args.number (field_view c.in-Some.from.now) c.in-Some.ensures.pool (sym c.in-Some.ensures.found) c.in-Some.ensures.rules

pub returns-clause-built : goal.returns-clause-built
returns-clause-built c =
    let old = c.args.old.now in
    let new = c.args.new.now in
    let m = c.args.old_type.0 in
    let n = c.args.new_type.0 in
    let f = field_view c.in-Some.from.now in
    let g = field_view c.in-Some-field_by_number.to.now in
    let at : AreFieldsAt old new m n c.args.number f g = record { old_field = sym c.in-Some.ensures.found; new_field = sym c.in-Some-field_by_number.ensures.found } in
    if_ok_some c.witness_between.result (λ b. IsBuilt old new m n f g (body_view b)) (λ b. IsBuiltAt old new m n c.args.number (body_view b))
    (λ b built. record { old_field = f; new_field = g; at = at; built = built }) c.witness_between.ensures.built

pub returns-clause-rules : goal.returns-clause-rules
returns-clause-rules c =
    let old = c.args.old.now in
    let new = c.args.new.now in
    let f = field_view c.in-Some.from.now in
    let g = field_view c.in-Some-field_by_number.to.now in
    if_ok_some c.witness_between.result (λ b. IsBuilt old new c.args.old_type.0 c.args.new_type.0 f g (body_view b)) (λ b. IsPool old × IsPool new)
    (λ b built. (c.in-Some.ensures.pool, c.in-Some-field_by_number.ensures.pool)) c.witness_between.ensures.built

pub returns-clause-shown : goal.returns-clause-shown
returns-clause-shown c =
    let old = c.args.old.now in
    let new = c.args.new.now in
    let m = c.args.old_type.0 in
    let n = c.args.new_type.0 in
    let f = field_view c.in-Some.from.now in
    let g = field_view c.in-Some-field_by_number.to.now in
    let at : AreFieldsAt old new m n c.args.number f g = record { old_field = sym c.in-Some.ensures.found; new_field = sym c.in-Some-field_by_number.ensures.found } in
    if_ok_some c.witness_between.result (λ b. IsBuilt old new m n f g (body_view b)) (λ b. IsWitness old new m n (body_view b))
    (λ b. built_shows old new c.in-Some.ensures.pool c.in-Some-field_by_number.ensures.pool m n c.args.number f g at (body_view b)) c.witness_between.ensures.built

pub returns-clause-exact : goal.returns-clause-exact
returns-clause-exact c =
    let old = c.args.old.now in
    let new = c.args.new.now in
    let m = c.args.old_type.0 in
    let n = c.args.new_type.0 in
    let f = field_view c.in-Some.from.now in
    let g = field_view c.in-Some-field_by_number.to.now in
    let at : AreFieldsAt old new m n c.args.number f g = record { old_field = sym c.in-Some.ensures.found; new_field = sym c.in-Some-field_by_number.ensures.found } in
    subst (λ (b : Bool). IfOk c.witness_between.result (λ o. is_some o ≡ b)) (sym (breaks_exactly old new c.in-Some-field_by_number.ensures.pool m n c.args.number f g at)) c.witness_between.ensures.exact
