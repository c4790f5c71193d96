use Rattle.std.proofs.Common.{◌≡◌, ◌∷◌, arith, ap, sym, length}
use Rattle.pb_schema.specs.View.{field_view}
use Rattle.pb_find.proofs.TargetLemmas.{target_from, target_own, single_by, found_at}
use Rattle.pb_find.proofs.level.target_of.Goals as goal

pub returns-in_default : goal.returns-in_default
returns-in_default c =
    let at = target_from c.args.pool.now c.args.message_type.0 c.in_ok-number.number.now (field_view c.in_ok-field.field.now) (sym c.in_ok-field.ensures.found)
    (single_by c.in_ok-field.field.now.shape c.in_default.not-List c.in_default.not-Map) in
    let is : c.args.path.now ≡ c.in_ok-number.number.now ∷ c.in_ok-number.rest.now = c.in_ok-number.ensures.cases.0 in record {
      found = λ x rs. found_at c.args.pool.now c.args.message_type.0 c.in_ok-number.number.now c.args.path.now c.in_ok-number.rest.now (field_view c.in_ok-field.field.now) x rs is at;
      own = target_own c.args.pool.now c.args.message_type.0 c.in_ok-number.number.now (field_view c.in_ok-field.field.now) at;
      shorter = let e = ap length is in omega (arith, e);
    }
