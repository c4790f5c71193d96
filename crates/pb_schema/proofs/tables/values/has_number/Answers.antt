use Rattle.std.proofs.Common.{ℤ, to_z, of_z, subst, ap, ◌∙◌, sym}
use Rattle.std.specs.Prelude.{IsTrue}
use Rattle.std.specs.Int.{w32}
use Rattle.std.specs.List.{list_any}
use Rattle.std.specs.Option.{is_some}
use Rattle.std.specs.Ordering.{int_eq, int_cmp}
use Rattle.std.specs.BTreeMap.{get}
use Rattle.std.proofs.lemmas.Int.{to_z-of_z}
use Rattle.pb_schema.proofs.ValueLemmas.{has_place}
use Rattle.pb_schema.proofs.tables.values.has_number.Goals as goal

pub returns-then-is_marked : goal.returns-then-is_marked
returns-then-is_marked c = λ vs is.
    let z = c.args.number in
    let there : IsTrue (list_any (λ v. int_eq v.1 (to_z w32 (of_z w32 z))) vs) = c.is_marked.ensures vs is.marks c.if-is_marked.true in
    c.if-is_marked.true ∙ sym (subst (λ (y : ℤ). IsTrue (list_any (λ v. int_eq v.1 y) vs)) (to_z-of_z w32 z c.ranges.number) there)

pub returns-else-is_marked : goal.returns-else-is_marked
returns-else-is_marked c = λ vs is.
    c.contains_key.ensures ∙ ap (λ (z : ℤ). is_some (get int_cmp c.args.table.now.firsts z)) (to_z-of_z w32 c.args.number c.ranges.number) ∙ ap is_some (is.firsts c.args.number) ∙ has_place (λ v. int_eq v.1 c.args.number) 0 vs
