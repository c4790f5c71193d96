use Rattle.std.proofs.Common.{◌≡◌, ℤ, true, false, cond, Some, subst, sym, ◌∙◌}
use Rattle.std.specs.Int.{w32}
use Rattle.std.specs.Option.{is_some}
use Rattle.std.specs.Ordering.{int_eq, int_cmp}
use Rattle.std.specs.BTreeMap.{get}
use Rattle.std.proofs.lemmas.Int.{to_z-of_z}
use Rattle.pb_schema.proofs.ValueLemmas.{noted, noted_already}
use Rattle.pb_schema.proofs.tables.values.note_first.Goals as goal

pub returns-in_ok-insert : goal.returns-in_ok-insert
returns-in_ok-insert c =
    let old = c.args.firsts.now in
    let number = c.args.number in
    let same = to_z-of_z w32 number c.ranges.number in
    let absent : is_some (get int_cmp old number) ≡ false = subst (λ (n : ℤ). is_some (get int_cmp old n) ≡ false) same (sym c.contains_key.ensures ∙ c.if-not-contains_key.true) in
    noted (get int_cmp old) (get int_cmp c.insert.new.self) c.args.index number absent (λ z. subst (λ (n : ℤ). get int_cmp c.insert.new.self z ≡ cond (int_eq n z) (Some c.args.index) (get int_cmp old z)) same (c.in_ok-insert.ensures.updates.0 z))

pub returns-else-not-contains_key : goal.returns-else-not-contains_key
returns-else-not-contains_key c =
    let old = c.args.firsts.now in
    let present : is_some (get int_cmp old c.args.number) ≡ true = subst (λ (n : ℤ). is_some (get int_cmp old n) ≡ true) (to_z-of_z w32 c.args.number c.ranges.number) (sym c.contains_key.ensures ∙ c.if-not-contains_key.false) in
    noted_already (get int_cmp old) c.args.index c.args.number present
