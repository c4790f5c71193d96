use Rattle.std.proofs.Common.{rules, arith, sym, subst, ◌∙◌, ℤ, ◌≡◌, true, false, to_z, of_z, w64}
use Rattle.std.specs.Prelude.{int_le, int_lt}
use Rattle.std.specs.List.Sorted.{IsPartitionPoint}
use Rattle.std.proofs.lemmas.List.Sorted.{IsPartitionPoint-from_clause}
use Rattle.std.proofs.lemmas.Bool.{le-ltb}
use Rattle.pb_link_names.specs.Reserved.{Rises}
use Rattle.pb_link_names.proofs.ReservedLemmas.{number_found, number_nowhere, starts_part}
use Rattle.pb_link_names.proofs.marks.reserved.Reserved.has_number.Goals as goal
use Rattle.pb_link_names.proofs.marks.reserved.Reserved.has_number.Goals.{After-partition_point-behind}

split : (c : After-partition_point-behind) → Rises (λ s. s.0) c.args.self.now.spans.items → IsPartitionPoint (λ s. int_le s.0 c.args.number ≡ true) (λ s. int_le s.0 c.args.number ≡ false) c.args.self.now.spans.items c.partition_point-behind.result
split c rises =
    subst (λ l. IsPartitionPoint (λ (s : ℤ × ℤ). int_le s.0 c.args.number ≡ true) (λ s. int_le s.0 c.args.number ≡ false) l c.partition_point-behind.result) c.deref.ensures.value
    (IsPartitionPoint-from_clause (λ s. int_le s.0 c.args.number) _ _ c.partition_point-behind.ensures.partitioned (starts_part c.deref.result.now c.args.number (subst (Rises (λ s. s.0)) (sym c.deref.ensures.value) rises)) (λ a r q k. search rules))

pub returns-then-behind-gt0 : goal.returns-then-behind-gt0
returns-then-behind-gt0 c = λ ranges names has.
    let spans = c.args.self.now.spans.items in
    let told : int_lt (to_z w64 (of_z w64 c.from-number.result)) (to_z w64 (of_z w64 c.index.result.now.1)) ≡ int_lt c.args.number c.index.result.now.1 = search rules in
    told ∙ number_found spans c.args.number c.partition_point-behind.result c.index.result.now has.ends (split (goal.at.returns-then-behind-gt0 c).After-partition_point-behind has.starts) (omega arith) c.if-behind-gt0.true c.index.ensures ∙ has.same c.args.number c.ranges.number

pub returns-else-behind-gt0 : goal.returns-else-behind-gt0
returns-else-behind-gt0 c = λ ranges names has.
    le-ltb 0 c.partition_point-behind.result c.if-behind-gt0.false ∙ sym (number_nowhere c.args.self.now.spans.items c.args.number c.partition_point-behind.result (split (goal.at.returns-else-behind-gt0 c).After-partition_point-behind has.starts) (omega arith)) ∙ has.same c.args.number c.ranges.number
