use Rattle.std.proofs.Common.{◌≡◌, ℕ, ℤ, List, ◌<◌, ◌≤◌, length, get_or, map, ap, ◌∙◌, subst}
use Rattle.std.specs.Int.{w32}
use Rattle.std.specs.List.{list_any}
use Rattle.std.specs.Ordering.{int_eq}
use Rattle.std.proofs.lemmas.Int.{to_z-of_z}
use Rattle.pb_schema.specs.Types.{Types}
use Rattle.pb_schema.specs.View.{enum_view}
use Rattle.pb_schema.specs.Tables.{IsValueTable}
use Rattle.pb_schema.specs.Closed.{declares}
use Rattle.pb_schema.proofs.ValueLemmas.{table_answers, no_table_answers}
use Rattle.pb_schema.proofs.pool.Pool.declares.Goals as goal

pub returns-in-Some : goal.returns-in-Some
returns-in-Some c =
    let tables = c.self.inside.tables.values.items in
    let table = c.in-Some.table.now in
    let within = subst (λ l. c.args.entry.0 < length l) c.deref.ensures.value c.in-Some.ensures.lookup.3.0 in
    let at = subst (λ l. table ≡ get_or l c.args.entry.0 table) c.deref.ensures.value c.in-Some.ensures.lookup.1 in
    let answers : (vs : List (List ℕ × ℤ)) → IsValueTable vs table → c.has_number.result ≡ list_any (λ v. int_eq v.1 c.args.number) vs =
    λ vs is. c.has_number.ensures vs is ∙ ap (λ (z : ℤ). list_any (λ (v : List ℕ × ℤ). int_eq v.1 z) vs) (to_z-of_z w32 c.args.number c.ranges.number) in
    table_answers (map enum_view c.self.inside.enums.items) tables c.args.entry.0 table c.args.number c.has_number.result c.self.invariant.1.values within at answers
    ∙ ap (λ (ts : Types). declares ts c.args.entry.0 c.args.number) c.self.view_is

pub returns-in-None : goal.returns-in-None
returns-in-None c =
    let past = subst (λ l. length l ≤ c.args.entry.0) c.deref.ensures.value c.in-None.ensures.lookup.3 in
    no_table_answers (map enum_view c.self.inside.enums.items) c.self.inside.tables.values.items c.args.entry.0 c.args.number c.self.invariant.1.values past
    ∙ ap (λ (ts : Types). declares ts c.args.entry.0 c.args.number) c.self.view_is
