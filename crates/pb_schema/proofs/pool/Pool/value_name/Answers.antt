use Rattle.std.proofs.Common.{◌≡◌, ◌<◌, ℕ, ℤ, List, String, Global, Bor, option_map, map, length, sym, ap, ◌∙◌, subst, arith, string_bytes}
use Rattle.std.specs.Int.{w32}
use Rattle.std.proofs.lemmas.Int.{to_z-of_z}
use Rattle.std.proofs.lemmas.List.{length-map}
use Rattle.pb_schema.specs.Types.{Types, EnumView}
use Rattle.pb_schema.specs.View.{enum_view}
use Rattle.pb_schema.specs.EnumValues.{value_name, values_of_enum, enum_values}
use Rattle.pb_schema.specs.Tables.{IsValueTable}
use Rattle.pb_schema.proofs.LookupLemmas.{get_viewed}
use Rattle.pb_schema.proofs.AddLemmas.{get_or-map}
use Rattle.pb_schema.proofs.TableLemmas.{table_at, tables_length}
use Rattle.pb_schema.specs.declared.tables.values.ValueTable.{ValueTable}
use Rattle.pb_schema.proofs.pool.Pool.value_name.Goals as goal

pub index-requires-2 : goal.index-requires-2
index-requires-2 c =
    omega (arith, c.requires, ap (λ (ts : Types). length ts.enums) c.self.view_is, tables_length (λ (e : EnumView) (v : ValueTable). IsValueTable e.values v) (map enum_view c.self.inside.enums.items) c.self.inside.tables.values.items c.self.invariant.1.values, c.self.inside.tables.values.ok.0)

pub first_named-requires : goal.first_named-requires
first_named-requires c =
    let es = c.self.inside.enums.items in
    let e = c.args.entry.0 in
    let x = c.index.result.now in
    let table = c.index-2.result.now in
    let within : e < length es = omega (arith, c.requires, ap (λ (ts : Types). length ts.enums) c.self.view_is, length-map es enum_view) in
    let at : enum_view x ≡ _ = ap enum_view c.index.ensures ∙ sym (get_or-map enum_view es e x (enum_view x) within) in
    let is = table_at (λ (t : EnumView) (v : ValueTable). IsValueTable t.values v) (map enum_view es) c.self.inside.tables.values.items e (enum_view x) table c.self.invariant.1.values (omega (arith, length-map es enum_view, within)) at c.index-2.ensures in
    subst (λ (l : List (String Global × ℤ)). IsValueTable (map (λ v. (string_bytes v.0, v.1)) l) table) (sym c.deref.ensures.value) is

pub returns : goal.returns
returns c =
    let es = c.self.inside.enums.items in
    let e = c.args.entry.0 in
    let within : e < length es = omega (arith, c.requires, ap (λ (ts : Types). length ts.enums) c.self.view_is, length-map es enum_view) in
    let values = ap values_of_enum (sym (get_viewed enum_view es e c.index.result.now within c.index.ensures)) ∙ ap (λ (ts : Types). enum_values ts e) c.self.view_is in
    let named = subst (λ (n : ℤ). option_map (λ (s : Bor (List ℕ)). s.now) c.first_named.result ≡ value_name n (map (λ v. (string_bytes v.0, v.1)) c.deref.result.now)) (to_z-of_z w32 c.args.number c.ranges.number) c.first_named.ensures in
    let found = named ∙ ap (λ (l : List (String Global × ℤ)). value_name c.args.number (map (λ v. (string_bytes v.0, v.1)) l)) c.deref.ensures.value ∙ ap (value_name c.args.number) values in
    record { found = found }
