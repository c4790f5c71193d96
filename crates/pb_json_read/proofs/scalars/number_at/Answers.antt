use Rattle.std.proofs.Common.{◌≡◌, ℕ, ℤ, List, Option, Some, None, refl, Bor, map, option_map, string_bytes, String, Global, sym, ap, ◌∙◌}
use Rattle.std.specs.Str.{bytes_eq}
use Rattle.std.specs.Option.{option_copied}
use Rattle.pb_json_read.specs.NameTables.{first_named, place_in, value_name}
use Rattle.pb_json_read.proofs.PlaceLemmas.{found_by, found_here, found_nowhere, read_at}
use Rattle.pb_json_read.proofs.scalars.number_at.Goals as goal

abbrev seen : String Global × ℤ → List ℕ × ℤ
seen v = (string_bytes v.0, v.1)

numbers : (r : Option (Bor (String Global × ℤ))) → option_map (λ v. v.now.1) r ≡ option_map (λ (v : List ℕ × ℤ). v.1) (option_map (λ x. seen x.now) r)
numbers None = refl
numbers (Some x) = refl

pub returns-in-Some : goal.returns-in-Some
returns-in-Some c =
    let values = map seen c.args.values.now in
    let test = λ (v : List ℕ × ℤ). bytes_eq v.0 c.args.name.now in
    let i = c.in-Some.index.now in
    let place : first_named value_name values c.args.name.now ≡ Some i =
    sym (c.requires c.args.name.now) ∙ ap (place_in c.args.table.now) (sym c.as_bytes.ensures.value) ∙ sym c.get.ensures.value ∙ ap option_copied c.in-Some.is in
    c.number_of.ensures ∙ numbers c.get-in-Some.result
    ∙ ap (option_map (λ (v : List ℕ × ℤ). v.1))
    (read_at seen c.args.values.now i c.get-in-Some.result c.get-in-Some.ensures.lookup.3 ∙ sym (found_here values _ _ i (found_by test 0 values) place))

pub returns-in-None : goal.returns-in-None
returns-in-None c =
    let values = map seen c.args.values.now in
    let test = λ (v : List ℕ × ℤ). bytes_eq v.0 c.args.name.now in
    let place : first_named value_name values c.args.name.now ≡ None =
    sym (c.requires c.args.name.now) ∙ ap (place_in c.args.table.now) (sym c.as_bytes.ensures.value) ∙ sym c.get.ensures.value ∙ ap option_copied c.in-None.is in
    sym (ap (option_map (λ (v : List ℕ × ℤ). v.1)) (found_nowhere values _ _ (found_by test 0 values) place))
