use Rattle.std.proofs.Common.{◌≡◌, ℕ, List, None, map, sym, ap, ◌∙◌, Global, Vec}
use Rattle.std.specs.BTreeMap.{is_at}
use Rattle.std.specs.Cmp.Lexicographic.{slice_cmp}
use Rattle.std.specs.Map.{lookup}
use Rattle.std.specs.Option.{option_or}
use Rattle.std.specs.Ordering.{nat_cmp}
use Rattle.pb_schema.specs.View.{field_view}
use Rattle.pb_json_read.specs.NameTables.{first_named, name_by, place_in}
use Rattle.pb_json_read.specs.declared.name_table.Naming.TheVariants.{Given, Declared, InJson}
use Rattle.pb_json_read.proofs.PlaceLemmas.{or_assoc}
use Rattle.pb_json_read.proofs.name_table.field_table.Goals as goal

pub returns : goal.returns
returns c = λ s.
    let fields = map field_view c.args.fields.now in
    let names = c.args.names.now in
    let m = c.args.message.0 in
    let given = first_named (name_by Given names m) fields s in
    let declared = first_named (name_by Declared names m) fields s in
    let in_json = first_named (name_by InJson names m) fields s in
    let none : place_in c.new-table.result s ≡ None = ap (lookup (is_at (λ (k : Vec ℕ Global). slice_cmp nat_cmp s k.items))) c.new-table.ensures.empty in
    c.in_ok-add_names-3.ensures s
    ∙ ap (λ o. option_or o in_json)
    (c.in_ok-add_names-2.ensures s ∙ ap (λ o. option_or o declared) (c.in_ok-add_names.ensures s ∙ ap (λ o. option_or o given) none))
    ∙ or_assoc given declared in_json
