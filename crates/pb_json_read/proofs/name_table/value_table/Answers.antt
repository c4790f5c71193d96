use Rattle.std.proofs.Common.{refl, string_bytes, ap, Some, None, map, take, ◌≡◌, ◌∙◌, sym, List, ℕ, rules}
use Rattle.pb_json_read.specs.NameTables.{value_name, place_in, first_named}
use Rattle.pb_json_read.proofs.PlaceLemmas.{noted_more}
use Rattle.pb_json_read.proofs.name_table.value_table.Goals as goal

pub loop-index-preserved : goal.loop-index-preserved
loop-index-preserved c = λ s.
    let own : Some c.in_ok-name.name.items ≡ Some (string_bytes c.index-values-index.result.0) = search rules in
    noted_more (λ v. (string_bytes v.0, v.1)) value_name c.args.values.now c.loop-index.index c.index-values-index.result s None
    (place_in c.loop-index.table s) (place_in c.note.new.table s) (Some c.in_ok-name.name.items) c.loop-index-test.true c.index-values-index.is own
    (c.loop-index.invariant s) (c.in_ok-note.ensures s)
