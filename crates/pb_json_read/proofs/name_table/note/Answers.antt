use Rattle.std.proofs.Common.{◌≡◌, false, is_some, sym, ap, ◌∙◌}
use Rattle.pb_json_read.specs.NameTables.{place_in}
use Rattle.pb_json_read.proofs.NameTableLemmas.{added, updated}
use Rattle.pb_json_read.proofs.name_table.note.Goals as goal

pub returns : goal.returns
returns c =
    let lacks : is_some (place_in c.args.table.now c.args.name.items) ≡ false =
    ap (λ s. is_some (place_in c.args.table.now s)) (sym c.as_slice.ensures.value) ∙ sym c.contains_key.ensures ∙ c.if-contains_key.false in
    added c.args.table.now c.insert.new.self c.args.name.items c.args.index lacks
    (updated c.args.name.items c.args.table.now c.insert.new.self _ c.in_ok-insert.ensures.updates)
