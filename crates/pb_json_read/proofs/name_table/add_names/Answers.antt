use Rattle.std.proofs.Common.{option_map}
use Rattle.pb_schema.specs.View.{field_view}
use Rattle.pb_json_read.specs.NameTables.{name_by, place_in}
use Rattle.pb_json_read.proofs.PlaceLemmas.{noted_more, or_none}
use Rattle.std.proofs.Common.{sym}
use Rattle.pb_json_read.proofs.name_table.add_names.Goals as goal

pub loop-index-init : goal.loop-index-init
loop-index-init c = λ s. sym (or_none (place_in c.args.table.now s))

pub loop-index-preserved : goal.loop-index-preserved
loop-index-preserved c = λ s.
    noted_more field_view (name_by c.args.naming c.args.names.now c.args.message.0) c.args.fields.now c.loop-index.index c.index-fields-index.result s
    (place_in c.args.table.now s) (place_in c.loop-index.table s) (place_in c.note_some.new.table s) (option_map (λ v. v.items) c.in_ok-name.name) c.loop-index-test.true
    c.index-fields-index.is c.in_ok-name.ensures (c.loop-index.invariant s) (c.in_ok-note_some.ensures s)
