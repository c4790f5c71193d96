-- In a message the values go to the end of the list, and elsewhere nothing changes.
use Rattle.std.proofs.Common.{sym, ap, ◌∙◌, map, option_map}
use Rattle.std.proofs.lemmas.Result.{on_ok_weaker}
use Rattle.pb_wire.specs.Unknown.{records_of}
use Rattle.pb_value.specs.View.{key_view, value_view}
use Rattle.pb_decode_parts.specs.declared.open.part.Part.{Part}
use Rattle.pb_decode_parts.specs.Open.Parents.{message_part}
use Rattle.pb_decode_parts.specs.Values.Run.{put_each}
use Rattle.pb_decode_parts.specs.Open.PartView.{part_view}
use Rattle.pb_decode_parts.proofs.RunLemmas.{each_in_message, each_in_entry, each_in_group}
use Rattle.pb_decode_parts.proofs.values.put_run.put_elements.Goals as goal

pub returns-in-Message : goal.returns-in-Message
returns-in-Message c =
    on_ok_weaker c.store_all.result
    (λ put. ap (message_part c.in-Message.field-0.0) put ∙ sym (each_in_message c.args.number c.in-Message.field-0.0 (map value_view c.args.values.items) _)
    ∙ ap (λ (z : Part). put_each c.args.number (map value_view c.args.values.items) (part_view z)) (sym c.in-Message.is))
    c.store_all.ensures

pub returns-in-Entry : goal.returns-in-Entry
returns-in-Entry c =
    ap part_view c.in-Entry.is ∙ sym (each_in_entry c.args.number (map value_view c.args.values.items) c.in-Entry.field-0.key_kind c.in-Entry.field-0.value_kind (option_map key_view c.in-Entry.field-0.key) (option_map value_view c.in-Entry.field-0.value))
    ∙ ap (λ (z : Part). put_each c.args.number (map value_view c.args.values.items) (part_view z)) (sym c.in-Entry.is)

pub returns-in-Group : goal.returns-in-Group
returns-in-Group c =
    ap part_view c.in-Group.is ∙ sym (each_in_group c.args.number (map value_view c.args.values.items) (records_of c.in-Group.field-0.items))
    ∙ ap (λ (z : Part). put_each c.args.number (map value_view c.args.values.items) (part_view z)) (sym c.in-Group.is)
