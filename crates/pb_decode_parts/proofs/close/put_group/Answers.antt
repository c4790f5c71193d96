-- A group is an unknown record.
use Rattle.std.proofs.Common.{sym, ◌∙◌, ap}
use Rattle.std.proofs.lemmas.Result.{on_ok_weaker}
use Rattle.pb_wire.specs.Unknown.{records_of}
use Rattle.pb_wire.specs.Record.{Payload}
use Rattle.pb_wire.proofs.UnknownLemmas.{payload_of-Group}
use Rattle.pb_decode_parts.specs.Values.Put.{put_record}
use Rattle.pb_decode_parts.specs.Open.Parents.{put_group}
use Rattle.pb_decode_parts.specs.Open.PartView.{part_view}
use Rattle.pb_decode_parts.specs.declared.open.part.Slot.{Slot}
use Rattle.pb_decode_parts.proofs.ClosingLemmas.{group_put}
use Rattle.pb_decode_parts.proofs.close.put_group.Goals as goal

pub returns-in-Unknown : goal.returns-in-Unknown
returns-in-Unknown c =
    on_ok_weaker c.put_unknown.result
    (λ put. put ∙ ap (λ (z : Payload). put_record c.in-Unknown.number z (part_view c.args.outer.now)) (payload_of-Group c.args.records) ∙ sym (group_put c.in-Unknown.number (part_view c.args.outer.now) (records_of c.args.records.items))
    ∙ ap (λ (z : Slot). put_group z (part_view c.args.outer.now) (records_of c.args.records.items)) (sym c.in-Unknown.is))
    c.put_unknown.ensures
