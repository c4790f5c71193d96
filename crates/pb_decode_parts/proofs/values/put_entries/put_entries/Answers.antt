-- In a message the entries go into their map, and elsewhere nothing changes.
use Rattle.std.proofs.Common.{sym, ap, ◌∙◌, subst, option_map}
use Rattle.std.proofs.lemmas.Result.{on_ok_weaker}
use Rattle.pb_wire.specs.Unknown.{records_of}
use Rattle.pb_value.specs.View.{key_view, value_view, body_view}
use Rattle.pb_decode_parts.specs.declared.open.part.Part.{Part}
use Rattle.pb_decode_parts.specs.Open.Parents.{message_part}
use Rattle.pb_decode_parts.specs.Open.PartView.{part_view}
use Rattle.pb_decode_parts.specs.Close.Mapped.{pairs_view, put_all_mapped, FitMapped}
use Rattle.pb_decode_parts.proofs.MapPuts.{fit_of, all_in_message, all_in_entry, all_in_group}
use Rattle.pb_decode_parts.proofs.values.put_entries.put_entries.Goals as goal

pub store_entries-requires-clause-fits : goal.store_entries-requires-clause-fits
store_entries-requires-clause-fits c =
    fit_of c.args.number c.in-Message.field-0.0 (pairs_view c.args.entries.items) (body_view c.in-Message.body)
    (subst (λ (z : Part). FitMapped c.args.number (pairs_view c.args.entries.items) (part_view z)) c.in-Message.is c.requires.fits)

pub returns-in-Message : goal.returns-in-Message
returns-in-Message c =
    on_ok_weaker c.store_entries.result
    (λ put. ap (message_part c.in-Message.field-0.0) put ∙ sym (all_in_message c.args.number c.in-Message.field-0.0 (pairs_view c.args.entries.items) _)
    ∙ ap (λ (z : Part). put_all_mapped c.args.number (pairs_view c.args.entries.items) (part_view z)) (sym c.in-Message.is))
    c.store_entries.ensures

pub returns-in-Entry : goal.returns-in-Entry
returns-in-Entry c =
    ap part_view c.in-Entry.is ∙ sym (all_in_entry c.args.number (pairs_view c.args.entries.items) c.in-Entry.field-0.key_kind c.in-Entry.field-0.value_kind (option_map key_view c.in-Entry.field-0.key) (option_map value_view c.in-Entry.field-0.value))
    ∙ ap (λ (z : Part). put_all_mapped c.args.number (pairs_view c.args.entries.items) (part_view z)) (sym c.in-Entry.is)

pub returns-in-Group : goal.returns-in-Group
returns-in-Group c =
    ap part_view c.in-Group.is ∙ sym (all_in_group c.args.number (pairs_view c.args.entries.items) (records_of c.in-Group.field-0.items))
    ∙ ap (λ (z : Part). put_all_mapped c.args.number (pairs_view c.args.entries.items) (part_view z)) (sym c.in-Group.is)
