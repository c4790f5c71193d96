-- The map that was there, with the entries in it, is put back.
use Rattle.std.proofs.Common.{◌≡◌, ap, sym, ◌∙◌, subst, arith, length, vec_len}
use Rattle.std.proofs.lemmas.Result.{on_ok_weaker}
use Rattle.pb_decode_parts.proofs.AnswerLemmas.{on_ok_mapped}
use Rattle.pb_value.specs.Data.{map}
use Rattle.pb_value.specs.Change.{entries_of}
use Rattle.pb_value.specs.View.{body_view, entries_view}
use Rattle.pb_value.proofs.Views.{content_view-Map}
use Rattle.pb_decode_parts.specs.Close.Mapped.{pairs_view, FitInTurn}
use Rattle.pb_decode_parts.proofs.MapPuts.{fit_entries, stored_in, some_pairs}
use Rattle.pb_decode_parts.proofs.values.put_entries.store_entries.Goals as goal

pub insert_all-requires : goal.insert_all-requires
insert_all-requires c =
    subst (FitInTurn (pairs_view c.args.entries.items)) (sym (c.map_held-map.ensures ∙ ap entries_of c.take_field.ensures.taken))
    (fit_entries c.args.number (pairs_view c.args.entries.items) (body_view c.args.message.now) c.requires.fits)

pub returns : goal.returns
returns c =
    let size : vec_len c.args.entries ≡ length c.args.entries.items = omega arith in
    on_ok_mapped _ c.put_field.result c.map_err.result c.map_err.ensures.variant
    (on_ok_weaker c.put_field.result (λ put. stored_in c.args.number (pairs_view c.args.entries.items) (body_view c.args.message.now) (body_view c.take_field.new.message) (body_view c.put_field.new.message) _ (entries_view c.map_held-map.result.entries)
    (some_pairs c.args.entries.items (vec_len c.args.entries) size c.if-is_empty.ensures) c.requires.rises c.take_field.ensures.left c.put_field.ensures.rises (c.map_held-map.ensures ∙ ap entries_of c.take_field.ensures.taken)
    (content_view-Map c.insert_all.new.map ∙ ap map c.in_ok-insert_all.ensures) put) c.put_field.ensures.ok)
