use Rattle.std.proofs.Common.{◌∙◌, false, ap}
use Rattle.std.specs.List.{slice_index_or}
use Rattle.pb_link_names.specs.View.{declaration_view}
use Rattle.pb_link_rules.proofs.MapLemmas.{marks_more}
use Rattle.pb_link_rules.proofs.rules.maps.map_marks.Goals as goal

pub loop-place-preserved : goal.loop-place-preserved
loop-place-preserved c files w world e told =
    let i = c.loop-place.place in
    marks_more files w world declaration_view c.args.row.now c.args.found.now c.in_ok-used.used.items i c.index-row-place.result c.loop-place.marks.items c.push.new.self.items c.is_used_at.result c.in_ok-mark.mark e told (c.in_ok-used.ensures w e told) c.loop-place-test.true c.index-row-place.is (c.loop-place.invariant files w world e told)
    (c.is_used_at.ensures ∙ ap (λ l. slice_index_or l i false) c.deref.ensures.value)
    (c.in_ok-mark.ensures w e) c.in_ok-push.ensures.items
