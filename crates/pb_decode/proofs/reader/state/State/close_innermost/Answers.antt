-- Where the innermost part ends the reader is in its parent.
use Rattle.std.proofs.Common.{◌∷◌, ◌+◌, refl, sym, ap, arith}
use Rattle.pb_decode_parts.specs.Open.Parents.{parent_of}
use Rattle.pb_decode_parts.specs.Open.PartView.{part_view, scope_view}
use Rattle.pb_decode.specs.Reader.{state_view, parents_view, here}
use Rattle.pb_decode.proofs.FewRecords.{parent_counts_fit}
use Rattle.pb_decode.proofs.EndedLemmas.{parents_popped, has_reached, part_closed}
use Rattle.pb_decode_whole.proofs.Held.{parent_can_hold, part_fits}
use Rattle.pb_decode.proofs.reader.state.State.close_innermost.Goals as goal

pub close_part-requires-clause-can : goal.close_part-requires-clause-can
close_part-requires-clause-can c =
    let f = c.in-Some.parent in
    parent_can_hold
    (has_reached (state_view c.args.self.now) c.requires.can.0 (parent_of (part_view c.replace-inner.new.dest) f.number f.slot f.group (scope_view f.scope) ∷ parents_view c.pop.new.self.items)
    (part_view c.args.self.now.part) c.requires.can.1.reading.reads c.requires.tag
    (parents_popped c.args.self.now.parents.items c.pop.new.self.items f c.replace-inner.new.dest c.in-Some.ensures.items c.replace-inner.ensures.after) refl)

pub close_part-requires-clause-fits : goal.close_part-requires-clause-fits
close_part-requires-clause-fits c =
    let f = c.in-Some.parent in
    part_fits c.requires.can.1.rules (part_view c.replace-inner.result)
    (has_reached (state_view c.args.self.now) c.requires.can.0 (parent_of (part_view c.replace-inner.new.dest) f.number f.slot f.group (scope_view f.scope) ∷ parents_view c.pop.new.self.items)
    (part_view c.replace-inner.result) c.requires.can.1.reading.reads c.requires.tag
    (parents_popped c.args.self.now.parents.items c.pop.new.self.items f c.replace-inner.new.dest c.in-Some.ensures.items c.replace-inner.ensures.after) (ap part_view (sym c.replace-inner.ensures.value)))

pub close_part-requires-clause-few : goal.close_part-requires-clause-few
close_part-requires-clause-few c =
    let f = c.in-Some.parent in
    let few =
    parent_counts_fit f.number
    (has_reached (state_view c.args.self.now) c.requires.can.0 (parent_of (part_view c.replace-inner.new.dest) f.number f.slot f.group (scope_view f.scope) ∷ parents_view c.pop.new.self.items)
    (part_view c.args.self.now.part) c.requires.can.1.reading.reads c.requires.tag
    (parents_popped c.args.self.now.parents.items c.pop.new.self.items f c.replace-inner.new.dest c.in-Some.ensures.items c.replace-inner.ensures.after) refl) in
    let small = c.requires.can.1.reading.small in
    omega (arith, few, small)

pub returns-clause-closes : goal.returns-clause-closes
returns-clause-closes c =
    λ m depth levels base p0 rest begun ends.
    let f = c.in-Some.parent in
    let s = state_view c.args.self.now in
    let outer = parent_of (part_view c.replace-inner.new.dest) f.number f.slot f.group (scope_view f.scope) in
    let around = parents_popped c.args.self.now.parents.items c.pop.new.self.items f c.replace-inner.new.dest c.in-Some.ensures.items c.replace-inner.ensures.after in
    part_closed s
    (state_view (record { at = c.args.self.now.at + c.args.used; part = c.close_part.new.outer; scope = c.close_part.new.scope; parents = c.pop.new.self; step = c.args.self.now.step }))
    outer rest c.args.used around refl c.requires.tag c.in_ok-close_part.ensures.same_end ends
    (λ w closes. c.in_ok-close_part.ensures.closes m depth levels base p0 (here s rest) w (parents_view c.pop.new.self.items) s.scope f.group
    (has_reached s rest (outer ∷ parents_view c.pop.new.self.items) (part_view c.replace-inner.result) begun c.requires.tag around (ap part_view (sym c.replace-inner.ensures.value))) closes)
