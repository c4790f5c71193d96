-- After the length what the record opens is open.
use Rattle.std.proofs.Common.{ℕ, refl, subst}
use Rattle.pb_wire.specs.Fault.{HasTag}
use Rattle.pb_wire.specs.Scan.{passed}
use Rattle.pb_decode.specs.Reader.{state_view, here}
use Rattle.pb_decode_whole.proofs.Tags.{opening_next}
use Rattle.pb_decode.proofs.WholeRecords.{tag_reached, tag_can, length_here}
use Rattle.pb_decode.proofs.reader.state.State.take_opening.Goals as goal

pub returns-clause-taken : goal.returns-clause-taken
returns-clause-taken c =
    λ m depth levels base p0 begun.
    let p = here (state_view c.args.self.now) c.args.bytes.now in
    let has = subst (λ (z : ℕ). HasTag (here (state_view c.args.self.now) c.args.bytes.now) c.args.tag.number z (passed (here (state_view c.args.self.now) c.args.bytes.now) c.args.tag.size)) c.requires.bytes c.requires.at_tag.there in
    let l =
    length_here (state_view c.args.self.now) c.args.bytes.now c.args.tag.number c.args.tag.wire_type c.args.tag.size c.in-Some.start c.in-Some.size c.left.ensures c.in-Some.ensures.whole c.requires.at_tag.there in
    let next = opening_next c.args.tag.number c.args.target (tag_reached (state_view c.args.self.now) c.args.bytes.now begun c.requires.at_tag.step) has c.requires.means (c.if-not-has_level.ensures.depth_left refl) in
    c.in_ok-advance_past_length.ensures.reads c.args.by.now.pool.now m depth levels base p0 (passed p c.args.tag.size) (passed p c.in-Some.start) c.requires.at_tag.rules
    (tag_can (state_view c.args.self.now) c.args.bytes.now c.requires.at_tag.rules c.requires.at_tag.reading.reads c.requires.at_tag.step) next l refl
