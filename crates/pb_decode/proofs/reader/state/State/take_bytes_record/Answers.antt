-- The payload goes into the part, and its record is counted.
use Rattle.std.proofs.Common.{ℕ, ◌+◌, refl, sym, subst, arith}
use Rattle.pb_wire.specs.Fault.{HasTag}
use Rattle.pb_wire.specs.Scan.{passed}
use Rattle.pb_decode_parts.specs.Open.Parents.{Scope, Reached}
use Rattle.pb_decode_parts.specs.Open.PartView.{part_view, scope_view}
use Rattle.pb_decode_parts.proofs.PlaceLemmas.{slice_size}
use Rattle.pb_decode.specs.Reader.{state_view, parents_view, here}
use Rattle.pb_decode.proofs.ReaderLemmas.{reached_reads}
use Rattle.pb_decode_whole.proofs.Tags.{bytes_next, payload_leads}
use Rattle.pb_decode.proofs.WholeRecords.{tag_reached, tag_can, tag_few, length_here}
use Rattle.pb_decode.proofs.reader.state.State.take_bytes_record.Goals as goal

pub put_payload-requires-clause-can : goal.put_payload-requires-clause-can
put_payload-requires-clause-can c = tag_can (state_view c.args.self.now) c.args.bytes.now c.requires.at.at_tag.rules c.requires.at.at_tag.reading.reads c.requires.at.at_tag.step

pub count_one-requires : goal.count_one-requires
count_one-requires c =
    let few = tag_few (state_view c.args.self.now) c.args.bytes.now c.args.tag.number c.requires.at.at_tag.reading.reads c.requires.at.at_tag.step in
    let small = c.requires.at.at_tag.reading.small in
    omega (arith, few, small)

pub returns-in_ok-count_one-in-Ok-clause-taken : goal.returns-in_ok-count_one-in-Ok-clause-taken
returns-in_ok-count_one-in-Ok-clause-taken c =
    λ m depth levels base p0 begun.
    let p = here (state_view c.args.self.now) c.args.bytes.now in
    let has = subst (λ (z : ℕ). HasTag (here (state_view c.args.self.now) c.args.bytes.now) c.args.tag.number z (passed (here (state_view c.args.self.now) c.args.bytes.now) c.args.tag.size)) c.requires.at.bytes c.requires.at.at_tag.there in
    let l =
    length_here (state_view c.args.self.now) c.args.bytes.now c.args.tag.number c.args.tag.wire_type c.args.tag.size c.in-Some.start c.in-Some.size c.left.ensures c.in-Some.ensures.whole c.requires.at.at_tag.there in
    let within = c.in-Some.ensures.within.1 in
    let next = bytes_next c.args.tag.number c.in-Some.size c.args.target (tag_reached (state_view c.args.self.now) c.args.bytes.now begun c.requires.at.at_tag.step) has c.requires.at.means c.requires.target l in
    let size = slice_size c.in-Some.start c.in-Some.size c.args.bytes.now within in
    reached_reads (state_view c.args.self.now)
    (record { at = c.args.self.now.at + (c.in-Some.start + c.in-Some.size); now = part_view c.put_payload.new.part; scope = scope_view c.count_one.new.scope; parents = parents_view c.args.self.now.parents.items; next = c.args.self.now.step })
    (c.in-Some.start + c.in-Some.size) c.args.bytes.now refl c.in_ok-count_one-in-Ok.ensures.same_end c.requires.at.at_tag.step
    (subst (λ (z : Scope). Reached c.args.by.now.pool.now m depth levels base p0 (parents_view c.args.self.now.parents.items) (part_view c.put_payload.new.part) z (passed p (c.in-Some.start + c.in-Some.size))) (sym c.in_ok-count_one-in-Ok.ensures.more)
    (c.in-Ok.ensures.reached m depth levels c.in-Some.size base p0 (passed p c.in-Some.start) (passed p (c.in-Some.start + c.in-Some.size)) (parents_view c.args.self.now.parents.items) (scope_view c.args.self.now.scope) next size
    (payload_leads p c.in-Some.start c.in-Some.size (passed p c.args.tag.size) within l)))
