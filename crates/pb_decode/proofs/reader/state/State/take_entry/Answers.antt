-- The entry that is read goes into its map, and its record is counted.
use Rattle.std.proofs.Common.{ℕ, ◌+◌, ◌-◌, ◌∙◌, Some, refl, ap, subst, arith, take, drop, length, length-drop}
use Rattle.std.specs.Prelude.{false}
use Rattle.pb_wire.specs.Fault.{HasTag}
use Rattle.pb_wire.specs.Scan.{given_at, passed}
use Rattle.pb_decode_parts.specs.Open.PartView.{part_view, scope_view}
use Rattle.pb_decode_parts.specs.Open.Parents.{up_to}
use Rattle.pb_decode.specs.Reader.{state_view, parents_view, left_of, here}
use Rattle.pb_decode.proofs.WholeRecords.{tag_few, tag_can, tag_reached, length_here, entry_in_reader, inner_passed}
use Rattle.pb_decode_parts.proofs.PlaceLemmas.{slice_from}
use Rattle.pb_decode_whole.proofs.Held.{part_fits}
use Rattle.pb_decode_whole.proofs.Payloads.{entry_inside, none_left}
use Rattle.pb_decode.proofs.reader.state.State.take_entry.Goals as goal

pub read_entry-requires-clause-can : goal.read_entry-requires-clause-can
read_entry-requires-clause-can c =
    let is = ap length (slice_from c.in-Some.start c.args.bytes.now) ∙ length-drop c.in-Some.start c.args.bytes.now in
    let small = c.requires.at_tag.reading.small in
    let s = state_view c.args.self.now in
    let has = subst (λ (z : ℕ). HasTag (here s c.args.bytes.now) c.args.tag.number z (passed (here s c.args.bytes.now) c.args.tag.size)) c.requires.bytes c.requires.at_tag.there in
    let l = length_here s c.args.bytes.now c.args.tag.number c.args.tag.wire_type c.args.tag.size c.in-Some.start c.in-Some.size c.left.ensures c.in-Some.ensures.whole c.requires.at_tag.there in
    let level = c.if-self-eq0.false in
    record {
      rules = c.requires.at_tag.rules;
      is_open = entry_in_reader s c.args.bytes.now c.args.tag.number c.args.tag.size c.in-Some.start c.in-Some.size c.args.key_kind c.args.value_kind c.requires.at_tag.rules c.requires.at_tag.reading c.requires.at_tag.step has l c.requires.means (omega (arith, level));
      small = omega (arith, is, small);
    }

pub close_part-requires-clause-can : goal.close_part-requires-clause-can
close_part-requires-clause-can c = tag_can (state_view c.args.self.now) c.args.bytes.now c.requires.at_tag.rules c.requires.at_tag.reading.reads c.requires.at_tag.step

pub close_part-requires-clause-fits : goal.close_part-requires-clause-fits
close_part-requires-clause-fits c =
    let s = state_view c.args.self.now in
    let has = subst (λ (z : ℕ). HasTag (here s c.args.bytes.now) c.args.tag.number z (passed (here s c.args.bytes.now) c.args.tag.size)) c.requires.bytes c.requires.at_tag.there in
    let l = length_here s c.args.bytes.now c.args.tag.number c.args.tag.wire_type c.args.tag.size c.in-Some.start c.in-Some.size c.left.ensures c.in-Some.ensures.whole c.requires.at_tag.there in
    let level = c.if-self-eq0.false in
    let read = entry_inside s.at (left_of s) c.args.bytes.now c.args.tag.number c.args.tag.size c.in-Some.start c.in-Some.size s.scope.depth_left c.args.key_kind c.args.value_kind c.requires.at_tag.rules (s.scope, tag_reached s c.args.bytes.now c.requires.at_tag.reading.reads c.requires.at_tag.step, refl) has l c.requires.means (omega (arith, level)) c.in-Ok.ensures refl in
    part_fits c.requires.at_tag.rules (part_view c.read_entry.new.entry) read.1

pub close_part-requires-clause-few : goal.close_part-requires-clause-few
close_part-requires-clause-few c =
    let few = tag_few (state_view c.args.self.now) c.args.bytes.now c.args.tag.number c.requires.at_tag.reading.reads c.requires.at_tag.step in
    let small = c.requires.at_tag.reading.small in
    omega (arith, few, small)

pub returns-clause-taken : goal.returns-clause-taken
returns-clause-taken c =
    λ m depth levels base p0 begun.
    let s = state_view c.args.self.now in
    let has = subst (λ (z : ℕ). HasTag (here s c.args.bytes.now) c.args.tag.number z (passed (here s c.args.bytes.now) c.args.tag.size)) c.requires.bytes c.requires.at_tag.there in
    let l = length_here s c.args.bytes.now c.args.tag.number c.args.tag.wire_type c.args.tag.size c.in-Some.start c.in-Some.size c.left.ensures c.in-Some.ensures.whole c.requires.at_tag.there in
    let level = c.if-self-eq0.false in
    let read = entry_inside s.at (left_of s) c.args.bytes.now c.args.tag.number c.args.tag.size c.in-Some.start c.in-Some.size s.scope.depth_left c.args.key_kind c.args.value_kind c.requires.at_tag.rules (s.scope, tag_reached s c.args.bytes.now begun c.requires.at_tag.step, refl) has l c.requires.means (omega (arith, level)) c.in-Ok.ensures refl in
    let q = passed (given_at (c.args.self.now.at + c.in-Some.start) (Some c.in-Some.size) (take (length c.args.bytes.now - c.in-Some.start) (drop c.in-Some.start c.args.bytes.now))) c.in-Some.size in
    inner_passed s
    (record { at = c.args.self.now.at + (c.in-Some.start + c.in-Some.size); now = part_view c.close_part.new.outer; scope = scope_view c.close_part.new.scope; parents = parents_view c.args.self.now.parents.items; next = c.args.self.now.step })
    c.args.bytes.now c.in-Some.start c.in-Some.size refl c.requires.at_tag.step c.in_ok-close_part.ensures.same_end
    (c.in_ok-close_part.ensures.closes m depth levels base p0 q (up_to c.args.self.now.scope.end q) (parents_view c.args.self.now.parents.items) read.0 false read.1 (none_left c.in-Some.size, refl))
