-- The number goes into the part, and its record is counted.
use Rattle.std.proofs.Common.{ℕ, ◌+◌, ◌-◌, ◌∙◌, Option, Some, option_map, refl, sym, ap, subst, arith, length, length-drop}
use Rattle.pb_wire.specs.Fault.{Place}
use Rattle.pb_wire.specs.Scan.{passed}
use Rattle.pb_decode_parts.specs.Tokens.Number.{number_view}
use Rattle.pb_decode_parts.specs.Tokens.Numbers.{Follows}
use Rattle.pb_decode_parts.specs.Open.Parents.{Scope, Reached}
use Rattle.pb_decode_parts.specs.Open.PartView.{part_view, scope_view}
use Rattle.pb_decode_parts.specs.Tokens.After.{tag}
use Rattle.pb_decode.specs.Reader.{state_view, parents_view, left_of, here}
use Rattle.pb_decode.proofs.ReaderLemmas.{reached_reads}
use Rattle.pb_decode_parts.proofs.PlaceLemmas.{slice_from}
use Rattle.pb_decode_whole.proofs.Tags.{there_after, number_next}
use Rattle.pb_decode.proofs.WholeRecords.{tag_reached, tag_can, tag_few}
use Rattle.pb_decode.proofs.reader.state.State.take_number_record.Goals as goal

pub target_of-target-requires : goal.target_of-target-requires
target_of-target-requires c = tag_can (state_view c.args.self.now) c.args.bytes.now c.requires.at_tag.rules c.requires.at_tag.reading.reads c.requires.at_tag.step

pub put_number-requires-clause-can : goal.put_number-requires-clause-can
put_number-requires-clause-can c = tag_can (state_view c.args.self.now) c.args.bytes.now c.requires.at_tag.rules c.requires.at_tag.reading.reads c.requires.at_tag.step

pub count_one-requires : goal.count_one-requires
count_one-requires c =
    let few = tag_few (state_view c.args.self.now) c.args.bytes.now c.args.tag.number c.requires.at_tag.reading.reads c.requires.at_tag.step in
    let small = c.requires.at_tag.reading.small in
    omega (arith, few, small)

pub returns-in_ok-count_one-in-Whole-clause-taken : goal.returns-in_ok-count_one-in-Whole-clause-taken
returns-in_ok-count_one-in-Whole-clause-taken c =
    λ m depth levels base p0 begun.
    let reported = c.in-Whole.ensures (c.args.self.now.at + c.args.tag.size) in
    let after = c.left_after-after.ensures ∙ ap (λ (z : Option ℕ). option_map (λ (e : ℕ). e - c.args.tag.size) z) c.left.ensures in
    let follows =
    there_after (λ (p q : Place). Follows p (number_view c.in-Whole.value) q) c.args.self.now.at (left_of (state_view c.args.self.now)) c.left_after-after.result c.args.bytes.now c.args.tag.size c.in-Whole.size after reported.2 in
    let next =
    number_next c.args.tag.number c.args.tag.wire_type c.target_of-target.result c.requires.number (tag_reached (state_view c.args.self.now) c.args.bytes.now begun c.requires.at_tag.step) c.requires.at_tag.there c.target_of-target.ensures in
    let u = passed (here (state_view c.args.self.now) c.args.bytes.now) c.args.tag.size in
    let w = passed (here (state_view c.args.self.now) c.args.bytes.now) (c.args.tag.size + c.in-Whole.size) in
    reached_reads (state_view c.args.self.now)
    (record { at = c.args.self.now.at + (c.args.tag.size + c.in-Whole.size); now = part_view c.put_number.new.part; scope = scope_view c.count_one.new.scope; parents = parents_view c.args.self.now.parents.items; next = c.args.self.now.step })
    (c.args.tag.size + c.in-Whole.size) c.args.bytes.now refl c.in_ok-count_one-in-Whole.ensures.same_end c.requires.at_tag.step
    (subst (λ (z : Scope). Reached c.args.by.now.pool.now m depth levels base p0 (parents_view c.args.self.now.parents.items) (part_view c.put_number.new.part) z w) (sym c.in_ok-count_one-in-Whole.ensures.more)
    (c.in_ok-put_number-in-Whole.ensures m depth levels base p0 u w (parents_view c.args.self.now.parents.items) (scope_view c.args.self.now.scope) next.0 next.2
    (next.1 ∙ ap (λ (z : ℕ). Some (tag c.args.tag.number z c.target_of-target.result)) (sym reported.0)) follows))

pub overflow_add-used : goal.overflow_add-used
overflow_add-used c =
    let is = ap length (slice_from c.args.tag.size c.args.bytes.now) ∙ length-drop c.args.tag.size c.args.bytes.now in
    let after = (c.in-Whole.ensures 0).1 in
    let within = c.requires.at_tag.within in
    let small = c.requires.at_tag.reading.small in
    omega (arith, is, after, within, small)

pub overflow_cast-self : goal.overflow_cast-self
overflow_cast-self c =
    let is = ap length (slice_from c.args.tag.size c.args.bytes.now) ∙ length-drop c.args.tag.size c.args.bytes.now in
    let after = (c.in-Whole.ensures 0).1 in
    let within = c.requires.at_tag.within in
    let small = c.requires.at_tag.reading.small in
    omega (arith, is, after, within, small)

pub overflow_add-self : goal.overflow_add-self
overflow_add-self c =
    let is = ap length (slice_from c.args.tag.size c.args.bytes.now) ∙ length-drop c.args.tag.size c.args.bytes.now in
    let after = (c.in-Whole.ensures 0).1 in
    let within = c.requires.at_tag.within in
    let small = c.requires.at_tag.reading.small in
    omega (arith, is, after, within, small)

pub returns-in_ok-count_one-in-Whole-clause-passes : goal.returns-in_ok-count_one-in-Whole-clause-passes
returns-in_ok-count_one-in-Whole-clause-passes c =
    let is = ap length (slice_from c.args.tag.size c.args.bytes.now) ∙ length-drop c.args.tag.size c.args.bytes.now in
    let after = (c.in-Whole.ensures 0).1 in
    let within = c.requires.at_tag.within in
    let small = c.requires.at_tag.reading.small in
    (omega arith, omega (arith, is, after, within, small), refl)
