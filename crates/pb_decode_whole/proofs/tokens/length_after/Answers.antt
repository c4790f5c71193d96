-- The length comes after the tag, and the payload after it.
use Rattle.std.proofs.Common.{◌+◌, ap, ◌∙◌, arith, length, length-drop}
use Rattle.pb_wire.specs.Fault.{Place, HasLength}
use Rattle.pb_decode_parts.proofs.PlaceLemmas.{slice_from}
use Rattle.pb_decode_whole.proofs.Tags.{there_after}
use Rattle.pb_decode_whole.proofs.tokens.length_after.Goals as goal

pub overflow_add-result : goal.overflow_add-result
overflow_add-result c =
    let is = ap length (slice_from c.args.tag_size c.args.bytes.now) ∙ length-drop c.args.tag_size c.args.bytes.now in
    let used = (c.in-Whole.ensures 0).0 in
    let small = c.requires.small in
    omega (arith, is, used, small)

pub returns-clause-within : goal.returns-clause-within
returns-clause-within c =
    let is = ap length (slice_from c.args.tag_size c.args.bytes.now) ∙ length-drop c.args.tag_size c.args.bytes.now in
    let there = c.in-Whole.ensures 0 in
    let used = there.0 in
    let within = c.requires.within in
    (omega arith, omega (arith, is, used, within), there.1.small)

pub returns-clause-whole : goal.returns-clause-whole
returns-clause-whole c =
    λ at number wire_type has.
    there_after (λ (p q : Place). HasLength p c.in-Whole.size q) at c.args.left c.left_after-after.result c.args.bytes.now c.args.tag_size c.in-Whole.used c.left_after-after.ensures (c.in-Whole.ensures (at + c.args.tag_size)).1
