-- The number goes into the part.
use Rattle.std.proofs.Common.{ℕ, ◌+◌, ◌∙◌, Some, sym, ap, arith, length, length-drop}
use Rattle.pb_wire.specs.Fault.{Place}
use Rattle.pb_wire.specs.Scan.{given_at, passed}
use Rattle.pb_decode_parts.specs.Tokens.Number.{number_view}
use Rattle.pb_decode_parts.specs.Tokens.Numbers.{Follows}
use Rattle.pb_decode_parts.specs.Open.Parents.{one_more_in}
use Rattle.pb_decode_parts.specs.Tokens.After.{tag}
use Rattle.pb_decode_parts.proofs.PlaceLemmas.{slice_from}
use Rattle.pb_decode_whole.proofs.Tags.{there_after, number_next}
use Rattle.pb_decode_whole.proofs.Payloads.{open_can}
use Rattle.pb_decode_whole.proofs.reader.Reader.read_one.Goals as goal

pub put_number-requires-clause-can : goal.put_number-requires-clause-can
put_number-requires-clause-can c = open_can c.requires.at_tag.can.rules c.requires.at_tag.can.is_open

pub returns-in_ok-put_number-in-Whole : goal.returns-in_ok-put_number-in-Whole
returns-in_ok-put_number-in-Whole c =
    let is = ap length (slice_from c.args.at.tag.size c.args.at.bytes.now) ∙ length-drop c.args.at.tag.size c.args.at.bytes.now in
    let after = (c.in-Whole.ensures 0).0 in
    let within = c.requires.at_tag.within in
    record {
      least = omega arith;
      most = omega (arith, is, after, within);
      read = λ m depth levels at base p0 parents there.
          let p = given_at at (Some c.args.at.left.remaining) c.args.at.bytes.now in
          let reported = c.in-Whole.ensures (at + c.args.at.tag.size) in
          let follows =
          there_after (λ (q r : Place). Follows q (number_view c.in-Whole.value) r) at (Some c.args.at.left.remaining) c.left_after-after.result c.args.at.bytes.now c.args.at.tag.size c.in-Whole.size c.left_after-after.ensures reported.1.1 in
          let next = number_next c.args.at.tag.number c.args.at.tag.wire_type c.args.target c.requires.number there.1 (c.requires.at_tag.there at) c.requires.means in (
            one_more_in c.args.at.tag.number there.0,
            c.in_ok-put_number-in-Whole.ensures m depth levels base p0 (passed p c.args.at.tag.size) (passed p (c.args.at.tag.size + c.in-Whole.size)) parents there.0 next.0 next.2
                (next.1 ∙ ap (λ (z : ℕ). Some (tag c.args.at.tag.number z c.args.target)) (sym reported.1.0)) follows,
            there.2,
          );
    }

pub overflow_add-result : goal.overflow_add-result
overflow_add-result c =
    let is = ap length (slice_from c.args.at.tag.size c.args.at.bytes.now) ∙ length-drop c.args.at.tag.size c.args.at.bytes.now in
    let after = (c.in-Whole.ensures 0).0 in
    let within = c.requires.at_tag.within in
    let small = c.requires.at_tag.can.small in
    omega (arith, is, after, within, small)
