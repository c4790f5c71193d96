-- The payload goes into the part.
use Rattle.std.proofs.Common.{ℕ, ◌+◌, Some, subst, arith}
use Rattle.pb_wire.specs.Fault.{HasTag}
use Rattle.pb_wire.specs.Scan.{given_at, passed}
use Rattle.pb_decode_parts.specs.Open.Parents.{one_more_in}
use Rattle.pb_decode_parts.proofs.PlaceLemmas.{slice_size}
use Rattle.pb_decode_whole.proofs.Tags.{bytes_next, payload_leads}
use Rattle.pb_decode_whole.proofs.Payloads.{open_can}
use Rattle.pb_decode_whole.proofs.reader.Reader.read_bytes.Goals as goal

pub put_payload-requires-clause-can : goal.put_payload-requires-clause-can
put_payload-requires-clause-can c = open_can c.requires.at_tag.can.rules c.requires.at_tag.can.is_open

pub returns-in-Ok : goal.returns-in-Ok
returns-in-Ok c =
    let later = c.in_ok-start.ensures.within.0 in
    record {
      least = omega (arith, later);
      most = c.in_ok-start.ensures.within.1;
      read =
          λ m depth levels at base p0 parents there.
          let p = given_at at (Some c.args.at.left.remaining) c.args.at.bytes.now in
          let has = subst (λ (z : ℕ). HasTag p c.args.at.tag.number z (passed p c.args.at.tag.size)) c.requires.bytes (c.requires.at_tag.there at) in
          let l = c.in_ok-start.ensures.whole at c.args.at.tag.number c.args.at.tag.wire_type (c.requires.at_tag.there at) in
          let within = c.in_ok-start.ensures.within.1 in
          let next = bytes_next c.args.at.tag.number c.in_ok-start.size c.args.target there.1 has c.requires.means c.requires.target l in
          let size = slice_size c.in_ok-start.start c.in_ok-start.size c.args.at.bytes.now within in (
            one_more_in c.args.at.tag.number there.0,
            c.in-Ok.ensures.reached m depth levels c.in_ok-start.size base p0 (passed p c.in_ok-start.start) (passed p (c.in_ok-start.start + c.in_ok-start.size)) parents there.0 next size
                (payload_leads p c.in_ok-start.start c.in_ok-start.size (passed p c.args.at.tag.size) within l),
            there.2,
          );
    }
