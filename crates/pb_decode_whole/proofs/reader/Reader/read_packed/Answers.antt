-- The values go to the end of their list, which then is whole.
use Rattle.std.proofs.Common.{◌≡◌, ◌∙◌, ◌+◌, ◌-◌, ℕ, Some, sym, ap, subst, arith, take, drop, length}
use Rattle.pb_wire.specs.Scan.{given_at, passed}
use Rattle.pb_decode_parts.specs.declared.tokens.step.Step.TheVariants.{Elements}
use Rattle.pb_decode_parts.specs.Open.Parents.{Part}
use Rattle.pb_decode_parts.specs.Open.PartView.{part_view}
use Rattle.pb_decode_parts.specs.Tokens.After.{After}
use Rattle.pb_decode_parts.proofs.AnswerLemmas.{reported_of}
use Rattle.pb_decode_parts.proofs.PlaceLemmas.{slice_from, slice_size}
use Rattle.pb_decode_whole.specs.Reads.{ReachedIn}
use Rattle.pb_decode_whole.proofs.Payloads.{payload_place, typed_tag, list_filled}
use Rattle.pb_decode_whole.proofs.reader.Reader.read_packed.Goals as goal

pub returns : goal.returns
returns c =
    let later = c.in_ok-start.ensures.within.0 in
    record {
      least = omega (arith, later);
      most = c.in_ok-start.ensures.within.1;
      read =
          λ m depth levels at base p0 parents there.
          let bytes = c.args.at.bytes.now in
          let number = c.args.at.tag.number in
          let kind = c.args.kind in
          let start = c.in_ok-start.start in
          let size = c.in_ok-start.size in
          let within = c.in_ok-start.ensures.within.1 in
          let rest = take (length bytes - start) (drop start bytes) in
          let count : (start + size) - start ≡ size = omega arith in
          let payload : take ((start + size) - start) (drop start bytes) ≡ take size rest = ap (λ (z : ℕ). take z (drop start bytes)) count ∙ ap (take size) (sym (slice_from start bytes)) in
          let all = slice_size start size bytes within in
          let filled =
          list_filled at c.args.at.left.remaining bytes number c.args.at.tag.size start size (length (take ((start + size) - start) (drop start bytes))) c.args.at.left.depth_left kind (part_view c.put_elements.new.part) c.requires.at_tag.can.rules there
          (typed_tag bytes (Some c.args.at.left.remaining) number c.args.at.tag.wire_type 2 c.args.at.tag.size c.requires.bytes c.requires.at_tag.there at) (c.in_ok-start.ensures.whole at number c.args.at.tag.wire_type (c.requires.at_tag.there at)) c.requires.means
          (λ outer scope begun.
          subst (λ (z : Part). After c.args.self.now.pool.now m depth levels base p0 parents (Elements number kind outer) z scope (passed (payload_place at bytes start size) (length (take ((start + size) - start) (drop start bytes))))) (sym c.in_ok-put_elements.ensures)
          (reported_of _ _ c.in-Some.values c.in-Some.is c.in_ok-values.ensures c.args.self.now.pool.now number size rest payload m depth levels (at + start) outer base p0 parents scope (part_view c.args.part.now) begun)) all in
          subst (λ (z : ℕ). ReachedIn c.args.self.now.pool.now m depth levels base p0 parents c.args.at.left.depth_left (part_view c.put_elements.new.part) (passed (given_at at (Some c.args.at.left.remaining) bytes) (start + z))) all filled;
    }
