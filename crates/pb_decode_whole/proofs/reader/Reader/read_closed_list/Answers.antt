-- The elements go into the part of their list, which then is whole.
use Rattle.std.proofs.Common.{◌≡◌, ◌+◌, Some, sym, subst, arith}
use Rattle.pb_wire.specs.Scan.{passed}
use Rattle.pb_decode_parts.specs.declared.tokens.step.Step.TheVariants.{Elements}
use Rattle.pb_decode_parts.specs.Open.Parents.{Part}
use Rattle.pb_decode_parts.specs.Open.PartView.{part_view}
use Rattle.pb_decode_parts.specs.Tokens.After.{After}
use Rattle.pb_decode_whole.proofs.Payloads.{payload_place, typed_tag, list_filled}
use Rattle.pb_decode_whole.proofs.reader.Reader.read_closed_list.Goals as goal

pub returns : goal.returns
returns c =
    let later = c.in_ok-start.ensures.within.0 in
    let within = c.in_ok-start.ensures.within.1 in
    let same = c.if-used-size.false in
    record {
      least = omega (arith, later);
      most = omega (arith, within, same);
      read =
          λ m depth levels at base p0 parents there.
          let same = c.if-used-size.false in
          let all : c.in_ok-run.used ≡ c.in_ok-start.size = omega (arith, same) in
          list_filled at c.args.at.left.remaining c.args.at.bytes.now c.args.at.tag.number c.args.at.tag.size c.in_ok-start.start c.in_ok-start.size c.in_ok-run.used c.args.at.left.depth_left c.args.kind (part_view c.put_run.new.part) c.requires.at_tag.can.rules there
          (typed_tag c.args.at.bytes.now (Some c.args.at.left.remaining) c.args.at.tag.number c.args.at.tag.wire_type 2 c.args.at.tag.size c.requires.bytes c.requires.at_tag.there at) (c.in_ok-start.ensures.whole at c.args.at.tag.number c.args.at.tag.wire_type (c.requires.at_tag.there at)) c.requires.means
          (λ outer scope begun.
          subst (λ (z : Part). After c.args.self.now.pool.now m depth levels base p0 parents (Elements c.args.at.tag.number c.args.kind outer) z scope (passed (payload_place at c.args.at.bytes.now c.in_ok-start.start c.in_ok-start.size) c.in_ok-run.used)) (sym c.in_ok-put_run.ensures)
          (c.in_ok-run.ensures.put m depth levels (at + c.in_ok-start.start) outer base p0 parents scope (part_view c.args.part.now) begun)) all;
    }
