-- The message ends with the input, and all of it is read.
use Rattle.std.proofs.Common.{rules, ap, arith}
use Rattle.std.proofs.lemmas.List.Elements.{All-from_get_or, recursion_from_All}
use Rattle.pb_wire.specs.Ranges.{IsByte, AreBytes}
use Rattle.pb_value.specs.View.{body_view}
use Rattle.pb_decode_parts.specs.Open.PartView.{part_view}
use Rattle.pb_decode_whole.proofs.Top.{text_open, text_filled}
use Rattle.pb_decode_whole.proofs.whole.build.Goals as goal

pub read_records-requires-clause-can : goal.read_records-requires-clause-can
read_records-requires-clause-can c =
    let bytes : AreBytes c.args.bytes.now = recursion_from_All IsByte c.args.bytes.now (All-from_get_or IsByte c.args.bytes.now 0 (λ i h. let fits = c.type_inv.bytes i in search (rules, fits))) in
    let size = c.if-bytes-max_bytes.false in
    let most = c.max_bytes-max_bytes.ensures.same in
    let small = c.max_bytes-max_bytes.ensures.small in
    record {
      rules = c.messages-messages.ensures.rules;
      is_open = text_open c.args.pool.now c.args.message_type.0 c.max_depth-max_depth.result c.args.bytes.now (body_view c.empty_body.result) c.empty_body.ensures c.max_depth-max_depth.ensures.small c.requires bytes;
      small = omega (arith, size, small);
    }

pub from_well_formed-requires-clause-well_formed : goal.from_well_formed-requires-clause-well_formed
from_well_formed-requires-clause-well_formed c =
    let bytes : AreBytes c.args.bytes.now = recursion_from_All IsByte c.args.bytes.now (All-from_get_or IsByte c.args.bytes.now 0 (λ i h. let fits = c.type_inv.bytes i in search (rules, fits))) in
    let size = c.if-bytes-max_bytes.false in
    let most = c.max_bytes-max_bytes.ensures.same in
    (text_filled c.args.pool.now c.args.message_type.0 c.max_depth-max_depth.result c.args.limits c.args.bytes.now (body_view c.empty_body.result) _ c.in_ok-body.ensures.0.0 (body_view c.in_ok-body.body) c.messages-messages.ensures.rules c.empty_body.ensures c.max_depth-max_depth.ensures.same c.max_depth-max_depth.ensures.small (omega (arith, size, most)) c.requires bytes
    (ap part_view c.in_ok-body.ensures.1) c.in_ok-read_records.ensures).1

pub returns-clause-value : goal.returns-clause-value
returns-clause-value c =
    let bytes : AreBytes c.args.bytes.now = recursion_from_All IsByte c.args.bytes.now (All-from_get_or IsByte c.args.bytes.now 0 (λ i h. let fits = c.type_inv.bytes i in search (rules, fits))) in
    let size = c.if-bytes-max_bytes.false in
    let most = c.max_bytes-max_bytes.ensures.same in
    rw c.from_well_formed.ensures ((text_filled c.args.pool.now c.args.message_type.0 c.max_depth-max_depth.result c.args.limits c.args.bytes.now (body_view c.empty_body.result) _ c.in_ok-body.ensures.0.0 (body_view c.in_ok-body.body) c.messages-messages.ensures.rules c.empty_body.ensures c.max_depth-max_depth.ensures.same c.max_depth-max_depth.ensures.small (omega (arith, size, most)) c.requires bytes
    (ap part_view c.in_ok-body.ensures.1) c.in_ok-read_records.ensures).0)
