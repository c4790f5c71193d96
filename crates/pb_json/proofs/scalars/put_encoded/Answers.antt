use Rattle.std.proofs.Common.{◌+◌, ◌≤◌, arith, refl, rules}
use Rattle.pb_output.proofs.SinkLemmas.{puts_none, puts_then}
use Rattle.pb_json.proofs.Base64Lemmas.{encoded_more, encoded_none, encoded_whole, rest_taken}
use Rattle.pb_json.proofs.scalars.put_encoded.Goals as goal

pub pieces-init : goal.pieces-init
pieces-init g c = (search rules, refl, rw encoded_none puts_none)

pub pieces-preserved : goal.pieces-preserved
pieces-preserved g c =
    let whole = c.pieces.invariant.1 in
    let below : c.pieces.done ≤ c.pieces.done + 768 = omega arith in (
      search rules,
      omega (arith, whole),
      rw (encoded_more c.pieces.done (c.pieces.done + 768) c.args.bytes.now below c.pieces.invariant.0 whole)
          (puts_then c.pieces.invariant.2 c.put_piece.ensures),
    )

pub returns : goal.returns
returns g c =
    rw (encoded_whole c.pieces.done c.args.bytes.now c.pieces.invariant.0 c.pieces.invariant.1) (puts_then c.pieces.invariant.2 (rw (rest_taken c.pieces.done c.args.bytes.now) at c.put_piece-2.ensures))
