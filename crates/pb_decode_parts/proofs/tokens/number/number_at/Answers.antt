use Rattle.pb_wire.specs.Scan.{given_at}
use Rattle.pb_decode_parts.proofs.NumberTokens.{told_number}
use Rattle.pb_decode_parts.proofs.tokens.number.number_at.Goals as goal

pub returns : goal.returns
returns c = λ at. told_number c.args.wire_type (given_at at c.args.left c.args.bytes.now) c.scan_number.result (c.scan_number.ensures at)
