use Rattle.std.proofs.Common.{◌≡◌, ◌≤◌, take, length, ◌*◌, ◌<◌, ◌++◌, ◌^◌}
use Rattle.pb_wire.specs.Varint.{shortest}
use Rattle.pb_wire.proofs.varint.put_varint.Given as goal

abbrev pub invariant-loop-rest : goal.invariant-loop-rest
invariant-loop-rest l = (length l.bytes ≡ 10) × (l.len ≤ 9) × (l.rest * 2 ^ (7 * l.len) < 2 ^ 64) × (take l.len l.bytes ++ shortest l.rest ≡ shortest l.fn.number)

abbrev pub decreases-loop-rest : goal.decreases-loop-rest
decreases-loop-rest l = l.rest
