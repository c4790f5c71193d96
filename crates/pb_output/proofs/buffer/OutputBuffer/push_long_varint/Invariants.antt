use Rattle.std.proofs.Common.{◌≡◌, ◌≤◌, ◌+◌, take, length, ◌*◌, ◌<◌, ◌-◌, ◌++◌, ◌^◌}
use Rattle.pb_wire.specs.Varint.{shortest}
use Rattle.pb_output.proofs.buffer.OutputBuffer.push_long_varint.Given as goal

abbrev pub invariant-groups : goal.invariant-groups
invariant-groups l = record {
  whole : length l.self-inside.bytes ≡ 4096;
  from : length l.fn.self ≤ l.end;
  within : l.end ≤ length l.fn.self + 9;
  left : l.rest * 2 ^ (7 * (l.end - length l.fn.self)) < 2 ^ 64;
  bytes : take l.end l.self-inside.bytes ++ shortest l.rest ≡ l.fn.self ++ shortest l.number;
}

abbrev pub decreases-groups : goal.decreases-groups
decreases-groups l = l.rest
