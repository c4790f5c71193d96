use Rattle.std.proofs.Common.{◌≡◌}
use Rattle.pb_wire.specs.Unknown.{payload_of}
use Rattle.pb_test_types.specs.Words.{groups}
use Rattle.pb_test_types.proofs.bodies.groups.Given as goal

abbrev pub invariant-loop : goal.invariant-loop
invariant-loop l = payload_of l.payload ≡ groups l.counter
