use Rattle.std.proofs.Common.{◌≡◌, drop}
use Rattle.pb_wire.specs.Record.{group_of}
use Rattle.pb_wire.specs.Ranges.{AreInRange}
use Rattle.pb_wire.specs.Unknown.{records_of}
use Rattle.pb_value.specs.Cause.{is_numbered_group}
use Rattle.pb_value.proofs.judge.unknown.+numbered.Given as goal

abbrev pub invariant-are_numbered-loop-number : goal.invariant-are_numbered-loop-number
invariant-are_numbered-loop-number l = record {
  test : is_numbered_group (group_of (records_of l.records)) ≡ is_numbered_group (group_of (records_of (drop l.number-index l.records)));
  in_range : AreInRange (records_of (drop l.number-index l.records)) → AreInRange (records_of l.records);
}
