use Rattle.std.proofs.Common.{◌≡◌, drop}
use Rattle.pb_wire.specs.Unknown.{records_of}
use Rattle.pb_schema.specs.Types.{message_fields}
use Rattle.pb_value.specs.Cause.{unknown_cause}
use Rattle.pb_value.specs.WellFormed.{AreUnknown}
use Rattle.pb_value.proofs.judge.unknown.check_unknown.Given as goal

abbrev pub invariant-loop-number : goal.invariant-loop-number
invariant-loop-number l = record {
  cause : unknown_cause l.pool (message_fields l.pool l.message_type.0) (records_of l.records) ≡ unknown_cause l.pool (message_fields l.pool l.message_type.0) (records_of (drop l.number-index l.records));
  good : AreUnknown l.pool (message_fields l.pool l.message_type.0) (records_of (drop l.number-index l.records)) → AreUnknown l.pool (message_fields l.pool l.message_type.0) (records_of l.records);
}
