use Rattle.std.proofs.Common.{◌≡◌, option_map, take}
use Rattle.pb_wire.specs.Unknown.{records_of}
use Rattle.pb_json_names.specs.Name.{last_bytes}
use Rattle.pb_json_names.proofs.held.last_of.Given as goal

abbrev pub invariant-loop-record : goal.invariant-loop-record
invariant-loop-record l = option_map (λ s. s.now) l.last ≡ last_bytes l.number (records_of (take l.record-index l.records))
