use Rattle.std.proofs.Common.{◌≡◌, ◌++◌, drop}
use Rattle.pb_json.specs.JsonNames.{camel_from, lower_camel}
use Rattle.pb_json_read.proofs.name_table.camel.Given as goal

abbrev pub invariant-loop-byte : goal.invariant-loop-byte
invariant-loop-byte l = lower_camel l.declared ≡ l.name.items ++ camel_from l.raised (drop l.byte-index l.declared)
