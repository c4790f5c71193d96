use Rattle.std.proofs.Common.{◌≡◌, ◌≤◌, length}
use Rattle.std.specs.Str.{bytes_eq}
use Rattle.pb_json.specs.JsonNames.{lower_camel}
use Rattle.pb_json.proofs.NameLemmas.{is_rest}
use Rattle.pb_json.proofs.names.is_camel.Given as goal

abbrev pub invariant-loop-byte : goal.invariant-loop-byte
invariant-loop-byte l = record {
  within : l.at ≤ length l.name;
  left : bytes_eq (lower_camel l.declared) l.name ≡ is_rest l.raised l.byte-index l.at l.declared l.name;
}
