use Rattle.std.proofs.Common.{◌≡◌, ℕ, List, ◌++◌}
use Rattle.std.specs.List.{flat_map}
use Rattle.pb_json.specs.JsonNames.{lower_camel}
use Rattle.pb_json.specs.JsonText.{string_byte}
use Rattle.pb_json.proofs.NameLemmas.{letters_from}
use Rattle.pb_output.specs.Sink.{Puts}
use Rattle.pb_json.proofs.names.put_camel_bytes.Given as goal

abbrev pub invariant-loop-byte : goal.invariant-loop-byte
invariant-loop-byte g l =
    (front : List ℕ) × (front ++ letters_from l.raised l.byte-index l.name ≡ flat_map string_byte (lower_camel l.name))
    × Puts g.O.Output.written g.O.Output.failures l.initial.out l.out l.initial.sink l.sink front
