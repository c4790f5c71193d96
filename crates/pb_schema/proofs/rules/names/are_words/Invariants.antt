use Rattle.std.proofs.Common.{◌↔◌, map, drop, string_bytes}
use Rattle.pb_schema.specs.Rules.{AreWords}
use Rattle.pb_schema.proofs.rules.names.are_words.Given as goal

abbrev pub invariant-loop-name : goal.invariant-loop-name
invariant-loop-name l =
    AreWords (map string_bytes l.names) ↔ AreWords (map string_bytes (drop l.name-index l.names))
