use Rattle.std.proofs.Common.{◌≡◌, drop}
use Rattle.pb_schema.specs.Names.{is_package}
use Rattle.pb_schema.proofs.WordLemmas.{rest_passes}
use Rattle.pb_schema.proofs.names.words.is_package.Given as goal

abbrev pub invariant-loop-byte : goal.invariant-loop-byte
invariant-loop-byte l = is_package l.name ≡ rest_passes l.at_start (drop l.byte-index l.name)
