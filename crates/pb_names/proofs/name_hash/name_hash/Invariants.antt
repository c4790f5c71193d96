use Rattle.std.proofs.Common.{◌≡◌, take}
use Rattle.pb_names.specs.NameHash.{name_hash}
use Rattle.pb_names.proofs.name_hash.name_hash.Given as goal

abbrev pub invariant-loop-byte : goal.invariant-loop-byte
invariant-loop-byte l = l.hash ≡ name_hash (take l.byte-index l.name)
