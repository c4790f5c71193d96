use Rattle.std.proofs.Common.{◌≡◌, ◌++◌, true, drop}
use Rattle.pb_schema.specs.Names.{camel_case}
use Rattle.pb_schema.proofs.names.entry_name.Given as goal

abbrev pub invariant-loop-byte : goal.invariant-loop-byte
invariant-loop-byte l = camel_case true l.name ≡ l.entry.items ++ camel_case l.raise (drop l.byte-index l.name)
