use Rattle.std.proofs.Common.{map, take, string_bytes}
use Rattle.pb_schema.specs.Tables.{AreFirstsOf}
use Rattle.pb_schema.proofs.tables.values.first_places.Given as goal

abbrev pub invariant-loop-index : goal.invariant-loop-index
invariant-loop-index l = AreFirstsOf (map (λ v. (string_bytes v.0, v.1)) (take l.index l.values)) l.firsts
