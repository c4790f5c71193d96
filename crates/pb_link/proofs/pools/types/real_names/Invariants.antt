use Rattle.std.proofs.Common.{◌≡◌, ℕ, ◌<◌, ◌++◌, length, map, drop, false}
use Rattle.std.specs.Prelude.{string_bytes}
use Rattle.std.specs.List.{slice_index_or}
use Rattle.pb_declarations.specs.Decls.{MessageHead}
use Rattle.pb_link_names.specs.Declarations.{is_synthetic}
use Rattle.pb_link.specs.Pools.{real_from}
use Rattle.pb_link.proofs.pools.types.real_names.Given as goal

abbrev pub invariant-loop-index : goal.invariant-loop-index
invariant-loop-index l = (head : MessageHead) → ((o : ℕ) → o < length l.all → slice_index_or l.are_synthetic o false ≡ is_synthetic head o) → map string_bytes l.names.items ++ real_from head l.index (map string_bytes (drop l.index l.all)) ≡ real_from head 0 (map string_bytes l.all)
