use Rattle.std.proofs.Common.{[], ◌∷◌, take, string_bytes}
use Rattle.std.specs.List.{flat_map}
use Rattle.pb_schema.specs.Names.Declared.{Adds}
use Rattle.pb_schema.proofs.names.declared.Declarations.add_oneofs.Given as goal

abbrev pub invariant-loop-name : goal.invariant-loop-name
invariant-loop-name l = Adds l.scope (flat_map (λ n. string_bytes n ∷ []) (take l.name-index l.oneofs)) l.fn.self l.self
