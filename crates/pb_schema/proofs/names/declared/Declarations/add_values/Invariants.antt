use Rattle.std.proofs.Common.{[], ◌∷◌, take, string_bytes}
use Rattle.std.specs.List.{flat_map}
use Rattle.pb_schema.specs.Names.Declared.{Adds}
use Rattle.pb_schema.proofs.names.declared.Declarations.add_values.Given as goal

abbrev pub invariant-loop-value : goal.invariant-loop-value
invariant-loop-value l = Adds l.scope (flat_map (λ v. string_bytes v.0 ∷ []) (take l.value-index l.values)) l.fn.self l.self
