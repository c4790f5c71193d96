-- What a handle holds.
use Rattle.std.specs.Prelude.{Option, option_map, IsSomeAnd}
use Rattle.pb_schema.specs.Types.{Types}
use Rattle.pb_json.specs.Given.{NamesGiven}
use Rattle.pb_c_handles.specs.declared.pool.PoolHandle.{PoolHandle}

-- the types of the pool that a handle holds, if it holds one
abbrev pub types_held : PoolHandle → Option Types
types_held h = option_map (λ s. s.pool.value) h.seal.pool

-- the names beside these types that their fields are given in JSON
abbrev pub names_held : PoolHandle → Option NamesGiven
names_held h = option_map (λ s. s.names.value) h.seal.pool

-- a handle holds types and names of which this is true
abbrev pub HoldsNames : (Types → NamesGiven → Type 0) → PoolHandle → Type 0
HoldsNames P h = IsSomeAnd h.seal.pool (λ s. P s.pool.value s.names.value)
