-- A reader of the messages of an input, as contracts see it.
use Rattle.std.specs.Prelude.{ℕ, Bool}
use Rattle.pb_wire.specs.Limits.{Bounds}
use Rattle.pb_schema.specs.Types.{Types}

pub record Stream (I : Type 0) : Type 0 where
  pub pool : Types
  -- the index of the type of its messages
  pub kind : ℕ
  pub limits : Bounds
  pub input : I
  -- how many bytes were taken, up to the greatest u64
  pub taken : ℕ
  -- it has refused
  pub finished : Bool
