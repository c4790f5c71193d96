-- Where an iterator over the records of an input is.
use Rattle.std.specs.Prelude.{ℕ, List, Bool}

pub record Rest : Type 0 where
  -- the bytes of the input, as many as its limit allows, and whether more follow
  pub text : List ℕ
  pub is_cut : Bool
  -- how many of them were read
  pub at : ℕ
  -- how many levels groups may nest
  pub depth : ℕ
