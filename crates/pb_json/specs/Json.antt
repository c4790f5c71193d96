-- JSON values (RFC 8259).
use Rattle.std.specs.Prelude.{List, ℕ, ℤ, Bool}
use Rattle.std.specs.Float.{Float, Format}

mutual
  pub data Json : Type 0 where
    null : Json
    truth : Bool → Json
    -- a number by its digits
    number : List ℕ → Json
    -- a number that is a finite float
    real : Format → Float → Json
    -- a string by its characters, none of which needs an escape
    plain : List ℕ → Json
    -- a string by the bytes of its characters
    string : List ℕ → Json
    -- a string that is a point in time: seconds since 1970-01-01T00:00:00Z, and nanoseconds after these
    instant : ℤ → ℤ → Json
    array : Elements → Json
    object : Members → Json

  pub data Elements : Type 0 where
    no_elements : Elements
    element : Json → Elements → Elements

  -- each a name and a value
  pub data Members : Type 0 where
    no_members : Members
    member : List ℕ → Json → Members → Members
