-- JSON values (RFC 8259, section 3). Elements and members are in order, and those of one name stay apart.
use Rattle.std.specs.Prelude.{List, ℕ, Bool}

mutual
  pub data Json : Type 0 where
    null : Json
    boolean : Bool → Json
    -- a number by its characters
    number : List ℕ → Json
    -- a string by the bytes of its characters
    string : List ℕ → Json
    array : Elements → Json
    object : Members → Json

  -- each with the byte where it begins
  pub data Elements : Type 0 where
    no_elements : Elements
    element : ℕ → Json → Elements → Elements

  -- each with the byte where its name begins, the name, and the byte where its value begins
  pub data Members : Type 0 where
    no_members : Members
    member : ℕ → List ℕ → ℕ → Json → Members → Members

-- a value and the byte where it begins
abbrev pub Placed : Type 0
Placed = ℕ × Json
