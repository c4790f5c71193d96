-- An input with a buffer, as contracts see it.
use Rattle.std.specs.Prelude.{ℕ, List, Option}
use Rattle.std.specs.Io.KnownBytes.{prepend_known}

pub record Buffered (I : Type 0) : Type 0 where
  -- the bytes that were read of the input and not yet given
  pub held : List ℕ
  pub input : I

-- the bytes that are left: those that are held, and then those of the input
abbrev pub left_of : {I : Type 0} → (I → Option (List ℕ)) → Buffered I → Option (List ℕ)
left_of left b = prepend_known b.held (left b.input)

-- what else is said of the input
abbrev pub of_input : {I X : Type 0} → (I → X) → Buffered I → X
of_input says b = says b.input
