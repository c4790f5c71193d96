-- Blanks, which texts of bytes may have between digits: spaces, tabs, and the line ends of any system.
use Rattle.std.specs.Prelude.{ℕ, Bool, ◌||◌, ◌==◌}

abbrev pub is_blank : ℕ → Bool
is_blank b = (b == 32) || (b == 9) || (b == 10) || (b == 13)
