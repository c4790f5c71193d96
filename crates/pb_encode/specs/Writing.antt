-- What sending a part puts, where the lengths begin with those in the part.
use Rattle.std.specs.Prelude.{◌≡◌, ℕ, List, ◌++◌, false, Option}
use Rattle.pb_output.specs.declared.sink.Sink.{Sink}
use Rattle.pb_output.specs.Sink.{Puts}

-- what is next are the lengths after them, unless the output failed
pub record Writes
    {D : Type 0} (written : D → Option (List ℕ)) (failures : D → ℕ) (old new : D) (a b : Sink) (lengths next inside bytes : List ℕ) :
    Type 0 where
  pub follows : (more : List ℕ) → lengths ≡ inside ++ more → Puts written failures old new a b bytes × (b.failed ≡ false → next ≡ more)
