-- Files beside files in memory.
use Rattle.std.specs.Prelude.{◌==◌, ℕ, List, [], ◌∷◌, Bool, false, Option, None, Some, if◌then◌else◌}
use Rattle.pbtool_files.specs.FileMap.{FileMap}

-- the path begins with a NUL
abbrev pub is_in_memory : List ℕ → Bool
is_in_memory [] = false
is_in_memory (b ∷ bs) = b == 0

-- the map with another one, which has the paths of files in memory
abbrev pub map_beside : FileMap → FileMap → FileMap
map_beside map memory path = if is_in_memory path then memory path else map path

-- both, where both are known
abbrev pub beside : Option FileMap → Option FileMap → Option FileMap
beside (Some map) (Some memory) = Some (map_beside map memory)
beside (Some map) None = None
beside None memory = None
