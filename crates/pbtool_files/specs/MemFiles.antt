-- Files in memory, as a map.
use Rattle.std.specs.Prelude.{ℕ, List, find, option_map, string_bytes}
use Rattle.std.specs.Str.{bytes_eq}
use Rattle.std.specs.Borrow.{Bor}
use Rattle.std.specs.declared.string.String.{String}
use Rattle.std.specs.declared.alloc.Global.{Global}
use Rattle.pbtool_files.specs.FileMap.{FileMap}

-- what the first entry of a path has
abbrev pub map_of : List (String Global × Bor (List ℕ)) → FileMap
map_of entries path = option_map (λ e. e.1.now) (find (λ e. bytes_eq (string_bytes e.0) path) entries)
