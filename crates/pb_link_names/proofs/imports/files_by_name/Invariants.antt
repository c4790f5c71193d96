use Rattle.std.proofs.Common.{◌≡◌, ◌≤◌, ℕ, List, map, take, drop, length}
use Rattle.std.specs.List.{position_from}
use Rattle.std.specs.Str.{bytes_eq}
use Rattle.pb_declarations.specs.Decls.{DeclaredFile}
use Rattle.pb_declarations.specs.View.{file_view}
use Rattle.pb_link_names.specs.Firsts.{first_at}
use Rattle.pb_link_names.specs.Graphs.{joined_names}
use Rattle.pb_link_names.proofs.GraphLemmas.{Marked}
use Rattle.pb_link_names.proofs.imports.files_by_name.Given as goal

abbrev pub invariant-loop-index : goal.invariant-loop-index
invariant-loop-index l =
    (l.index ≤ length l.files)
    × ((name : List ℕ) → first_at l.firsts name ≡ position_from (λ (f : DeclaredFile). bytes_eq name f.name) l.index (drop l.index (map file_view l.files)))
    × (length l.marks.items ≡ length l.files)
    × Marked (map file_view l.files) (first_at l.firsts) l.marks.items l.index
    × (l.end ≡ length (joined_names (take l.index (map file_view l.files))))
    × (l.end ≤ length l.names)

abbrev pub decreases-loop-index : goal.decreases-loop-index
decreases-loop-index l = l.index
