use Rattle.std.proofs.Common.{◌≡◌, ℕ, List, map, take, string_bytes}
use Rattle.std.specs.List.{list_any}
use Rattle.std.specs.Str.{bytes_eq}
use Rattle.pb_link_names.specs.NameSets.{is_in_set}
use Rattle.pb_link_names.proofs.marks.reserved.name_set.Given as goal

abbrev pub invariant-loop-name : goal.invariant-loop-name
invariant-loop-name l = (name : List ℕ) → is_in_set l.set name ≡ list_any (bytes_eq name) (map string_bytes (take l.name-index l.names))
