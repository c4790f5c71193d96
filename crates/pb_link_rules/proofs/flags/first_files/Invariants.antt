use Rattle.std.proofs.Common.{◌≡◌, map, take}
use Rattle.pb_link_names.specs.View.{declaration_view}
use Rattle.pb_link_rules.specs.Flags.{is_marked_first}
use Rattle.pb_link_rules.proofs.flags.first_files.Given as goal

abbrev pub invariant-loop-declaration : goal.invariant-loop-declaration
invariant-loop-declaration l = l.flags.items ≡ map (is_marked_first l.imports) (map declaration_view (take l.declaration-index l.row))
