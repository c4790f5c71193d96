use Rattle.std.proofs.Common.{◌≡◌, map, take}
use Rattle.pb_link_names.specs.View.{declaration_view}
use Rattle.pb_link_rules.specs.Flags.{are_imports_there}
use Rattle.pb_link_rules.proofs.flags.right_imports.Given as goal

abbrev pub invariant-loop-declaration : goal.invariant-loop-declaration
invariant-loop-declaration l = l.flags.items ≡ map (are_imports_there l.imports) (map declaration_view (take l.declaration-index l.row))
