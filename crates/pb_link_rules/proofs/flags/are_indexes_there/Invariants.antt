use Rattle.std.proofs.Common.{◌≡◌, drop}
use Rattle.std.specs.List.{list_all}
use Rattle.pb_declarations.specs.View.{file_view}
use Rattle.pb_link_rules.specs.Rules.{is_import_index}
use Rattle.pb_link_rules.proofs.flags.are_indexes_there.Given as goal

abbrev pub invariant-loop-index : goal.invariant-loop-index
invariant-loop-index l = list_all (is_import_index (file_view l.file)) l.indexes ≡ list_all (is_import_index (file_view l.file)) (drop l.index-index l.indexes)
