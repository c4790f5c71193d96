use Rattle.std.proofs.Common.{◌<◌, map, take, length}
use Rattle.pb_link_names.specs.View.{declaration_view}
use Rattle.pb_link_names.specs.Words.{IsTree}
use Rattle.pb_link_names.proofs.WordLemmas.{AreThere}
use Rattle.pb_link_names.proofs.words.words_of.Given as goal

abbrev pub invariant-loop-declaration : goal.invariant-loop-declaration
invariant-loop-declaration l =
    IsTree l.words × (0 < length l.words.inside.items) × AreThere (map declaration_view (take l.declaration-index l.row)) l.words
