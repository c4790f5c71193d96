use Rattle.std.proofs.Common.{◌≡◌, map, take, vec_len}
use Rattle.std.specs.Prelude.{find}
use Rattle.pb_link_names.specs.View.{declaration_view}
use Rattle.pb_link_names.specs.Lookup.{decides, scopes_from}
use Rattle.pb_link_names.specs.Scene.{scene_sees}
use Rattle.pb_link_names.proofs.WordLemmas.{found_last}
use Rattle.pb_link_names.proofs.scene.Scene.deciding_scope_by_words.Given as goal

abbrev pub invariant-loop-len : goal.invariant-loop-len
invariant-loop-len l =
    find (decides (map declaration_view l.row) (scene_sees l.everywhere l.self) l.name) (scopes_from l.scope) ≡ found_last (decides (map declaration_view l.row) (scene_sees l.everywhere l.self) l.name) (map (λ n. take n l.scope) l.lens.items)

abbrev pub decreases-loop-len : goal.decreases-loop-len
decreases-loop-len l = vec_len l.lens
