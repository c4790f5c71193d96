use Rattle.std.proofs.Common.{◌≡◌, false, map, take, vec_len}
use Rattle.std.specs.Prelude.{find}
use Rattle.pb_schema.specs.Names.{in_scope}
use Rattle.pb_link_names.specs.View.{declaration_view}
use Rattle.pb_link_names.specs.Lookup.{is_taken, scopes_from}
use Rattle.pb_link_names.specs.Scene.{scene_sees}
use Rattle.pb_link_names.proofs.WordLemmas.{found_last}
use Rattle.pb_link_names.proofs.scene.Scene.is_taken_around.Given as goal

abbrev pub invariant-loop-len : goal.invariant-loop-len
invariant-loop-len l =
    find (λ s. is_taken (map declaration_view l.row) (scene_sees false l.self) (in_scope s l.name)) (scopes_from l.scope) ≡ found_last (λ s. is_taken (map declaration_view l.row) (scene_sees false l.self) (in_scope s l.name)) (map (λ n. take n l.scope) l.lens.items)

abbrev pub decreases-loop-len : goal.decreases-loop-len
decreases-loop-len l = vec_len l.lens
