use Rattle.std.proofs.Common.{◌∙◌, map, sym, ap}
use Rattle.std.specs.Prelude.{is_some}
use Rattle.pb_link_names.specs.View.{declaration_view}
use Rattle.pb_link_names.specs.Places.{is_sought}
use Rattle.pb_link_names.specs.Scene.{scene_sees}
use Rattle.pb_link_names.specs.declared.places.Want.TheVariants as want
use Rattle.pb_link_names.proofs.PlacesLemmas.{either_found}
use Rattle.pb_link_names.proofs.scene.Scene.is_taken.Goals as goal

pub returns-else-is_package : goal.returns-else-is_package
returns-else-is_package c =
    let ds = map declaration_view c.args.row.now in
    either_found (is_sought want.All (scene_sees c.args.everywhere c.args.self.now) c.args.name.now) ds c.is_some.result _ (sym (c.is_package.ensures ds c.requires) ∙ c.if-is_package.false) (c.is_some.ensures ∙ ap is_some c.first-declared.ensures)
