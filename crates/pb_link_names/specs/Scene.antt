-- What type names are looked up in.
use Rattle.std.specs.Prelude.{List, Bool}
use Rattle.pb_link_names.specs.Declarations.{Declaration}
use Rattle.pb_link_names.specs.Lookup.{Seen, every_file}
use Rattle.pb_link_names.specs.Graphs.{sees_by}
use Rattle.pb_link_names.specs.NameSets.{ArePackages}
use Rattle.pb_link_names.specs.Places.{ArePlaces, sees_if}
use Rattle.pb_link_names.specs.Words.{AreWords}
use Rattle.pb_link_names.specs.declared.scene.Scene.{Scene}

-- the tables are those of the declarations, and of what the file that was looked at last sees
pub record IsScene (ds : List Declaration) (s : Scene) : Type 0 where
  pub places : ArePlaces ds 0 s.places
  pub packages : ArePackages ds every_file s.packages
  pub words : AreWords ds s.words
  pub seen : ArePackages ds (sees_by s.sight) s.seen

-- what is seen in a scene, or from everywhere
abbrev pub scene_sees : Bool → Scene → Seen
scene_sees everywhere s = sees_if everywhere s.sight
