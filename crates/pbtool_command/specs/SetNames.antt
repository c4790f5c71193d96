-- The names that the set of a command gives to fields in JSON, and how frames are shown with them.
use Rattle.std.specs.Prelude.{◌≡◌, ℕ, List, Option, Some}
use Rattle.std.specs.Borrow.{Bor}
use Rattle.pb_schema.specs.Types.{Types}
use Rattle.pb_json.specs.Given.{NamesGiven}
use Rattle.pb_json_names.specs.Names.{AreNamesOf}
use Rattle.pbtool_files.specs.SetFile.{HasType}
use Rattle.pbtool_command.specs.declared.command.FrameForm.{FrameForm}
use Rattle.pbtool_command.specs.declared.command.FrameForm.TheVariants as frame_form
use Rattle.pbtool_command.specs.declared.command.Source.{Source}
use Rattle.pbtool_command.specs.declared.shown.Shown.{Shown}
use Rattle.pbtool_command.specs.declared.shown.Shown.TheVariants as shown

-- where IsAtSet says which file is at the set's path
module _ (IsAtSet : Option (List ℕ) → Type 0) (s : Source) (pool : Types) (m : ℕ) where
  -- the set there makes these types, of which one has the name, and gives their fields these names
  abbrev pub GivesNames : NamesGiven → Type 0
  GivesNames names = (set : List ℕ) × IsAtSet (Some set) × HasType s.reading s.type_name.now set pool m × AreNamesOf pool set names

  -- frames of this form are shown so
  abbrev pub IsShownAs : FrameForm → Shown → Type 0
  IsShownAs (frame_form.Listing floats) way = way ≡ shown.Listing floats
  IsShownAs frame_form.Json way = (names : Bor NamesGiven) × GivesNames names.now × (way ≡ shown.Json names)
