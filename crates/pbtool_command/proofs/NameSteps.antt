-- The names that a set gives to fields, where more or less is known of the set.
use Rattle.std.proofs.Common.{ℕ, List, Option}
use Rattle.pb_schema.specs.Types.{Types}
use Rattle.pb_json.specs.Given.{NamesGiven}
use Rattle.pbtool_command.specs.SetNames.{GivesNames, IsShownAs}
use Rattle.pbtool_command.specs.declared.command.FrameForm.{FrameForm}
use Rattle.pbtool_command.specs.declared.command.FrameForm.TheVariants as frame_form
use Rattle.pbtool_command.specs.declared.command.Source.{Source}
use Rattle.pbtool_command.specs.declared.shown.Shown.{Shown}

pub shown_map : (A A' : Option (List ℕ) → Type 0) (s : Source) (pool : Types) (m : ℕ)
    → ((names : NamesGiven) → GivesNames A s pool m names → GivesNames A' s pool m names) → (form : FrameForm) (way : Shown)
    → IsShownAs A s pool m form way → IsShownAs A' s pool m form way
shown_map A A' s pool m more (frame_form.Listing floats) way is = is
shown_map A A' s pool m more frame_form.Json way (names, gives, e) = (names, more names.now gives, e)

pub names_any : (A : Option (List ℕ) → Type 0) (s : Source) (pool : Types) (m : ℕ) (names : NamesGiven) → GivesNames A s pool m names
    → GivesNames (λ o. Unit {0}) s pool m names
names_any A s pool m names (set, is, has, are) = (set, tt, has, are)
