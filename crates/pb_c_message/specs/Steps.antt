-- The steps of a place, as a list.
use Rattle.std.specs.Prelude.{List, [], ◌∷◌}
use Rattle.pb_place.specs.declared.step.PlaceStep.{PlaceStep}
use Rattle.pb_c_message.specs.declared.steps.Steps.{Steps}
use Rattle.pb_c_message.specs.declared.steps.Steps.TheVariants as steps

abbrev pub steps_held : Steps → List PlaceStep
steps_held (steps.One s) = s ∷ []
steps_held (steps.Two a) = a
steps_held (steps.Several v) = v.items
