-- What is set is set by this change.
use Rattle.std.proofs.Common.{sym, subst}
use Rattle.pb_value.specs.View.{value_view}
use Rattle.pb_c_message.specs.Ends.{put_ends, IsEnded}
use Rattle.pb_c_message.specs.declared.changing.Put.TheVariants.{Set}
use Rattle.pb_c_message.specs.Steps.{steps_held}
use Rattle.pb_c_message.proofs.changing.put_value.Goals as goal

pub returns-in-Set : goal.returns-in-Set
returns-in-Set c =
    let old = c.args.message.now in let new = c.set.new.message in let value = value_view c.args.value in
    subst (λ h. IsEnded (put_ends h old (steps_held c.args.place.now) value) old new c.set.result) (sym c.in-Set.is)
    (subst (λ p. IsEnded (put_ends Set old p value) old new c.set.result) c.as_slice.ensures c.set.ensures)
