-- A field of the message itself is set at the place of its one step.
use Rattle.std.proofs.Common.{[], ◌∷◌, sym, subst}
use Rattle.pb_place.specs.declared.step.PlaceStep.TheVariants.{Field}
use Rattle.pb_c_message.specs.Ends.{ends, IsEnded}
use Rattle.pb_c_message.specs.declared.changing.Put.TheVariants.{Set}
use Rattle.pb_c_message.specs.declared.changing.PlainChange.TheVariants as plain
use Rattle.pb_c_message.proofs.OneEnd.{ended_type, own_ended}
use Rattle.pb_c_message.proofs.changing.change.Goals as goal

pub returns-in-Some-clause-ended : goal.returns-in-Some-clause-ended
returns-in-Some-clause-ended c =
    let given = c.args.given.now in let place = c.args.place.now in let old = c.args.message.now in let new = c.set_own.new.message in
    subst (λ h. IsEnded (ends given place h old) old new c.set_own.result) (sym c.in-Some.ensures.set)
    (own_ended given place c.in-Some.number c.in-Some.value old new c.set_own.result (c.in-Some.ensures.at given) c.set_own.ensures)

pub returns-in-Some-clause-same_type : goal.returns-in-Some-clause-same_type
returns-in-Some-clause-same_type c =
    ended_type c.args.given.now (Field c.in-Some.number ∷ []) (plain.Put Set c.in-Some.value) c.args.message.now c.set_own.new.message c.set_own.result c.set_own.ensures
