use Rattle.std.proofs.Common.{◌≡◌, ℕ, List, Vec, Global, Option, map, subst, Some}
use Rattle.std.specs.Prelude.{IfOk, IfSome}
use Rattle.pb_c_message.specs.Places.{Bytes, field, places}
use Rattle.pb_c_message.specs.Holds.{IsHeld}
use Rattle.pb_c_message.proofs.Paths.{found_at}
use Rattle.pb_c_message.proofs.finding.scalar_held.Goals as goal

pub returns-in-Ok : goal.returns-in-Ok
returns-in-Ok c =
    let pool = c.args.pool.now in let m = c.args.message_type.0 in let place = c.args.place.now in
    let all = subst (λ r. IfOk r (λ o. IfSome o (λ ns. (keys : List Bytes) → places keys place ≡ Some (map field ns.items)))) c.in-Ok-Some.is c.numbers_of.ensures in
    let some : c.in-Ok-Some.field-0 ≡ Some c.in-Ok-Some.numbers = cc in
    let steps = subst (λ (o : Option (Vec ℕ Global)). IfSome o (λ ns. (keys : List Bytes) → places keys place ≡ Some (map field ns.items))) some all in
    let canonical = subst (IsHeld pool m) c.in-Bytes.is c.requires.held in
    found_at pool m _ c.args.held.now c.in-Bytes.bytes place c.in-Ok-Some.numbers.items c.in-Ok.found c.in-Bytes.is canonical.small steps
    (rw (c.deref.ensures.value, c.deref-2.ensures.value) at c.in-Ok.ensures.found)
