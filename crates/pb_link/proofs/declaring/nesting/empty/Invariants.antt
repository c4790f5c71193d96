use Rattle.std.proofs.Common.{[]}
use Rattle.pb_link.specs.Nested.{AreInside}
use Rattle.pb_link.proofs.declaring.nesting.empty.Given as goal

abbrev pub invariant-loop : goal.invariant-loop
invariant-loop l = AreInside l.counter (λ i. record { messages = []; enums = [] }) l.places.items
