-- What a reader may do wherever it has some input read.
use Rattle.std.proofs.Common.{◌≡◌, ℕ, ◌≤◌, List, arith, Some}
use Rattle.pb_wire.specs.Record.{Record}
use Rattle.pb_wire.specs.Fault.{Place}
use Rattle.pb_schema.specs.Types.{Types}
use Rattle.pb_schema.specs.Rules.{IsPool}
use Rattle.pb_decode_parts.specs.declared.tokens.step.Step.{Step}
use Rattle.pb_decode_parts.specs.Open.Parents.{Part, CanHold, Parent, Scope}
use Rattle.pb_decode_parts.specs.Tokens.After.{Tag, awaited, After}
use Rattle.pb_decode_parts.proofs.AfterLemmas.{at_tag}
use Rattle.pb_decode_parts.proofs.WellLemmas.{can_hold}
use Rattle.pb_decode.proofs.FewRecords.{counts_fit}

-- THE PART MAY BE CHANGED
pub awaited_can :
    {pool : Types} {m depth levels : ℕ} {base : List Record} {p0 : Place} {parents : List Parent} {scope : Scope} {next : Step} {now : Part} {u : Place} (t : Tag) → IsPool pool
    → After pool m depth levels base p0 parents next now scope u → awaited next ≡ Some t → CanHold pool now
awaited_can {now = now} t ok a is = can_hold ok now (at_tag t a is).reached

-- AN OCCURRENCE MORE CAN BE COUNTED: there are no more than bytes
pub awaited_few :
    {pool : Types} {m depth levels : ℕ} {base : List Record} {p0 : Place} {parents : List Parent} {scope : Scope} {next : Step} {now : Part} {u : Place} (t : Tag) (k : ℕ)
    → After pool m depth levels base p0 parents next now scope u → awaited next ≡ Some t → scope.counts k ≤ u.at
awaited_few t k a is = let after = at_tag t a is in let few = counts_fit k after.reached in let moves = after.has.tag.2.at in omega (arith, few, moves)
