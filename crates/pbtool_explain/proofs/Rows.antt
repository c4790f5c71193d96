-- What is in the parts of a map's entry, in small cases.
use Rattle.std.proofs.Common.{◌≡◌, refl}
use Rattle.pb_schema.specs.Types.{Types}
use Rattle.pb_schema.specs.declared.types.Kind.{Kind}
use Rattle.pb_schema.specs.declared.types.Kind.TheVariants as kind
use Rattle.pb_schema.specs.declared.types.MessageId.{MessageId}
use Rattle.pbtool_explain.specs.Steps.{parent_inside}
use Rattle.pbtool_explain.specs.declared.steps.Parent.TheVariants.{Untyped, Message, Entry}

-- the value of an entry, which has the number 2, may be a message; its key, which has the number 1, is none
value_inside : (pool : Types) (key : Kind) (m : MessageId) → parent_inside pool (Entry key (kind.Message m)) 2 ≡ Message m
value_inside pool key m = refl

key_inside : (pool : Types) (key : Kind) (m : MessageId) → parent_inside pool (Entry key (kind.Message m)) 1 ≡ Untyped
key_inside pool key m = refl
