-- What closing an entry or a group makes of the part that holds it.
use Rattle.std.proofs.Common.{◌≡◌, ℕ, List, refl, None}
use Rattle.pb_wire.specs.Record.{group, group_of, Record}
use Rattle.pb_schema.specs.declared.types.EnumId.{EnumId}
use Rattle.pb_schema.specs.declared.types.Kind.{Kind}
use Rattle.pb_schema.specs.declared.types.Kind.TheVariants as kind
use Rattle.pb_value.specs.Data.{message, empty}
use Rattle.pb_value.specs.Value.{missing}
use Rattle.pb_value.specs.Oneof.{default_value}
use Rattle.pb_decode_parts.specs.declared.open.part.Slot.TheVariants as slot
use Rattle.pb_decode_parts.specs.Open.Parents.{Part, message_part, entry_part, group_part, put_group}
use Rattle.pb_decode_parts.specs.Values.Put.{put_record}

-- a kind with no default is that of a message, which is then the empty one, or a closed enum
pub missing_none : (k : Kind) → default_value k ≡ None → ((e : EnumId) → k ≡ kind.ClosedEnum e → ⊥) → missing (λ _ _. empty) k ≡ message empty
missing_none (kind.Message j) is open_ = refl
missing_none (kind.Group j) is open_ = refl
missing_none (kind.ClosedEnum e) is open_ = absurd (open_ e refl)
missing_none k is open_ = absurd (cc)

-- a group goes among the unknown records as any unknown record does
pub group_put : (n : ℕ) (p : Part) (us : List Record) → put_group (slot.Unknown n) p us ≡ put_record n (group (group_of us)) p
group_put n (message_part m v) us = refl
group_put n (entry_part key k x d) us = refl
group_put n (group_part vs) us = refl
