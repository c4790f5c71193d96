-- The parent of the part that is read.
use Rattle.std.proofs.Common.{◌≡◌, ℕ, List, ◌∷◌, refl, Option}
use Rattle.pb_wire.specs.Record.{Record}
use Rattle.pb_wire.specs.declared.fault.PathStep.{PathStep}
use Rattle.pb_wire.specs.Fault.{Place}
use Rattle.pb_wire.specs.Schema.{Open}
use Rattle.pb_schema.specs.declared.types.Kind.{Kind}
use Rattle.pb_schema.specs.Types.{Types}
use Rattle.pb_schema.specs.Rules.{IsPool}
use Rattle.pb_schema.specs.Scalar.{Scalar}
use Rattle.pb_schema.specs.Context.{Context}
use Rattle.pb_value.specs.Data.{Datum}
use Rattle.pb_decode_parts.specs.declared.open.part.Slot.{Slot}
use Rattle.pb_decode_parts.specs.Open.Parents.{Part, message_part, entry_part, group_part, CanHold, Scope, Parent, Held, inside, Reached}
use Rattle.pb_decode_parts.specs.Close.Closing.{FitsSlot, CanGoInto}
use Rattle.pb_decode_parts.proofs.WellLemmas.{can_hold, fits_keys}
use Rattle.pb_decode_parts.specs.declared.open.part.Slot.TheVariants as slot

-- THE PARENT may be changed
pub parent_can_hold :
    {pool : Types} {m depth levels : ℕ} {base : List Record} {p0 : Place} {parent : Parent} {parents : List Parent} {scope : Scope} {now : Part} {q : Place} → Reached pool m depth levels base p0 (parent ∷ parents) now scope q → CanHold pool parent.part
parent_can_hold {pool} {m} {depth} {levels} {base} {p0} {parent} {parents} {scope} {now} {q} s = from_held s.held
  where
    from_held : {o : Open Context} {depth_left inner : ℕ} {path : List PathStep} {p : Place} {earlier : List Record} → Held pool m depth levels base p0 (parent ∷ parents) now o depth_left inner path p earlier → CanHold pool parent.part
    from_held (inside up h begun form can deep completes is_path counts ends goes_on takes) = can

-- its map has keys of the kind of the entry's key
pub entry_fits :
    {pool : Types} {m depth levels : ℕ} {base : List Record} {p0 : Place} {parent : Parent} {parents : List Parent} {scope : Scope} {q : Place} (ok : IsPool pool) (key kd : Kind) (x : Option Scalar) (d : Option Datum)
    → Reached pool m depth levels base p0 (parent ∷ parents) (entry_part key kd x d) scope q → FitsSlot parent.slot parent.part key x
entry_fits {pool} {m} {depth} {levels} {base} {p0} {parent} {parents} {scope} {q} ok key kd x d s = by_slot parent.slot parent.part refl refl
  where
    by_slot : (t : Slot) (p : Part) → parent.slot ≡ t → parent.part ≡ p → FitsSlot t p key x
    by_slot (slot.Map n) (message_part k v) is_slot is_part = fits_keys ok key kd x d k n v s is_part is_slot
    by_slot (slot.Map n) (entry_part k2 v2 y e) is_slot is_part = tt
    by_slot (slot.Map n) (group_part us) is_slot is_part = tt
    by_slot (slot.One sh n) p is_slot is_part = tt
    by_slot (slot.List n) p is_slot is_part = tt
    by_slot slot.Entry p is_slot is_part = tt
    by_slot (slot.Unknown n) p is_slot is_part = tt

-- and any part goes into its slot of its parent
pub part_fits :
    {pool : Types} {m depth levels : ℕ} {base : List Record} {p0 : Place} {parent : Parent} {parents : List Parent} {scope : Scope} {q : Place} (ok : IsPool pool) (now : Part)
    → Reached pool m depth levels base p0 (parent ∷ parents) now scope q → CanGoInto parent.slot parent.part now
part_fits ok (message_part m v) s = tt
part_fits ok (entry_part key kd x d) s = (can_hold ok (entry_part key kd x d) s, entry_fits ok key kd x d s)
part_fits ok (group_part us) s = tt
