-- What closing does, wherever the reader is: after it the reader is in the parent of the part. Each holds of any type, any levels, any records before and any first
-- place.
use Rattle.std.specs.Prelude.{◌≡◌, ℕ, Bool, true, false, List, ◌∷◌, Option, Some, Result, OnOk}
use Rattle.pb_wire.specs.Record.{Record}
use Rattle.pb_wire.specs.Fault.{Place, HasTag}
use Rattle.pb_schema.specs.Types.{Types}
use Rattle.pb_decode_parts.specs.declared.open.part.Part.{Part}
use Rattle.pb_decode_parts.specs.declared.open.part.Scope.{Scope}
use Rattle.pb_decode_parts.specs.declared.open.part.Slot.{Slot}
use Rattle.pb_decode_parts.specs.Open.Parents.{Part as PartView, Scope as ScopeView, Parent, parent_of, up_to, Reached}
use Rattle.pb_decode_parts.specs.Open.PartView.{part_view, scope_view}

-- a part as the parent of the record of a number, which is open in it
abbrev pub around : Part → Scope → ℕ → Slot → Bool → Parent
around outer scope number slot group = parent_of (part_view outer) number slot group (scope_view scope)

-- where a part closes, and where its parent then goes on: a group after its end tag, a message or an entry at its known end, up to that of its parent
abbrev pub ClosesAt : Bool → ℕ → Option ℕ → Place → Place → Type 0
ClosesAt false number end q w = (q.known ≡ Some 0) × (w ≡ up_to end q)
ClosesAt true number end q w = HasTag q number 4 w

-- a part that closes goes into its slot of its parent
abbrev pub Closes : {A E : Type 0} → Types → ℕ → Slot → PartView → Part → Scope → Part → Scope → Result A E → Type 0
Closes pool number slot now outer scope new_outer new_scope result =
    (m depth levels : ℕ) (base : List Record) (p0 q w : Place) (parents : List Parent) (inner : ScopeView) (group : Bool)
    → Reached pool m depth levels base p0 (around outer scope number slot group ∷ parents) now inner q → ClosesAt group number scope.end q w
    → OnOk result (Reached pool m depth levels base p0 parents (part_view new_outer) (scope_view new_scope) w)
