-- What the contracts of a push decoder see of it.
use Rattle.std.specs.Prelude.{ℕ, Bool, List, map, reverse, Option}
use Rattle.std.proofs.Common.{sym, ap, ◌∙◌}
use base.Stored.{Coded}
use Rattle.pb_wire.specs.Limits.{Bounds}
use Rattle.pb_wire.specs.Record.{Payload}
use Rattle.pb_schema.specs.Types.{Types}
use Rattle.pb_value.specs.Data.{Datum}
use Rattle.pb_value.specs.Code.{to_datum, from_datum, from_datum-to_datum, to_payload, from_payload, from_payload-to_payload}
use Rattle.pb_decode_parts.specs.declared.open.part.Slot.{Slot}
use Rattle.pb_decode_parts.specs.declared.tokens.step.Step.{Step}
use Rattle.pb_decode_parts.specs.Open.Parents.{Part, Scope, Parent}
use Rattle.pb_decode_parts.specs.Open.Occurrences.{counts_view}
use Rattle.pb_decode.specs.Reader.{State}

-- the scope of a part, with the counts of its records as a list
pub record OpenScope : Type 0 where
  pub depth_left : ℕ
  pub end : Option ℕ
  pub counts : List (ℕ × ℕ)

-- a part around the innermost one, with the number of the record that is open in it, where that goes, and whether an end tag ends it
pub record OpenParent : Type 0 where
  pub part : Part
  pub number : ℕ
  pub slot : Slot
  pub group : Bool
  pub scope : OpenScope

-- how far an input is read: the innermost part and what comes next in it at a position, its parents, outermost first, and the bytes that are
-- held of the open token or payload
pub record Reading : Type 0 where
  pub at : ℕ
  pub now : Part
  pub scope : OpenScope
  pub parents : List OpenParent
  pub next : Step
  pub held : List ℕ

-- the pool, the type and the limits, and what is read, unless the decoder refused bytes or gave its message
pub record Decoder : Type 0 where
  pub pool : Types
  pub kind : ℕ
  pub limits : Bounds
  pub reading : Option Reading

abbrev pub scope_of : OpenScope → Scope
scope_of s = record { depth_left = s.depth_left; end = s.end; counts = counts_view s.counts }

abbrev pub parent_of : OpenParent → Parent
parent_of f = record { part = f.part; number = f.number; slot = f.slot; group = f.group; scope = scope_of f.scope }

abbrev pub state_of : Reading → State
state_of r = record { at = r.at; now = r.now; scope = scope_of r.scope; parents = reverse (map parent_of r.parents); next = r.next }

-- how a proof distinguishes two of them
abbrev pub datum_code : Coded Datum
datum_code = record { code = to_datum; inj = λ x y e. sym (from_datum-to_datum x) ∙ ap from_datum e ∙ from_datum-to_datum y }

abbrev pub payload_code : Coded Payload
payload_code = record { code = to_payload; inj = λ x y e. sym (from_payload-to_payload x) ∙ ap from_payload e ∙ from_payload-to_payload y }
