-- What the contracts of a push decoder see of its fields.
use Rattle.std.specs.Prelude.{ℕ, ◌<◌, length, map, Option, IfSome}
use Rattle.pb_wire.specs.Limits.{Bounds}
use Rattle.pb_schema.specs.Types.{Types}
use Rattle.pb_schema.specs.Rules.{IsPool}
use Rattle.pb_decode_parts.specs.declared.open.part.Scope.{Scope}
use Rattle.pb_decode_parts.specs.declared.open.part.Parent.{Parent}
use Rattle.pb_decode.specs.declared.push.Reading.{Reading}
use Rattle.pb_decode.specs.Decoder as decoder
use Rattle.pb_decode_parts.specs.Open.PartView.{part_view}
use Rattle.pb_decode.specs.Reader.{state_view}
use Rattle.pb_decode.specs.Push.{TookSome}
use Rattle.pb_decode.specs.Reader.Waiting.{Waits}

abbrev pub open_scope : Scope → decoder.OpenScope
open_scope s = record { depth_left = s.depth_left; end = s.end; counts = s.occurrences }

abbrev pub open_parent : Parent → decoder.OpenParent
open_parent f = record { part = part_view f.part; number = f.number; slot = f.slot; group = f.group; scope = open_scope f.scope }

abbrev pub reading_view : Reading → decoder.Reading
reading_view r = record {
  at = r.reader.at;
  now = part_view r.reader.part;
  scope = open_scope r.reader.scope;
  parents = map open_parent r.reader.parents.items;
  next = r.reader.step;
  held = r.held.items;
}

-- the type is one of a pool, and what is kept is what is read of some input, of which no more can be taken
pub record IsSound (pool : Types) (kind : ℕ) (limits : Bounds) (reading : Option Reading) : Type 0 where
  pub rules : IsPool pool
  pub within : kind < length pool.messages
  pub took : IfSome reading (λ r. TookSome pool kind limits (state_view r.reader) r.held.items)
  pub waits : IfSome reading (λ r. Waits (state_view r.reader) r.held.items)
