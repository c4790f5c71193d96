-- What opening a part does, wherever the reader is: after it the reader is in the new part. Each holds of any type, any levels, any records before and any
-- first place.
use Rattle.std.specs.Prelude.{◌≡◌, ℕ, ◌+◌, ◌<◌, List, ◌∷◌}
use Rattle.pb_wire.specs.Record.{Record}
use Rattle.pb_wire.specs.Fault.{Place, HasTag, HasLength}
use Rattle.pb_wire.specs.Grammar.{payload_at}
use Rattle.pb_schema.specs.Types.{Types}
use Rattle.pb_schema.specs.Rules.{IsPool}
use Rattle.pb_decode_parts.specs.declared.open.part.Part.{Part}
use Rattle.pb_decode_parts.specs.declared.open.part.Scope.{Scope}
use Rattle.pb_decode_parts.specs.declared.open.part.Parent.{Parent as ParentKept}
use Rattle.pb_decode_parts.specs.declared.open.target.Target.{Target}
use Rattle.pb_decode_parts.specs.declared.tokens.step.Step.TheVariants as step
use Rattle.pb_decode_parts.specs.Open.Parents.{Parent, CanHold, Reached}
use Rattle.pb_decode_parts.specs.Open.PartView.{part_view, scope_view, parent_view}
use Rattle.pb_decode_parts.specs.Open.Targets.{Means, part_context}
use Rattle.pb_decode_parts.specs.Tokens.After.{After}

-- after a length its payload is open, up to its end, in this parent
abbrev pub OpensAtLength : ℕ → Target → ℕ → Part → Scope → ParentKept → Part → Scope → Type 0
OpensAtLength number meant end outer around parent inner scope =
    (pool : Types) (m depth levels n : ℕ) (base : List Record) (p0 u t : Place) (parents : List Parent)
    → IsPool pool → CanHold pool (part_view outer) → After pool m depth levels base p0 parents (step.Length number meant) (part_view outer) (scope_view around) u
    → HasLength u n t → end ≡ t.at + n → Reached pool m depth levels base p0 (parent_view parent ∷ parents) (part_view inner) (scope_view scope) (payload_at t n)

-- after the first tag of a group the group is open
abbrev pub OpensAtTag : ℕ → Target → Part → Scope → ParentKept → Part → Scope → Type 0
OpensAtTag number meant outer around parent inner scope =
    (pool : Types) (m depth levels : ℕ) (base : List Record) (p0 q u : Place) (parents : List Parent)
    → IsPool pool → CanHold pool (part_view outer) → Means pool (part_context (part_view outer)) number 3 meant
    → Reached pool m depth levels base p0 parents (part_view outer) (scope_view around) q → 0 < around.depth_left → HasTag q number 3 u
    → Reached pool m depth levels base p0 (parent_view parent ∷ parents) (part_view inner) (scope_view scope) u
