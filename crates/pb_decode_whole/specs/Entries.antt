-- Map entries that follow each other, wherever the part is open that holds their map.
use Rattle.std.specs.Prelude.{◌≡◌, ◌<◌, ◌≤◌, ◌^◌, ℕ, Some, zero, suc, List, [], ◌∷◌, ◌++◌, length, Option, Vec, Result, IfOk}
use Rattle.std.specs.declared.alloc.Global.{Global}
use Rattle.pb_wire.specs.Record.{Record}
use Rattle.pb_wire.specs.Fault.{Place}
use Rattle.pb_wire.specs.Scan.{given_at, passed}
use Rattle.pb_schema.specs.declared.types.Kind.{Kind}
use Rattle.pb_schema.specs.Types.{Types}
use Rattle.pb_schema.specs.Rules.{IsPool}
use Rattle.pb_value.specs.declared.body.MapKey.{MapKey}
use Rattle.pb_value.specs.declared.body.Value.{Value}
use Rattle.pb_value.specs.View.{key_view, value_view}
use Rattle.pb_decode_parts.specs.declared.open.target.Target.TheVariants.{Entry}
use Rattle.pb_decode_parts.specs.Open.Parents.{Part, Scope, Parent, one_more_in, Reached}
use Rattle.pb_decode_parts.specs.Open.Targets.{Means, part_context}
use Rattle.pb_decode_parts.specs.Close.Mapped.{pairs_view, put_mapped, put_all_mapped, FitsMapped, FitMapped}
use Rattle.pb_decode_whole.specs.declared.reader.AtTag.{AtTag}
use Rattle.pb_decode_whole.specs.Reads.{HasTagAt}

-- this many more records of a number
abbrev pub more_in : ℕ → ℕ → Scope → Scope
more_in k zero scope = scope
more_in k (suc n) scope = one_more_in k (more_in k n scope)

-- somewhere a part is open in which the records of a number are entries, and these bytes come next in it
pub record IsMapOpen (pool : Types) (number : ℕ) (key kd : Kind) (bytes : List ℕ) (left : Option ℕ) (depth_left : ℕ) : Type 0 where
  pub m : ℕ
  pub depth : ℕ
  pub levels : ℕ
  pub at : ℕ
  pub base : List Record
  pub p0 : Place
  pub parents : List Parent
  pub scope : Scope
  pub now : Part
  pub reached : Reached pool m depth levels base p0 parents now scope (given_at at left bytes)
  pub level : scope.depth_left ≡ depth_left
  pub means : Means pool (part_context now) number 2 (Entry key kd)

-- an entry's tag begins the bytes, and a level is left
pub record IsAtEntry (pool : Types) (key kd : Kind) (at : AtTag) : Type 0 where
  pub rules : IsPool pool
  pub is_open : IsMapOpen pool at.tag.number key kd at.bytes.now (Some at.left.remaining) at.left.depth_left
  pub level : 0 < at.left.depth_left
  pub small : length at.bytes.now < 2 ^ 31
  pub bytes : at.tag.wire_type ≡ 2
  pub some : 0 < at.tag.size
  pub within : at.tag.size ≤ length at.bytes.now
  pub there : HasTagAt at.bytes.now (Some at.left.remaining) at.tag.number at.tag.wire_type at.tag.size

-- the entry that begins the bytes: its map takes it, and then the part is worth its record too
abbrev pub IsEntry : Types → ℕ → Kind → Kind → List ℕ → Option ℕ → ℕ → MapKey × Value → ℕ → Type 0
IsEntry pool number key kd bytes left depth_left e used =
    (m depth levels at : ℕ) (base : List Record) (p0 : Place) (parents : List Parent) (scope : Scope) (now : Part)
    → Reached pool m depth levels base p0 parents now scope (given_at at left bytes) → scope.depth_left ≡ depth_left → Means pool (part_context now) number 2 (Entry key kd)
    → FitsMapped number (key_view e.0) now
    × Reached pool m depth levels base p0 parents (put_mapped number (key_view e.0, value_view e.1) now) (one_more_in number scope)
    (passed (given_at at left bytes) used)

-- the same of several
abbrev pub AreEntries : Types → ℕ → Kind → Kind → List ℕ → Option ℕ → ℕ → List (MapKey × Value) → ℕ → Type 0
AreEntries pool number key kd bytes left depth_left es used =
    (m depth levels at : ℕ) (base : List Record) (p0 : Place) (parents : List Parent) (scope : Scope) (now : Part)
    → Reached pool m depth levels base p0 parents now scope (given_at at left bytes) → scope.depth_left ≡ depth_left → Means pool (part_context now) number 2 (Entry key kd)
    → FitMapped number (pairs_view es) now
    × Reached pool m depth levels base p0 parents (put_all_mapped number (pairs_view es) now) (more_in number (length es) scope)
    (passed (given_at at left bytes) used)

-- where they are read, and their size
abbrev pub ReadsEntries : {E : Type 0} → Types → Kind → Kind → AtTag → Result (Vec (MapKey × Value) Global × ℕ) E → Type 0
ReadsEntries pool key kd at result = IfOk result (λ r. AreEntries pool at.tag.number key kd at.bytes.now (Some at.left.remaining) at.left.depth_left r.0.items r.1)

-- where one is read it is the last of the entries
abbrev pub AddsEntry : {E : Type 0} → Types → Kind → Kind → AtTag → List (MapKey × Value) → List (MapKey × Value) → Result ℕ E → Type 0
AddsEntry pool key kd at old new result =
    IfOk result (λ n. (e : MapKey × Value) × (new ≡ old ++ e ∷ []) × IsEntry pool at.tag.number key kd at.bytes.now (Some at.left.remaining) at.left.depth_left e n)
