-- What is read into a part, wherever it is open: of any type, any levels, any records before and any first place.
pub mod Groups
use Rattle.std.specs.Prelude.{◌≡◌, ◌<◌, ◌≤◌, ◌^◌, ℕ, List, Option, Some, Result, IfOk, OnOk, length}
use Rattle.pb_wire.specs.Record.{Record}
use Rattle.pb_wire.specs.Fault.{Place, HasTag}
use Rattle.pb_wire.specs.Scan.{given_at, passed}
use Rattle.pb_schema.specs.Types.{Types}
use Rattle.pb_schema.specs.Rules.{IsPool}
use Rattle.pb_decode_parts.specs.declared.open.part.Part.{Part as PartKept}
use Rattle.pb_decode_parts.specs.declared.open.target.Target.{Target}
use Rattle.pb_decode_parts.specs.Open.Parents.{Part, Scope, Parent, Reached}
use Rattle.pb_decode_parts.specs.Open.PartView.{part_view}
use Rattle.pb_decode_parts.specs.Open.Targets.{Means, part_context}
use Rattle.pb_decode_whole.specs.declared.reader.Left.{Left}
use Rattle.pb_decode_whole.specs.declared.reader.AtTag.{AtTag}

-- with some scope that has this many levels left, whole records of a part end at a place
abbrev pub ReachedIn : Types → ℕ → ℕ → ℕ → List Record → Place → List Parent → ℕ → Part → Place → Type 0
ReachedIn pool m depth levels base p0 parents depth_left now q =
    (scope : Scope) × Reached pool m depth levels base p0 parents now scope q × (scope.depth_left ≡ depth_left)

-- somewhere the part is open, and these bytes come next in it, of which some are before its known end
pub record IsOpen (pool : Types) (now : Part) (bytes : List ℕ) (left depth_left : ℕ) : Type 0 where
  pub m : ℕ
  pub depth : ℕ
  pub levels : ℕ
  pub at : ℕ
  pub base : List Record
  pub p0 : Place
  pub parents : List Parent
  pub reached : ReachedIn pool m depth levels base p0 parents depth_left now (given_at at (Some left) bytes)

-- the pool meets its rules, somewhere the part is open, and the bytes that come next in it are fewer than 2 GiB
pub record CanRead (pool : Types) (now : PartKept) (bytes : List ℕ) (left : Left) : Type 0 where
  pub rules : IsPool pool
  pub is_open : IsOpen pool (part_view now) bytes left.remaining left.depth_left
  pub small : length bytes < 2 ^ 31

-- a tag begins the bytes, before the known end
abbrev pub HasTagAt : List ℕ → Option ℕ → ℕ → ℕ → ℕ → Type 0
HasTagAt bytes left number type size = (at : ℕ) → HasTag (given_at at left bytes) number type (passed (given_at at left bytes) size)

-- this tag begins these bytes
pub record Begins (bytes : List ℕ) (left : Left) (at : AtTag) : Type 0 where
  pub same_bytes : at.bytes.now ≡ bytes
  pub same_left : at.left ≡ left
  pub some : 0 < at.tag.size
  pub within : at.tag.size ≤ length bytes
  pub there : HasTagAt bytes (Some left.remaining) at.tag.number at.tag.wire_type at.tag.size

-- and the bytes come next in a part
pub record IsAtTag (pool : Types) (now : PartKept) (at : AtTag) : Type 0 where
  pub can : CanRead pool now at.bytes.now at.left
  pub some : 0 < at.tag.size
  pub within : at.tag.size ≤ length at.bytes.now
  pub there : HasTagAt at.bytes.now (Some at.left.remaining) at.tag.number at.tag.wire_type at.tag.size

-- what the records of a number and a wire type are for in a part
abbrev pub MeansIn : Types → PartKept → ℕ → ℕ → Target → Type 0
MeansIn pool part number type meant = Means pool (part_context (part_view part)) number type meant

-- whole sound records are read: the part is worth those before and these
abbrev pub ReadsTo : Types → Part → Part → List ℕ → ℕ → ℕ → ℕ → Type 0
ReadsTo pool old new bytes left depth_left used =
    (m depth levels at : ℕ) (base : List Record) (p0 : Place) (parents : List Parent)
    → ReachedIn pool m depth levels base p0 parents depth_left old (given_at at (Some left) bytes)
    → ReachedIn pool m depth levels base p0 parents depth_left new (passed (given_at at (Some left) bytes) used)

-- a record is read: it takes its tag at least, and no more than there is
pub record TakesOne (pool : Types) (old new : PartKept) (at : AtTag) (used : ℕ) : Type 0 where
  pub least : at.tag.size ≤ used
  pub most : used ≤ length at.bytes.now
  pub read : ReadsTo pool (part_view old) (part_view new) at.bytes.now at.left.remaining at.left.depth_left used

-- where it is read, it takes this many bytes
abbrev pub ReadsOne : {E : Type 0} → Types → PartKept → PartKept → AtTag → Result ℕ E → Type 0
ReadsOne pool old new at result = IfOk result (TakesOne pool old new at)

-- where all are read
abbrev pub ReadsAll : {E : Type 0} → Types → PartKept → PartKept → List ℕ → Left → Result Unit E → Type 0
ReadsAll pool old new bytes left result = OnOk result (ReadsTo pool (part_view old) (part_view new) bytes left.remaining left.depth_left left.remaining)
