-- Groups.
use Rattle.std.proofs.Common.{◌≡◌, ℕ, ◌+◌, ◌-◌, ◌<◌, List, [], ◌∷◌, take, drop, length, refl, sym, ap, ◌∙◌, subst, true, Some}
use Rattle.pb_wire.specs.Record.{Record}
use Rattle.pb_wire.specs.Fault.{Place, HasTag}
use Rattle.pb_wire.specs.Scan.{given_at, passed}
use Rattle.pb_schema.specs.declared.types.MessageId.{MessageId}
use Rattle.pb_schema.specs.Types.{Types}
use Rattle.pb_schema.specs.Rules.{IsPool}
use Rattle.pb_value.specs.Data.{Message}
use Rattle.pb_decode_parts.specs.declared.open.part.Slot.{Slot}
use Rattle.pb_decode_parts.specs.Open.Parents.{Part, message_part, group_part, put_message, put_group, Scope, Parent, parent_of, one_more_in, Reached}
use Rattle.pb_decode_parts.specs.Open.Openings.{taken_message, without_message}
use Rattle.pb_decode_parts.specs.Open.Targets.{Means, part_context}
use Rattle.pb_decode_whole.specs.Reads.{ReachedIn, IsOpen, HasTagAt, ReadsTo}
use Rattle.pb_decode_whole.specs.Reads.Groups.{ReadsToEnd}
use Rattle.pb_decode_parts.proofs.WellLemmas.{can_hold}
use Rattle.pb_decode_parts.proofs.PlaceLemmas.{place_after, passed_twice}
use Rattle.pb_decode_whole.proofs.Tags.{there_after}
use Rattle.pb_decode_parts.proofs.OpenSteps.{message_group_opened}
use Rattle.pb_decode_parts.proofs.GroupSteps.{group_opened}
use Rattle.pb_decode_parts.proofs.GroupLemmas.{part_closes}
use Rattle.pb_decode_whole.proofs.Payloads.{filled_so_far, typed_tag}
use Rattle.pb_decode_parts.specs.declared.open.part.Slot.TheVariants as slot
use Rattle.pb_decode_parts.specs.declared.open.target.Target.TheVariants as target

-- THE GROUP OF A FIELD begins after its first tag, inside its parent
pub field_group_begun :
    {pool : Types} {m depth levels : ℕ} {base : List Record} {p0 : Place} {parents : List Parent} {scope : Scope} {now : Part} {q u : Place} (number depth_left : ℕ) (j : MessageId) (s : Slot) (outer : Part) (w : Message)
    → IsPool pool → Reached pool m depth levels base p0 parents now scope q → scope.depth_left ≡ depth_left → HasTag q number 3 u → Means pool (part_context now) number 3 (target.Message j s) → 0 < depth_left
    → outer ≡ without_message s now → w ≡ taken_message s now → ReachedIn pool m depth levels base p0 (parent_of outer number s true scope ∷ parents) (depth_left - 1) (message_part j.0 w) u
field_group_begun {scope = scope} {now = now} number depth_left j s outer w ok there level has means some is_outer is_taken =
    let inner : Scope = record { depth_left = scope.depth_left - 1; end = scope.end; counts = λ _. 0 } in (
      inner,
      message_group_opened number j s inner outer w ok (can_hold ok now there) means there (subst (λ (z : ℕ). 0 < z) (sym level) some) has is_outer is_taken refl refl (λ _. refl),
      ap (λ (z : ℕ). z - 1) level,
    )

-- so it is open, where its parent is
pub field_group_in_part :
    {pool : Types} {now : Part} (bytes : List ℕ) (left number tag_size before depth_left : ℕ) (j : MessageId) (s : Slot) (outer : Part) (w : Message) → IsPool pool → IsOpen pool now bytes left depth_left → HasTagAt bytes (Some left) number 3 tag_size
    → Means pool (part_context now) number 3 (target.Message j s) → 0 < depth_left → outer ≡ without_message s now → w ≡ taken_message s now → before ≡ left - tag_size
    → IsOpen pool (message_part j.0 w) (take (length bytes - tag_size) (drop tag_size bytes)) before (depth_left - 1)
field_group_in_part {pool} bytes left number tag_size before depth_left j s outer w ok from has means some is_outer is_taken is_before =
    subst (λ (z : ℕ). IsOpen pool (message_part j.0 w) (take (length bytes - tag_size) (drop tag_size bytes)) z (depth_left - 1)) (sym is_before) (record {
      m = from.m;
      depth = from.depth;
      levels = from.levels;
      at = from.at + tag_size;
      base = from.base;
      p0 = from.p0;
      parents = parent_of outer number s true from.reached.0 ∷ from.parents;
      reached = filled_so_far from.at left bytes tag_size (field_group_begun number depth_left j s outer w ok from.reached.1 from.reached.2 (has from.at) means some is_outer is_taken);
    })

-- ITS RECORDS, once they are in their part, and the end tag after them
pub group_inside :
    {pool : Types} {m depth levels : ℕ} {base : List Record} {p0 : Place} {parents : List Parent} (at left : ℕ) (bytes : List ℕ) (number tag_size before size depth_left : ℕ) (begun filled is_now : Part)
    → ReachedIn pool m depth levels base p0 parents depth_left begun (passed (given_at at (Some left) bytes) tag_size) → before ≡ left - tag_size
    → ReadsToEnd pool number begun filled (take (length bytes - tag_size) (drop tag_size bytes)) before depth_left size → filled ≡ is_now
    → (q : Place) × ReachedIn pool m depth levels base p0 parents depth_left is_now q × HasTag q number 4 (passed (given_at at (Some left) bytes) (tag_size + size))
group_inside {pool} {m} {depth} {levels} {base} {p0} {parents} at left bytes number tag_size before size depth_left begun filled is_now there is_before fills is =
    let p : Place = given_at at (Some left) bytes in
    let slice : List ℕ = take (length bytes - tag_size) (drop tag_size bytes) in
    let known : Some before ≡ Some (left - tag_size) = ap (λ (z : ℕ). Some z) is_before in
    let after = place_after at (Some left) (Some before) bytes tag_size known in
    let place = ap (λ (z : Place). passed z size) (sym after) ∙ passed_twice p tag_size size in (
      passed (given_at (at + tag_size) (Some before) slice) fills.0,
      subst (λ (z : Part). ReachedIn pool m depth levels base p0 parents depth_left z (passed (given_at (at + tag_size) (Some before) slice) fills.0)) is
          (fills.1 m depth levels (at + tag_size) base p0 parents (subst (ReachedIn pool m depth levels base p0 parents depth_left begun) after there)),
      subst (HasTag (passed (given_at (at + tag_size) (Some before) slice) fills.0) number 4) place (fills.2 (at + tag_size)),
    )

pub field_group_inside :
    {pool : Types} {m depth levels : ℕ} {base : List Record} {p0 : Place} {parents : List Parent} {now : Part} (at left : ℕ) (bytes : List ℕ) (number tag_size before size depth_left : ℕ) (j : MessageId) (s : Slot) (outer : Part) (w : Message) {filled is_now : Part}
    → IsPool pool → (there : ReachedIn pool m depth levels base p0 parents depth_left now (given_at at (Some left) bytes)) → HasTagAt bytes (Some left) number 3 tag_size → Means pool (part_context now) number 3 (target.Message j s) → 0 < depth_left
    → outer ≡ without_message s now → w ≡ taken_message s now → before ≡ left - tag_size
    → ReadsToEnd pool number (message_part j.0 w) filled (take (length bytes - tag_size) (drop tag_size bytes)) before (depth_left - 1) size → filled ≡ is_now
    → (q : Place) × ReachedIn pool m depth levels base p0 (parent_of outer number s true there.0 ∷ parents) (depth_left - 1) is_now q × HasTag q number 4 (passed (given_at at (Some left) bytes) (tag_size + size))
field_group_inside at left bytes number tag_size before size depth_left j s outer w {filled} {is_now} ok there has means some is_outer is_taken is_before fills is =
    group_inside at left bytes number tag_size before size (depth_left - 1) (message_part j.0 w) filled is_now (field_group_begun number depth_left j s outer w ok there.1 there.2 (has at) means some is_outer is_taken) is_before fills is

-- ONE OF NO FIELD has unknown records
pub unknown_group_begun :
    {pool : Types} {m depth levels : ℕ} {base : List Record} {p0 : Place} {parents : List Parent} {scope : Scope} {now : Part} {q u : Place} (number depth_left : ℕ) (content : List Record)
    → IsPool pool → Reached pool m depth levels base p0 parents now scope q → scope.depth_left ≡ depth_left → HasTag q number 3 u → Means pool (part_context now) number 3 target.Unknown → 0 < depth_left → content ≡ []
    → ReachedIn pool m depth levels base p0 (parent_of now number (slot.Unknown number) true scope ∷ parents) (depth_left - 1) (group_part content) u
unknown_group_begun {scope = scope} {now = now} number depth_left content ok there level has means some nothing =
    let inner : Scope = record { depth_left = scope.depth_left - 1; end = scope.end; counts = λ _. 0 } in (
      inner,
      group_opened number inner content ok (can_hold ok now there) means there (subst (λ (z : ℕ). 0 < z) (sym level) some) has nothing refl refl (λ _. refl),
      ap (λ (z : ℕ). z - 1) level,
    )

pub unknown_group_in_part :
    {pool : Types} {now : Part} (bytes : List ℕ) (left number tag_size before depth_left : ℕ) (content : List Record) → IsPool pool → IsOpen pool now bytes left depth_left → HasTagAt bytes (Some left) number 3 tag_size
    → Means pool (part_context now) number 3 target.Unknown → 0 < depth_left → content ≡ [] → before ≡ left - tag_size
    → IsOpen pool (group_part content) (take (length bytes - tag_size) (drop tag_size bytes)) before (depth_left - 1)
unknown_group_in_part {pool} {now} bytes left number tag_size before depth_left content ok from has means some nothing is_before =
    subst (λ (z : ℕ). IsOpen pool (group_part content) (take (length bytes - tag_size) (drop tag_size bytes)) z (depth_left - 1)) (sym is_before) (record {
      m = from.m;
      depth = from.depth;
      levels = from.levels;
      at = from.at + tag_size;
      base = from.base;
      p0 = from.p0;
      parents = parent_of now number (slot.Unknown number) true from.reached.0 ∷ from.parents;
      reached = filled_so_far from.at left bytes tag_size (unknown_group_begun number depth_left content ok from.reached.1 from.reached.2 (has from.at) means some nothing);
    })

pub unknown_group_inside :
    {pool : Types} {m depth levels : ℕ} {base : List Record} {p0 : Place} {parents : List Parent} {now : Part} (at left : ℕ) (bytes : List ℕ) (number tag_size before size depth_left : ℕ) (content : List Record) {filled is_now : Part}
    → IsPool pool → (there : ReachedIn pool m depth levels base p0 parents depth_left now (given_at at (Some left) bytes)) → HasTagAt bytes (Some left) number 3 tag_size → Means pool (part_context now) number 3 target.Unknown → 0 < depth_left
    → content ≡ [] → before ≡ left - tag_size → ReadsToEnd pool number (group_part content) filled (take (length bytes - tag_size) (drop tag_size bytes)) before (depth_left - 1) size → filled ≡ is_now
    → (q : Place) × ReachedIn pool m depth levels base p0 (parent_of now number (slot.Unknown number) true there.0 ∷ parents) (depth_left - 1) is_now q × HasTag q number 4 (passed (given_at at (Some left) bytes) (tag_size + size))
unknown_group_inside at left bytes number tag_size before size depth_left content {filled} {is_now} ok there has means some nothing is_before fills is =
    group_inside at left bytes number tag_size before size (depth_left - 1) (group_part content) filled is_now (unknown_group_begun number depth_left content ok there.1 there.2 (has at) means some nothing) is_before fills is

-- AFTER IT the parent goes on
pub unknown_group_over :
    {pool : Types} {m depth levels : ℕ} {base : List Record} {p0 : Place} {parents : List Parent} {depth_left inner number : ℕ} {s : Slot} {scope : Scope} {outer : Part} {us : List Record} {q w : Place} (next : Part) → scope.depth_left ≡ depth_left
    → ReachedIn pool m depth levels base p0 (parent_of outer number s true scope ∷ parents) inner (group_part us) q → HasTag q number 4 w → next ≡ put_group s outer us → ReachedIn pool m depth levels base p0 parents depth_left next w
unknown_group_over {number = number} {scope = scope} next level there end is = (one_more_in number scope, part_closes next there.1 end is, level)

pub field_group_over :
    {pool : Types} {m depth levels : ℕ} {base : List Record} {p0 : Place} {parents : List Parent} {depth_left inner number k : ℕ} {s : Slot} {scope : Scope} {outer : Part} {v : Message} {q w : Place} (next : Part) → scope.depth_left ≡ depth_left
    → ReachedIn pool m depth levels base p0 (parent_of outer number s true scope ∷ parents) inner (message_part k v) q → HasTag q number 4 w → next ≡ put_message pool s outer v → ReachedIn pool m depth levels base p0 parents depth_left next w
field_group_over {number = number} {scope = scope} next level there end is = (one_more_in number scope, part_closes next there.1 end is, level)

-- THE END TAG after the records that are read
pub end_reached :
    {pool : Types} (old new : Part) (bytes : List ℕ) (left depth_left number type used before size : ℕ) → ReadsTo pool old new bytes left depth_left used → type ≡ 4 → before ≡ left - used
    → HasTagAt (take (length bytes - used) (drop used bytes)) (Some before) number type size → ReadsToEnd pool number old new bytes left depth_left (used + size)
end_reached old new bytes left depth_left number type used before size filled is_end is_before has = (
  used,
  filled,
  λ at.
      there_after (λ (q r : Place). HasTag q number 4 r) at (Some left) (Some before) bytes used size (ap (λ (z : ℕ). Some z) is_before)
      (typed_tag (take (length bytes - used) (drop used bytes)) (Some before) number type 4 size is_end has (at + used)),
)
