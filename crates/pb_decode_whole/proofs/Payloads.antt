-- Records one after another, and what a record opens after its length.
use Rattle.std.proofs.Common.{◌≡◌, ℕ, ◌+◌, ◌-◌, ◌<◌, List, ◌∷◌, take, drop, length, refl, sym, ap, ◌∙◌, subst, arith, false, Option, Some, None, option_map, drop-drop, length-drop}
use Rattle.std.proofs.lemmas.Bool.{false≢true}
use Rattle.pb_wire.specs.Record.{Record}
use Rattle.pb_wire.specs.Fault.{Place, HasTag, HasLength}
use Rattle.pb_wire.specs.Scan.{given_at, passed}
use Rattle.pb_schema.specs.declared.types.Kind.{Kind}
use Rattle.pb_schema.specs.declared.types.MessageId.{MessageId}
use Rattle.pb_schema.specs.Types.{Types}
use Rattle.pb_schema.specs.Rules.{IsPool}
use Rattle.pb_value.specs.Data.{Message}
use Rattle.pb_decode_parts.specs.declared.open.part.Slot.{Slot}
use Rattle.pb_decode_parts.specs.Open.Parents.{Part, message_part, entry_part, put_message, Scope, Parent, parent_of, CanHold, up_to, one_more_in, EndsAt, Reached}
use Rattle.pb_decode_parts.specs.Open.Openings.{taken_message, without_message, depth_left_in}
use Rattle.pb_decode_parts.specs.Open.Targets.{Means, part_context}
use Rattle.pb_decode_parts.specs.Tokens.After.{HasLevelFor, After}
use Rattle.pb_decode_parts.specs.declared.open.part.Part.{Part as PartKept}
use Rattle.pb_decode_parts.specs.Open.PartView.{part_view}
use Rattle.pb_decode_whole.specs.declared.reader.AtTag.{AtTag}
use Rattle.pb_decode_whole.specs.declared.reader.Left.{Left}
use Rattle.pb_decode_whole.specs.Reads.{ReachedIn, IsOpen, CanRead, HasTagAt, Begins, IsAtTag, ReadsTo}
use Rattle.pb_decode_parts.proofs.WellLemmas.{can_hold}
use Rattle.pb_decode_parts.proofs.PlaceLemmas.{slice_from, passed_twice, place_after}
use Rattle.pb_decode_parts.proofs.ListSteps.{list_begins, list_over}
use Rattle.pb_decode_whole.proofs.ListHolds.{list_can_hold}
use Rattle.pb_decode_whole.proofs.Tags.{tag_next, opening_next, tag_there, tag_within, left_here}
use Rattle.pb_decode_parts.proofs.OpenSteps.{message_opened, entry_opened}
use Rattle.pb_decode_parts.proofs.GroupLemmas.{part_closes}
use Rattle.pb_decode_parts.specs.declared.open.part.Slot.TheVariants as slot
use Rattle.pb_decode_parts.specs.declared.open.target.Target.TheVariants as target
use Rattle.pb_decode_parts.specs.declared.tokens.step.Step.TheVariants as step

-- the open part may be changed
pub open_can : {pool : Types} {now : Part} {bytes : List ℕ} {left depth_left : ℕ} → IsPool pool → IsOpen pool now bytes left depth_left → CanHold pool now
open_can {now = now} ok there = can_hold ok now there.reached.1

-- RECORD BY RECORD: none is read yet
pub place_before : (p : Place) → p ≡ passed p 0
place_before p = sym (by_known p.at p.known p.rest)
  where
    known_before : (e : Option ℕ) → option_map (λ (z : ℕ). z - 0) e ≡ e
    known_before None = refl
    known_before (Some e) = let same : e - 0 ≡ e = omega arith in ap (λ (z : ℕ). Some z) same

    by_known : (at : ℕ) (e : Option ℕ) (rest : List ℕ) → given_at (at + 0) (option_map (λ (z : ℕ). z - 0) e) rest ≡ given_at at e rest
    by_known at e rest = let same : at + 0 ≡ at = omega arith in ap (λ (z : ℕ). given_at z (option_map (λ (y : ℕ). y - 0) e) rest) same ∙ ap (λ (z : Option ℕ). given_at at z rest) (known_before e)

pub nothing_filled : {pool : Types} (part : Part) (bytes : List ℕ) (size depth_left : ℕ) → ReadsTo pool part part bytes size depth_left 0
nothing_filled {pool} part bytes size depth_left m depth levels at base p0 parents there = subst (ReachedIn pool m depth levels base p0 parents depth_left part) (place_before (given_at at (Some size) bytes)) there

-- after some of the bytes the others come next
pub filled_so_far :
    {pool : Types} {m depth levels : ℕ} {base : List Record} {p0 : Place} {parents : List Parent} {depth_left : ℕ} {now : Part} (at left : ℕ) (bytes : List ℕ) (used : ℕ)
    → ReachedIn pool m depth levels base p0 parents depth_left now (passed (given_at at (Some left) bytes) used)
    → ReachedIn pool m depth levels base p0 parents depth_left now (given_at (at + used) (Some (left - used)) (take (length bytes - used) (drop used bytes)))
filled_so_far {pool} {m} {depth} {levels} {base} {p0} {parents} {depth_left} {now} at left bytes used there =
    subst (ReachedIn pool m depth levels base p0 parents depth_left now) (place_after at (Some left) (Some (left - used)) bytes used refl) there

pub still_open : {pool : Types} (old new : Part) (bytes : List ℕ) (size depth_left used : ℕ) → IsOpen pool old bytes size depth_left → ReadsTo pool old new bytes size depth_left used
    → IsOpen pool new (take (length bytes - used) (drop used bytes)) (size - used) depth_left
still_open old new bytes size depth_left used from filled = record {
  m = from.m;
  depth = from.depth;
  levels = from.levels;
  at = from.at + used;
  base = from.base;
  p0 = from.p0;
  parents = from.parents;
  reached = filled_so_far from.at size bytes used (filled from.m from.depth from.levels from.at from.base from.p0 from.parents from.reached);
}

pub filled_further :
    {pool : Types} (old new next : Part) (bytes : List ℕ) (size depth_left used more : ℕ) → ReadsTo pool old new bytes size depth_left used
    → ReadsTo pool new next (take (length bytes - used) (drop used bytes)) (size - used) depth_left more → ReadsTo pool old next bytes size depth_left (used + more)
filled_further {pool} old new next bytes size depth_left used more so_far further m depth levels at base p0 parents there =
    let p : Place = given_at at (Some size) bytes in
    let after = place_after at (Some size) (Some (size - used)) bytes used refl in
    subst (ReachedIn pool m depth levels base p0 parents depth_left next) (ap (λ (z : Place). passed z more) (sym after) ∙ passed_twice p used more)
    (further m depth levels (at + used) base p0 parents (filled_so_far at size bytes used (so_far m depth levels at base p0 parents there)))

-- the tag of the next record, after those that are read
pub next_tag :
    {pool : Types} (old new : PartKept) {bytes : List ℕ} {left after : Left} {next : AtTag} (here : ℕ) → CanRead pool old bytes left → ReadsTo pool (part_view old) (part_view new) bytes left.remaining left.depth_left here → after ≡ left_here left here
    → Begins (take (length bytes - here) (drop here bytes)) after next → IsAtTag pool new next
next_tag {pool} old new {bytes} {left} {after} {next} here can read is_after begins =
    let size = ap length (slice_from here bytes) ∙ length-drop here bytes in
    let small = can.small in
    let there : CanRead pool new (take (length bytes - here) (drop here bytes)) (left_here left here) =
    record { rules = can.rules; is_open = still_open (part_view old) (part_view new) bytes left.remaining left.depth_left here can.is_open read; small = omega (arith, size, small) } in
    record {
      can = subst (λ (z : List ℕ). CanRead pool new z next.left) (sym begins.same_bytes) (subst (CanRead pool new (take (length bytes - here) (drop here bytes))) (sym (begins.same_left ∙ is_after)) there);
      some = begins.some;
      within = tag_within begins;
      there = tag_there begins;
    }

-- and with that record more of them are read
pub next_read :
    {pool : Types} (old new then : Part) {bytes : List ℕ} {left after : Left} {next : AtTag} (here used : ℕ) → ReadsTo pool old new bytes left.remaining left.depth_left here → after ≡ left_here left here
    → Begins (take (length bytes - here) (drop here bytes)) after next → ReadsTo pool new then next.bytes.now next.left.remaining next.left.depth_left used
    → ReadsTo pool old then bytes left.remaining left.depth_left (here + used)
next_read {pool} old new then {bytes} {left} {after} {next} here used so_far is_after begins read =
    filled_further old new then bytes left.remaining left.depth_left here used so_far
    (subst (λ (z : Left). ReadsTo pool new then (take (length bytes - here) (drop here bytes)) z.remaining z.depth_left used) (begins.same_left ∙ is_after)
    (subst (λ (z : List ℕ). ReadsTo pool new then z next.left.remaining next.left.depth_left used) begins.same_bytes read))

-- WHAT A RECORD OPENS after its length, inside its parent. Its payload begins at an index, and has a size.
abbrev pub payload_place : ℕ → List ℕ → ℕ → ℕ → Place
payload_place at bytes start size = given_at (at + start) (Some size) (take (length bytes - start) (drop start bytes))

pub entry_begun :
    {pool : Types} {m depth levels : ℕ} {base : List Record} {p0 : Place} {parents : List Parent} {scope : Scope} {now : Part} (at : ℕ) (left : Option ℕ) (bytes : List ℕ) (number tag_size start size depth_left : ℕ) (key kd : Kind) → IsPool pool
    → Reached pool m depth levels base p0 parents now scope (given_at at left bytes) → scope.depth_left ≡ depth_left
    → HasTag (given_at at left bytes) number 2 (passed (given_at at left bytes) tag_size) → HasLength (passed (given_at at left bytes) tag_size) size (passed (given_at at left bytes) start)
    → Means pool (part_context now) number 2 (target.Entry key kd) → 0 < depth_left
    → ReachedIn pool m depth levels base p0 (parent_of now number (slot.Map number) false scope ∷ parents) (depth_left - 1) (entry_part key kd None None) (payload_place at bytes start size)
entry_begun {pool} {m} {depth} {levels} {base} {p0} {parents} {scope} {now} at left bytes number tag_size start size depth_left key kd ok there level has l means some =
    let inner : Scope = record { depth_left = scope.depth_left - 1; end = Some ((at + start) + size); counts = λ _. 0 } in
    let next = opening_next number (target.Entry key kd) there has means (λ _. subst (λ (z : ℕ). 0 < z) (sym level) some) in
    let opened = entry_opened number key kd size inner ok (can_hold ok now there) next refl l refl refl (λ _. refl) in
    subst (λ (z : List ℕ). ReachedIn pool m depth levels base p0 (parent_of now number (slot.Map number) false scope ∷ parents) (depth_left - 1) (entry_part key kd None None) (given_at (at + start) (Some size) z)) (sym (slice_from start bytes))
    (inner, opened, ap (λ (z : ℕ). z - 1) level)

pub message_begun :
    {pool : Types} {m depth levels : ℕ} {base : List Record} {p0 : Place} {parents : List Parent} {scope : Scope} {now : Part} (at : ℕ) (left : Option ℕ) (bytes : List ℕ) (number tag_size start size depth_left below : ℕ) (j : MessageId) (s : Slot) (outer : Part) (w : Message)
    → IsPool pool → Reached pool m depth levels base p0 parents now scope (given_at at left bytes) → scope.depth_left ≡ depth_left → below ≡ depth_left_in s depth_left
    → HasTag (given_at at left bytes) number 2 (passed (given_at at left bytes) tag_size) → HasLength (passed (given_at at left bytes) tag_size) size (passed (given_at at left bytes) start)
    → Means pool (part_context now) number 2 (target.Message j s) → HasLevelFor depth_left (target.Message j s) → outer ≡ without_message s now → w ≡ taken_message s now
    → ReachedIn pool m depth levels base p0 (parent_of outer number s false scope ∷ parents) below (message_part j.0 w) (payload_place at bytes start size)
message_begun {pool} {m} {depth} {levels} {base} {p0} {parents} {scope} {now} at left bytes number tag_size start size depth_left below j s outer w ok there level is_below has l means some is_outer is_taken =
    let inner : Scope = record { depth_left = depth_left_in s scope.depth_left; end = Some ((at + start) + size); counts = λ _. 0 } in
    let next = opening_next number (target.Message j s) there has means (subst (λ (z : ℕ). HasLevelFor z (target.Message j s)) (sym level) some) in
    let opened = message_opened number j s size inner outer w ok (can_hold ok now there) next refl l is_outer is_taken refl refl (λ _. refl) in
    subst (λ (z : List ℕ). ReachedIn pool m depth levels base p0 (parent_of outer number s false scope ∷ parents) below (message_part j.0 w) (given_at (at + start) (Some size) z)) (sym (slice_from start bytes))
    (inner, opened, ap (depth_left_in s) level ∙ sym is_below)

-- so it is open, where its parent is
pub message_in_part :
    {pool : Types} {now : Part} (bytes : List ℕ) (left number tag_size start size depth_left below : ℕ) (j : MessageId) (s : Slot) (outer : Part) (w : Message) → IsPool pool → IsOpen pool now bytes left depth_left → below ≡ depth_left_in s depth_left
    → HasTagAt bytes (Some left) number 2 tag_size → ((at : ℕ) → HasLength (passed (given_at at (Some left) bytes) tag_size) size (passed (given_at at (Some left) bytes) start))
    → Means pool (part_context now) number 2 (target.Message j s) → HasLevelFor depth_left (target.Message j s) → outer ≡ without_message s now → w ≡ taken_message s now
    → IsOpen pool (message_part j.0 w) (take (length bytes - start) (drop start bytes)) size below
message_in_part {pool} {now} bytes left number tag_size start size depth_left below j s outer w ok from is_below has l means some is_outer is_taken = record {
  m = from.m;
  depth = from.depth;
  levels = from.levels;
  at = from.at + start;
  base = from.base;
  p0 = from.p0;
  parents = parent_of outer number s false from.reached.0 ∷ from.parents;
  reached = message_begun from.at (Some left) bytes number tag_size start size depth_left below j s outer w ok from.reached.1 from.reached.2 is_below (has from.at) (l from.at) means some is_outer is_taken;
}

-- ITS PAYLOAD, once it is read, is worth its records
pub filled_inside :
    {pool : Types} {m depth levels : ℕ} {base : List Record} {p0 : Place} {parents : List Parent} (at : ℕ) (bytes : List ℕ) (start size depth_left : ℕ) (begun filled is_now : Part) → ReachedIn pool m depth levels base p0 parents depth_left begun (payload_place at bytes start size)
    → ReadsTo pool begun filled (take (length bytes - start) (drop start bytes)) size depth_left size → filled ≡ is_now → ReachedIn pool m depth levels base p0 parents depth_left is_now (passed (payload_place at bytes start size) size)
filled_inside {pool} {m} {depth} {levels} {base} {p0} {parents} at bytes start size depth_left begun filled is_now there fills is =
    subst (λ (z : Part). ReachedIn pool m depth levels base p0 parents depth_left z (passed (payload_place at bytes start size) size)) is (fills m depth levels (at + start) base p0 parents there)

pub entry_inside :
    {pool : Types} {m depth levels : ℕ} {base : List Record} {p0 : Place} {parents : List Parent} {now : Part} (at : ℕ) (left : Option ℕ) (bytes : List ℕ) (number tag_size start size depth_left : ℕ) (key kd : Kind) {filled is_now : Part}
    → IsPool pool → (there : ReachedIn pool m depth levels base p0 parents depth_left now (given_at at left bytes))
    → HasTag (given_at at left bytes) number 2 (passed (given_at at left bytes) tag_size) → HasLength (passed (given_at at left bytes) tag_size) size (passed (given_at at left bytes) start)
    → Means pool (part_context now) number 2 (target.Entry key kd) → 0 < depth_left → ReadsTo pool (entry_part key kd None None) filled (take (length bytes - start) (drop start bytes)) size (depth_left - 1) size → filled ≡ is_now
    → ReachedIn pool m depth levels base p0 (parent_of now number (slot.Map number) false there.0 ∷ parents) (depth_left - 1) is_now (passed (payload_place at bytes start size) size)
entry_inside {pool} {m} {depth} {levels} {base} {p0} {parents} {now} at left bytes number tag_size start size depth_left key kd {filled} {is_now} ok there has l means some fills is =
    filled_inside at bytes start size (depth_left - 1) (entry_part key kd None None) filled is_now (entry_begun at left bytes number tag_size start size depth_left key kd ok there.1 there.2 has l means some) fills is

pub message_inside :
    {pool : Types} {m depth levels : ℕ} {base : List Record} {p0 : Place} {parents : List Parent} {now : Part} (at : ℕ) (left : Option ℕ) (bytes : List ℕ) (number tag_size start size depth_left below : ℕ) (j : MessageId) (s : Slot) (outer : Part) (w : Message) {filled is_now : Part}
    → IsPool pool → (there : ReachedIn pool m depth levels base p0 parents depth_left now (given_at at left bytes)) → below ≡ depth_left_in s depth_left
    → HasTag (given_at at left bytes) number 2 (passed (given_at at left bytes) tag_size) → HasLength (passed (given_at at left bytes) tag_size) size (passed (given_at at left bytes) start)
    → Means pool (part_context now) number 2 (target.Message j s) → HasLevelFor depth_left (target.Message j s) → outer ≡ without_message s now → w ≡ taken_message s now
    → ReadsTo pool (message_part j.0 w) filled (take (length bytes - start) (drop start bytes)) size below size → filled ≡ is_now
    → ReachedIn pool m depth levels base p0 (parent_of outer number s false there.0 ∷ parents) below is_now (passed (payload_place at bytes start size) size)
message_inside {pool} {m} {depth} {levels} {base} {p0} {parents} {now} at left bytes number tag_size start size depth_left below j s outer w {filled} {is_now} ok there is_below has l means some is_outer is_taken fills is =
    filled_inside at bytes start size below (message_part j.0 w) filled is_now (message_begun at left bytes number tag_size start size depth_left below j s outer w ok there.1 there.2 is_below has l means some is_outer is_taken) fills is

-- a tag of this wire type
pub typed_tag : (bytes : List ℕ) (left : Option ℕ) (number type wanted size : ℕ) → type ≡ wanted → HasTagAt bytes left number type size → HasTagAt bytes left number wanted size
typed_tag bytes left number type wanted size is has = subst (λ (z : ℕ). HasTagAt bytes left number z size) is has

-- nothing is left before its end
pub none_left : (size : ℕ) → Some (size - size) ≡ Some 0
none_left size = let none : size - size ≡ 0 = omega arith in ap (λ (z : ℕ). Some z) none

-- AFTER IT the parent goes on
ends_there : (at left : ℕ) (bytes : List ℕ) (end : Option ℕ) → EndsAt (given_at at (Some left) bytes) end → end ≡ Some (at + left)
ends_there at left bytes None h = absurd (cc)
ends_there at left bytes (Some e) (n, is, sum) = let same : left ≡ n = cc in ap (λ (z : ℕ). Some z) (sym sum ∙ ap (λ (z : ℕ). at + z) (sym same))

pub after_inner :
    (at left : ℕ) (bytes : List ℕ) (start size : ℕ) (end : Option ℕ) → EndsAt (given_at at (Some left) bytes) end → up_to end (passed (payload_place at bytes start size) size) ≡ passed (given_at at (Some left) bytes) (start + size)
after_inner at left bytes start size end ends =
    let at_is : (at + start) + size ≡ at + (start + size) = omega arith in
    let left_is : (at + left) - ((at + start) + size) ≡ left - (start + size) = omega arith in
    ap (λ (z : Option ℕ). up_to z (passed (payload_place at bytes start size) size)) (ends_there at left bytes end ends)
    ∙ ap (λ (z : List ℕ). given_at ((at + start) + size) (Some ((at + left) - ((at + start) + size))) z) (ap (drop size) (slice_from start bytes) ∙ drop-drop size start bytes)
    ∙ ap (λ (z : ℕ). given_at ((at + start) + size) (Some z) (drop (start + size) bytes)) left_is
    ∙ ap (λ (z : ℕ). given_at z (Some (left - (start + size))) (drop (start + size) bytes)) at_is

pub message_over :
    {pool : Types} {m depth levels : ℕ} {base : List Record} {p0 : Place} {parents : List Parent} {scope : Scope} {now outer : Part} (at left : ℕ) (bytes : List ℕ) (number start size depth_left inner k : ℕ) (t : Slot) (w : Message) (next : Part)
    → Reached pool m depth levels base p0 parents now scope (given_at at (Some left) bytes) → scope.depth_left ≡ depth_left
    → ReachedIn pool m depth levels base p0 (parent_of outer number t false scope ∷ parents) inner (message_part k w) (passed (payload_place at bytes start size) size) → next ≡ put_message pool t outer w
    → ReachedIn pool m depth levels base p0 parents depth_left next (passed (given_at at (Some left) bytes) (start + size))
message_over {pool} {m} {depth} {levels} {base} {p0} {parents} {scope} {now} {outer} at left bytes number start size depth_left inner k t w next s level there is =
    (one_more_in number scope, subst (Reached pool m depth levels base p0 parents next (one_more_in number scope)) (after_inner at left bytes start size scope.end s.ends) (part_closes next there.1 (none_left size, refl) is), level)

-- A PACKED LIST whose elements take its whole payload
pub list_filled :
    {pool : Types} {m depth levels : ℕ} {base : List Record} {p0 : Place} {parents : List Parent} {now : Part} (at left : ℕ) (bytes : List ℕ) (number tag_size start size used depth_left : ℕ) (kd : Kind) (next : Part) → IsPool pool
    → ReachedIn pool m depth levels base p0 parents depth_left now (given_at at (Some left) bytes)
    → HasTag (given_at at (Some left) bytes) number 2 (passed (given_at at (Some left) bytes) tag_size) → HasLength (passed (given_at at (Some left) bytes) tag_size) size (passed (given_at at (Some left) bytes) start)
    → Means pool (part_context now) number 2 (target.Packed kd)
    → ((outer : Option ℕ) (scope : Scope) → After pool m depth levels base p0 parents (step.Elements number kd outer) now scope (payload_place at bytes start size)
    → After pool m depth levels base p0 parents (step.Elements number kd outer) next scope (passed (payload_place at bytes start size) used))
    → used ≡ size → ReachedIn pool m depth levels base p0 parents depth_left next (passed (given_at at (Some left) bytes) (start + used))
list_filled {pool} {m} {depth} {levels} {base} {p0} {parents} {now} at left bytes number tag_size start size used depth_left kd next ok there has l means reads all =
    (one_more_in number scope, subst (Reached pool m depth levels base p0 parents next (one_more_in number scope)) place over, there.2)
  where
    scope : Scope
    scope = there.0

    within : Scope
    within = record scope { end = Some ((at + start) + size) }

    begun : After pool m depth levels base p0 parents (step.Elements number kd scope.end) now within (payload_place at bytes start size)
    begun =
        subst (λ (z : List ℕ). After pool m depth levels base p0 parents (step.Elements number kd scope.end) now within (given_at (at + start) (Some size) z)) (sym (slice_from start bytes))
        (list_begins number kd size (tag_next (step.Length number (target.Packed kd)) number 2 (target.Packed kd) there.1 refl has means (λ deep. false≢true deep)) refl l)

    read : After pool m depth levels base p0 parents (step.Elements number kd scope.end) next within (passed (payload_place at bytes start size) used)
    read = reads scope.end within begun

    none : Some (size - used) ≡ Some 0
    none = let same : size - used ≡ 0 = omega (arith, all) in ap (λ (z : ℕ). Some z) same

    over : Reached pool m depth levels base p0 parents next (one_more_in number scope) (up_to scope.end (passed (payload_place at bytes start size) used))
    over = list_over number kd scope.end ok (list_can_hold number kd scope.end ok read) read none

    place : up_to scope.end (passed (payload_place at bytes start size) used) ≡ passed (given_at at (Some left) bytes) (start + used)
    place =
        ap (λ (z : ℕ). up_to scope.end (passed (payload_place at bytes start size) z)) all ∙ after_inner at left bytes start size scope.end there.1.ends
        ∙ ap (λ (z : ℕ). passed (given_at at (Some left) bytes) (start + z)) (sym all)
