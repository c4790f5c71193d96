-- Map entries that follow each other.
use Rattle.std.proofs.Common.{◌≡◌, ℕ, zero, suc, ◌+◌, ◌-◌, ◌<◌, List, [], ◌∷◌, ◌++◌, take, drop, length, refl, sym, ap, ◌∙◌, subst, arith, Option, Some, None, option_map, drop-drop}
use Rattle.std.specs.Prelude.{false, unwrap_or}
use Rattle.pb_wire.specs.Record.{Record}
use Rattle.pb_wire.specs.Fault.{Place, HasLength}
use Rattle.pb_wire.specs.Scan.{given_at, passed}
use Rattle.pb_schema.specs.declared.types.Kind.{Kind}
use Rattle.pb_schema.specs.Types.{Types}
use Rattle.pb_schema.specs.Rules.{IsPool}
use Rattle.pb_schema.specs.Scalar.{Scalar}
use Rattle.pb_schema.specs.Kinds.{default_of}
use Rattle.pb_value.specs.Data.{Datum, get_field, Message, body, fields_of, empty}
use Rattle.pb_value.specs.Value.{missing}
use Rattle.pb_value.specs.Change.{insert_at, with_fields, entries_of, FitsKeys}
use Rattle.pb_value.specs.WellFormed.{RisesFrom, IsBody}
use Rattle.pb_value.specs.View.{key_view, value_view}
use Rattle.pb_value.specs.declared.body.MapKey.{MapKey}
use Rattle.pb_value.specs.declared.body.Value.{Value}
use Rattle.pb_decode_parts.specs.Close.Mapped.{pairs_view, put_mapped, put_all_mapped, FitsMapped, FitMapped, RisesIn}
use Rattle.pb_decode_parts.specs.Open.Parents.{Part, message_part, entry_part, group_part, put_entry, Scope, Parent, parent_of, one_more_in, EndsAt, up_to, Reached}
use Rattle.pb_decode_parts.specs.Open.Targets.{Means, part_context}
use Rattle.pb_decode_parts.specs.Close.Closing.{FitsSlot}
use Rattle.pb_decode_whole.specs.Reads.{ReachedIn, IsOpen, HasTagAt, Begins}
use Rattle.pb_decode_whole.specs.declared.reader.AtTag.{AtTag}
use Rattle.pb_decode_whole.specs.declared.reader.Left.{Left}
use Rattle.pb_decode_whole.specs.Entries.{more_in, IsMapOpen, IsAtEntry, IsEntry, AreEntries}
use Rattle.pb_decode_whole.proofs.Tags.{tag_there, tag_within, next_size, left_here}
use Rattle.pb_decode_parts.proofs.PlaceLemmas.{passed_twice, place_after, slice_from}
use Rattle.pb_decode_parts.proofs.WellLemmas.{message_good}
use Rattle.pb_decode_whole.proofs.Held.{entry_fits}
use Rattle.pb_decode_parts.proofs.GroupLemmas.{part_closes}
use Rattle.pb_decode_whole.proofs.Payloads.{payload_place, place_before, after_inner, entry_begun, none_left}
use Rattle.pb_decode_parts.proofs.MapPuts.{mapped_next, pairs_next, fit_next, size_next, all_context}
use Rattle.pb_decode_parts.specs.declared.open.part.Slot.TheVariants as slot
use Rattle.pb_decode_parts.specs.declared.open.target.Target.TheVariants as target

-- THE LEVELS stay
pub more_depth : (k n : ℕ) (s : Scope) → (more_in k n s).depth_left ≡ s.depth_left
more_depth k zero s = refl
more_depth k (suc n) s = more_depth k n s

-- AFTER A PAYLOAD, with or without a known end
pub after_payload :
    (at : ℕ) (left : Option ℕ) (bytes : List ℕ) (start size : ℕ) (end : Option ℕ) → EndsAt (given_at at left bytes) end → up_to end (passed (payload_place at bytes start size) size) ≡ passed (given_at at left bytes) (start + size)
after_payload at (Some e) bytes start size end ends = after_inner at e bytes start size end ends
after_payload at None bytes start size (Some e) (l, is, sum) = absurd (cc)
after_payload at None bytes start size None ends =
    let at_is : (at + start) + size ≡ at + (start + size) = omega arith in
    ap (λ (z : List ℕ). given_at ((at + start) + size) None z) (ap (drop size) (slice_from start bytes) ∙ drop-drop size start bytes)
    ∙ ap (λ (z : ℕ). given_at z None (drop (start + size) bytes)) at_is

-- THE PART THAT IS OPEN
pub rises_in : {pool : Types} {m depth levels : ℕ} {base : List Record} {p0 : Place} {parents : List Parent} {scope : Scope} {q : Place} (ok : IsPool pool) (now : Part) → Reached pool m depth levels base p0 parents now scope q → RisesIn now
rises_in {pool} ok (message_part c v) s = rises pool c v (message_good ok c v s).0
  where
    rises : (pool : Types) (c : ℕ) (v : Message) → IsBody pool c v → RisesFrom 0 (fields_of v)
    rises pool c (body fs us) h = h.1
rises_in ok (entry_part key2 k2 x d) s = tt
rises_in ok (group_part us) s = tt

pub entry_in_map :
    {pool : Types} (bytes : List ℕ) (left : Option ℕ) (number tag_size start size depth_left : ℕ) (key kd : Kind) → IsPool pool → IsMapOpen pool number key kd bytes left depth_left
    → HasTagAt bytes left number 2 tag_size → ((at : ℕ) → HasLength (passed (given_at at left bytes) tag_size) size (passed (given_at at left bytes) start))
    → 0 < depth_left → IsOpen pool (entry_part key kd None None) (take (length bytes - start) (drop start bytes)) size (depth_left - 1)
entry_in_map bytes left number tag_size start size depth_left key kd ok from has l some = record {
  m = from.m;
  depth = from.depth;
  levels = from.levels;
  at = from.at + start;
  base = from.base;
  p0 = from.p0;
  parents = parent_of from.now number (slot.Map number) false from.scope ∷ from.parents;
  reached = entry_begun from.at left bytes number tag_size start size depth_left key kd ok from.reached from.level (has from.at) (l from.at) from.means some;
}

mapped_is : (n : ℕ) (p : Part) (key kd : Kind) (x : Option Scalar) (d : Option Datum) (y : Scalar) (e : Datum) → y ≡ unwrap_or x (default_of key) → e ≡ unwrap_or d (missing (λ _ _. empty) kd) → put_mapped n (y, e) p ≡ put_entry (slot.Map n) p key kd x d
mapped_is n (message_part m v) key kd x d y e a b =
    ap (λ (z : Scalar). message_part m (with_fields v (insert_at n z e (fields_of v)))) a
    ∙ ap (λ (z : Datum). message_part m (with_fields v (insert_at n (unwrap_or x (default_of key)) z (fields_of v)))) b
mapped_is n (entry_part key2 kd2 x2 d2) key kd x d y e a b = refl
mapped_is n (group_part us) key kd x d y e a b = refl

fits_mapped : (n : ℕ) (p : Part) (key : Kind) (x : Option Scalar) (y : Scalar) → y ≡ unwrap_or x (default_of key) → FitsSlot (slot.Map n) p key x → FitsMapped n y p
fits_mapped n (message_part m v) key x y a h = subst (λ (z : Scalar). FitsKeys z (entries_of (get_field n (fields_of v)))) (sym a) h
fits_mapped n (entry_part key2 kd2 x2 d2) key x y a h = tt
fits_mapped n (group_part us) key x y a h = tt

pub entry_taken :
    {pool : Types} {m depth levels : ℕ} {base : List Record} {p0 : Place} {parents : List Parent} {scope : Scope} {now : Part} (at : ℕ) (left : Option ℕ) (bytes : List ℕ) (number start size inner : ℕ) (key kd : Kind) (x : Option Scalar) (d : Option Datum) (y : Scalar) (e : Datum) → IsPool pool
    → Reached pool m depth levels base p0 parents now scope (given_at at left bytes)
    → ReachedIn pool m depth levels base p0 (parent_of now number (slot.Map number) false scope ∷ parents) inner (entry_part key kd x d) (passed (payload_place at bytes start size) size)
    → y ≡ unwrap_or x (default_of key) → e ≡ unwrap_or d (missing (λ _ _. empty) kd)
    → FitsMapped number y now × Reached pool m depth levels base p0 parents (put_mapped number (y, e) now) (one_more_in number scope) (passed (given_at at left bytes) (start + size))
entry_taken {pool} {m} {depth} {levels} {base} {p0} {parents} {scope} {now} at left bytes number start size inner key kd x d y e ok s read a b = (
  fits_mapped number now key x y a (entry_fits ok key kd x d read.1),
  subst (Reached pool m depth levels base p0 parents (put_mapped number (y, e) now) (one_more_in number scope)) (after_payload at left bytes start size scope.end s.ends)
      (part_closes (put_mapped number (y, e) now) read.1 (none_left size, refl) (mapped_is number now key kd x d y e a b)),
)

-- THE MAP is open where its message is
pub map_open_in : {pool : Types} {now : Part} (bytes : List ℕ) (left depth_left number : ℕ) (key kd : Kind) → IsOpen pool now bytes left depth_left → Means pool (part_context now) number 2 (target.Entry key kd) → IsMapOpen pool number key kd bytes (Some left) depth_left
map_open_in {pool} {now} bytes left depth_left number key kd from means = record {
  m = from.m;
  depth = from.depth;
  levels = from.levels;
  at = from.at;
  base = from.base;
  p0 = from.p0;
  parents = from.parents;
  scope = from.reached.0;
  now = now;
  reached = from.reached.1;
  level = from.reached.2;
  means = means;
}

pub run_filled :
    {pool : Types} {m depth levels : ℕ} {base : List Record} {p0 : Place} {parents : List Parent} {new : Part} {q : Place} (scope : Scope) (now : Part) (number depth_left : ℕ) (items : List (MapKey × Value)) → scope.depth_left ≡ depth_left → new ≡ put_all_mapped number (pairs_view items) now
    → Reached pool m depth levels base p0 parents (put_all_mapped number (pairs_view items) now) (more_in number (length items) scope) q → ReachedIn pool m depth levels base p0 parents depth_left new q
run_filled {pool} {m} {depth} {levels} {base} {p0} {parents} {new} {q} scope now number depth_left items level is there =
    (more_in number (length items) scope, subst (λ (z : Part). Reached pool m depth levels base p0 parents z (more_in number (length items) scope) q) (sym is) there, more_depth number (length items) scope ∙ level)

-- ONE MORE ENTRY
pub means_along : (pool : Types) (number k : ℕ) (xs : List (Scalar × Datum)) (now : Part) (key kd : Kind) → Means pool (part_context now) k 2 (target.Entry key kd) → Means pool (part_context (put_all_mapped number xs now)) k 2 (target.Entry key kd)
means_along pool number k xs now key kd means = subst (λ z. Means pool z k 2 (target.Entry key kd)) (sym (all_context number xs now)) means

pub run_further :
    {pool : Types} {m depth levels : ℕ} {base : List Record} {p0 : Place} {parents : List Parent} (scope : Scope) (now : Part) (p : Place) (here size number : ℕ) (items new : List (MapKey × Value)) (e : MapKey × Value) → new ≡ items ++ e ∷ []
    → FitMapped number (pairs_view items) now → FitsMapped number (key_view e.0) (put_all_mapped number (pairs_view items) now)
    → Reached pool m depth levels base p0 parents (put_mapped number (key_view e.0, value_view e.1) (put_all_mapped number (pairs_view items) now)) (one_more_in number (more_in number (length items) scope)) (passed (passed p here) size)
    → FitMapped number (pairs_view new) now × Reached pool m depth levels base p0 parents (put_all_mapped number (pairs_view new) now) (more_in number (length new) scope) (passed p (here + size))
run_further {pool} {m} {depth} {levels} {base} {p0} {parents} scope now p here size number items new e is fit one there =
    subst (λ (l : List (MapKey × Value)). FitMapped number (pairs_view l) now × Reached pool m depth levels base p0 parents (put_all_mapped number (pairs_view l) now) (more_in number (length l) scope) (passed p (here + size))) (sym is) (
      subst (λ (xs : List (Scalar × Datum)). FitMapped number xs now) (sym (pairs_next items e)) (fit_next number (pairs_view items) (key_view e.0, value_view e.1) now fit one),
      subst (λ (z : Part). Reached pool m depth levels base p0 parents z (more_in number (length (items ++ e ∷ [])) scope) (passed p (here + size)))
          (sym (ap (λ (xs : List (Scalar × Datum)). put_all_mapped number xs now) (pairs_next items e) ∙ mapped_next number (pairs_view items) (key_view e.0, value_view e.1) now))
          (subst (λ (n : ℕ). Reached pool m depth levels base p0 parents (put_mapped number (key_view e.0, value_view e.1) (put_all_mapped number (pairs_view items) now)) (more_in number n scope) (passed p (here + size))) (sym (size_next items e))
          (subst (Reached pool m depth levels base p0 parents (put_mapped number (key_view e.0, value_view e.1) (put_all_mapped number (pairs_view items) now)) (one_more_in number (more_in number (length items) scope))) (passed_twice p here size) there)),
    )

pub open_further :
    {pool : Types} {number : ℕ} {key kd : Kind} {bytes : List ℕ} {left : Option ℕ} {depth_left : ℕ} (from : IsMapOpen pool number key kd bytes left depth_left) (here : ℕ) (after : Option ℕ) (items : List (MapKey × Value)) → after ≡ option_map (λ (e : ℕ). e - here) left
    → Reached pool from.m from.depth from.levels from.base from.p0 from.parents (put_all_mapped number (pairs_view items) from.now) (more_in number (length items) from.scope) (passed (given_at from.at left bytes) here)
    → IsMapOpen pool number key kd (take (length bytes - here) (drop here bytes)) after depth_left
open_further {pool} {number} {key} {kd} {bytes} {left} from here after items is there = record {
  m = from.m;
  depth = from.depth;
  levels = from.levels;
  at = from.at + here;
  base = from.base;
  p0 = from.p0;
  parents = from.parents;
  scope = more_in number (length items) from.scope;
  now = put_all_mapped number (pairs_view items) from.now;
  reached =
      subst (Reached pool from.m from.depth from.levels from.base from.p0 from.parents (put_all_mapped number (pairs_view items) from.now) (more_in number (length items) from.scope))
      (place_after from.at left after bytes here is) there;
  level = more_depth number (length items) from.scope ∙ from.level;
  means = means_along pool number number (pairs_view items) from.now key kd from.means;
}

pub none_read :
    {pool : Types} {m depth levels : ℕ} {base : List Record} {p0 : Place} {parents : List Parent} {scope : Scope} {now : Part} (at : ℕ) (left : Option ℕ) (bytes : List ℕ) (number : ℕ) (items : List (MapKey × Value)) → items ≡ []
    → Reached pool m depth levels base p0 parents now scope (given_at at left bytes)
    → FitMapped number (pairs_view items) now × Reached pool m depth levels base p0 parents (put_all_mapped number (pairs_view items) now) (more_in number (length items) scope) (passed (given_at at left bytes) 0)
none_read {pool} {m} {depth} {levels} {base} {p0} {parents} {scope} {now} at left bytes number items none there =
    subst (λ (l : List (MapKey × Value)). FitMapped number (pairs_view l) now × Reached pool m depth levels base p0 parents (put_all_mapped number (pairs_view l) now) (more_in number (length l) scope) (passed (given_at at left bytes) 0)) (sym none)
    (tt, subst (Reached pool m depth levels base p0 parents now scope) (place_before (given_at at left bytes)) there)

-- the next entry may be read
pub entry_next :
    {pool : Types} {key kd : Kind} {at next : AtTag} {after : Left} (items : List (MapKey × Value)) (here : ℕ) → IsAtEntry pool key kd at → AreEntries pool at.tag.number key kd at.bytes.now (Some at.left.remaining) at.left.depth_left items here
    → after ≡ left_here at.left here → (next.tag.number ≡ at.tag.number) × (next.tag.wire_type ≡ at.tag.wire_type) → Begins (take (length at.bytes.now - here) (drop here at.bytes.now)) after next → IsAtEntry pool key kd next
entry_next {pool} {key} {kd} {at} {next} items here from so_far is_after own begins =
    let size = next_size at.bytes.now here begins in
    let small = from.small in
    let o = from.is_open in
    let is_left = begins.same_left ∙ is_after in
    record {
      rules = from.rules;
      is_open =
          subst (λ (n : ℕ). IsMapOpen pool n key kd next.bytes.now (Some next.left.remaining) next.left.depth_left) (sym own.0)
          (subst (λ (z : List ℕ). IsMapOpen pool at.tag.number key kd z (Some next.left.remaining) next.left.depth_left) (sym begins.same_bytes)
          (subst (λ (z : Left). IsMapOpen pool at.tag.number key kd (take (length at.bytes.now - here) (drop here at.bytes.now)) (Some z.remaining) z.depth_left) (sym is_left)
          (open_further o here (Some (at.left.remaining - here)) items refl (so_far o.m o.depth o.levels o.at o.base o.p0 o.parents o.scope o.now o.reached o.level o.means).1)));
      level = subst (λ (z : Left). 0 < z.depth_left) (sym is_left) from.level;
      small = omega (arith, size, small);
      bytes = own.1 ∙ from.bytes;
      some = begins.some;
      within = tag_within begins;
      there = tag_there begins;
    }

-- what is read of it is read of the bytes after the others
pub entry_there :
    {pool : Types} {key kd : Kind} {next : AtTag} {after : Left} (at : AtTag) (e : MapKey × Value) (here more : ℕ) → after ≡ left_here at.left here → next.tag.number ≡ at.tag.number
    → Begins (take (length at.bytes.now - here) (drop here at.bytes.now)) after next → IsEntry pool next.tag.number key kd next.bytes.now (Some next.left.remaining) next.left.depth_left e more
    → IsEntry pool at.tag.number key kd (take (length at.bytes.now - here) (drop here at.bytes.now)) (Some (at.left.remaining - here)) at.left.depth_left e more
entry_there {pool} {key} {kd} {next} at e here more is_after own begins read =
    subst (λ (z : Left). IsEntry pool at.tag.number key kd (take (length at.bytes.now - here) (drop here at.bytes.now)) (Some z.remaining) z.depth_left e more) (begins.same_left ∙ is_after)
    (subst (λ (z : List ℕ). IsEntry pool at.tag.number key kd z (Some next.left.remaining) next.left.depth_left e more) begins.same_bytes
    (subst (λ (n : ℕ). IsEntry pool n key kd next.bytes.now (Some next.left.remaining) next.left.depth_left e more) own read))
