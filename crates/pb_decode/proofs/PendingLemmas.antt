-- What is held where a reader stops, and how much is open there.
use Rattle.std.proofs.Common.{◌≡◌, ◌≢◌, ◌⊎◌, ℕ, suc, ◌+◌, ◌*◌, ◌<◌, ◌≤◌, List, [], ◌∷◌, length, refl, sym, ap, ◌∙◌, subst, arith, inl, inr, Option, Some, None, length-append, max}
use Rattle.std.proofs.lemmas.List.{length-take}
use Rattle.std.proofs.lemmas.List.Elements.{All-nil}
use Rattle.pb_wire.specs.Record.{Record}
use Rattle.pb_wire.specs.declared.fault.PathStep.{PathStep}
use Rattle.pb_wire.specs.Fault.{Fault, fault, Place, input_end, window, IsHigh, VarintFault, FixedFault, text_at}
use Rattle.pb_wire.specs.Schema.{Open, context_of, unread, same_level}
use Rattle.pb_wire.specs.Limits.{Bounds}
use Rattle.pb_wire.specs.Exact.{IsOver}
use Rattle.pb_wire.specs.declared.fault.Cause.TheVariants.{Truncated, PastEnd, VarintTooLong}
use Rattle.pb_schema.specs.Types.{Types, FieldView, message_fields, field_numbered}
use Rattle.pb_schema.specs.Rules.{IsPool}
use Rattle.pb_schema.specs.Kinds.{wire_type_of}
use Rattle.pb_schema.specs.Context.{Context, a_message as in_message, read_singular, read_listed, read_shaped, read_field, schema_of}
use Rattle.pb_schema.specs.declared.types.Kind.{Kind}
use Rattle.pb_schema.specs.declared.types.Kind.TheVariants as kind
use Rattle.pb_schema.specs.declared.types.Shape.{Shape}
use Rattle.pb_schema.specs.declared.types.Shape.TheVariants as shape
use Rattle.pb_value.specs.Data.{Message}
use Rattle.pb_decode_parts.specs.declared.open.part.Slot.{Slot}
use Rattle.pb_decode_parts.specs.declared.open.part.Slot.TheVariants as slot
use Rattle.pb_decode_parts.specs.declared.tokens.step.Step.{Step}
use Rattle.pb_decode_parts.specs.declared.tokens.step.Step.TheVariants as step
use Rattle.pb_decode_parts.specs.Open.Opened as opened
use Rattle.pb_decode_parts.specs.Open.Opened.{Begun}
use Rattle.pb_decode_parts.specs.Open.Parents.{Part, message_part, entry_part, group_part, IsSameForm, IsPartOf, Takes, Parent, Scope, Held, at_top, inside, Reached}
use Rattle.pb_decode_parts.specs.Tokens.Numbers.{a_varint, eight_bytes, four_bytes, IsCutVarint, IsCutNumber}
use Rattle.pb_decode_parts.specs.Tokens.After.{tag, After}
use Rattle.pb_decode.specs.Reader.{State}
use Rattle.pb_decode.specs.Reader.Waiting.{WaitsAt, Waits, lists_in}
use Rattle.pb_decode.specs.Push.{Took}
use Rattle.pb_decode.specs.Pending.{Unfinished, in_tag, in_number, in_length, in_payload, in_list, EndsInside}
use Rattle.pb_wire.specs.Grammar.{IsAllowed}
use Rattle.pb_decode_parts.proofs.TokenReports.{reads_allowed}
use Rattle.pb_decode_parts.proofs.ParentLemmas.{held_opened, part_of_context}
use Rattle.pb_decode_parts.proofs.AfterLemmas.{at_record, at_tag, at_payload}
use Rattle.pb_decode_parts.proofs.ListSteps.{at_list, list_reading}
use Rattle.pb_decode.proofs.ElementLemmas.{packs_here, element_fault}
use Rattle.pb_decode_parts.proofs.PayloadSteps.{payload_reading}
use Rattle.pb_decode_parts.proofs.WellLemmas.{can_hold}
use Rattle.pb_decode.proofs.PushLemmas.{top_known}

-- AS MANY STEPS AS FRAMES
pub path_size :
    {pool : Types} {m depth levels : ℕ} {base : List Record} {p0 : Place} {parents : List Parent} {now : Part} {o : Open Context} {depth_left inner : ℕ} {path : List PathStep} {p : Place} {earlier : List Record}
    → Held pool m depth levels base p0 parents now o depth_left inner path p earlier → length path ≡ length parents
path_size (at_top v form is_open is_depth is_inner is_path is_place is_base goes_on) = ap length is_path
path_size (inside {parents = parents} {steps = steps} up h begun form can deep completes is_path counts ends goes_on takes) =
    let outer = path_size up in
    let e = ap length is_path ∙ length-append steps _ in
    omega (arith, outer, e)

-- WHERE THE BYTES END
from_reached :
    {pool : Types} {m depth held lists declared : ℕ} {b : List ℕ} {parents : List Parent} {now : Part} {scope : Scope} {q : Place} → (s : Reached pool m depth 101 [] (text_at b) parents now scope q)
    → Unfinished (schema_of pool) (context_of s.open_now) scope.depth_left q held lists declared → EndsInside (schema_of pool) (in_message m) depth b held (suc (length parents) + lists) declared
from_reached {lists = lists} {parents = parents} {scope = scope} {q = q} s h = record {
  open_now = s.open_now;
  depth_left = scope.depth_left;
  path = s.path;
  begin = s.begin;
  before = s.records_so_far;
  place = q;
  lists = lists;
  opened = held_opened s.held;
  so_far = s.so_far;
  unfinished = h;
  contexts_are = ap (λ (n : ℕ). suc n + lists) (sym (path_size s.held));
}

-- with no byte left, and no known end, a varint is cut short
nothing_cut : (u : Place) → u.known ≡ None → u.rest ≡ [] → IsCutVarint u
nothing_cut u none empty = subst IsCutVarint same (VarintFault.cut_short (omega arith) (All-nil IsHigh) (λ e. absurd (cc)) refl)
  where
    same : record { at = u.at; known = None; rest = [] } ≡ u
    same = ap (λ (k : Option ℕ). let p : Place = record { at = u.at; known = k; rest = [] } in p) (sym none) ∙ ap (λ (z : List ℕ). let p : Place = record { at = u.at; known = u.known; rest = z } in p) (sym empty)

tag_cut :
    {pool : Types} {m depth : ℕ} {b : List ℕ} {parents : List Parent} {now : Part} {scope : Scope} {u : Place} → Reached pool m depth 101 [] (text_at b) parents now scope u
    → IsCutVarint u ⊎ ((parents ≡ []) × IsOver u) → IsCutVarint u
tag_cut s (inl h) = h
tag_cut {pool} {m} {depth} {b} {parents} {now} {scope} {u} s (inr (none, over)) = by_end over (top_known (subst (λ (z : List Parent). Reached pool m depth 101 [] (text_at b) z now scope u) none s))
  where
    by_end : IsOver u → u.known ≡ None → IsCutVarint u
    by_end (inl ended) open_end = absurd (cc)
    by_end (inr ended) open_end = nothing_cut u open_end ended.1

abbrev pub declared_in : Step → ℕ
declared_in (step.Payload n p size) = size
declared_in step.Tag = 0
declared_in (step.Varint n p) = 0
declared_in (step.I64 n p) = 0
declared_in (step.I32 n p) = 0
declared_in (step.Length n p) = 0
declared_in (step.Elements n k outer) = 0

ends_at :
    {pool : Types} {m depth : ℕ} {b : List ℕ} (ok : IsPool pool) (next : Step) {parents : List Parent} {now : Part} {scope : Scope} {u : Place} → After pool m depth 101 [] (text_at b) parents next now scope u
    → WaitsAt next parents u → EndsInside (schema_of pool) (in_message m) depth b (length u.rest) (suc (length parents) + lists_in next) (declared_in next)
ends_at ok step.Tag a w = let s = at_record a in from_reached s (in_tag (tag_cut s w) refl refl refl)
ends_at ok (step.Varint n p) a w = let at = at_tag (tag n 0 p) a refl in from_reached at.reached (in_number at.has w refl refl refl)
ends_at ok (step.I64 n p) a w = let at = at_tag (tag n 1 p) a refl in from_reached at.reached (in_number at.has w refl refl refl)
ends_at ok (step.I32 n p) a w = let at = at_tag (tag n 5 p) a refl in from_reached at.reached (in_number at.has w refl refl refl)
ends_at {pool} ok (step.Length n p) {now = now} {scope = scope} a w =
    let at = at_tag (tag n 2 p) a refl in
    from_reached at.reached
    (in_length at.has
    (subst (λ (c : Context). IsAllowed scope.depth_left ((schema_of pool).reading c n)) (sym (part_of_context now (context_of at.reached.open_now) at.reached.form)) (reads_allowed pool now n scope.depth_left p at.means at.has_level))
    w refl refl refl)
ends_at ok (step.Payload n p size) {now = now} a w =
    let at = at_payload n p size a in
    from_reached at.reached (in_payload at.has (payload_reading n p size a (can_hold ok now at.reached) at.for_bytes at) at.length_is w refl refl refl)
ends_at {pool} ok (step.Elements n k outer) a w =
    let list = at_list n k outer a in
    from_reached list.reached
    (in_list list.has (list_reading pool (context_of list.reached.open_now) list.message_type n k list.reached.form list.means) list.length_is list.elements_are.whole list.elements_are.moves
    (element_fault k (packs_here n k outer a) w) refl refl refl)

pub ends_inside :
    {pool : Types} {m : ℕ} {limits : Bounds} (b : List ℕ) (s : State) (held : List ℕ) → IsPool pool → Took pool m limits b s held → Waits s held
    → EndsInside (schema_of pool) (in_message m) limits.depth b (length held) (suc (length s.parents) + lists_in s.next) (declared_in s.next)
ends_inside b s held ok took w = ends_at ok s.next took.reads w

-- A TOKEN has few bytes
open_end : {n m : ℕ} → Some n ≢ Some m → n ≢ m
open_end ne e = ne (ap (λ (z : ℕ). Some z) e)

few_in_window : (at : ℕ) (known : Option ℕ) (rest : List ℕ) → length (window (record { at = at; known = known; rest = rest })) < 10 → known ≢ Some (length (window (record { at = at; known = known; rest = rest }))) → length rest < 10
few_in_window at None rest small ne = small
few_in_window at (Some e) rest small ne = let size = length-take e rest in let other = open_end ne in omega (arith, size, other, small)

few_in_varint : (p : Place) → IsCutVarint p → length p.rest < 10
few_in_varint p (VarintFault.too_long size high is) = let e : Truncated ≡ VarintTooLong = ap (λ (f : Fault). f.cause) is in absurd (cc)
few_in_varint p (VarintFault.past_end size high known is) = let e : Truncated ≡ PastEnd = ap (λ (f : Fault). f.cause) is in absurd (cc)
few_in_varint p (VarintFault.cut_short size high known is) = few_in_window p.at p.known p.rest size known

few_in_fixed : (n : ℕ) (p : Place) → n ≤ 8 → FixedFault n p (fault (input_end p) [] Truncated) → length p.rest < 10
few_in_fixed n p low (FixedFault.past_end beyond is) = let e : Truncated ≡ PastEnd = ap (λ (f : Fault). f.cause) is in absurd (cc)
few_in_fixed n p low (FixedFault.cut_short within short is) = omega (arith, short, low)

few_in_number : (w : ℕ) (p : Place) → IsCutNumber w p → length p.rest < 10
few_in_number w p (a_varint is h) = few_in_varint p h
few_in_number w p (eight_bytes is h) = few_in_fixed 8 p (omega arith) h
few_in_number w p (four_bytes is h) = few_in_fixed 4 p (omega arith) h

few_at :
    {pool : Types} {m depth : ℕ} {b : List ℕ} (next : Step) {parents : List Parent} {now : Part} {scope : Scope} {u : Place} → After pool m depth 101 [] (text_at b) parents next now scope u → WaitsAt next parents u
    → length u.rest ≤ max 10 (declared_in next)
few_at step.Tag {u = u} a w = let few = few_in_varint u (tag_cut (at_record a) w) in omega (arith, few)
few_at (step.Varint n p) {u = u} a w = let few = few_in_number 0 u w in omega (arith, few)
few_at (step.I64 n p) {u = u} a w = let few = few_in_number 1 u w in omega (arith, few)
few_at (step.I32 n p) {u = u} a w = let few = few_in_number 5 u w in omega (arith, few)
few_at (step.Length n p) {u = u} a w = let few = few_in_varint u w in omega (arith, few)
few_at (step.Payload n p size) a w = omega (arith, w)
few_at (step.Elements n k outer) {u = u} a w = let few = few_in_number (wire_type_of k) u w in omega (arith, few)

pub few_held : {pool : Types} {m : ℕ} {limits : Bounds} (b : List ℕ) (s : State) (held : List ℕ) → Took pool m limits b s held → Waits s held → length held ≤ max 10 (declared_in s.next)
few_held b s held took w = few_at s.next took.reads w

-- FEW FRAMES: at most two a level, an entry and the message in it
entries : Part → ℕ
entries (entry_part key k x d) = 1
entries (message_part m v) = 0
entries (group_part us) = 0

none_at_top : (part : Part) (k : ℕ) (v : Message) → IsSameForm part (message_part k v) → entries part ≡ 0
unfolding entries
none_at_top (message_part j w) k v same = refl
none_at_top (entry_part key kd x d) k v same = absurd same
none_at_top (group_part us) k v same = refl

one_at_most : (part : Part) → entries part ≤ 1
unfolding entries
one_at_most (entry_part key k x d) = omega arith
one_at_most (message_part m v) = omega arith
one_at_most (group_part us) = omega arith

-- the message at the level of its parent is in an entry
no_single : (t : ℕ) (k : Kind) (d : Context) → read_singular (in_message t) k ≡ same_level d → ⊥
no_single t kind.Text d e = absurd (cc)
no_single t (kind.Message j) d e = absurd (cc)
no_single t _ d e = absurd (cc)

no_listed : (t : ℕ) (k : Kind) (d : Context) → read_listed (in_message t) k ≡ same_level d → ⊥
no_listed t kind.Text d e = absurd (cc)
no_listed t kind.Bytes d e = absurd (cc)
no_listed t (kind.Message j) d e = absurd (cc)
no_listed t _ d e = absurd (cc)

no_shaped : (t : ℕ) (s : Shape) (k : Kind) (d : Context) → read_shaped (in_message t) s k ≡ same_level d → ⊥
no_shaped t (shape.Map key) k d e = absurd (cc)
no_shaped t (shape.List p) k d e = no_listed t k d e
no_shaped t _ k d e = no_single t k d e

no_field : (t : ℕ) (f : Option FieldView) (d : Context) → read_field (in_message t) f ≡ same_level d → ⊥
no_field t None d e = absurd (cc)
no_field t (Some f) d e = no_shaped t f.shape f.kind d e

value_in_entry : (pool : Types) (part : Part) (c : Context) (k : ℕ) (d : Context) → IsPartOf part c → (schema_of pool).reading c k ≡ same_level d → entries part ≡ 1
unfolding entries
value_in_entry pool (message_part t v) c k d form re =
    absurd (no_field t (field_numbered k (message_fields pool t)) d (sym (ap (λ (z : Context). (schema_of pool).reading z k) form) ∙ re))
value_in_entry pool (entry_part key kd x y) c k d form re = refl
value_in_entry pool (group_part us) c k d form re = let e : unread ≡ same_level d = sym (ap (λ (z : Context). (schema_of pool).reading z k) form) ∙ re in absurd (cc)

no_entry_inside : (s : Slot) (part now : Part) → Takes s part now → entries part ≡ 1 → entries now ≡ 0
unfolding entries
no_entry_inside s (message_part m v) now takes one = absurd (omega (arith, one))
no_entry_inside s (group_part us) now takes one = absurd (omega (arith, one))
no_entry_inside s (entry_part key k x d) (message_part m v) takes one = refl
no_entry_inside s (entry_part key k x d) (group_part us) takes one = refl
no_entry_inside (slot.One s n) (entry_part key k x d) (entry_part key2 k2 x2 d2) takes one = absurd takes
no_entry_inside (slot.List n) (entry_part key k x d) (entry_part key2 k2 x2 d2) takes one = absurd takes
no_entry_inside (slot.Map n) (entry_part key k x d) (entry_part key2 k2 x2 d2) takes one = absurd takes
no_entry_inside slot.Entry (entry_part key k x d) (entry_part key2 k2 x2 d2) takes one = absurd takes
no_entry_inside (slot.Unknown n) (entry_part key k x d) (entry_part key2 k2 x2 d2) takes one = absurd takes

few_parents :
    {pool : Types} {m depth levels : ℕ} {base : List Record} {p0 : Place} {parents : List Parent} {now : Part} {o : Open Context} {depth_left inner : ℕ} {path : List PathStep} {p : Place} {earlier : List Record}
    → Held pool m depth levels base p0 parents now o depth_left inner path p earlier → length parents + entries now + 2 * depth_left ≤ 2 * depth
few_parents {m = m} {now = now} (at_top v form is_open is_depth is_inner is_path is_place is_base goes_on) = let none = none_at_top now m v form in omega (arith, none, is_depth)
few_parents {pool} {depth = depth} (inside {parent = parent} {parents = parents} {now = now} {o = o} {a = a} {below = below} {q = q} {u = u} up h begun form can deep completes is_path counts ends goes_on takes) = by_begun (few_parents up) begun
  where
    by_begun : length parents + entries parent.part + 2 * parent.scope.depth_left ≤ 2 * depth → Begun (schema_of pool) a parent.scope.depth_left parent.number q o below u → length (parent ∷ parents) + entries now + 2 * below ≤ 2 * depth
    by_begun outer (opened.a_message levels tag re l is_open is_place) = let low = one_at_most now in omega (arith, outer, low, levels)
    by_begun outer (opened.a_group levels tag is_open is_place) = let low = one_at_most now in omega (arith, outer, low, levels)
    by_begun outer (opened.a_value {d = d} levels tag re l is_open is_place) =
        let one = value_in_entry pool parent.part (context_of a) parent.number d form re in
        let none = no_entry_inside parent.slot parent.part now takes.0 one in
        omega (arith, outer, one, none, levels)

pub few_open : {pool : Types} {m : ℕ} {limits : Bounds} (b : List ℕ) (s : State) (held : List ℕ) → Took pool m limits b s held → suc (length s.parents) + lists_in s.next ≤ 2 * limits.depth + 2
few_open b s held took = let few = few_parents took.reads.reached.held in let low = one_list s.next in omega (arith, few, low)
  where
    one_list : (next : Step) → lists_in next ≤ 1
    one_list (step.Elements n k outer) = omega arith
    one_list step.Tag = omega arith
    one_list (step.Varint n p) = omega arith
    one_list (step.I64 n p) = omega arith
    one_list (step.I32 n p) = omega arith
    one_list (step.Length n p) = omega arith
    one_list (step.Payload n p size) = omega arith
