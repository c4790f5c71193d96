-- The parents of the open part: what is reported from them, and how they change.
use Rattle.std.proofs.Common.{◌≡◌, ℕ, ◌-◌, ◌<◌, ◌≤◌, List, [], ◌∷◌, ◌++◌, length, refl, sym, ap, ◌∙◌, subst, arith, append_assoc, Option, Some, None, IsTrue}
use Rattle.std.specs.Prelude.{true, false, option_map, MatchOption}
use Rattle.std.proofs.lemmas.List.{append-nil}
use Rattle.pb_wire.specs.Record.{Payload, len, Record}
use Rattle.pb_wire.specs.Inside.{records_inside, records_spelled}
use Rattle.pb_wire.specs.Ranges.{IsByte, AreBytes}
use Rattle.pb_wire.specs.declared.fault.PathStep.{PathStep}
use Rattle.pb_wire.specs.Fault.{Fault, Place, Moves, IsWithin}
use Rattle.pb_wire.specs.Schema.{Open, records, in_group, context_of}
use Rattle.pb_wire.specs.Grammar.{Bad, RecordFault, Begins}
use Rattle.pb_wire.specs.Exact.{longer}
use Rattle.pb_wire.proofs.InsideLemmas.{records_spelled-AreRecords}
use Rattle.pb_schema.specs.declared.types.Kind.{Kind}
use Rattle.pb_schema.specs.declared.types.Kind.TheVariants as kind
use Rattle.pb_schema.specs.declared.types.Shape.{Shape}
use Rattle.pb_schema.specs.declared.types.Shape.TheVariants as shape
use Rattle.pb_schema.specs.Types.{FieldView, Types, message_fields, field_numbered}
use Rattle.pb_schema.specs.Rules.{NamesType}
use Rattle.pb_schema.specs.Scalar.{Scalar}
use Rattle.pb_schema.specs.Kinds.{is_of_proto2, is_key_kind}
use Rattle.pb_schema.specs.Context.{Context, a_message as in_message, an_entry, unknown_group, group_of_kind, group_shaped, group_of_field, group_in, schema_of}
use Rattle.pb_value.specs.Data.{Datum, Message, fields_of, get_field, message_depth}
use Rattle.pb_value.specs.Value.{value_within}
use Rattle.pb_value.specs.WellFormed.{IsBody}
use Rattle.pb_value.specs.Change.{entries_of, AreKeys}
use Rattle.pb_value.proofs.ListLemmas.{all_append}
use Rattle.pb_decode_parts.specs.declared.open.part.Slot.{Slot}
use Rattle.pb_decode_parts.specs.declared.open.part.Slot.TheVariants as slot
use Rattle.pb_decode_parts.specs.Open.Occurrences.{CountsOf}
use Rattle.pb_decode_parts.specs.Open.Opened.{SoFar, Begun, Opened, below, outside}
use Rattle.pb_decode_parts.specs.Open.Opened as opened
use Rattle.pb_decode_parts.specs.Open.Parents.{Part, message_part, entry_part, group_part, put_message, put_group, put_entry, put_child, IsWorth, IsSameForm, IsPartOf, opening_type, open_type, Scope, one_more_in, Parent, EndsAt, up_to, GoesOnFrom, Takes, Held, at_top, inside, Reached}
use Rattle.pb_decode_parts.specs.Open.Targets.{part_context}
use Rattle.pb_decode_parts.proofs.StepCounts.{counts_of_none, counts_of_push}
use Rattle.pb_decode_parts.proofs.OpenedLemmas.{RecordTo, lift, bad_after, so_far_more, so_far_nothing, so_far_longer, begun_longer, begun_ends, begun_short}

-- FAULTS

-- what is held is open
pub held_opened :
    {pool : Types} {m depth levels : ℕ} {base : List Record} {p0 : Place} {parents : List Parent} {now : Part} {o : Open Context} {depth_left inner : ℕ} {path : List PathStep} {p : Place} {earlier : List Record}
    → Held pool m depth levels base p0 parents now o depth_left inner path p earlier → Opened (schema_of pool) (records (in_message m)) depth p0 o depth_left path p
held_opened (at_top v form is_open is_depth is_inner is_path is_place is_base goes_on) = opened.at_top is_open is_depth is_path is_place
held_opened (inside up h begun form can deep completes is_path counts ends goes_on takes) = opened.inner (held_opened up) h begun is_path

-- THE FAULT REPORTED: a record that has a fault at the reader's position gives the fault of the whole, below the numbers of the open records
pub reported :
    {pool : Types} {m depth levels : ℕ} {base : List Record} {p0 : Place} {parents : List Parent} {scope : Scope} {now : Part} {q : Place} (f : Fault)
    → (s : Reached pool m depth levels base p0 parents now scope q) → Begins s.open_now q → RecordFault (schema_of pool) s.open_now s.records_so_far scope.depth_left q f
    → Bad (schema_of pool) (records (in_message m)) depth p0 (below s.path f)
reported f s goes bad = lift f (held_opened s.held) (bad_after s.so_far goes bad)

-- what a part is of is its context
pub part_of_context : (now : Part) (c : Context) → IsPartOf now c → c ≡ part_context now
part_of_context (message_part m v) c h = h
part_of_context (entry_part key k x d) c h = h
part_of_context (group_part us) c h = h

-- THE KNOWN END
pub ends_longer : (q : Place) (more : List ℕ) (e : Option ℕ) → EndsAt q e → EndsAt (longer q more) e
ends_longer q more None h = h
ends_longer q more (Some e) h = h

-- after some bytes the known end is where it was
pub ends_along : {p q : Place} (front : List ℕ) (e : Option ℕ) → Moves p front q → EndsAt p e → EndsAt q e
ends_along front None m h = m.known ∙ ap (option_map (λ (e : ℕ). e - length front)) h
ends_along {p} {q} front (Some e) m (left, is, at) =
    let within : IsWithin p (length front) = m.within in
    let enough : length front ≤ left = subst (λ (z : Option ℕ). MatchOption z (Unit {0}) (λ (e : ℕ). length front ≤ e)) is m.within in
    let there = m.at in
    (left - length front, m.known ∙ ap (option_map (λ (e : ℕ). e - length front)) is, omega (arith, enough, there, at))

-- a place is known by its known end
pub place_up_to : (q : Place) (e : Option ℕ) → EndsAt q e → q ≡ up_to e q
place_up_to q None h = ap (λ (z : Option ℕ). record q { known = z }) h
place_up_to q (Some e) (left, is, at) = let same : left ≡ e - q.at = omega (arith, at) in ap (λ (z : Option ℕ). record q { known = z }) (is ∙ ap (λ (z : ℕ). Some z) same)

-- MORE BYTES: what is there after some bytes stays, whatever follows
pub held_longer :
    {pool : Types} {m depth levels : ℕ} {base : List Record} {p0 : Place} {parents : List Parent} {now : Part} {o : Open Context} {depth_left inner : ℕ} {path : List PathStep} {p : Place} {earlier : List Record} (more : List ℕ)
    → Held pool m depth levels base p0 parents now o depth_left inner path p earlier → Held pool m depth levels base (longer p0 more) parents now o depth_left inner path (longer p more) earlier
held_longer more (at_top v form is_open is_depth is_inner is_path is_place is_base goes_on) = at_top v form is_open is_depth is_inner is_path (ap (λ (z : Place). longer z more) is_place) is_base goes_on
held_longer more (inside {parent = parent} {q = q} up h begun form can deep completes is_path counts ends goes_on takes) = inside (held_longer more up) (so_far_longer more h) (begun_longer more begun) form can deep completes is_path counts (ends_longer q more parent.scope.end ends) goes_on takes

pub reached_longer :
    {pool : Types} {m depth levels : ℕ} {base : List Record} {p0 : Place} {parents : List Parent} {scope : Scope} {now : Part} {q : Place} (more : List ℕ) → AreBytes more
    → Reached pool m depth levels base p0 parents now scope q → Reached pool m depth levels base (longer p0 more) parents now scope (longer q more)
reached_longer {p0 = p0} {scope = scope} {q = q} more more_bytes s = record {
  open_now = s.open_now;
  inner = s.inner;
  path = s.path;
  begin = longer s.begin more;
  earlier = s.earlier;
  records_so_far = s.records_so_far;
  held = held_longer more s.held;
  form = s.form;
  deep = s.deep;
  so_far = so_far_longer more s.so_far;
  counted = s.counted;
  ends = ends_longer q more scope.end s.ends;
  bytes = all_append IsByte p0.rest more s.bytes more_bytes;
  worth = s.worth;
}

-- THE START
pub reached_at_start :
    (pool : Types) (m depth levels : ℕ) (base : List Record) (p0 : Place) (scope : Scope) (v : Message) → depth < levels → v ≡ value_within pool levels m base → m < length pool.messages → IsBody pool m v → message_depth v < levels → AreBytes p0.rest
    → scope.depth_left ≡ depth → ((k : ℕ) → scope.counts k ≡ 0) → EndsAt p0 scope.end → Reached pool m depth levels base p0 [] (message_part m v) scope p0
reached_at_start pool m depth levels base p0 scope v deep is within good low bytes depth_left none ends = record {
  open_now = records (in_message m);
  inner = levels;
  path = [];
  begin = p0;
  earlier = base;
  records_so_far = [];
  held =
      at_top v refl refl depth_left refl refl refl refl
      (subst (λ (z : Message). (m < length pool.messages) × IsBody pool m z × (message_depth z < levels)) is (within, good, low));
  form = refl;
  deep = subst (λ (z : ℕ). z < levels) (sym depth_left) deep;
  so_far = so_far_nothing p0;
  counted = counts_of_none scope.counts none;
  ends = ends;
  bytes = bytes;
  worth = is ∙ ap (value_within pool levels m) (sym (append-nil base));
}

-- what is held may change inside its form
form_through : (a b c : Part) → IsSameForm a b → IsSameForm a c → IsSameForm b c
form_through (message_part m v) (message_part k w) (message_part l x) e f = sym e ∙ f
form_through (entry_part key k x d) (entry_part key2 k2 x2 d2) (entry_part key3 k3 x3 d3) e f = (sym e.0 ∙ f.0, sym e.1 ∙ f.1)
form_through (group_part us) (group_part vs) (group_part ws) e f = tt
form_through (message_part m v) (message_part k w) (entry_part key3 k3 x3 d3) e f = f
form_through (message_part m v) (message_part k w) (group_part ws) e f = f
form_through (message_part m v) (entry_part key2 k2 x2 d2) c e f = absurd e
form_through (message_part m v) (group_part vs) c e f = absurd e
form_through (entry_part key k x d) (message_part k2 w) c e f = absurd e
form_through (entry_part key k x d) (group_part vs) c e f = absurd e
form_through (entry_part key k x d) (entry_part key2 k2 x2 d2) (message_part l y) e f = f
form_through (entry_part key k x d) (entry_part key2 k2 x2 d2) (group_part ws) e f = f
form_through (group_part us) (message_part k w) c e f = absurd e
form_through (group_part us) (entry_part key2 k2 x2 d2) c e f = absurd e
form_through (group_part us) (group_part vs) (message_part l y) e f = f
form_through (group_part us) (group_part vs) (entry_part key3 k3 x3 d3) e f = f

form_back : (a b : Part) → IsSameForm a b → IsSameForm b a
form_back (message_part m v) (message_part k w) e = sym e
form_back (entry_part key k x d) (entry_part key2 k2 x2 d2) e = (sym e.0, sym e.1)
form_back (group_part us) (group_part vs) e = tt
form_back (message_part m v) (entry_part key2 k2 x2 d2) e = absurd e
form_back (message_part m v) (group_part vs) e = absurd e
form_back (entry_part key k x d) (message_part k2 w) e = absurd e
form_back (entry_part key k x d) (group_part vs) e = absurd e
form_back (group_part us) (message_part k w) e = absurd e
form_back (group_part us) (entry_part key2 k2 x2 d2) e = absurd e

form_through2 : (a b c : Part) → IsSameForm a b → IsSameForm b c → IsSameForm a c
form_through2 a b c e f = form_through b a c (form_back a b e) f

pub part_of_form : (a b : Part) (c : Context) → IsSameForm a b → IsPartOf a c → IsPartOf b c
part_of_form (message_part m v) (message_part k w) c e f = f ∙ ap in_message e
part_of_form (entry_part key k x d) (entry_part key2 k2 x2 d2) c e f = f ∙ ap (λ (z : Kind). an_entry z k) e.0 ∙ ap (an_entry key2) e.1
part_of_form (group_part us) (group_part vs) c e f = f
part_of_form (message_part m v) (entry_part key2 k2 x2 d2) c e f = absurd e
part_of_form (message_part m v) (group_part vs) c e f = absurd e
part_of_form (entry_part key k x d) (message_part k2 w) c e f = absurd e
part_of_form (entry_part key k x d) (group_part vs) c e f = absurd e
part_of_form (group_part us) (message_part k w) c e f = absurd e
part_of_form (group_part us) (entry_part key2 k2 x2 d2) c e f = absurd e

pub same_self : (a : Part) → IsSameForm a a
same_self (message_part m v) = refl
same_self (entry_part key k x d) = (refl, refl)
same_self (group_part us) = tt

put_message-form : (pool : Types) (s : Slot) (p : Part) (w : Message) → IsSameForm p (put_message pool s p w)
put_message-form pool (slot.One h n) (message_part m v) w = refl
put_message-form pool (slot.List n) (message_part m v) w = refl
put_message-form pool slot.Entry (entry_part key k x d) w = (refl, refl)
put_message-form pool s p w = same_self p

put_group-form : (s : Slot) (p : Part) (us : List Record) → IsSameForm p (put_group s p us)
put_group-form (slot.Unknown n) (message_part m v) us = refl
put_group-form (slot.Unknown n) (group_part vs) us = tt
put_group-form s p us = same_self p

put_entry-form : (s : Slot) (p : Part) (key k : Kind) (x : Option Scalar) (d : Option Datum) → IsSameForm p (put_entry s p key k x d)
put_entry-form (slot.Map n) (message_part m v) key k x d = refl
put_entry-form s p key k x d = same_self p

pub put_child-form : (pool : Types) (s : Slot) (p q : Part) → IsSameForm p (put_child pool s p q)
put_child-form pool s p (message_part k w) = put_message-form pool s p w
put_child-form pool s p (entry_part key k x d) = put_entry-form s p key k x d
put_child-form pool s p (group_part us) = put_group-form s p us

-- what is asked of the form alone
goes_on_as : (pool : Types) (inner : ℕ) (earlier : List Record) (now other : Part) → IsSameForm now other → GoesOnFrom pool inner now earlier → GoesOnFrom pool inner other earlier
goes_on_as pool inner earlier (message_part m v) (message_part k w) e h =
    subst (λ (z : ℕ). (z < length pool.messages) × IsBody pool z (value_within pool inner z earlier) × (message_depth (value_within pool inner z earlier) < inner)) e h
goes_on_as pool inner earlier (entry_part key k x d) (entry_part key2 k2 x2 d2) e h =
    (h.0, subst (λ (z : Kind). IsTrue (is_key_kind z)) e.0 h.1, subst (NamesType (length pool.messages) (length pool.enums)) e.1 h.2, subst (λ (z : Kind). is_of_proto2 z ≡ false) e.1 h.3)
goes_on_as pool inner earlier (group_part us) (group_part vs) e h = h
goes_on_as pool inner earlier (message_part m v) (entry_part key2 k2 x2 d2) e h = absurd e
goes_on_as pool inner earlier (message_part m v) (group_part vs) e h = absurd e
goes_on_as pool inner earlier (entry_part key k x d) (message_part k2 w) e h = absurd e
goes_on_as pool inner earlier (entry_part key k x d) (group_part vs) e h = absurd e
goes_on_as pool inner earlier (group_part us) (message_part k w) e h = absurd e
goes_on_as pool inner earlier (group_part us) (entry_part key2 k2 x2 d2) e h = absurd e

message_as : (k k2 : ℕ) (w w2 : Message) (s : Slot) (p : Part) → Takes s p (message_part k w) → Takes s p (message_part k2 w2)
message_as k k2 w w2 (slot.One t n) (message_part m v) h = h
message_as k k2 w w2 (slot.One t n) (entry_part key0 kind0 y e) h = h
message_as k k2 w w2 (slot.One t n) (group_part vs) h = h
message_as k k2 w w2 (slot.List n) (message_part m v) h = h
message_as k k2 w w2 (slot.List n) (entry_part key0 kind0 y e) h = h
message_as k k2 w w2 (slot.List n) (group_part vs) h = h
message_as k k2 w w2 (slot.Map n) (message_part m v) h = h
message_as k k2 w w2 (slot.Map n) (entry_part key0 kind0 y e) h = h
message_as k k2 w w2 (slot.Map n) (group_part vs) h = h
message_as k k2 w w2 slot.Entry (message_part m v) h = h
message_as k k2 w w2 slot.Entry (entry_part key0 kind0 y e) h = h
message_as k k2 w w2 slot.Entry (group_part vs) h = h
message_as k k2 w w2 (slot.Unknown n) (message_part m v) h = h
message_as k k2 w w2 (slot.Unknown n) (entry_part key0 kind0 y e) h = h
message_as k k2 w w2 (slot.Unknown n) (group_part vs) h = h

group_as : (us us2 : List Record) (s : Slot) (p : Part) → Takes s p (group_part us) → Takes s p (group_part us2)
group_as us us2 (slot.One t n) (message_part m v) h = h
group_as us us2 (slot.One t n) (entry_part key0 kind0 y e) h = h
group_as us us2 (slot.One t n) (group_part vs) h = h
group_as us us2 (slot.List n) (message_part m v) h = h
group_as us us2 (slot.List n) (entry_part key0 kind0 y e) h = h
group_as us us2 (slot.List n) (group_part vs) h = h
group_as us us2 (slot.Map n) (message_part m v) h = h
group_as us us2 (slot.Map n) (entry_part key0 kind0 y e) h = h
group_as us us2 (slot.Map n) (group_part vs) h = h
group_as us us2 slot.Entry (message_part m v) h = h
group_as us us2 slot.Entry (entry_part key0 kind0 y e) h = h
group_as us us2 slot.Entry (group_part vs) h = h
group_as us us2 (slot.Unknown n) (message_part m v) h = h
group_as us us2 (slot.Unknown n) (entry_part key0 kind0 y e) h = h
group_as us us2 (slot.Unknown n) (group_part vs) h = h

entry_as : (k k2 key key2 : Kind) (x x2 : Option Scalar) (d d2 : Option Datum) (s : Slot) (p : Part) → key ≡ key2 → Takes s p (entry_part key k x d) → Takes s p (entry_part key2 k2 x2 d2)
entry_as k k2 key key2 x x2 d d2 (slot.One t n) (message_part m v) same h = h
entry_as k k2 key key2 x x2 d d2 (slot.One t n) (entry_part key0 kind0 y e) same h = h
entry_as k k2 key key2 x x2 d d2 (slot.One t n) (group_part vs) same h = h
entry_as k k2 key key2 x x2 d d2 (slot.List n) (message_part m v) same h = h
entry_as k k2 key key2 x x2 d d2 (slot.List n) (entry_part key0 kind0 y e) same h = h
entry_as k k2 key key2 x x2 d d2 (slot.List n) (group_part vs) same h = h
entry_as k k2 key key2 x x2 d d2 (slot.Map n) (message_part m v) same h = subst (λ (z : Kind). AreKeys z (entries_of (get_field n (fields_of v)))) same h
entry_as k k2 key key2 x x2 d d2 (slot.Map n) (entry_part key0 kind0 y e) same h = h
entry_as k k2 key key2 x x2 d d2 (slot.Map n) (group_part vs) same h = h
entry_as k k2 key key2 x x2 d d2 slot.Entry (message_part m v) same h = h
entry_as k k2 key key2 x x2 d d2 slot.Entry (entry_part key0 kind0 y e) same h = h
entry_as k k2 key key2 x x2 d d2 slot.Entry (group_part vs) same h = h
entry_as k k2 key key2 x x2 d d2 (slot.Unknown n) (message_part m v) same h = h
entry_as k k2 key key2 x x2 d d2 (slot.Unknown n) (entry_part key0 kind0 y e) same h = h
entry_as k k2 key key2 x x2 d d2 (slot.Unknown n) (group_part vs) same h = h

takes_as : (s : Slot) (p now other : Part) → IsSameForm now other → Takes s p now → Takes s p other
takes_as s p (message_part k w) (message_part k2 w2) e h = message_as k k2 w w2 s p h
takes_as s p (entry_part key k x d) (entry_part key2 k2 x2 d2) e h = entry_as k k2 key key2 x x2 d d2 s p e.0 h
takes_as s p (group_part us) (group_part us2) e h = group_as us us2 s p h
takes_as s p (message_part k w) (entry_part key2 k2 x2 d2) e h = absurd e
takes_as s p (message_part k w) (group_part us) e h = absurd e
takes_as s p (entry_part key k x d) (message_part k2 w) e h = absurd e
takes_as s p (entry_part key k x d) (group_part us) e h = absurd e
takes_as s p (group_part us) (message_part k w) e h = absurd e
takes_as s p (group_part us) (entry_part key2 k2 x2 d2) e h = absurd e

pub held_as_well :
    {pool : Types} {m depth levels : ℕ} {base : List Record} {p0 : Place} {parents : List Parent} {now : Part} {o : Open Context} {depth_left inner : ℕ} {path : List PathStep} {p : Place} {earlier : List Record} (other : Part)
    → IsSameForm now other → Held pool m depth levels base p0 parents now o depth_left inner path p earlier → Held pool m depth levels base p0 parents other o depth_left inner path p earlier
held_as_well {pool} {m = m} {now = now} {inner = inner} {earlier = earlier} other same (at_top v form is_open is_depth is_inner is_path is_place is_base goes_on) =
    at_top v (form_through now other (message_part m v) same form) is_open is_depth is_inner is_path is_place is_base (goes_on_as pool inner earlier now other same goes_on)
held_as_well {pool} {now = now} {inner = inner} {earlier = earlier} other same (inside {parent = parent} up h begun form can deep completes is_path counts ends goes_on takes) =
    inside up h begun form can deep (λ p q type alike worth. completes p q type (form_through2 now other q same alike) worth) is_path counts ends (goes_on_as pool inner earlier now other same goes_on) (takes_as parent.slot parent.part now other same takes.0, takes.1)

-- ONE MORE RECORD: a whole sound record after which the part is worth the records with it
pub one_more :
    {pool : Types} {m depth levels : ℕ} {base : List Record} {p0 : Place} {parents : List Parent} {scope : Scope} {now : Part} {q u : Place} (s : Reached pool m depth levels base p0 parents now scope q) (r : Record) (next : Part)
    → RecordTo (schema_of pool) (context_of s.open_now) scope.depth_left q r u → IsSameForm now next → IsWorth pool s.inner next ((s.earlier ++ s.records_so_far) ++ r ∷ []) → Reached pool m depth levels base p0 parents next (one_more_in r.number scope) u
one_more {pool} {scope = scope} {now = now} s r next h same worth = record {
  open_now = s.open_now;
  inner = s.inner;
  path = s.path;
  begin = s.begin;
  earlier = s.earlier;
  records_so_far = s.records_so_far ++ r ∷ [];
  held = held_as_well next same s.held;
  form = part_of_form now next (context_of s.open_now) same s.form;
  deep = s.deep;
  so_far = so_far_more s.so_far h;
  counted = counts_of_push scope.counts s.records_so_far r s.counted;
  ends = ends_along h.first scope.end h.moves s.ends;
  bytes = s.bytes;
  worth = subst (λ (z : List Record). IsWorth pool s.inner next z) (append_assoc s.earlier s.records_so_far (r ∷ [])) worth;
}

-- AN OPEN PART IS COMPLETE: with it the outer part is worth one record more, and the reader is in the outer part, after it
pub closed_reached :
    {pool : Types} {m depth levels : ℕ} {base : List Record} {p0 : Place} {parents : List Parent} {a : Open Context} {outer : ℕ} {steps : List PathStep} {p q w : Place} {rs before : List Record} (parent : Parent)
    → Held pool m depth levels base p0 parents parent.part a parent.scope.depth_left outer steps p before → SoFar (schema_of pool) a parent.scope.depth_left p rs q → IsPartOf parent.part (context_of a) → parent.scope.depth_left < outer
    → CountsOf parent.scope.counts rs → EndsAt q parent.scope.end → AreBytes p0.rest → (pl : Payload) → RecordTo (schema_of pool) (context_of a) parent.scope.depth_left q (record { number = parent.number; payload = pl }) w
    → (next : Part) → IsSameForm parent.part next → IsWorth pool outer next ((before ++ rs) ++ record { number = parent.number; payload = pl } ∷ [])
    → Reached pool m depth levels base p0 parents next (one_more_in parent.number parent.scope) w
closed_reached {pool} {a = a} {outer = outer} {steps = steps} {p = p} {rs = rs} {before = before} parent up h form deep counts ends bytes pl to next same worth = record {
  open_now = a;
  inner = outer;
  path = steps;
  begin = p;
  earlier = before;
  records_so_far = rs ++ record { number = parent.number; payload = pl } ∷ [];
  held = held_as_well next same up;
  form = part_of_form parent.part next (context_of a) same form;
  deep = deep;
  so_far = so_far_more h to;
  counted = counts_of_push parent.scope.counts rs (record { number = parent.number; payload = pl }) counts;
  ends = ends_along to.first parent.scope.end to.moves ends;
  bytes = bytes;
  worth = subst (λ (z : List Record). IsWorth pool outer next z) (append_assoc before rs (record { number = parent.number; payload = pl } ∷ [])) worth;
}

-- WHAT ENDS the open part: an end tag ends a group, and a known end a payload
flag_held :
    {pool : Types} {m depth levels : ℕ} {base : List Record} {p0 : Place} {parent : Parent} {parents : List Parent} {now : Part} {o : Open Context} {depth_left inner : ℕ} {path : List PathStep} {p : Place} {earlier : List Record}
    → Held pool m depth levels base p0 (parent ∷ parents) now o depth_left inner path p earlier → opening_type parent.group ≡ open_type o
flag_held (inside up h begun form can deep completes is_path counts ends goes_on takes) = takes.1

pub payload_open : (o : Open Context) → open_type o ≡ 2 → o ≡ records (context_of o)
payload_open (records c) e = refl
payload_open (in_group k c) e = absurd (omega (arith, e))

pub is_payload :
    {pool : Types} {m depth levels : ℕ} {base : List Record} {p0 : Place} {parent : Parent} {parents : List Parent} {scope : Scope} {now : Part} {q : Place} (s : Reached pool m depth levels base p0 (parent ∷ parents) now scope q)
    → parent.group ≡ false → s.open_now ≡ records (context_of s.open_now)
is_payload s none = payload_open s.open_now (sym (flag_held s.held) ∙ ap opening_type none)

-- what a group is open in has the number of its parent's record
begun_group : (pool : Types) {a o : Open Context} {depth_left below k : ℕ} {q u : Place} → Begun (schema_of pool) a depth_left k q o below u → open_type o ≡ 3 → o ≡ in_group k (context_of o)
begun_group pool (opened.a_message levels tag re l is_open is_place) e = absurd (let type = sym (ap open_type is_open) ∙ e in omega (arith, type))
begun_group pool (opened.a_value levels tag re l is_open is_place) e = absurd (let type = sym (ap open_type is_open) ∙ e in omega (arith, type))
begun_group pool {k = k} (opened.a_group levels tag is_open is_place) e = is_open ∙ ap (in_group k) (sym (ap context_of is_open))

group_held :
    {pool : Types} {m depth levels : ℕ} {base : List Record} {p0 : Place} {parent : Parent} {parents : List Parent} {now : Part} {o : Open Context} {depth_left inner : ℕ} {path : List PathStep} {p : Place} {earlier : List Record}
    → Held pool m depth levels base p0 (parent ∷ parents) now o depth_left inner path p earlier → parent.group ≡ true → o ≡ in_group parent.number (context_of o)
group_held {pool} (inside up h begun form can deep completes is_path counts ends goes_on takes) some = begun_group pool begun (sym takes.1 ∙ ap opening_type some)

pub is_group :
    {pool : Types} {m depth levels : ℕ} {base : List Record} {p0 : Place} {parent : Parent} {parents : List Parent} {scope : Scope} {now : Part} {q : Place} (s : Reached pool m depth levels base p0 (parent ∷ parents) now scope q)
    → parent.group ≡ true → s.open_now ≡ in_group parent.number (context_of s.open_now)
is_group s some = group_held s.held some

-- A MESSAGE OR ENTRY THAT ENDS AT ITS KNOWN END: it goes into its slot, and the reader is in its parent
pub ends_at_known_end :
    {pool : Types} {m depth levels : ℕ} {base : List Record} {p0 : Place} {parent : Parent} {parents : List Parent} {scope : Scope} {now : Part} {v : Place} (s : Reached pool m depth levels base p0 (parent ∷ parents) now scope v)
    → parent.group ≡ false → v.known ≡ Some 0
    → Reached pool m depth levels base p0 parents (put_child pool parent.slot parent.part now) (one_more_in parent.number parent.scope) (up_to parent.scope.end v)
ends_at_known_end {pool} {m} {depth} {levels} {base} {p0} {parent} {parents} {scope} {now} {v} s none end = from_held s.held s.so_far s.worth (is_payload s none)
  where
    there : Part
    there = put_child pool parent.slot parent.part now

    from_held :
        {o : Open Context} {below inner : ℕ} {path : List PathStep} {u : Place} {earlier ss : List Record} → Held pool m depth levels base p0 (parent ∷ parents) now o below inner path u earlier → SoFar (schema_of pool) o below u ss v
        → IsWorth pool inner now (earlier ++ ss) → o ≡ records (context_of o) → Reached pool m depth levels base p0 parents there (one_more_in parent.number parent.scope) (up_to parent.scope.end v)
    from_held {inner = inner} {earlier = earlier} {ss = ss} (inside {o = o} {a = a} {below = below} up h begun form can deep completes is_path counts ends goes_on takes) b worth is =
        let closed = begun_ends a o parent.scope.depth_left below parent.number begun is b end in
        let read : records_spelled b.front ≡ ss = records_spelled-AreRecords ss b.front b.spelled (begun_short begun is b) in
        let inside_worth : IsWorth pool inner now (earlier ++ records_inside (len b.front)) = subst (λ (z : List Record). IsWorth pool inner now (earlier ++ z)) (sym read) worth in
        let to = closed.2 in
        let same_place : outside closed.0 closed.1 v ≡ up_to parent.scope.end v = place_up_to (outside closed.0 closed.1 v) parent.scope.end (ends_along to.first parent.scope.end to.moves ends) in
        subst (λ (z : Place). Reached pool m depth levels base p0 parents there (one_more_in parent.number parent.scope) z) same_place
        (closed_reached parent up h form deep counts ends s.bytes (len b.front) to there (put_child-form pool parent.slot parent.part now) (completes (len b.front) now (sym (ap opening_type none)) (same_self now) inside_worth))

-- AN ENTRY is open in a payload, whatever its parent says
pub entry_is_payload :
    {pool : Types} {m depth levels : ℕ} {base : List Record} {p0 : Place} {parents : List Parent} {scope : Scope} {key kd : Kind} {x : Option Scalar} {d : Option Datum} {q : Place}
    (s : Reached pool m depth levels base p0 parents (entry_part key kd x d) scope q) → s.open_now ≡ records (context_of s.open_now)
entry_is_payload {pool} {key = key} {kd = kd} {x = x} {d = d} s = from_held s.held s.form
  where
    no_entry_kind : (k : Kind) → group_of_kind k ≡ an_entry key kd → ⊥
    no_entry_kind (kind.Group m) e = absurd (cc)
    no_entry_kind k e = absurd (cc)

    no_entry : (s : Shape) (k : Kind) → group_shaped s k ≡ an_entry key kd → ⊥
    no_entry (shape.Map l) k e = absurd (cc)
    no_entry (shape.List p) k e = no_entry_kind k e
    no_entry shape.Implicit k e = no_entry_kind k e
    no_entry shape.Explicit k e = no_entry_kind k e
    no_entry (shape.OneofMember o) k e = no_entry_kind k e

    no_field : (o : Option FieldView) → group_of_field o ≡ an_entry key kd → ⊥
    no_field None e = absurd (cc)
    no_field (Some f) e = no_entry f.shape f.kind e

    no_group : (o : Open Context) (a : Context) (n : ℕ) → o ≡ in_group n (group_in pool a n) → context_of o ≡ an_entry key kd → ⊥
    no_group o a n e f = by_context a (ap context_of (sym e) ∙ f)
      where
        by_context : (a : Context) → group_in pool a n ≡ an_entry key kd → ⊥
        by_context (in_message t) g = no_field (field_numbered n (message_fields pool t)) g
        by_context (an_entry l v) g = absurd (cc)
        by_context unknown_group g = absurd (cc)

    from_begun : {a o : Open Context} {depth_left below n : ℕ} {q u : Place} → Begun (schema_of pool) a depth_left n q o below u → context_of o ≡ an_entry key kd → o ≡ records (context_of o)
    from_begun (opened.a_message levels tag re l is_open is_place) f = is_open ∙ ap (λ (z : Open Context). records (context_of z)) (sym is_open)
    from_begun (opened.a_value levels tag re l is_open is_place) f = is_open ∙ ap (λ (z : Open Context). records (context_of z)) (sym is_open)
    from_begun {a = a} {o = o} {n = n} (opened.a_group levels tag is_open is_place) f = absurd (no_group o (context_of a) n is_open f)

    from_held :
        {m depth levels : ℕ} {base : List Record} {p0 : Place} {parents : List Parent} {o : Open Context} {depth_left inner : ℕ} {path : List PathStep} {p : Place} {earlier : List Record}
        → Held pool m depth levels base p0 parents (entry_part key kd x d) o depth_left inner path p earlier → context_of o ≡ an_entry key kd → o ≡ records (context_of o)
    from_held (at_top v form is_open is_depth is_inner is_path is_place is_base goes_on) f = absurd form
    from_held (inside up h begun form can deep completes is_path counts ends goes_on takes) f = from_begun begun f

-- no end tag ends an entry
pub entry_no_group :
    {pool : Types} {m depth levels : ℕ} {base : List Record} {p0 : Place} {parent : Parent} {parents : List Parent} {scope : Scope} {key kd : Kind} {x : Option Scalar} {d : Option Datum} {q : Place}
    → Reached pool m depth levels base p0 (parent ∷ parents) (entry_part key kd x d) scope q → parent.group ≡ true → ⊥
entry_no_group {parent = parent} s some =
    let typed : open_type s.open_now ≡ 2 = ap open_type (entry_is_payload s) in
    let flag : 3 ≡ open_type s.open_now = sym (ap opening_type some) ∙ flag_held s.held in
    omega (arith, typed, flag)
