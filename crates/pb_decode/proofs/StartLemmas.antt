-- A reader from where it began: the start, more bytes, and the end.
use Rattle.std.proofs.Common.{◌≡◌, ℕ, zero, suc, ◌+◌, ◌-◌, ◌<◌, ◌≤◌, ◌^◌, List, [], ◌++◌, length, refl, sym, ap, ◌∙◌, subst, arith, length-append, inl, inr, Option, Some, None, option_map}
use Rattle.pb_wire.specs.Record.{Record}
use Rattle.pb_wire.specs.Sound.{AllSound}
use Rattle.pb_wire.specs.declared.fault.Cause.TheVariants.{Truncated}
use Rattle.pb_wire.specs.declared.fault.PathStep.{PathStep}
use Rattle.pb_wire.specs.Fault.{fault, Place, Moves}
use Rattle.pb_wire.specs.Scan.{given_at}
use Rattle.pb_wire.specs.Schema.{Open, context_of}
use Rattle.pb_wire.specs.Grammar.{Begins}
use Rattle.pb_wire.specs.Exact.{IsOver, longer}
use Rattle.pb_schema.specs.Types.{Types}
use Rattle.pb_schema.specs.Rules.{IsPool}
use Rattle.pb_schema.specs.Context.{Context, a_message as in_message, schema_of}
use Rattle.pb_value.specs.Data.{Message, empty}
use Rattle.pb_value.specs.Value.{value, value_within}
use Rattle.pb_value.proofs.MessageSteps.{value_of_nothing}
use Rattle.pb_value.specs.WellFormed.{IsWellFormed}
use Rattle.pb_decode_parts.specs.declared.tokens.step.Step.{Step}
use Rattle.pb_decode_parts.specs.declared.tokens.step.Step.TheVariants as step
use Rattle.pb_decode_parts.specs.Open.Opened.{SoFar}
use Rattle.pb_decode_parts.specs.Open.Parents.{Part, message_part, Parent, Scope, EndsAt, Held, at_top, Reached}
use Rattle.pb_decode_parts.specs.Tokens.After.{After}
use Rattle.pb_decode.specs.Reader.{State, here, path_here, Reads, IsReading, Stops, over, cut}
use Rattle.pb_decode.specs.Reader.Start.{Start, starting, further, TookFrom, IsOverAt, IsWhole, BadFrom}
use Rattle.pb_decode_parts.proofs.AfterLemmas.{after_record, at_record}
use Rattle.pb_decode_parts.proofs.ParentLemmas.{reached_at_start}
use Rattle.pb_decode.proofs.FinishLemmas.{cut_reported}
use Rattle.pb_decode_whole.proofs.Top.{is_top, top_well_formed}

-- MORE BYTES

-- a reader that took some input is where a step goes on
pub from_reading : {pool : Types} (o : Start) (s : State) (held : List ℕ) → s.at + length held < 2 ^ 31 → TookFrom pool o s held → IsReading pool s held
from_reading o s held small h = record {
  m = o.kind;
  depth = o.depth;
  levels = 101;
  base = o.base;
  p0 = o.place;
  reads = h.reads;
  small = small;
}

pub took_further :
    {pool : Types} (o : Start) (s t : State) (held rest more : List ℕ) → TookFrom pool o s held → t.at + length rest ≡ s.at + length held + length more
    → Reads pool o.kind o.depth 101 o.base (longer o.place more) t rest × Stops pool o.kind o.depth (longer o.place more) t rest → TookFrom pool (further o more) t rest
took_further o s t held rest more h at there = record {
  reads = there.0;
  stops = there.1;
  at = let was = h.at in let joined = length-append o.place.rest more in omega (arith, at, was, joined);
}

-- THE END
-- where nothing is open but the message, the reader is after a whole record of it
pub reached_over : {pool : Types} (o : Start) (s : State) (held : List ℕ) → IsOverAt s held → TookFrom pool o s held → Reached pool o.kind o.depth 101 o.base o.place [] s.now s.scope (here s held)
reached_over {pool} o s held ended h =
    at_record
    (subst (λ (z : Step). After pool o.kind o.depth 101 o.base o.place [] z s.now s.scope (here s held)) ended.next
    (subst (λ (z : List Parent). After pool o.kind o.depth 101 o.base o.place z s.next s.now s.scope (here s held)) ended.parents h.reads))

pub is_message : {pool : Types} (o : Start) (s : State) (held : List ℕ) → IsOverAt s held → TookFrom pool o s held → (v : Message) × (s.now ≡ message_part o.kind v)
is_message o s held ended h = is_top refl (reached_over o s held ended h).held

-- whole records lead from the top's first byte to the reader's position
whole_read : (pool : Types) (o : Start) (k : ℕ) (v : Message) (scope : Scope) (q : Place) → IsOver q → Reached pool o.kind o.depth 101 o.base o.place [] (message_part k v) scope q → IsWhole pool o v
unfolding value
whole_read pool o k v scope q ended s = from_held s.held s.so_far s.worth
  where
    from_held :
        {a : Open Context} {depth_left inner : ℕ} {path : List PathStep} {p : Place} {earlier rs : List Record}
        → Held pool o.kind o.depth 101 o.base o.place [] (message_part k v) a depth_left inner path p earlier → SoFar (schema_of pool) a depth_left p rs q → v ≡ value_within pool inner k (earlier ++ rs) → IsWhole pool o v
    from_held {a} {depth_left} {inner} {path} {p} {earlier} {rs} (at_top x form is_open is_depth is_inner is_path is_place is_base goes_on) h worth = record {
      records = rs;
      front = h.front;
      after = q;
      spelled = h.spelled;
      sound =
          subst (λ (z : ℕ). AllSound (schema_of pool) (in_message o.kind) z rs) is_depth
          (subst (λ (z : Open Context). AllSound (schema_of pool) (context_of z) depth_left rs) is_open h.sound);
      moves = subst (λ (z : Place). Moves z h.front q) is_place h.moves;
      over = ended;
      valued =
          worth ∙ ap (λ (z : ℕ). value_within pool z k (earlier ++ rs)) is_inner ∙ ap (λ (z : ℕ). value_within pool 101 z (earlier ++ rs)) form
          ∙ ap (λ (z : List Record). value_within pool 101 o.kind (z ++ rs)) is_base;
    }

pub whole_there : {pool : Types} (o : Start) (s : State) (held : List ℕ) (k : ℕ) (w : Message) → IsOverAt s held → s.now ≡ message_part k w → TookFrom pool o s held → IsWhole pool o w
whole_there {pool} o s held k w ended is h =
    whole_read pool o k w s.scope (here s held) ended.over
    (subst (λ (z : Part). Reached pool o.kind o.depth 101 o.base o.place [] z s.scope (here s held)) is (reached_over o s held ended h))

pub well_formed_over : {pool : Types} (o : Start) (s : State) (held : List ℕ) (k : ℕ) (w : Message) → IsPool pool → IsOverAt s held → s.now ≡ message_part k w → TookFrom pool o s held → IsWellFormed pool o.kind w
well_formed_over {pool} o s held k w ok ended is h =
    top_well_formed k w ok (subst (λ (z : Part). Reached pool o.kind o.depth 101 o.base o.place [] z s.scope (here s held)) is (reached_over o s held ended h))

-- what is begun is cut short
pub cut_over : {pool : Types} (o : Start) (s : State) (held : List ℕ) → (IsOverAt s held → ⊥) → TookFrom pool o s held → BadFrom pool o (fault (s.at + length held) (path_here s) Truncated)
cut_over {pool} o s held begun h = by_stops h.stops
  where
    by_stops : Stops pool o.kind o.depth o.place s held → BadFrom pool o (fault (s.at + length held) (path_here s) Truncated)
    by_stops (cut bad) = bad
    by_stops (over none tag ended) = absurd (begun (record { parents = none; next = tag; over = ended }))

-- THE START
-- nothing is taken yet
unfoldable started : Part → Scope → State
started v scope = record { at = 0; now = v; scope = scope; parents = []; next = step.Tag }

state_is : (s : State) (v : Part) → s.at ≡ 0 → s.next ≡ step.Tag → s.parents ≡ [] → s.now ≡ v → s ≡ started v s.scope
unfolding started
state_is s v at tag none part =
    ap (λ (z : ℕ). record s { at = z }) at ∙ ap (λ (z : Part). record s { at = 0; now = z }) part ∙ ap (λ (z : List Parent). record s { at = 0; now = v; parents = z }) none
    ∙ ap (λ (z : Step). record s { at = 0; now = v; parents = []; next = z }) tag

left_at_start : (end : Option ℕ) → option_map (λ (e : ℕ). e - 0) end ≡ end
left_at_start None = refl
left_at_start (Some e) = let same : e - 0 ≡ e = omega arith in ap (λ (z : ℕ). Some z) same

ends_at_start : (end : Option ℕ) → EndsAt (given_at 0 end []) end
ends_at_start None = refl
ends_at_start (Some e) = (e, refl, omega arith)

-- a message begins unless it ends at once
begins_there :
    {pool : Types} {m depth levels : ℕ} {base : List Record} {p0 : Place} {now : Part} {o : Open Context} {depth_left inner : ℕ} {path : List PathStep} {p : Place} {earlier : List Record} (n : ℕ)
    → Held pool m depth levels base p0 [] now o depth_left inner path p earlier → Begins o (given_at 0 (Some (suc n)) [])
begins_there n (at_top v form is_open is_depth is_inner is_path is_place is_base goes_on) =
    subst (λ (z : Open Context). Begins z (given_at 0 (Some (suc n)) [])) (sym is_open) ((λ e. let same : Some (suc n) ≡ Some 0 = e in absurd (cc)), (λ e. let same : Some (suc n) ≡ None = e in absurd (cc)))

stops_at_start :
    {pool : Types} (k depth : ℕ) (base : List Record) (v : Part) (scope : Scope) (end : Option ℕ) → scope.end ≡ end → Reached pool k depth 101 base (given_at 0 end []) [] v scope (given_at 0 end [])
    → Stops pool k depth (given_at 0 end []) (started v scope) []
unfolding started
stops_at_start k depth base v scope None is reached = over refl refl (inr (ap (option_map (λ (e : ℕ). e - 0)) is, refl))
stops_at_start k depth base v scope (Some zero) is reached = over refl refl (inl (ap (option_map (λ (e : ℕ). e - 0)) is))
stops_at_start k depth base v scope (Some (suc n)) is reached = cut (cut_reported reached (begins_there n reached.held) refl (λ e. let same : Some (suc n) ≡ Some 0 = e in absurd (cc)))

took_started :
    (pool : Types) (k depth : ℕ) (base : List Record) (end : Option ℕ) (v : Message) (scope : Scope) → scope.depth_left ≡ depth → scope.end ≡ end → ((n : ℕ) → scope.counts n ≡ 0) → depth ≤ 100 → k < length pool.messages
    → IsWellFormed pool k v → v ≡ value pool k base → TookFrom pool (starting k depth base end) (started (message_part k v) scope) []
unfolding value started
took_started pool k depth base end v scope depth_left is_end counts deep within good is = record {
  reads = subst (λ (z : Place). After pool k depth 101 base (given_at 0 end []) [] step.Tag (message_part k v) scope z) placed (after_record reached);
  stops = stops_at_start k depth base (message_part k v) scope end is_end reached;
  at = omega arith;
}
  where
    reached : Reached pool k depth 101 base (given_at 0 end []) [] (message_part k v) scope (given_at 0 end [])
    reached =
        reached_at_start pool k depth 101 base (given_at 0 end []) scope v (omega (arith, deep)) is within good.parts (let low = good.depth in omega (arith, low)) tt depth_left counts
        (subst (EndsAt (given_at 0 end [])) (sym is_end) (ends_at_start end))

    placed : given_at 0 end [] ≡ given_at 0 (option_map (λ (e : ℕ). e - 0) scope.end) []
    placed = ap (λ (z : Option ℕ). given_at 0 z []) (sym (left_at_start end) ∙ ap (option_map (λ (e : ℕ). e - 0)) (sym is_end))

pub took_start :
    (pool : Types) (k depth : ℕ) (base : List Record) (end : Option ℕ) (v : Message) (s : State) (held : List ℕ) → s.at ≡ 0 → s.next ≡ step.Tag → s.parents ≡ [] → s.now ≡ message_part k v → s.scope.depth_left ≡ depth → s.scope.end ≡ end
    → ((n : ℕ) → s.scope.counts n ≡ 0) → held ≡ [] → depth ≤ 100 → k < length pool.messages → IsWellFormed pool k v → v ≡ value pool k base → TookFrom pool (starting k depth base end) s held
took_start pool k depth base end v s held at tag none part depth_left is_end counts empty_held deep within good is =
    subst (λ (z : State). TookFrom pool (starting k depth base end) z held) (sym (state_is s (message_part k v) at tag none part))
    (subst (TookFrom pool (starting k depth base end) (started (message_part k v) s.scope)) (sym empty_held) (took_started pool k depth base end v s.scope depth_left is_end counts deep within good is))

-- onto nothing
pub begun_empty :
    {pool : Types} (k depth_left depth : ℕ) (end : Option ℕ) (v : Message) (s : State) (held : List ℕ) → v ≡ empty → depth_left ≡ depth → k < length pool.messages
    → ((p : Types) (base : List Record) → k < length p.messages → IsWellFormed p k v → v ≡ value p k base → TookFrom p (starting k depth_left base end) s held) → TookFrom pool (starting k depth [] end) s held
unfolding value
begun_empty {pool} k depth_left depth end v s held none same within begun =
    subst (λ (d : ℕ). TookFrom pool (starting k d [] end) s held) same
    (begun pool [] within (subst (IsWellFormed pool k) (sym none) (record { parts = (tt, tt, tt, tt); depth = omega arith })) (none ∙ sym (value_of_nothing pool 101 k)))
