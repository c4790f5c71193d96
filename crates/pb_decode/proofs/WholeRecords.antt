-- Whole records, taken at the reader's position.
use Rattle.std.proofs.Common.{◌≡◌, ℕ, ◌+◌, ◌-◌, ◌<◌, ◌≤◌, List, ◌∷◌, take, drop, length, refl, sym, ap, ◌∙◌, subst, arith, false, Option, Some, None, option_map, drop-drop}
use Rattle.pb_wire.specs.Record.{Record}
use Rattle.pb_wire.specs.Fault.{Place, HasTag, HasLength}
use Rattle.pb_wire.specs.Scan.{given_at, passed}
use Rattle.pb_schema.specs.declared.types.Kind.{Kind}
use Rattle.pb_schema.specs.declared.types.MessageId.{MessageId}
use Rattle.pb_schema.specs.Types.{Types}
use Rattle.pb_schema.specs.Rules.{IsPool}
use Rattle.pb_value.specs.Data.{Message}
use Rattle.pb_decode_parts.specs.declared.open.part.Slot.{Slot}
use Rattle.pb_decode_parts.specs.declared.open.part.Slot.TheVariants as slot
use Rattle.pb_decode_parts.specs.declared.open.target.Target.TheVariants as target
use Rattle.pb_decode_parts.specs.declared.tokens.record_tag.RecordTag.{RecordTag}
use Rattle.pb_decode_parts.specs.declared.tokens.step.Step.{Step}
use Rattle.pb_decode_parts.specs.declared.tokens.step.Step.TheVariants as step
use Rattle.pb_decode_parts.specs.Open.Parents.{Part, message_part, entry_part, parent_of, CanHold, up_to, Reached}
use Rattle.pb_decode_parts.specs.Open.Openings.{taken_message, without_message, depth_left_in}
use Rattle.pb_decode_parts.specs.Open.Targets.{Means, part_context}
use Rattle.pb_decode_parts.specs.Tokens.After.{HasLevelFor, After}
use Rattle.pb_decode_whole.specs.Reads.{IsOpen}
use Rattle.pb_decode.specs.declared.reader.state.State.{State as StateKept}
use Rattle.pb_decode.specs.Reader.{State, state_view, left_of, here, Reads, HasReached, IsReading}
use Rattle.pb_decode.specs.Reader.Steps.{IsAtTag}
use Rattle.pb_decode_parts.proofs.AfterLemmas.{after_record}
use Rattle.pb_decode_parts.proofs.PlaceLemmas.{slice_from}
use Rattle.pb_decode_parts.proofs.WellLemmas.{can_hold}
use Rattle.pb_decode_whole.proofs.Payloads.{entry_begun, message_begun}
use Rattle.pb_decode.proofs.EndedLemmas.{has_reached}
use Rattle.pb_decode.proofs.FewRecords.{counts_fit}

-- AFTER A WHOLE RECORD, where a tag may come
pub tag_reached :
    {pool : Types} {m depth levels : ℕ} {base : List Record} {p0 : Place} (s : State) (rest : List ℕ) → Reads pool m depth levels base p0 s rest → s.next ≡ step.Tag → Reached pool m depth levels base p0 s.parents s.now s.scope (here s rest)
tag_reached s rest begun tag = has_reached s rest s.parents s.now begun tag refl refl

pub tag_can : {pool : Types} {m depth levels : ℕ} {base : List Record} {p0 : Place} (s : State) (rest : List ℕ) → IsPool pool → Reads pool m depth levels base p0 s rest → s.next ≡ step.Tag → CanHold pool s.now
tag_can s rest ok begun tag = can_hold ok s.now (tag_reached s rest begun tag)

pub tag_few : {pool : Types} {m depth levels : ℕ} {base : List Record} {p0 : Place} (s : State) (rest : List ℕ) (k : ℕ) → Reads pool m depth levels base p0 s rest → s.next ≡ step.Tag → s.scope.counts k ≤ s.at
tag_few s rest k begun tag = counts_fit k (tag_reached s rest begun tag)

-- A TAG begins the bytes
pub at_tag :
    {pool : Types} (reader : StateKept) (rest : List ℕ) (tag : RecordTag) (left : Option ℕ) → IsPool pool → IsReading pool (state_view reader) rest → reader.step ≡ step.Tag → left ≡ left_of (state_view reader) → tag.size ≤ length rest
    → ((at : ℕ) → HasTag (given_at at left rest) tag.number tag.wire_type (passed (given_at at left rest) tag.size)) → IsAtTag pool reader rest tag
at_tag reader rest tag left ok reading is left_is within reported = record {
  rules = ok;
  reading = reading;
  step = is;
  within = within;
  there = subst (λ (z : Option ℕ). HasTag (given_at reader.at z rest) tag.number tag.wire_type (passed (given_at reader.at z rest) tag.size)) left_is (reported reader.at);
}

-- A LENGTH after a tag
pub length_here :
    (s : State) (rest : List ℕ) (number type used start size : ℕ) {left : Option ℕ} → left ≡ left_of s
    → ((at number type : ℕ) → HasTag (given_at at left rest) number type (passed (given_at at left rest) used) → HasLength (passed (given_at at left rest) used) size (passed (given_at at left rest) start))
    → HasTag (here s rest) number type (passed (here s rest) used) → HasLength (passed (here s rest) used) size (passed (here s rest) start)
length_here s rest number type used start size is reported has =
    subst (λ (z : Option ℕ). HasLength (passed (given_at s.at z rest) used) size (passed (given_at s.at z rest) start)) is
    (reported s.at number type (subst (λ (z : Option ℕ). HasTag (given_at s.at z rest) number type (passed (given_at s.at z rest) used)) (sym is) has))

-- WHAT A RECORD OPENS after its length, as in a frame
pub entry_in_reader :
    {pool : Types} (s : State) (rest : List ℕ) (number tag_size start size : ℕ) (key kd : Kind) → IsPool pool → IsReading pool s rest
    → s.next ≡ step.Tag → HasTag (here s rest) number 2 (passed (here s rest) tag_size) → HasLength (passed (here s rest) tag_size) size (passed (here s rest) start)
    → Means pool (part_context s.now) number 2 (target.Entry key kd) → 0 < s.scope.depth_left → IsOpen pool (entry_part key kd None None) (take (length rest - start) (drop start rest)) size (s.scope.depth_left - 1)
entry_in_reader s rest number tag_size start size key kd ok from tag has l means some = record {
  m = from.m;
  depth = from.depth;
  levels = from.levels;
  at = s.at + start;
  base = from.base;
  p0 = from.p0;
  parents = parent_of s.now number (slot.Map number) false s.scope ∷ s.parents;
  reached = entry_begun s.at (left_of s) rest number tag_size start size s.scope.depth_left key kd ok (tag_reached s rest from.reads tag) refl has l means some;
}

pub message_in_reader :
    {pool : Types} (s : State) (rest : List ℕ) (number tag_size start size below : ℕ) (j : MessageId) (t : Slot) (outer : Part) (w : Message) → IsPool pool → IsReading pool s rest → below ≡ depth_left_in t s.scope.depth_left
    → s.next ≡ step.Tag → HasTag (here s rest) number 2 (passed (here s rest) tag_size) → HasLength (passed (here s rest) tag_size) size (passed (here s rest) start)
    → Means pool (part_context s.now) number 2 (target.Message j t) → HasLevelFor s.scope.depth_left (target.Message j t) → outer ≡ without_message t s.now → w ≡ taken_message t s.now
    → IsOpen pool (message_part j.0 w) (take (length rest - start) (drop start rest)) size below
message_in_reader s rest number tag_size start size below j t outer w ok from is_below tag has l means some is_outer is_taken = record {
  m = from.m;
  depth = from.depth;
  levels = from.levels;
  at = s.at + start;
  base = from.base;
  p0 = from.p0;
  parents = parent_of outer number t false s.scope ∷ s.parents;
  reached = message_begun s.at (left_of s) rest number tag_size start size s.scope.depth_left below j t outer w ok (tag_reached s rest from.reads tag) refl is_below has l means some is_outer is_taken;
}

-- AFTER IT the reader has read that record
pub inner_passed :
    {pool : Types} {m depth levels : ℕ} {base : List Record} {p0 : Place} (s t : State) (rest : List ℕ) (start size : ℕ) → t.at ≡ s.at + (start + size) → t.next ≡ step.Tag → t.scope.end ≡ s.scope.end
    → HasReached pool m depth levels base p0 t (up_to s.scope.end (passed (given_at (s.at + start) (Some size) (take (length rest - start) (drop start rest))) size)) → Reads pool m depth levels base p0 t (drop (start + size) rest)
inner_passed {pool} {m} {depth} {levels} {base} {p0} s t rest start size at tag end there =
    subst (λ (z : Step). After pool m depth levels base p0 t.parents z t.now t.scope (here t (drop (start + size) rest))) (sym tag)
    (after_record (subst (HasReached pool m depth levels base p0 t) place there))
  where
    at_is : (s.at + start) + size ≡ t.at
    at_is = let same : (s.at + start) + size ≡ s.at + (start + size) = omega arith in same ∙ sym at

    rest_is : drop size (take (length rest - start) (drop start rest)) ≡ drop (start + size) rest
    rest_is = ap (drop size) (slice_from start rest) ∙ drop-drop size start rest

    place : up_to s.scope.end (passed (given_at (s.at + start) (Some size) (take (length rest - start) (drop start rest))) size) ≡ here t (drop (start + size) rest)
    place =
        ap (λ (z : List ℕ). given_at ((s.at + start) + size) (option_map (λ (e : ℕ). e - ((s.at + start) + size)) s.scope.end) z) rest_is
        ∙ ap (λ (z : ℕ). given_at z (option_map (λ (e : ℕ). e - z) s.scope.end) (drop (start + size) rest)) at_is
        ∙ ap (λ (z : Option ℕ). given_at t.at (option_map (λ (e : ℕ). e - t.at) z) (drop (start + size) rest)) (sym end)
