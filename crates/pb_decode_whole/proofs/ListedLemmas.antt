-- Records of one list that are read at once.
use Rattle.std.proofs.Common.{◌≡◌, ℕ, ◌+◌, ◌-◌, ◌<◌, arith, List, [], ◌∷◌, ◌++◌, map, take, drop, length, refl, sym, ap, ◌∙◌, subst}
use Rattle.std.proofs.lemmas.List.{map-append}
use Rattle.pb_schema.specs.declared.types.Kind.{Kind}
use Rattle.pb_schema.specs.declared.types.MessageId.{MessageId}
use Rattle.pb_schema.specs.Types.{Types}
use Rattle.pb_schema.specs.Kinds.{wire_type_of}
use Rattle.pb_schema.specs.Context.{Context}
use Rattle.pb_value.specs.Data.{Datum, message, Message as MessageOf}
use Rattle.pb_value.specs.View.{body_view, value_view}
use Rattle.pb_value.specs.declared.body.Body.{Body}
use Rattle.pb_value.specs.declared.body.Value.{Value}
use Rattle.pb_value.proofs.Views.{value_view-Message}
use Rattle.pb_decode_parts.specs.declared.open.part.Slot.TheVariants.{List as ListSlot}
use Rattle.pb_decode_parts.specs.declared.open.target.Target.{Target}
use Rattle.pb_decode_parts.specs.declared.open.target.Target.TheVariants.{Element, Message}
use Rattle.pb_decode_parts.specs.Open.Parents.{Part, message_part, entry_part, group_part, put_message}
use Rattle.pb_decode_parts.specs.Open.Targets.{Means, part_context}
use Rattle.pb_decode_parts.specs.Values.Run.{put_listed, put_each}
use Rattle.pb_decode_parts.specs.declared.open.part.Part.{Part as PartKept}
use Rattle.pb_decode_parts.specs.Open.PartView.{part_view}
use Rattle.pb_decode_parts.specs.Tokens.Number.{IsNumberType}
use Rattle.pb_decode_parts.proofs.NumberSteps.{meant_type}
use Rattle.pb_decode_whole.specs.declared.reader.AtTag.{AtTag}
use Rattle.pb_decode_whole.specs.declared.reader.Left.{Left}
use Rattle.pb_decode_whole.specs.Reads.{Begins, IsAtTag, MeansIn, ReadsTo}
use Rattle.pb_decode_whole.specs.Listed.{ReadsRun, ReadsList, IsAtElement, IsListOpen, IsAtListed, ReadsListed}
use Rattle.pb_decode_whole.proofs.Tags.{tag_there, tag_within, next_size, left_here}
use Rattle.pb_decode_parts.proofs.RunLemmas.{each_next}
use Rattle.pb_decode_whole.proofs.Payloads.{nothing_filled, still_open, filled_further}
use Rattle.pb_value.specs.declared.body.Value.TheVariants as value

-- values in a list change no type
listed_context : (n : ℕ) (d : Datum) (p : Part) → part_context (put_listed n d p) ≡ part_context p
listed_context n d (message_part m v) = refl
listed_context n d (entry_part key k x e) = refl
listed_context n d (group_part us) = refl

each_context : (n : ℕ) (ds : List Datum) (p : Part) → part_context (put_each n ds p) ≡ part_context p
each_context n [] p = refl
each_context n (d ∷ ds) p = each_context n ds (put_listed n d p) ∙ listed_context n d p

-- so the records of a number mean what they did
still_means :
    (pool : Types) (type number : ℕ) (meant : Target) (ds : List Datum) (now : Part) → Means pool (part_context now) number type meant → Means pool (part_context (put_each number ds now)) number type meant
still_means pool type number meant ds now = subst (λ (z : Context). Means pool z number type meant) (sym (each_context number ds now))

-- ONE MORE RECORD of the list after those that are read
pub values_further :
    {pool : Types} (type number : ℕ) (meant : Target) (vs ws : List Value) (v : Value) (bytes : List ℕ) (left depth_left used more : ℕ) → ws ≡ vs ++ v ∷ [] → ReadsRun pool number type meant (map value_view vs) bytes left depth_left used
    → ReadsRun pool number type meant (value_view v ∷ []) (take (length bytes - used) (drop used bytes)) (left - used) depth_left more → ReadsRun pool number type meant (map value_view ws) bytes left depth_left (used + more)
values_further {pool} type number meant vs ws v bytes left depth_left used more is so_far next now means =
    let then : Part = put_each number (map value_view vs) now in
    let still = still_means pool type number meant (map value_view vs) now means in
    let same : put_each number (value_view v ∷ []) then ≡ put_each number (map value_view ws) now =
    sym
    (ap (λ (z : List Value). put_each number (map value_view z) now) is ∙ ap (λ (z : List Datum). put_each number z now) (map-append value_view vs (v ∷ []))
    ∙ each_next number (map value_view vs) (value_view v) now) in
    subst (λ (z : Part). ReadsTo pool now z bytes left depth_left (used + more)) same
    (filled_further now then (put_each number (value_view v ∷ []) then) bytes left depth_left used more (so_far now means) (next then still))

pub listed_further :
    {pool : Types} (kind : Kind) (number : ℕ) (vs ws : List Value) (v : Value) (bytes : List ℕ) (left used more : ℕ) → ws ≡ vs ++ v ∷ [] → ReadsList pool kind number (map value_view vs) bytes left used
    → ReadsList pool kind number (value_view v ∷ []) (take (length bytes - used) (drop used bytes)) (left - used) more → ReadsList pool kind number (map value_view ws) bytes left (used + more)
listed_further kind number vs ws v bytes left used more is so_far next depth_left =
    values_further (wire_type_of kind) number (Element kind) vs ws v bytes left depth_left used more is (so_far depth_left) (next depth_left)

-- AN ELEMENT of a list that is open
pub element_at : {pool : Types} {part : PartKept} {kind : Kind} {at : AtTag} → IsAtTag pool part at → IsNumberType at.tag.wire_type → MeansIn pool part at.tag.number at.tag.wire_type (Element kind) → IsAtElement pool kind at
element_at {pool} {part} {kind} {at} there type means = record {
  rules = there.can.rules;
  number = type;
  own = meant_type pool (part_view part) at.tag.number at.tag.wire_type (Element kind) kind means refl;
  within = there.within;
  small = there.can.small;
  there = there.there;
}

-- the next one
pub element_next :
    {pool : Types} {kind : Kind} {at next : AtTag} {after : Left} (here : ℕ) → IsAtElement pool kind at → after ≡ left_here at.left here → (next.tag.number ≡ at.tag.number) × (next.tag.wire_type ≡ at.tag.wire_type)
    → Begins (take (length at.bytes.now - here) (drop here at.bytes.now)) after next → IsAtElement pool kind next
element_next {at = at} here from is_after own begins =
    let size = next_size at.bytes.now here begins in
    let small = from.small in
    record { rules = from.rules; number = subst IsNumberType (sym own.1) from.number; own = own.1 ∙ from.own; within = tag_within begins; small = omega (arith, size, small); there = tag_there begins }

pub elements_further :
    {pool : Types} {kind : Kind} {next : AtTag} {after : Left} (at : AtTag) (vs ws : List Value) (v : Value) (here more : ℕ) → ws ≡ vs ++ v ∷ [] → ReadsList pool kind at.tag.number (map value_view vs) at.bytes.now at.left.remaining here
    → after ≡ left_here at.left here → (next.tag.number ≡ at.tag.number) × (next.tag.wire_type ≡ at.tag.wire_type) → Begins (take (length at.bytes.now - here) (drop here at.bytes.now)) after next
    → ReadsList pool kind next.tag.number (value_view v ∷ []) next.bytes.now next.left.remaining more → ReadsList pool kind at.tag.number (map value_view ws) at.bytes.now at.left.remaining (here + more)
elements_further {pool} {kind} {next} at vs ws v here more is so_far is_after own begins read =
    listed_further kind at.tag.number vs ws v at.bytes.now at.left.remaining here more is so_far
    (subst (λ (z : Left). ReadsList pool kind at.tag.number (value_view v ∷ []) (take (length at.bytes.now - here) (drop here at.bytes.now)) z.remaining more) (begins.same_left ∙ is_after)
    (subst (λ (z : List ℕ). ReadsList pool kind at.tag.number (value_view v ∷ []) z next.left.remaining more) begins.same_bytes
    (subst (λ (n : ℕ). ReadsList pool kind n (value_view v ∷ []) next.bytes.now next.left.remaining more) own.0 read)))

-- A LIST OF MESSAGES: one goes to its end
message_listed_view : (pool : Types) (n : ℕ) (p : Part) (w : MessageOf) → put_listed n (message w) p ≡ put_message pool (ListSlot n) p w
message_listed_view pool n (message_part m v) w = refl
message_listed_view pool n (entry_part key k x d) w = refl
message_listed_view pool n (group_part us) w = refl

pub message_listed : (pool : Types) (n : ℕ) (p : Part) (b : Body) → put_listed n (value_view (value.Message b)) p ≡ put_message pool (ListSlot n) p (body_view b)
message_listed pool n p b = ap (λ (d : Datum). put_listed n d p) (value_view-Message b) ∙ message_listed_view pool n p (body_view b)

-- no message is read yet
pub none_listed :
    {pool : Types} (type number : ℕ) (meant : Target) (vs : List Value) (bytes : List ℕ) (left depth_left : ℕ) → vs ≡ [] → ReadsRun pool number type meant (map value_view vs) bytes left depth_left 0
none_listed {pool} type number meant vs bytes left depth_left none now means =
    subst (λ (z : List Value). ReadsTo pool now (put_each number (map value_view z) now) bytes left depth_left 0) (sym none) (nothing_filled now bytes left depth_left)

-- after these bytes the list is still open
pub list_further :
    {pool : Types} {number type : ℕ} {of_type : MessageId} (vs : List Value) (bytes : List ℕ) (left depth_left used : ℕ) → IsListOpen pool number type of_type bytes left depth_left
    → ReadsRun pool number type (Message of_type (ListSlot number)) (map value_view vs) bytes left depth_left used → IsListOpen pool number type of_type (take (length bytes - used) (drop used bytes)) (left - used) depth_left
list_further {pool} {number} {type} {of_type} vs bytes left depth_left used from so_far = record {
  now = put_each number (map value_view vs) from.now;
  there = still_open from.now (put_each number (map value_view vs) from.now) bytes left depth_left used from.there (so_far from.now from.means);
  means = still_means pool type number (Message of_type (ListSlot number)) (map value_view vs) from.now from.means;
}

-- and the next one may be read
pub listed_next :
    {pool : Types} {of_type : MessageId} {at next : AtTag} {after : Left} (vs : List Value) (here : ℕ) → IsAtListed pool of_type at → ReadsListed pool of_type at (map value_view vs) here
    → after ≡ left_here at.left here → (next.tag.number ≡ at.tag.number) × (next.tag.wire_type ≡ at.tag.wire_type) → Begins (take (length at.bytes.now - here) (drop here at.bytes.now)) after next → IsAtListed pool of_type next
listed_next {pool} {of_type} {at} {next} vs here from so_far is_after own begins =
    let size = next_size at.bytes.now here begins in
    let small = from.small in
    let is_left = begins.same_left ∙ is_after in
    record {
      rules = from.rules;
      is_open =
          subst (λ (n : ℕ). IsListOpen pool n next.tag.wire_type of_type next.bytes.now next.left.remaining next.left.depth_left) (sym own.0)
          (subst (λ (w : ℕ). IsListOpen pool at.tag.number w of_type next.bytes.now next.left.remaining next.left.depth_left) (sym own.1)
          (subst (λ (z : List ℕ). IsListOpen pool at.tag.number at.tag.wire_type of_type z next.left.remaining next.left.depth_left) (sym begins.same_bytes)
          (subst (λ (z : Left). IsListOpen pool at.tag.number at.tag.wire_type of_type (take (length at.bytes.now - here) (drop here at.bytes.now)) z.remaining z.depth_left) (sym is_left)
          (list_further vs at.bytes.now at.left.remaining at.left.depth_left here from.is_open so_far))));
      level = subst (λ (z : Left). 0 < z.depth_left) (sym is_left) from.level;
      small = omega (arith, size, small);
      some = begins.some;
      within = tag_within begins;
      there = tag_there begins;
    }

pub messages_further :
    {pool : Types} {of_type : MessageId} {next : AtTag} {after : Left} (at : AtTag) (vs ws : List Value) (v : Value) (here more : ℕ) → ws ≡ vs ++ v ∷ [] → ReadsListed pool of_type at (map value_view vs) here → after ≡ left_here at.left here
    → (next.tag.number ≡ at.tag.number) × (next.tag.wire_type ≡ at.tag.wire_type) → Begins (take (length at.bytes.now - here) (drop here at.bytes.now)) after next → ReadsListed pool of_type next (value_view v ∷ []) more
    → ReadsListed pool of_type at (map value_view ws) (here + more)
messages_further {pool} {of_type} {next} at vs ws v here more is so_far is_after own begins read =
    let run = λ (n w : ℕ) (z : List ℕ) (l : Left). ReadsRun pool n w (Message of_type (ListSlot n)) (value_view v ∷ []) z l.remaining l.depth_left more in
    values_further at.tag.wire_type at.tag.number (Message of_type (ListSlot at.tag.number)) vs ws v at.bytes.now at.left.remaining at.left.depth_left here more is so_far
    (subst (λ (z : Left). run at.tag.number at.tag.wire_type (take (length at.bytes.now - here) (drop here at.bytes.now)) z) (begins.same_left ∙ is_after)
    (subst (λ (z : List ℕ). run at.tag.number at.tag.wire_type z next.left) begins.same_bytes
    (subst (λ (w : ℕ). run at.tag.number w next.bytes.now next.left) own.1
    (subst (λ (n : ℕ). run n next.tag.wire_type next.bytes.now next.left) own.0 read))))
