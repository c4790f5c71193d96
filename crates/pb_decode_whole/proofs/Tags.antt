-- What comes after a tag.
use Rattle.std.proofs.Common.{◌≡◌, inl, inr, ℕ, ◌+◌, ◌-◌, ◌≤◌, ◌∙◌, List, take, drop, length, refl, sym, ap, subst, arith, length-drop, Option, Some, option_map}
use Rattle.std.specs.Prelude.{true}
use Rattle.std.proofs.lemmas.Bool.{false≢true}
use Rattle.pb_wire.specs.Record.{Record}
use Rattle.pb_wire.specs.Fault.{Place, Moves, HasTag, HasLength}
use Rattle.pb_wire.specs.Scan.{given_at, passed}
use Rattle.pb_wire.proofs.ScanLemmas.{moves_passed}
use Rattle.pb_schema.specs.Types.{Types}
use Rattle.pb_decode_parts.specs.declared.open.target.Target.{Target}
use Rattle.pb_decode_parts.specs.declared.tokens.step.Step.{Step}
use Rattle.pb_decode_parts.specs.Values.PayloadValue.{IsBytesTarget}
use Rattle.pb_decode_parts.specs.Open.Targets.{Means, part_context}
use Rattle.pb_decode_parts.specs.Open.Parents.{Part, Scope, Parent, Reached}
use Rattle.pb_decode_parts.specs.Tokens.After.{tag, awaited, goes_down, HasLevelFor, After}
use Rattle.pb_decode_parts.specs.Tokens.Number.{IsNumberType}
use Rattle.pb_decode_parts.proofs.AfterLemmas.{after_tag, after_length}
use Rattle.pb_decode_parts.proofs.DeepLemmas.{reads_below}
use Rattle.pb_decode_parts.proofs.PlaceLemmas.{slice_from, passed_twice}
use Rattle.pb_decode_whole.specs.declared.reader.AtTag.{AtTag}
use Rattle.pb_decode_whole.specs.declared.reader.Left.{Left}
use Rattle.pb_decode_whole.specs.Reads.{HasTagAt, Begins}
use Rattle.pb_decode_parts.specs.declared.open.target.Target.TheVariants as target
use Rattle.pb_decode_parts.specs.declared.tokens.step.Step.TheVariants as step

-- WHAT BEGINS the bytes after some of them comes after those
pub there_after :
    (P : Place → Place → Type 0) (at : ℕ) (left after : Option ℕ) (rest : List ℕ) (used more : ℕ) → after ≡ option_map (λ (e : ℕ). e - used) left
    → P (given_at (at + used) after (take (length rest - used) (drop used rest))) (passed (given_at (at + used) after (take (length rest - used) (drop used rest))) more)
    → P (passed (given_at at left rest) used) (passed (given_at at left rest) (used + more))
there_after P at left after rest used more is h =
    subst (P (passed (given_at at left rest) used)) (passed_twice (given_at at left rest) used more)
    (subst (λ (z : Option ℕ). P (given_at (at + used) z (drop used rest)) (passed (given_at (at + used) z (drop used rest)) more)) is
    (subst (λ (z : List ℕ). P (given_at (at + used) after z) (passed (given_at (at + used) after z) more)) (slice_from used rest) h))

-- A TAG of a record that opens nothing: its value or its length comes next
pub tag_next :
    {pool : Types} {m depth levels : ℕ} {base : List Record} {p0 : Place} {parents : List Parent} {scope : Scope} {now : Part} {q u : Place} (next : Step) (k w : ℕ) (meant : Target)
    → Reached pool m depth levels base p0 parents now scope q → awaited next ≡ Some (tag k w meant) → HasTag q k w u → Means pool (part_context now) k w meant → (goes_down meant ≡ true → ⊥) → After pool m depth levels base p0 parents next now scope u
tag_next next k w meant s is has means stays = after_tag next (tag k w meant) s is has means (λ deep. absurd (stays deep))

pub number_stays : (pool : Types) (now : Part) (k w : ℕ) (meant : Target) → Means pool (part_context now) k w meant → IsNumberType w → goes_down meant ≡ true → ⊥
number_stays pool now k w meant means type deep = let two : w ≡ 2 = (reads_below pool now k w meant means deep (no_start type)).0 in by_type type two
  where
    no_start : IsNumberType w → w ≡ 3 → ⊥
    no_start (inl e) three = absurd (omega (arith, e, three))
    no_start (inr (inl e)) three = absurd (omega (arith, e, three))
    no_start (inr (inr e)) three = absurd (omega (arith, e, three))

    by_type : IsNumberType w → w ≡ 2 → ⊥
    by_type (inl e) two = absurd (omega (arith, e, two))
    by_type (inr (inl e)) two = absurd (omega (arith, e, two))
    by_type (inr (inr e)) two = absurd (omega (arith, e, two))

pub bytes_stay : (meant : Target) → IsBytesTarget meant → goes_down meant ≡ true → ⊥
bytes_stay (target.One k s) bytes deep = false≢true deep
bytes_stay (target.Element k) bytes deep = false≢true deep
bytes_stay (target.Key k) bytes deep = false≢true deep
bytes_stay (target.EntryValue k) bytes deep = false≢true deep
bytes_stay target.Unknown bytes deep = false≢true deep
bytes_stay (target.Packed k) bytes deep = bytes
bytes_stay (target.Message j s) bytes deep = bytes
bytes_stay (target.Entry key k) bytes deep = bytes

-- after the tag of a number
pub number_next :
    {pool : Types} {m depth levels : ℕ} {base : List Record} {p0 : Place} {parents : List Parent} {scope : Scope} {now : Part} {q u : Place} (k w : ℕ) (meant : Target) → IsNumberType w
    → Reached pool m depth levels base p0 parents now scope q → HasTag q k w u → Means pool (part_context now) k w meant → (next : Step) × (awaited next ≡ Some (tag k w meant)) × After pool m depth levels base p0 parents next now scope u
number_next {pool} {m} {depth} {levels} {base} {p0} {parents} {scope} {now} {q} {u} k w meant type s has means = by_type type
  where
    by_step : (next : Step) → awaited next ≡ Some (tag k w meant) → (next : Step) × (awaited next ≡ Some (tag k w meant)) × After pool m depth levels base p0 parents next now scope u
    by_step next is = (next, is, tag_next next k w meant s is has means (number_stays pool now k w meant means type))

    by_type : IsNumberType w → (next : Step) × (awaited next ≡ Some (tag k w meant)) × After pool m depth levels base p0 parents next now scope u
    by_type (inl e) = by_step (step.Varint k meant) (ap (λ (z : ℕ). Some (tag k z meant)) (sym e))
    by_type (inr (inl e)) = by_step (step.I64 k meant) (ap (λ (z : ℕ). Some (tag k z meant)) (sym e))
    by_type (inr (inr e)) = by_step (step.I32 k meant) (ap (λ (z : ℕ). Some (tag k z meant)) (sym e))

-- after the tag of a record that opens something, where a level is left for it
pub opening_next :
    {pool : Types} {m depth levels : ℕ} {base : List Record} {p0 : Place} {parents : List Parent} {scope : Scope} {now : Part} {q u : Place} (k : ℕ) (meant : Target)
    → Reached pool m depth levels base p0 parents now scope q → HasTag q k 2 u → Means pool (part_context now) k 2 meant → HasLevelFor scope.depth_left meant → After pool m depth levels base p0 parents (step.Length k meant) now scope u
opening_next k meant s has means depth_left = after_tag (step.Length k meant) (tag k 2 meant) s refl has means depth_left

-- A PAYLOAD of bytes after its tag and its length
pub bytes_next :
    {pool : Types} {m depth levels : ℕ} {base : List Record} {p0 : Place} {parents : List Parent} {scope : Scope} {now : Part} {q u t : Place} (k n : ℕ) (meant : Target)
    → Reached pool m depth levels base p0 parents now scope q → HasTag q k 2 u → Means pool (part_context now) k 2 meant → IsBytesTarget meant → HasLength u n t → After pool m depth levels base p0 parents (step.Payload k meant n) now scope t
bytes_next k n meant s has means bytes l = after_length k meant n (tag_next (step.Length k meant) k 2 meant s refl has means (bytes_stay meant bytes)) refl bytes l

pub payload_leads : (p : Place) (start size : ℕ) (u : Place) → start + size ≤ length p.rest → HasLength u size (passed p start) → Moves (passed p start) (take ((start + size) - start) (drop start p.rest)) (passed p (start + size))
payload_leads p start size u within l =
    let same : (start + size) - start ≡ size = omega arith in
    let left = length-drop start p.rest in
    subst (λ (z : ℕ). Moves (passed p start) (take z (drop start p.rest)) (passed p (start + size))) (sym same)
    (subst (Moves (passed p start) (take size (drop start p.rest))) (passed_twice p start size) (moves_passed (passed p start) size (omega (arith, within, left)) l.within))

-- A TAG that begins bytes is that of a record there
pub tag_there : {bytes : List ℕ} {left : Left} {at : AtTag} → Begins bytes left at → HasTagAt at.bytes.now (Some at.left.remaining) at.tag.number at.tag.wire_type at.tag.size
tag_there {bytes} {left} {at} begins =
    subst (λ (z : List ℕ). HasTagAt z (Some at.left.remaining) at.tag.number at.tag.wire_type at.tag.size) (sym begins.same_bytes)
    (subst (λ (z : Left). HasTagAt bytes (Some z.remaining) at.tag.number at.tag.wire_type at.tag.size) (sym begins.same_left) begins.there)

pub tag_within : {bytes : List ℕ} {left : Left} {at : AtTag} → Begins bytes left at → at.tag.size ≤ length at.bytes.now
tag_within {bytes} {left} {at} begins = subst (λ (z : List ℕ). at.tag.size ≤ length z) (sym begins.same_bytes) begins.within

-- after some of the bytes there are so many less
pub next_size : {left : Left} {next : AtTag} (bytes : List ℕ) (here : ℕ) → Begins (take (length bytes - here) (drop here bytes)) left next → length next.bytes.now ≡ length bytes - here
next_size bytes here begins = ap length begins.same_bytes ∙ ap length (slice_from here bytes) ∙ length-drop here bytes

-- this many bytes after what was left
abbrev pub left_here : Left → ℕ → Left
left_here left here = record { remaining = left.remaining - here; depth_left = left.depth_left }
