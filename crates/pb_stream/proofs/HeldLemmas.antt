-- Frames whose bytes are all held.
use Rattle.std.proofs.Common.{◌≡◌, ◌≢◌, ℕ, ◌+◌, ◌-◌, ◌^◌, ◌<◌, ◌≤◌, min, List, [], ◌++◌, length, take, drop, refl, sym, ap, subst, ◌∙◌, arith, append_assoc, length-append, Option, None, Some}
use Rattle.std.specs.Prelude.{IfSome, IsSomeAnd, slice_range, Result, Err}
use Rattle.std.specs.Io.KnownBytes.{Consumes, prepend_known}
use Rattle.std.proofs.KnownBytes.{Consumes-nil}
use Rattle.std.proofs.lemmas.List.{take-append-drop, take-append-le, length-take-le, length-drop, drop-drop, drop-append-le, drop_at}
use Rattle.pb_wire.specs.Varint.{IsVarint}
use Rattle.pb_wire.specs.Limits.{Bounds}
use Rattle.pb_wire.specs.declared.transfer.ReadFault.{ReadFault}
use Rattle.pb_wire.specs.declared.transfer.ReadFault.TheVariants as fault
use Rattle.pb_wire.proofs.Unique.{same_varint}
use Rattle.pb_schema.specs.Types.{Types}
use Rattle.pb_value.specs.Data.{Message}
use Rattle.pb_stream.specs.Frame.{Frame}
use Rattle.pb_stream.specs.Held.{HoldsFrame, IsHeld}
use Rattle.pb_stream.specs.Next.{IsJudged, IsNext}
use Rattle.pb_stream.specs.Taking.{Counts, Takes, TakesLength}
use Rattle.pb_stream.specs.declared.next.NextFrame.{NextFrame}
use Rattle.pb_stream.proofs.SpanLemmas.{judged_next}

-- fewer bytes are there than the length counts, or it is above the limit
pub not_held : (limits : Bounds) (n start : ℕ) (bytes : List ℕ) → start ≤ length bytes → IsVarint n (take start bytes) → min (length bytes - start) limits.bytes < n → HoldsFrame limits bytes → ⊥
not_held limits n start bytes fits is_varint less h =
    let s = h.is_span in
    let split : take start bytes ++ drop start bytes ≡ s.front ++ (s.text ++ h.rest) =
    take-append-drop start bytes ∙ h.joined ∙ ap (λ (z : List ℕ). z ++ h.rest) s.joined ∙ append_assoc s.front s.text h.rest in
    let one = same_varint (take start bytes) s.front (drop start bytes) (s.text ++ h.rest) is_varint s.counted split in
    let count : n ≡ length s.text = one.1 in
    let size : length (drop start bytes) ≡ length s.text + length h.rest = ap length one.2 ∙ length-append s.text h.rest in
    let all : length (drop start bytes) ≡ length bytes - start = length-drop start bytes in
    let small = h.within in omega (arith, less, count, size, all, small)

module _ (pool : Types) (m : ℕ) (limits : Bounds) where
  -- a frame is held whole
  pub frame_held : (bytes rest : List ℕ) (v : Message) → Frame pool m limits bytes v rest → HoldsFrame limits bytes
  frame_held bytes rest v h = record {
    span = h.front ++ h.text;
    rest = rest;
    joined = h.joined;
    is_span = record { front = h.front; text = h.text; joined = refl; counted = h.counted };
    within = h.derives.size;
  }

  -- as many bytes as were taken are those of the frame
  taken_frame : (bytes rest : List ℕ) (size : ℕ) (v : Message) → Takes size (Some bytes) (Some rest) → Frame pool m limits bytes v rest → (size ≤ length bytes) × Frame pool m limits bytes v (drop size bytes)
  taken_frame bytes rest size v (taken, sized, joined) h = (
    (let sum = ap length joined ∙ length-append taken rest in omega (arith, sum, sized)),
    subst (Frame pool m limits bytes v) (sym (ap (drop size) joined ∙ drop_at taken rest size sized)) h,
  )

  pub frame_of_bytes :
      (old new : Option (List ℕ)) (bytes : List ℕ) (size : ℕ) (v : Message) → old ≡ Some bytes → Takes size old new → IfSome old (λ left. IsSomeAnd new (Frame pool m limits left v))
      → (size ≤ length bytes) × Frame pool m limits bytes v (drop size bytes)
  frame_of_bytes None new bytes size v is took h = absurd cc
  frame_of_bytes (Some xs) None bytes size v is took h = absurd h
  frame_of_bytes (Some xs) (Some rest) bytes size v is took h =
      let same : xs ≡ bytes = cc in
      taken_frame bytes rest size v (subst (λ (z : List ℕ). Takes size (Some z) (Some rest)) same took) (subst (λ (z : List ℕ). Frame pool m limits z v rest) same h)

  -- more may follow
  pub frame_before :
      (bytes : List ℕ) (size : ℕ) (more : Option (List ℕ)) (v : Message) → Frame pool m limits bytes v (drop size bytes)
      → IfSome (prepend_known bytes more) (λ left. IsSomeAnd (prepend_known (drop size bytes) more) (Frame pool m limits left v))
  frame_before bytes size None v h = tt
  frame_before bytes size (Some xs) v h = record {
    front = h.front;
    text = h.text;
    joined = ap (λ (z : List ℕ). z ++ xs) h.joined ∙ append_assoc (h.front ++ h.text) (drop size bytes) xs;
    counted = h.counted;
    derives = h.derives;
  }

-- the first bytes were taken, whatever follows those that are held
took_first : (bytes : List ℕ) (size : ℕ) (more : Option (List ℕ)) → Consumes (prepend_known bytes more) (prepend_known (drop size bytes) more) (take size bytes)
took_first bytes size None = tt
took_first bytes size (Some xs) = ap (λ (z : List ℕ). z ++ xs) (sym (take-append-drop size bytes)) ∙ append_assoc (take size bytes) (drop size bytes) xs

pub counts_first :
    (bytes : List ℕ) (size before after : ℕ) (more : Option (List ℕ)) → size ≤ length bytes → after ≡ min (before + size) (2 ^ 64 - 1)
    → Counts before after (prepend_known bytes more) (prepend_known (drop size bytes) more)
counts_first bytes size before after more fits sum = (take size bytes, took_first bytes size more, (let n = length-take-le size bytes fits in omega (arith, n, sum)))

pub counts_none : (old : Option (List ℕ)) (count : ℕ) → count < 2 ^ 64 → Counts count count old old
counts_none old count small = ([], Consumes-nil old, omega (arith, small))

-- what comes of bytes that are held
after_length : (bytes text : List ℕ) (start size end : ℕ) (more : Option (List ℕ)) → start + size ≤ length bytes → end ≡ start + size → text ≡ slice_range bytes start end
    → IfSome (prepend_known (drop start bytes) more) (λ l. text ≡ take size l)
after_length bytes text start size end None fits is part = tt
after_length bytes text start size end (Some xs) fits is part =
    let size_is : end - start ≡ size = omega (arith, is) in
    let rest = length-drop start bytes in
    part ∙ ap (λ (k : ℕ). take k (drop start bytes)) size_is ∙ sym (take-append-le size (drop start bytes) xs (omega (arith, fits, rest)))

after_text : (bytes : List ℕ) (start size end : ℕ) (more : Option (List ℕ)) → start + size ≤ length bytes → end ≡ start + size
    → IfSome (prepend_known (drop start bytes) more) (λ l. prepend_known (drop end bytes) more ≡ Some (drop size l))
after_text bytes start size end None fits is = tt
after_text bytes start size end (Some xs) fits is =
    let rest = length-drop start bytes in
    ap (λ (z : List ℕ). Some (z ++ xs)) (ap (λ (k : ℕ). drop k bytes) is ∙ sym (drop-drop size start bytes)) ∙ ap Some (sym (drop-append-le size (drop start bytes) xs (omega (arith, fits, rest))))

pub held_next :
    (pool : Types) (m : ℕ) (limits : Bounds) (bytes text : List ℕ) (start size end : ℕ) (more : Option (List ℕ)) (next : NextFrame) → IsHeld start size bytes → start ≤ 10
    → size < 2 ^ 32 → size ≤ limits.bytes → end ≡ start + size → text ≡ slice_range bytes start end → IsJudged pool m limits start size text next
    → IsNext pool m limits (prepend_known bytes more) (prepend_known (drop end bytes) more) next
held_next pool m limits bytes text start size end more next held low fits small is part judged =
    judged_next pool m limits start size text (prepend_known bytes more) (prepend_known (drop start bytes) more) (prepend_known (drop end bytes) more) next
    (take start bytes, held.0, length-take-le start bytes (let n = held.1 in omega (arith, n)), took_first bytes start more) low fits small
    (after_length bytes text start size end more held.1 is part) (after_text bytes start size end more held.1 is) judged

-- a fault that is not of the device
pub of_memory : {A : Type 0} (e : ReadFault) → (let r : Result A ReadFault = Err e in r ≢ Err fault.Device) → e ≡ fault.Memory
of_memory fault.Memory h = refl
of_memory fault.Device h = absurd (h refl)
