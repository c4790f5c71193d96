-- The bytes of a frame, where an input begins with them, and what is wrong where it does not.
use Rattle.std.specs.Prelude.{⊤, IfOk, IfSome, IfNone, Result, Ok, Err}
use Rattle.std.proofs.KnownBytes.{Consumes-trans}
use Rattle.std.proofs.Common.{◌≡◌, ℕ, ◌+◌, ◌-◌, ◌^◌, ◌<◌, ◌≤◌, min, List, [], ◌++◌, length, take, drop, refl, sym, ap, subst, ◌∙◌, add-one, arith, append_assoc, append-nil, length-append, Option, Some, None}
use Rattle.std.proofs.lemmas.List.{take_all, take-append-drop, length-take-le, length-take}
use Rattle.std.specs.Io.KnownBytes.{Consumes, IsAtEnd}
use Rattle.pb_wire.specs.Varint.{IsVarint}
use Rattle.pb_wire.specs.Fault.{Fault, fault, text_at, VarintFault}
use Rattle.pb_wire.specs.Limits.{Bounds}
use Rattle.pb_wire.specs.declared.transfer.ReadFault.{ReadFault}
use Rattle.pb_wire.specs.declared.fault.Cause.{Cause}
use Rattle.pb_wire.specs.declared.fault.Cause.TheVariants.{LengthTooLarge}
use Rattle.pb_wire.proofs.Tokens.{varint_not_both}
use Rattle.pb_wire.proofs.Unique.{same_varint}
use Rattle.pb_schema.specs.Types.{Types}
use Rattle.pb_decode.specs.Frame.{BadFrame, IsFrameOf}
use Rattle.pb_stream.specs.Frame.{Frame, FrameFault}
use Rattle.pb_stream.specs.Loops.{EndsVarint}
use Rattle.pb_stream.specs.Taking.{Takes, TakesLength}
use Rattle.pb_stream.proofs.LengthLemmas.{fault_taken, reads_first}
use Rattle.pb_stream.specs.Next.{IsJudged, IsNext, TakesSpan, bounded_size, fault_of}
use Rattle.pb_stream.specs.Passed.{HasFewerSpans, PassesSpans}
use Rattle.pb_stream.specs.Spans.{AreSpans, HasNoSpan, IsSpan, none_there, one_more}
use Rattle.pb_stream.specs.declared.next.NextFrame.{NextFrame}
use Rattle.pb_stream.specs.declared.next.NextFrame.TheVariants.{End, Message, Refused, Cut}
use Rattle.pb_stream.specs.declared.next.Reason.{Reason}

-- NO BYTES OF A FRAME

-- fewer bytes are there than the length counts
pub fewer_bytes : (n : ℕ) (front l : List ℕ) → IsVarint n front → length l < n → HasNoSpan (front ++ l)
fewer_bytes n front l is_varint few span rest joined is_span =
    let split : front ++ l ≡ is_span.front ++ (is_span.text ++ rest) =
    joined ∙ ap (λ (z : List ℕ). z ++ rest) is_span.joined ∙ append_assoc is_span.front is_span.text rest in
    let one = same_varint front is_span.front l (is_span.text ++ rest) is_varint is_span.counted split in
    let count : n ≡ length is_span.text = one.1 in
    let size : length l ≡ length is_span.text + length rest = ap length one.2 ∙ length-append is_span.text rest in
    omega (arith, few, count, size)

-- the length can't be read
pub no_length : (b : List ℕ) (f : Fault) → VarintFault (text_at b) f → HasNoSpan b
no_length b f bad span rest joined is_span =
    let split : b ≡ is_span.front ++ (is_span.text ++ rest) =
    joined ∙ ap (λ (z : List ℕ). z ++ rest) is_span.joined ∙ append_assoc is_span.front is_span.text rest in
    varint_not_both (subst (λ (z : List ℕ). VarintFault (text_at z) f) split bad)
    (reads_first (length is_span.text) is_span.front (is_span.text ++ rest) is_span.counted)

-- ALL BYTES OF A FRAME

-- a length, and as many bytes as it counts
whole : (n : ℕ) (front text : List ℕ) → IsVarint n front → length text ≡ n → IsSpan (front ++ text)
whole n front text is_varint size =
    record { front = front; text = text; joined = refl; counted = subst (λ (k : ℕ). IsVarint k front) (sym size) is_varint }

-- bytes in three parts
in_parts : (front l : List ℕ) (n : ℕ) → front ++ l ≡ (front ++ take n l) ++ drop n l
in_parts front l n = ap (λ (z : List ℕ). front ++ z) (sym (take-append-drop n l)) ∙ sym (append_assoc front (take n l) (drop n l))

-- the bytes of a frame that were taken, and something that holds of them
span_taken :
    (Holds : List ℕ → Type 0) (n size : ℕ) (front text l : List ℕ) (new : Option (List ℕ)) → IsVarint n front → length text ≡ n → text ≡ take n l
    → new ≡ Some (drop n l) → size ≡ bounded_size (front ++ text) → Holds (front ++ text) → TakesSpan (front ++ l) new size Holds
span_taken Holds n size front text l new is_varint all is after sized holds = record {
  span = front ++ text;
  rest = drop n l;
  joined = in_parts front l n ∙ ap (λ (z : List ℕ). (front ++ z) ++ drop n l) (sym is);
  is_span = whole n front text is_varint all;
  after = after;
  size_is = sized;
  holds = holds;
}

-- the bytes after a length have this fault
in_bytes :
    (pool : Types) (m : ℕ) (limits : Bounds) (start size : ℕ) (front text : List ℕ) (f : Fault) → IsVarint size front → length front ≡ start
    → size ≤ limits.bytes → BadFrame pool m limits.depth start size text f → FrameFault pool m limits (front ++ text) f
in_bytes pool m limits start size front text f is_varint counts small bad =
    FrameFault.in_text (reads_first size front text is_varint) small
    (subst (λ (k : ℕ). BadFrame pool m limits.depth k size text f) (let k : start ≡ 0 + length front = omega (arith, counts) in k) bad)

module _ (pool : Types) (m : ℕ) (limits : Bounds) (start size : ℕ) (front text l : List ℕ) (new : Option (List ℕ)) where
  judged_there :
      (next : NextFrame) → IsVarint size front → length front ≡ start → start ≤ 10 → size < 2 ^ 32 → size ≤ limits.bytes → text ≡ take size l
      → new ≡ Some (drop size l) → IsJudged pool m limits start size text next → IsNext pool m limits (Some (front ++ l)) new next
  judged_there End is_varint counts low fits small is after h = absurd h
  judged_there (Message message taken) is_varint counts low fits small is after h =
      let cut : length text ≡ min size (length l) = ap length is ∙ length-take size l in
      let given : size ≤ length text = h.1.given in
      let all : length text ≡ size = omega (arith, cut, given) in
      let sum = length-append front text in
      span_taken (λ span. Frame pool m limits span message.body []) size taken front text l new is_varint all is after
      (let sized : taken ≡ start + size = h.0 in omega (arith, sized, sum, all, counts, low, fits))
      (record {
        front = front;
        text = text;
        joined = sym (append-nil (front ++ text));
        counted = subst (λ (k : ℕ). IsVarint k front) (sym all) is_varint;
        derives = rw (take_all size text (omega (arith, all))) at h.1.text;
      })
  judged_there (Refused reason taken) is_varint counts low fits small is after h =
      let cut : length text ≡ min size (length l) = ap length is ∙ length-take size l in
      let given : size ≤ length text = h.1 in
      let all : length text ≡ size = omega (arith, cut, given) in
      let sum = length-append front text in
      span_taken (λ span. FrameFault pool m limits span (fault_of reason)) size taken front text l new is_varint all is after
      (let sized : taken ≡ start + size = h.0 in omega (arith, sized, sum, all, counts, low, fits))
      (in_bytes pool m limits start size front text (fault_of reason) is_varint counts small h.2)
  judged_there (Cut reason) is_varint counts low fits small is after h =
      let cut : length text ≡ min size (length l) = ap length is ∙ length-take size l in
      let few : length text < size = h.0 in
      let same : text ≡ l = is ∙ take_all size l (omega (arith, cut, few)) in (
        fewer_bytes size front l is_varint (let n = ap length same in omega (arith, n, few)),
        subst (λ (z : List ℕ). FrameFault pool m limits (front ++ z) (fault_of reason)) same
            (in_bytes pool m limits start size front text (fault_of reason) is_varint counts small h.1),
      )

-- of what an input had before the length
pub judged_next :
    (pool : Types) (m : ℕ) (limits : Bounds) (start size : ℕ) (text : List ℕ) (x middle new : Option (List ℕ)) (next : NextFrame)
    → TakesLength start size x middle → start ≤ 10 → size < 2 ^ 32 → size ≤ limits.bytes → IfSome middle (λ l. text ≡ take size l)
    → IfSome middle (λ l. new ≡ Some (drop size l)) → IsJudged pool m limits start size text next → IsNext pool m limits x new next
judged_next pool m limits start size text None middle new End h low fits small is after judged = absurd judged
judged_next pool m limits start size text None middle new (Message message taken) h low fits small is after judged = tt
judged_next pool m limits start size text None middle new (Refused reason taken) h low fits small is after judged = tt
judged_next pool m limits start size text None middle new (Cut reason) h low fits small is after judged = tt
judged_next pool m limits start size text (Some input) None new next (front, is_varint, counts, taken) low fits small is after judged = absurd taken
judged_next pool m limits start size text (Some input) (Some l) new next (front, is_varint, counts, taken) low fits small is after judged =
    subst (λ (z : List ℕ). IsNext pool m limits (Some z) new next) (sym taken)
    (judged_there pool m limits start size front text l new next is_varint counts low fits small is after judged)

-- whatever is answered
pub judged_answer :
    (pool : Types) (m : ℕ) (limits : Bounds) (start size : ℕ) (text : List ℕ) (x middle new : Option (List ℕ)) (r : Result NextFrame ReadFault)
    → TakesLength start size x middle → start ≤ 10 → size < 2 ^ 32 → size ≤ limits.bytes → IfSome middle (λ l. text ≡ take size l)
    → IfSome middle (λ l. new ≡ Some (drop size l)) → IfOk r (IsJudged pool m limits start size text) → IfOk r (IsNext pool m limits x new)
judged_answer pool m limits start size text x middle new (Ok next) took low fits small is after judged =
    judged_next pool m limits start size text x middle new next took low fits small is after judged
judged_answer pool m limits start size text x middle new (Err e) took low fits small is after judged = tt

-- bytes that are taken and not kept
pub takes_more :
    (a b c : Option (List ℕ)) (k n : ℕ) (buffer : List ℕ) → Takes k a b → n ≤ length buffer → Consumes b c (take n buffer) → Takes (k + n) a c
takes_more a b c k n buffer (taken, size, first) fits next = (
  taken ++ take n buffer,
  (let sum = length-append taken (take n buffer) in let part = length-take-le n buffer fits in omega (arith, sum, part, size)),
  Consumes-trans a b c taken (take n buffer) first next,
)

-- A LENGTH ABOVE THE LIMIT

abbrev IsTooLarge : Reason → Type 0
IsTooLarge reason = (reason.byte ≡ 0) × (reason.path.items ≡ []) × (reason.cause ≡ LengthTooLarge)

too_large_fault :
    (pool : Types) (m : ℕ) (limits : Bounds) (n : ℕ) (front rest : List ℕ) (reason : Reason) → IsVarint n front → limits.bytes < n → IsTooLarge reason
    → FrameFault pool m limits (front ++ rest) (fault_of reason)
too_large_fault pool m limits n front rest reason is_varint large is =
    FrameFault.too_large (reads_first n front rest is_varint) large (rw (is.0, is.1, is.2) refl)

-- as many bytes as it counts were passed over
pub passed_over :
    (pool : Types) (m : ℕ) (limits : Bounds) (start n size : ℕ) (reason : Reason) (x middle new : Option (List ℕ)) → TakesLength start n x middle
    → limits.bytes < n → Takes n middle new → size ≡ min (n + start) (2 ^ 64 - 1) → IsTooLarge reason → IsNext pool m limits x new (Refused reason size)
passed_over pool m limits start n size reason None middle new h large passed sized is = tt
passed_over pool m limits start n size reason (Some input) None new (front, is_varint, counts, taken) large passed sized is = absurd taken
passed_over pool m limits start n size reason (Some input) (Some l) None (front, is_varint, counts, taken) large (bytes, all, passed) sized is = absurd passed
passed_over pool m limits start n size reason (Some input) (Some l) (Some rest) (front, is_varint, counts, taken) large (bytes, all, passed) sized is = record {
  span = front ++ bytes;
  rest = rest;
  joined = taken ∙ ap (λ (z : List ℕ). front ++ z) passed ∙ sym (append_assoc front bytes rest);
  is_span = whole n front bytes is_varint all;
  after = refl;
  size_is = let sum = length-append front bytes in omega (arith, sum, all, counts, sized);
  holds = too_large_fault pool m limits n front bytes reason is_varint large is;
}

-- or fewer
pub passed_to_end :
    (pool : Types) (m : ℕ) (limits : Bounds) (start n passed : ℕ) (reason : Reason) (x middle new : Option (List ℕ)) → TakesLength start n x middle
    → limits.bytes < n → passed < n → Takes passed middle new → IsAtEnd new → IsTooLarge reason → IsNext pool m limits x new (Cut reason)
passed_to_end pool m limits start n passed reason None middle new h large few gone end is = tt
passed_to_end pool m limits start n passed reason (Some input) None new (front, is_varint, counts, taken) large few gone end is = absurd taken
passed_to_end pool m limits start n passed reason (Some input) (Some l) None (front, is_varint, counts, taken) large few (bytes, all, gone) end is = absurd gone
passed_to_end pool m limits start n passed reason (Some input) (Some l) (Some rest) (front, is_varint, counts, taken) large few (bytes, all, gone) end is =
    let size : length l ≡ length bytes + length rest = ap length gone ∙ length-append bytes rest in
    let none : length rest ≡ 0 = ap length end in
    subst (λ (z : List ℕ). IsNext pool m limits (Some z) (Some rest) (Cut reason)) (sym taken) (
      fewer_bytes n front l is_varint (omega (arith, size, none, all, few)),
      too_large_fault pool m limits n front l reason is_varint large is,
    )

-- A LENGTH THAT CAN'T BE READ

some_bytes : (b rest : List ℕ) → 0 < length b → b ++ rest ≡ [] → ⊥
some_bytes b rest some e = let size = ap length e in let sum = length-append b rest in omega (arith, some, size, sum)

pub unread_length :
    (pool : Types) (m : ℕ) (limits : Bounds) (b : List ℕ) (reason : Reason) (old new : Option (List ℕ)) → length b ≤ 10 → 0 < length b → Consumes old new b
    → EndsVarint b new → VarintFault (text_at b) (fault reason.byte [] reason.cause) → reason.path.items ≡ [] → IsNext pool m limits old new (Cut reason)
unread_length pool m limits b reason None new small some taken ends bad none = tt
unread_length pool m limits b reason (Some input) None small some taken ends bad none = absurd taken
unread_length pool m limits b reason (Some input) (Some rest) small some taken ends bad none =
    let there : VarintFault (text_at (b ++ rest)) (fault_of reason) =
    rw none (fault_taken b rest (fault reason.byte [] reason.cause) small ends bad) in
    subst (λ (z : List ℕ). IsNext pool m limits (Some z) (Some rest) (Cut reason)) (sym taken)
    (no_length (b ++ rest) (fault_of reason) there, FrameFault.no_length (some_bytes b rest some) there)

-- FRAMES THAT ARE PASSED OVER

pub unread_span :
    (b : List ℕ) (byte : ℕ) (cause : Cause) (old new : Option (List ℕ)) → length b ≤ 10 → Consumes old new b → EndsVarint b new
    → VarintFault (text_at b) (fault byte [] cause) → IfSome old HasNoSpan
unread_span b byte cause None new small taken ends bad = tt
unread_span b byte cause (Some input) None small taken ends bad = absurd taken
unread_span b byte cause (Some input) (Some rest) small taken ends bad =
    subst HasNoSpan (sym taken) (no_length (b ++ rest) (fault byte [] cause) (fault_taken b rest (fault byte [] cause) small ends bad))

pub cut_span :
    (start n passed : ℕ) (x middle new : Option (List ℕ)) → TakesLength start n x middle → passed < n → Takes passed middle new → IsAtEnd new
    → IfSome x HasNoSpan
cut_span start n passed None middle new h few gone end = tt
cut_span start n passed (Some input) None new (front, is_varint, counts, taken) few gone end = absurd taken
cut_span start n passed (Some input) (Some l) None (front, is_varint, counts, taken) few (bytes, all, gone) end = absurd gone
cut_span start n passed (Some input) (Some l) (Some rest) (front, is_varint, counts, taken) few (bytes, all, gone) end =
    let size : length l ≡ length bytes + length rest = ap length gone ∙ length-append bytes rest in
    let none : length rest ≡ 0 = ap length end in
    subst HasNoSpan (sym taken) (fewer_bytes n front l is_varint (omega (arith, size, none, all, few)))

pub whole_span :
    (start n size : ℕ) (x middle new : Option (List ℕ)) → TakesLength start n x middle → Takes n middle new → size ≡ min (n + start) (2 ^ 64 - 1)
    → IfSome x (λ input. TakesSpan input new size (λ span. ⊤))
whole_span start n size None middle new h passed sized = tt
whole_span start n size (Some input) None new (front, is_varint, counts, taken) passed sized = absurd taken
whole_span start n size (Some input) (Some l) None (front, is_varint, counts, taken) (bytes, all, passed) sized = absurd passed
whole_span start n size (Some input) (Some l) (Some rest) (front, is_varint, counts, taken) (bytes, all, passed) sized = record {
  span = front ++ bytes;
  rest = rest;
  joined = taken ∙ ap (λ (z : List ℕ). front ++ z) passed ∙ sym (append_assoc front bytes rest);
  is_span = whole n front bytes is_varint all;
  after = refl;
  size_is = let sum = length-append front bytes in omega (arith, sum, all, counts, sized);
  holds = tt;
}

some_same : (a b : List ℕ) → Some a ≡ Some b → a ≡ b
some_same a b e = let P : Option (List ℕ) → Type 0 = λ o. IfSome o (λ z. z ≡ b) in subst P (sym e) refl

none_some : (b : List ℕ) → None ≡ Some b → ⊥
none_some b e = let P : Option (List ℕ) → Type 0 = λ o. IfNone o ⊥ in subst P (sym e) tt

pub none_passed : (o : Option (List ℕ)) → IfSome o (λ input. PassesSpans 0 input o 0)
none_passed None = tt
none_passed (Some input) = record { span = []; rest = input; joined = refl; are_spans = none_there; after = refl; size_is = refl }

-- one more
pub more_passed :
    (n done size sum : ℕ) (x middle new : Option (List ℕ)) → IfSome x (λ input. PassesSpans n input middle done)
    → IfSome middle (λ input. TakesSpan input new size (λ span. ⊤)) → sum ≡ min (done + size) (2 ^ 64 - 1)
    → IfSome x (λ input. PassesSpans (n + 1) input new sum)
more_passed n done size sum None middle new before next is = tt
more_passed n done size sum (Some input) None new before next is = absurd (none_some before.rest before.after)
more_passed n done size sum (Some input) (Some rest) new before next is =
    let same : rest ≡ before.rest = some_same rest before.rest before.after in record {
      span = before.span ++ next.span;
      rest = next.rest;
      joined =
          before.joined ∙ ap (λ (z : List ℕ). before.span ++ z) (sym same ∙ next.joined) ∙ sym (append_assoc before.span next.span next.rest);
      are_spans =
          let P : ℕ → Type 0 = λ k. AreSpans k (before.span ++ next.span) in
          subst P (sym (add-one n)) (one_more before.are_spans next.is_span);
      after = next.after;
      size_is =
          let all = length-append before.span next.span in
          let first = before.size_is in
          let second = next.size_is in
          omega (arith, is, all, first, second);
    }

-- or none
pub fewer_passed :
    (n count done : ℕ) (x middle : Option (List ℕ)) → n < count → IfSome x (λ input. PassesSpans n input middle done) → IfSome middle HasNoSpan
    → IfSome x (HasFewerSpans count)
fewer_passed n count done None middle below before none = tt
fewer_passed n count done (Some input) None below before none = absurd (none_some before.rest before.after)
fewer_passed n count done (Some input) (Some rest) below before none =
    (n, before.span, before.rest, below, before.joined, before.are_spans, subst HasNoSpan (some_same rest before.rest before.after) none)
