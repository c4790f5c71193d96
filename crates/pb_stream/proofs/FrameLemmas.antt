-- A frame is read as its length and then its text.
use Rattle.std.proofs.Common.{◌≡◌, ℕ, zero, suc, ◌+◌, ◌≤◌, List, [], ◌∷◌, ◌++◌, length, take, drop, replicate, refl, sym, ap, subst, ◌∙◌, arith, append_assoc, length-append, Option, Some, None}
use Rattle.std.specs.Prelude.{IfSome, IsSomeAnd}
use Rattle.std.proofs.lemmas.List.{take-append-drop, length-take-le}
use Rattle.std.specs.Io.KnownBytes.{Consumes}
use Rattle.std.proofs.KnownBytes.{Consumes-trans}
use Rattle.pb_wire.specs.Varint.{IsVarint}
use Rattle.pb_wire.specs.Fault.{Fault}
use Rattle.pb_wire.specs.Limits.{Bounds}
use Rattle.pb_schema.specs.Types.{Types}
use Rattle.pb_value.specs.Data.{Message}
use Rattle.pb_decode.specs.declared.error.DecodeError.{DecodeError}
use Rattle.pb_decode.specs.declared.error.DecodeError.TheVariants as error
use Rattle.pb_decode.specs.FromDevice.{IfRefused, TakesAtMost}
use Rattle.pb_decode.specs.Frame.{IsFrameOf, BadFrame}
use Rattle.pb_stream.specs.Frame.{Frame, FrameFault}
use Rattle.pb_stream.specs.Taking as taking
use Rattle.pb_stream.specs.Taking.{StaysInFrame, Takes, TakesLength, TakesNone}
use Rattle.pb_stream.proofs.LengthLemmas.{reads_first, AnyFault}

length-replicate : (n : ℕ) → length (replicate {A = ℕ} n 0) ≡ n
length-replicate zero = refl
length-replicate (suc n) = ap suc (length-replicate n)

module _ (pool : Types) (m : ℕ) (limits : Bounds) where
  -- the encoding was taken after the length, and is one of v
  pub frame_taken :
      (old middle new : Option (List ℕ)) (start size : ℕ) (v : Message) → TakesLength start size old middle
      → IfSome middle (λ l. IsFrameOf pool m limits size l v) → IfSome middle (λ l. new ≡ Some (drop size l))
      → IfSome old (λ left. IsSomeAnd new (Frame pool m limits left v))
  frame_taken None middle new start size v h text after = tt
  frame_taken (Some left) None new start size v (prefix, is_varint, counted, taken) text after = absurd taken
  frame_taken (Some left) (Some l) new start size v (prefix, is_varint, counted, taken) text after =
      subst (λ (z : Option (List ℕ)). IsSomeAnd z (Frame pool m limits left v)) (sym after)
      (record {
        front = prefix;
        text = take size l;
        joined = taken ∙ ap (λ (z : List ℕ). prefix ++ z) (sym (take-append-drop size l)) ∙ sym (append_assoc prefix (take size l) (drop size l));
        counted = subst (λ (n : ℕ). IsVarint n prefix) (sym (length-take-le size l text.given)) is_varint;
        derives = text.text;
      })

  fault_of_text :
      (old middle : Option (List ℕ)) (start size : ℕ) (f : Fault) → TakesLength start size old middle → size ≤ limits.bytes
      → IfSome middle (λ l. BadFrame pool m limits.depth start size l f) → IfSome old (λ left. FrameFault pool m limits left f)
  fault_of_text None middle start size f h small bad = tt
  fault_of_text (Some left) None start size f (prefix, is_varint, counted, taken) small bad = absurd taken
  fault_of_text (Some left) (Some l) start size f (prefix, is_varint, counted, taken) small bad =
      subst (λ (z : List ℕ). FrameFault pool m limits z f) (sym taken)
      (FrameFault.in_text (reads_first size prefix l is_varint) small
      (subst (λ (k : ℕ). BadFrame pool m limits.depth k size l f) (let k : start ≡ 0 + length prefix = omega arith in k) bad))

  -- the text has a fault
  pub fault_in_frame :
      (old middle : Option (List ℕ)) (start size : ℕ) (e : DecodeError) → TakesLength start size old middle → size ≤ limits.bytes
      → IfRefused e (λ f. IfSome middle (λ l. BadFrame pool m limits.depth start size l f)) → IfRefused e (λ f. IfSome old (λ left. FrameFault pool m limits left f))
  fault_in_frame old middle start size (error.Fault byte path cause) h small told = fault_of_text old middle start size _ h small told
  fault_in_frame old middle start size error.Memory h small told = tt
  fault_in_frame old middle start size error.Device h small told = tt
  fault_in_frame old middle start size error.Finished h small told = told

  any_fault : (old : Option (List ℕ)) (f : Fault) → IfSome old (λ left. AnyFault limits left f) → IfSome old (λ left. FrameFault pool m limits left f)
  any_fault None f h = tt
  any_fault (Some left) f h = h pool m

  -- a fault of the length is one whatever the type
  pub whichever :
      (old : Option (List ℕ)) (e : DecodeError) → IfRefused e (λ f. IfSome old (λ left. AnyFault limits left f))
      → IfRefused e (λ f. IfSome old (λ left. FrameFault pool m limits left f))
  whichever old (error.Fault byte path cause) h = any_fault old _ h
  whichever old error.Memory h = tt
  whichever old error.Device h = tt
  whichever old error.Finished h = h

  -- how many bytes a whole frame took
  pub frame_counted :
      (old middle new : Option (List ℕ)) (start size : ℕ) (v : Message) → TakesLength start size old middle → IfSome middle (λ l. IsFrameOf pool m limits size l v)
      → IfSome middle (λ l. new ≡ Some (drop size l)) → Takes (start + size) old new
  frame_counted None middle new start size v h text after = (replicate (start + size) 0, length-replicate (start + size), tt)
  frame_counted (Some xs) None new start size v (prefix, is_varint, counted, taken) text after = absurd taken
  frame_counted (Some xs) (Some l) new start size v (prefix, is_varint, counted, taken) text after = (
    prefix ++ take size l,
    length-append prefix (take size l) ∙ (let n = length-take-le size l text.given in omega arith),
    subst (λ (z : Option (List ℕ)). Consumes (Some xs) z (prefix ++ take size l)) (sym after)
        (taken ∙ ap (λ (z : List ℕ). prefix ++ z) (sym (take-append-drop size l)) ∙ sym (append_assoc prefix (take size l) (drop size l))),
  )

-- what is taken after the length stays in the frame
pub stays_in_text :
    (limits : Bounds) (old middle new : Option (List ℕ)) (start size : ℕ) → TakesLength start size old middle → size ≤ limits.bytes → TakesAtMost size middle new
    → StaysInFrame limits old new
stays_in_text limits old middle new start size (prefix, is_varint, counted, taken) small (text, most, more) =
    (prefix ++ text, Consumes-trans old middle new prefix text taken more, taking.in_text text refl is_varint small most)

pub stays_at_end : (limits : Bounds) (old new : Option (List ℕ)) → TakesNone old new → StaysInFrame limits old new
stays_at_end limits old new h = ([], h.0, taking.in_length (omega arith) tt)

-- a length takes a byte
pub some_for_length : (old new : Option (List ℕ)) (start size : ℕ) → TakesLength start size old new → old ≡ Some [] → ⊥
some_for_length None new start size h none = cc
some_for_length (Some xs) None start size (prefix, is_varint, counted, taken) none = taken
some_for_length (Some xs) (Some l) start size ([], is_varint, counted, taken) none = is_varint.ends
some_for_length (Some xs) (Some l) start size (b ∷ prefix, is_varint, counted, taken) none = let e : [] ≡ (b ∷ prefix) ++ l = cc in cc
