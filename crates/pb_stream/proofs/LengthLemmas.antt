-- What stands in an input whose first bytes were taken as those of a varint.
use Rattle.std.specs.Prelude.{IfSome}
use Rattle.std.proofs.Common.{◌≡◌, ℕ, ◌<◌, ◌≤◌, ◌%◌, ◌^◌, List, [], ◌∷◌, ◌++◌, length, take, refl, sym, ap, subst, ◌∙◌, arith, append-nil, length-append, Option, Some, None, All}
use Rattle.std.proofs.lemmas.List.{take_all, take_at}
use Rattle.pb_wire.specs.Varint.{IsVarint, groups_value}
use Rattle.pb_wire.specs.Fault.{Fault, fault, text_at, Reads, IsHigh, VarintFault}
use Rattle.pb_wire.proofs.Places.{after, moves_after}
use Rattle.pb_wire.proofs.Tokens.{varint_not_both}
use Rattle.pb_wire.proofs.VarintLemmas.{same_size, not_high}
use Rattle.pb_wire.specs.Limits.{Bounds}
use Rattle.pb_wire.specs.declared.fault.Cause.{Cause}
use Rattle.pb_wire.specs.declared.fault.Cause.TheVariants.{LengthTooLarge}
use Rattle.pb_wire.specs.declared.fault.PathStep.{PathStep}
use Rattle.pb_schema.specs.Types.{Types}
use Rattle.std.specs.Io.KnownBytes.{Consumes}
use Rattle.pb_stream.specs.Frame.{FrameFault}
use Rattle.pb_stream.specs.Taking as taking
use Rattle.pb_stream.specs.Taking.{IsInFrame}
use Rattle.pb_stream.specs.Loops.{EndsVarint, low, too_long, cut}

-- a varint that stands first is read from the input
pub reads_first : (n : ℕ) (front rest : List ℕ) → IsVarint n front → Reads (text_at (front ++ rest)) n (after (text_at (front ++ rest)) front rest)
reads_first n front rest h = (front, h, moves_after (text_at (front ++ rest)) front rest refl tt)

reads_all : (n : ℕ) (b : List ℕ) → IsVarint n b → Reads (text_at b) n (after (text_at b) b [])
reads_all n b h = (b, h, moves_after (text_at b) b [] (sym (append-nil b)) tt)

-- their fault is that of the input
pub fault_taken : (b rest : List ℕ) (f : Fault) → length b ≤ 10 → EndsVarint b (Some rest) → VarintFault (text_at b) f → VarintFault (text_at (b ++ rest)) f
fault_taken b rest f small (low ends) h =
    absurd (varint_not_both h (reads_all (groups_value b % 2 ^ 64) b (record { size = small; ends = ends; value = refl })))
fault_taken b rest f small (cut high end) h = subst (λ (z : List ℕ). VarintFault (text_at z) f) (sym (ap (λ (z : List ℕ). b ++ z) end ∙ append-nil b)) h
fault_taken b rest f small (too_long ten high) (VarintFault.too_long long all is) =
    VarintFault.too_long (let n = length-append b rest in omega (arith, n)) (subst (λ (z : List ℕ). All IsHigh z) (take_all 10 b small ∙ sym (take_at b rest 10 ten)) all) is
fault_taken b rest f small (too_long ten high) (VarintFault.past_end short all known is) = absurd (omega arith)
fault_taken b rest f small (too_long ten high) (VarintFault.cut_short short all known is) = absurd (omega arith)

-- a varint at the front of them is all of them
pub varint_taken : (b : List ℕ) (left : Option (List ℕ)) (n size : ℕ) → EndsVarint b left → size ≤ length b → IsVarint n (take size b) → (size ≡ length b) × IsVarint n b
varint_taken b left n size ends within h = (all ends, subst (λ (z : List ℕ). IsVarint n z) (ap (λ (k : ℕ). take k b) (all ends) ∙ take_all (length b) b (omega arith)) h)
  where
    whole : take (length b) b ≡ b
    whole = take_all (length b) b (omega arith)

    all : EndsVarint b left → size ≡ length b
    all (low e) = same_size b size (length b) within (omega arith) h.ends (rw whole e)
    all (too_long ten high) = absurd (not_high b size (length b) within within h.ends (rw whole high))
    all (cut high end) = absurd (not_high b size (length b) within within h.ends (rw whole high))

-- they are a beginning of a frame
pub in_frame : (limits : Bounds) (b : List ℕ) (left : Option (List ℕ)) → length b ≤ 10 → EndsVarint b left → IsInFrame limits b
in_frame limits b left small (low ends) = taking.whole_length {n = groups_value b % 2 ^ 64} (record { size = small; ends = ends; value = refl })
in_frame limits b left small (too_long ten high) = taking.in_length small high
in_frame limits b left small (cut high end) = taking.in_length small high

-- what was taken of known bytes
pub given : (old new : Option (List ℕ)) (b left : List ℕ) → Consumes old new b → old ≡ Some left → (rest : List ℕ) × (new ≡ Some rest) × (left ≡ b ++ rest)
given None new b left taken is = absurd cc
given (Some xs) None b left taken is = absurd taken
given (Some xs) (Some ys) b left taken is = (ys, refl, let e : xs ≡ left = cc in sym e ∙ taken)

some_bytes : (b rest : List ℕ) → 0 < length b → b ++ rest ≡ [] → ⊥
some_bytes [] rest some e = omega arith
some_bytes (x ∷ xs) rest some e = cc

-- of bytes that an input tells
pub if_known : (o : Option (List ℕ)) (P : List ℕ → Type 0) → ((x : List ℕ) → o ≡ Some x → P x) → IfSome o P
if_known None P h = tt
if_known (Some x) P h = h x refl

abbrev pub AnyFault : Bounds → List ℕ → Fault → Type 0
AnyFault limits left f = (pool : Types) (m : ℕ) → FrameFault pool m limits left f

length_refused_at :
    (old new : Option (List ℕ)) (b : List ℕ) (limits : Bounds) (byte : ℕ) (path : List PathStep) (cause : Cause) → length b ≤ 10 → 0 < length b → Consumes old new b
    → EndsVarint b new → VarintFault (text_at b) (fault byte [] cause) → path ≡ [] → (left : List ℕ) → old ≡ Some left → AnyFault limits left (fault byte path cause)
length_refused_at old new b limits byte path cause small some taken ends bad none left known = judge (given old new b left taken known)
  where
    judge : (rest : List ℕ) × (new ≡ Some rest) × (left ≡ b ++ rest) → AnyFault limits left (fault byte path cause)
    judge (rest, after, joined) = λ pool m.
        subst (λ (z : List PathStep). FrameFault pool m limits left (fault byte z cause)) (sym none)
        (subst (λ (z : List ℕ). FrameFault pool m limits z (fault byte [] cause)) (sym joined)
        (FrameFault.no_length (some_bytes b rest some) (fault_taken b rest _ small (rw after at ends) bad)))

length_too_large_at :
    (old new : Option (List ℕ)) (b : List ℕ) (limits : Bounds) (path : List PathStep) (n : ℕ) → Consumes old new b → IsVarint n b → limits.bytes < n → path ≡ []
    → (left : List ℕ) → old ≡ Some left → AnyFault limits left (fault 0 path LengthTooLarge)
length_too_large_at old new b limits path n taken is_varint large none left known = judge (given old new b left taken known)
  where
    judge : (rest : List ℕ) × (new ≡ Some rest) × (left ≡ b ++ rest) → AnyFault limits left (fault 0 path LengthTooLarge)
    judge (rest, after, joined) = λ pool m.
        subst (λ (z : List PathStep). FrameFault pool m limits left (fault 0 z LengthTooLarge)) (sym none)
        (subst (λ (z : List ℕ). FrameFault pool m limits z (fault 0 [] LengthTooLarge)) (sym joined)
        (FrameFault.too_large (reads_first n b rest is_varint) large refl))

-- the bytes are no length
pub length_refused :
    (old new : Option (List ℕ)) (b : List ℕ) (limits : Bounds) (byte : ℕ) (path : List PathStep) (cause : Cause) → length b ≤ 10 → 0 < length b → Consumes old new b
    → EndsVarint b new → VarintFault (text_at b) (fault byte [] cause) → path ≡ [] → IfSome old (λ left. AnyFault limits left (fault byte path cause))
length_refused old new b limits byte path cause small some taken ends bad none =
    if_known old (λ left. AnyFault limits left (fault byte path cause)) (length_refused_at old new b limits byte path cause small some taken ends bad none)

-- the length is above the limit
pub length_too_large :
    (old new : Option (List ℕ)) (b : List ℕ) (limits : Bounds) (path : List PathStep) (n : ℕ) → Consumes old new b → IsVarint n b → limits.bytes < n → path ≡ []
    → IfSome old (λ left. AnyFault limits left (fault 0 path LengthTooLarge))
length_too_large old new b limits path n taken is_varint large none =
    if_known old (λ left. AnyFault limits left (fault 0 path LengthTooLarge)) (length_too_large_at old new b limits path n taken is_varint large none)
