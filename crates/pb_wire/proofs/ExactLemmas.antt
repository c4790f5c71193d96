-- Each place, frame and text is read whole, or has one fault.
use Rattle.pb_wire.specs.Record.{Record}
use Rattle.std.specs.Prelude.{Result, Ok, Err, IfOk, IfErr, MatchResult, IsErrAnd}
use Rattle.pb_wire.specs.Reading.{IfRawFault}
use Rattle.pb_wire.specs.declared.fault.RawError.{RawError}
use Rattle.pb_wire.specs.declared.fault.RawError.TheVariants as raw
use Rattle.pb_wire.proofs.Unique.{same_records}
use Rattle.std.proofs.Common.{◌≡◌, ℕ, ◌+◌, ◌-◌, ◌<◌, ◌≤◌, List, [], ◌++◌, length, take, drop, refl, sym, ap, subst, ◌∙◌, arith, append-nil, length-append, Some, None, ◌⊎◌, inl, inr, ⊎_elim, All}
use Rattle.std.proofs.lemmas.Bool.{cases_lt}
use Rattle.std.proofs.lemmas.List.{take-append-drop, take_at, length-take-le}
use Rattle.std.proofs.lemmas.List.Elements.{All-take}
use Rattle.pb_wire.specs.Fault.{Fault, fault, Place, text_at}
use Rattle.pb_wire.specs.Schema.{Schema, Open, records}
use Rattle.pb_wire.specs.Limits.{Bounds}
use Rattle.pb_wire.specs.Grammar.{Whole, Bad, IsText, HasFault, beyond}
use Rattle.pb_wire.specs.declared.fault.Cause.TheVariants.{InputTooLarge}
use Rattle.pb_wire.specs.Ranges.{IsByte, AreBytes, AreInRange}
use Rattle.pb_wire.specs.Writable.{AreWritable}
use Rattle.pb_wire.proofs.RangeLemmas.{spelled_in_range, spelled_writable}
use Rattle.pb_wire.specs.Exact.{IsOver, IsRead, Exactly, ending_at, IsFrame, IsSomeText}
use Rattle.pb_wire.proofs.Places.{after, moves_after}
use Rattle.pb_wire.proofs.OneFault.{not_both, one_fault}
use Rattle.pb_wire.proofs.Total.{read_or_fault}

-- every place is read whole, or has one fault
pub exactly_here : (S : Schema) (o : Open S.Context) (depth_left : ℕ) (p : Place) → All IsByte p.rest → Exactly (IsRead S o depth_left p) (Bad S o depth_left p)
exactly_here S o depth_left p bytes = record {
  either = read_or_fault S o depth_left p bytes;
  not_both = λ f bad good. not_both bad good;
  one = λ f g bad other. one_fault bad other;
}

-- ---- a text with no known end

whole_text : (S : Schema) (c : S.Context) (depth_left : ℕ) (b : List ℕ) → IsRead S (records c) depth_left (text_at b) → Whole S c depth_left b
whole_text S c depth_left b (front, q, w, m, over) = subst (λ (z : List ℕ). Whole S c depth_left z) (all over) w
  where
    all : IsOver q → front ≡ b
    all (inl h) = absurd (let e : None ≡ Some 0 = sym m.known ∙ h in cc)
    all (inr h) = sym (append-nil front) ∙ ap (λ (z : List ℕ). front ++ z) (sym h.1) ∙ sym m.given

text_read : (S : Schema) (c : S.Context) (depth_left : ℕ) (b : List ℕ) → Whole S c depth_left b → IsRead S (records c) depth_left (text_at b)
text_read S c depth_left b w = (b, after (text_at b) b [], w, moves_after (text_at b) b [] (sym (append-nil b)) tt, inr (refl, refl))

pub exactly_text : (S : Schema) (c : S.Context) (depth_left : ℕ) (b : List ℕ) → All IsByte b → Exactly (Whole S c depth_left b) (Bad S (records c) depth_left (text_at b))
exactly_text S c depth_left b bytes = record {
  either = ⊎_elim (λ (h : IsRead S (records c) depth_left (text_at b)). inl (whole_text S c depth_left b h)) (λ h. inr h) (read_or_fault S (records c) depth_left (text_at b) bytes);
  not_both = λ f bad good. not_both bad (text_read S c depth_left b good);
  one = λ f g bad other. one_fault bad other;
}

-- ---- a known end

frame_given : (S : Schema) (c : S.Context) (depth_left at size : ℕ) (rest : List ℕ) → IsRead S (records c) depth_left (ending_at at size rest) → IsFrame S c depth_left size rest
frame_given S c depth_left at size rest (front, q, w, m, over) =
    let n : size ≡ length front = all over in
    let total : length rest ≡ length front + length q.rest = ap length m.given ∙ length-append front q.rest in
    (omega arith, subst (λ (z : List ℕ). Whole S c depth_left z) (sym (ap (take size) m.given ∙ take_at front q.rest size (sym n))) w)
  where
    known : q.known ≡ Some (size - length front)
    known = m.known

    within : length front ≤ size
    within = m.within

    all : IsOver q → size ≡ length front
    all (inl h) = let e : Some 0 ≡ Some (size - length front) = sym h ∙ known in let z : 0 ≡ size - length front = cc in let le = within in omega arith
    all (inr h) = absurd (let e : None ≡ Some (size - length front) = sym h.0 ∙ known in cc)

frame_read : (S : Schema) (c : S.Context) (depth_left at size : ℕ) (rest : List ℕ) → IsFrame S c depth_left size rest → IsRead S (records c) depth_left (ending_at at size rest)
frame_read S c depth_left at size rest (given, w) =
    let n : length (take size rest) ≡ size = length-take-le size rest given in (
      take size rest,
      after (ending_at at size rest) (take size rest) (drop size rest),
      w,
      moves_after (ending_at at size rest) (take size rest) (drop size rest) (sym (take-append-drop size rest)) (let h : length (take size rest) ≤ size = omega arith in h),
      inl (ap (λ (z : ℕ). Some z) (let h : size - length (take size rest) ≡ 0 = omega arith in h)),
    )

pub exactly_frame :
    (S : Schema) (c : S.Context) (depth_left at size : ℕ) (rest : List ℕ) → All IsByte rest
    → Exactly (IsFrame S c depth_left size rest) (Bad S (records c) depth_left (ending_at at size rest))
exactly_frame S c depth_left at size rest bytes = record {
  either = ⊎_elim (λ (h : IsRead S (records c) depth_left (ending_at at size rest)). inl (frame_given S c depth_left at size rest h)) (λ h. inr h)
      (read_or_fault S (records c) depth_left (ending_at at size rest) bytes);
  not_both = λ f bad good. not_both bad (frame_read S c depth_left at size rest good);
  one = λ f g bad other. one_fault bad other;
}

-- ---- a text within the limits

text_or_fault : (S : Schema) (c : S.Context) (limits : Bounds) (b : List ℕ) → All IsByte b → IsSomeText S c limits b ⊎ ((f : Fault) × HasFault S c limits b f)
text_or_fault S c limits b bytes = ⊎_elim (λ (h : limits.bytes < length b). long h) (λ (h : length b ≤ limits.bytes). short h) (cases_lt limits.bytes (length b))
  where
    short : length b ≤ limits.bytes → IsSomeText S c limits b ⊎ ((f : Fault) × HasFault S c limits b f)
    short h =
        ⊎_elim (λ (w : Whole S c limits.depth b). inl (w.0, record { size = h; spelled = w.1; sound = w.2 }))
        (λ (x : (f : Fault) × Bad S (records c) limits.depth (text_at b) f). inr (x.0, HasFault.bad h x.1))
        (exactly_text S c limits.depth b bytes).either

    long : limits.bytes < length b → IsSomeText S c limits b ⊎ ((f : Fault) × HasFault S c limits b f)
    long h =
        ⊎_elim (λ (w : Whole S c limits.depth (take limits.bytes b)). inr (fault limits.bytes [] InputTooLarge, HasFault.too_large h w refl))
        (λ (x : (f : Fault) × Bad S (records c) limits.depth (text_at (take limits.bytes b)) f). inr (beyond limits.bytes x.0, HasFault.bad_front h x.1 refl))
        (exactly_text S c limits.depth (take limits.bytes b) (All-take IsByte limits.bytes b bytes)).either

pub text_not_both : {S : Schema} {c : S.Context} {limits : Bounds} {b : List ℕ} {f : Fault} → HasFault S c limits b f → IsSomeText S c limits b → ⊥
text_not_both {S} {c} {limits} {b} (HasFault.bad h x) (rs, t) = not_both x (text_read S c limits.depth b (rs, t.spelled, t.sound))
text_not_both (HasFault.bad_front h x e) (rs, t) = let s = t.size in omega (arith, s, h)
text_not_both (HasFault.too_large h w e) (rs, t) = let s = t.size in omega (arith, s, h)

pub one_text_fault : {S : Schema} {c : S.Context} {limits : Bounds} {b : List ℕ} {f g : Fault} → HasFault S c limits b f → HasFault S c limits b g → f ≡ g
one_text_fault (HasFault.bad h x) (HasFault.bad i y) = one_fault x y
one_text_fault (HasFault.bad h x) (HasFault.bad_front i y e) = absurd (omega (arith, h, i))
one_text_fault (HasFault.bad h x) (HasFault.too_large i w e) = absurd (omega (arith, h, i))
one_text_fault (HasFault.bad_front h x d) (HasFault.bad i y) = absurd (omega (arith, h, i))
one_text_fault {limits = limits} (HasFault.bad_front h x d) (HasFault.bad_front i y e) = d ∙ ap (beyond limits.bytes) (one_fault x y) ∙ sym e
one_text_fault {S} {c} {limits} {b} (HasFault.bad_front h x d) (HasFault.too_large i w e) = absurd (not_both x (text_read S c limits.depth (take limits.bytes b) w))
one_text_fault (HasFault.too_large h w d) (HasFault.bad i y) = absurd (omega (arith, h, i))
one_text_fault {S} {c} {limits} {b} (HasFault.too_large h w d) (HasFault.bad_front i y e) = absurd (not_both y (text_read S c limits.depth (take limits.bytes b) w))
one_text_fault (HasFault.too_large h w d) (HasFault.too_large i v e) = d ∙ sym e

-- a text is one within the limits, or has one fault
pub exactly : (S : Schema) (c : S.Context) (limits : Bounds) (b : List ℕ) → All IsByte b → Exactly (IsSomeText S c limits b) (HasFault S c limits b)
exactly S c limits b bytes = record {
  either = text_or_fault S c limits b bytes;
  not_both = λ f bad good. text_not_both bad good;
  one = λ f g bad other. one_text_fault bad other;
}

-- ---- what a reader's answer shows, if it is always right

-- a text is answered
pub text_answered :
    {V : Type 0} (S : Schema) (c : S.Context) (limits : Bounds) (b : List ℕ) (of : V → List Record) (r : Result V RawError)
    → IfOk r (λ v. IsText S c limits b (of v)) → IfErr r (λ e. IfRawFault e (HasFault S c limits b)) → (rs : List Record) → IsText S c limits b rs
    → MatchResult r (λ v. of v ≡ rs) (λ e. e ≡ raw.Memory)
text_answered S c limits b of (Ok v) ok fault rs t = same_records (of v) rs b ok.spelled t.spelled
text_answered S c limits b of (Err raw.Memory) ok fault rs t = refl
text_answered S c limits b of (Err (raw.Fault byte path cause)) ok fault rs t = absurd (text_not_both fault (rs, t))

-- a fault is answered
pub fault_answered :
    {V : Type 0} (S : Schema) (c : S.Context) (limits : Bounds) (b : List ℕ) (of : V → List Record) (r : Result V RawError)
    → IfOk r (λ v. IsText S c limits b (of v)) → IfErr r (λ e. IfRawFault e (HasFault S c limits b)) → (f : Fault) → HasFault S c limits b f
    → IsErrAnd r (λ e. IfRawFault e (λ g. g ≡ f))
fault_answered S c limits b of (Ok v) ok fault f t = text_not_both t (of v, ok)
fault_answered S c limits b of (Err raw.Memory) ok fault f t = tt
fault_answered S c limits b of (Err (raw.Fault byte path cause)) ok fault f t = one_text_fault fault t

-- what is read is in range
pub text_in_range :
    {V : Type 0} (S : Schema) (c : S.Context) (limits : Bounds) (b : List ℕ) (of : V → List Record) (r : Result V RawError) → AreBytes b
    → IfOk r (λ v. IsText S c limits b (of v)) → IfOk r (λ v. AreInRange (of v))
text_in_range S c limits b of (Ok v) bytes ok = spelled_in_range (of v) b ok.spelled bytes
text_in_range S c limits b of (Err e) bytes ok = tt

-- what is read can be written
pub text_writable :
    {V : Type 0} (S : Schema) (c : S.Context) (limits : Bounds) (b : List ℕ) (of : V → List Record) (r : Result V RawError)
    → IfOk r (λ v. IsText S c limits b (of v)) → IfOk r (λ v. AreWritable (of v))
text_writable S c limits b of (Ok v) ok = spelled_writable (of v) b ok.spelled
text_writable S c limits b of (Err e) ok = tt
