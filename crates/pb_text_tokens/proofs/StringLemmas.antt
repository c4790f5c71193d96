-- Strings, one step after another.
use Rattle.std.proofs.Common.{◌≡◌, ℕ, zero, suc, ◌+◌, ◌-◌, ◌<◌, ◌≤◌, List, [], ◌∷◌, ◌++◌, length, take, drop, Result, Ok, Err, refl, ap, sym, ◌∙◌, subst, arith, append_assoc, append-nil, drop-drop, drop_of_length-le, length-drop, take_all}
use Rattle.pb_text_tokens.specs.Strings.{Inside, later, stopped, step_at, meant_from, unit_meaning}
use Rattle.pb_text_tokens.specs.declared.fault.TokenCause.{TokenCause}
use Rattle.pb_text_tokens.specs.declared.fault.TokenCause.TheVariants as cause
use Rattle.pb_text_tokens.specs.declared.lexing.PieceFault.{PieceFault}
use Rattle.pb_text_tokens.specs.declared.strings.Step.{Step}
use Rattle.pb_text_tokens.specs.declared.strings.Step.TheVariants.{Close, Pass, Stop}

-- what `&bs[at..]` is
pub tail_at : (bs : List ℕ) (at : ℕ) → take (length bs - at) (drop at bs) ≡ drop at bs
tail_at bs at = take_all (length bs - at) (drop at bs) (let e = length-drop at bs in omega arith)

pub later_later : (a b : ℕ) (o : Result ℕ PieceFault) → later a (later b o) ≡ later (a + b) o
later_later a b (Ok n) = ap Ok (omega arith)
later_later a b (Err e) = ap (λ k. Err (record { offset = k; cause = e.cause })) (omega arith)

pub later_none : (o : Result ℕ PieceFault) → later 0 o ≡ o
later_none (Ok n) = ap Ok (omega arith)
later_none (Err e) = ap (λ k. Err (record { offset = k; cause = e.cause })) (omega arith)

abbrev pub Reaches : ℕ → List ℕ → ℕ → Type 0
Reaches quote bs at = (o : Result ℕ PieceFault) → Inside quote (drop at bs) o → Inside quote bs (later at o)

pub begin_string : (quote : ℕ) (bs : List ℕ) → Reaches quote bs 0
begin_string quote bs o h = subst (Inside quote bs) (sym (later_none o)) h

pub string_on : (quote at n : ℕ) (bs : List ℕ) → Reaches quote bs at → step_at quote (take (length bs - at) (drop at bs)) ≡ Pass n → Reaches quote bs (at + n)
string_on quote at n bs f e o h =
    subst (Inside quote bs) (later_later at n o)
    (f (later n o) (Inside.passes (ap (step_at quote) (sym (tail_at bs at)) ∙ e) (subst (λ r. Inside quote r o) (sym (drop-drop n at bs)) h) refl))

pub string_closes : (quote at : ℕ) (bs : List ℕ) → Reaches quote bs at → step_at quote (take (length bs - at) (drop at bs)) ≡ Close → Inside quote bs (Ok (at + 1))
string_closes quote at bs f e = f (Ok 1) (Inside.closes (ap (step_at quote) (sym (tail_at bs at)) ∙ e))

pub string_stops : (quote at : ℕ) (bs : List ℕ) (c : TokenCause) → Reaches quote bs at → step_at quote (take (length bs - at) (drop at bs)) ≡ Stop c
    → Inside quote bs (Err (record { offset = at; cause = c }))
string_stops quote at bs c f e =
    subst (Inside quote bs) (ap (λ k. Err (record { offset = k; cause = c })) (none at))
    (f (stopped c) (Inside.stops (ap (step_at quote) (sym (tail_at bs at)) ∙ e) refl))
  where
    none : (at : ℕ) → at + 0 ≡ at
    none at = omega arith

pub string_open : (quote at : ℕ) (bs : List ℕ) → length bs ≤ at → Reaches quote bs at → Inside quote bs (Err (record { offset = at; cause = cause.OpenString }))
string_open quote at bs l f =
    string_stops quote at bs cause.OpenString f (ap (step_at quote) (tail_at bs at ∙ drop_of_length-le bs l))

-- what is within the rest is within the bytes
pub room_at : (bs : List ℕ) (at n : ℕ) → at ≤ length bs → n ≤ length (take (length bs - at) (drop at bs)) → at + n ≤ length bs
room_at bs at n l h = let e = ap length (tail_at bs at) ∙ length-drop at bs in omega arith

-- ---- what strings mean

meant_drop : (quote k : ℕ) (bs : List ℕ) → meant_from quote k bs ≡ meant_from quote 0 (drop k bs)
meant_drop quote zero bs = refl
meant_drop quote (suc k) [] = refl
meant_drop quote (suc k) (c ∷ cs) = meant_drop quote k cs

-- a step inside a string
meant_step : (quote n : ℕ) (bs : List ℕ) → 0 < length bs → 0 < n → step_at quote bs ≡ Pass n → meant_from quote 0 bs ≡ unit_meaning bs ++ meant_from quote 0 (drop n bs)
meant_step quote n [] l p e = absurd (omega arith)
meant_step quote zero (c ∷ cs) l p e = absurd (omega arith)
meant_step quote (suc n) (c ∷ cs) l p e = rw e (ap (λ r. unit_meaning (c ∷ cs) ++ r) (ap (λ k. meant_from quote k cs) (less n) ∙ meant_drop quote n cs))
  where
    less : (n : ℕ) → suc n - 1 ≡ n
    less n = omega arith

some_left : (bs : List ℕ) (at : ℕ) → at < length bs → 0 < length (drop at bs)
some_left bs at l = let e = length-drop at bs in omega arith

-- what is written so far, and what is left
pub meant_on : (quote at n : ℕ) (bs all into new : List ℕ) → at < length bs → 0 < n → step_at quote (take (length bs - at) (drop at bs)) ≡ Pass n
    → all ≡ into ++ meant_from quote 0 (drop at bs) → new ≡ into ++ unit_meaning (take (length bs - at) (drop at bs)) → all ≡ new ++ meant_from quote 0 (drop (at + n) bs)
meant_on quote at n bs all into new l p e k j =
    let rest = drop at bs in
    let s : step_at quote rest ≡ Pass n = ap (step_at quote) (sym (tail_at bs at)) ∙ e in
    k ∙ ap (λ r. into ++ r) (meant_step quote n rest (some_left bs at l) p s) ∙ sym (append_assoc into (unit_meaning rest) (meant_from quote 0 (drop n rest)))
    ∙ ap (λ r. r ++ meant_from quote 0 (drop n rest)) (sym (j ∙ ap (λ t. into ++ unit_meaning t) (tail_at bs at)))
    ∙ ap (λ r. new ++ meant_from quote 0 r) (drop-drop n at bs)

-- where it ends
meant_none : (quote : ℕ) (bs : List ℕ) (s : Step) → step_at quote bs ≡ s → ((n : ℕ) → s ≡ Pass n → ⊥) → meant_from quote 0 bs ≡ []
meant_none quote [] s e f = refl
meant_none quote (c ∷ cs) Close e f = rw e refl
meant_none quote (c ∷ cs) (Pass n) e f = absurd (f n refl)
meant_none quote (c ∷ cs) (Stop x) e f = rw e refl

pub meant_closes : (quote at : ℕ) (bs all into : List ℕ) (s : Step) → step_at quote (take (length bs - at) (drop at bs)) ≡ s → ((n : ℕ) → s ≡ Pass n → ⊥)
    → all ≡ into ++ meant_from quote 0 (drop at bs) → into ≡ all
meant_closes quote at bs all into s e f k =
    sym (k ∙ ap (λ r. into ++ r) (meant_none quote (drop at bs) s (ap (step_at quote) (sym (tail_at bs at)) ∙ e) f) ∙ append-nil into)

pub meant_ends : (quote at : ℕ) (bs all into : List ℕ) → length bs ≤ at → all ≡ into ++ meant_from quote 0 (drop at bs) → into ≡ all
meant_ends quote at bs all into l k = sym (k ∙ ap (λ r. into ++ meant_from quote 0 r) (drop_of_length-le bs l) ∙ append-nil into)
