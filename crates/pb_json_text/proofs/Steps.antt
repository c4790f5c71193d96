-- Steps of the machine along the bytes that the code reads.
use Rattle.std.proofs.Common.{◌≡◌, ◌≢◌, ℕ, suc, ◌+◌, ◌-◌, ◌<◌, ◌≤◌, List, [], ◌∷◌, ◌++◌, length, take, drop, get_or, Bool, true, false, ◌==◌, ◌&&◌, not, Option, Some, None, refl, sym, ap, ◌∙◌, subst, arith, ◌⊎◌, inl, inr, append_assoc, append-nil, length-drop, drop_of_length-le}
use Rattle.std.specs.Prelude.{slice_range}
use Rattle.std.proofs.lemmas.Bool.Decides.{eqb_tells, leb_tells}
use Rattle.std.proofs.lemmas.List.{drop_more, take_more}
use Rattle.pb_json_text.specs.declared.fault.JsonCause.{JsonCause}
use Rattle.pb_json_text.specs.declared.fault.JsonCause.TheVariants as cause
use Rattle.pb_json_text.specs.declared.number.NumberPart.{NumberPart}
use Rattle.pb_json_text.specs.Json.{Json, number}
use Rattle.pb_json_text.specs.Grammar.{is_blank}
use Rattle.pb_json_text.specs.Loops.Machine.{Mode, Stack, Next, go, no, Outcome, stop, next, finish, onward, run, after_value, in_number, in_string, in_word, word_left, number_next, is_final, Target, text, backslash, StringPart, StringNext, goes, stops, string_next, string_goes, is_text, named}
use Rattle.pb_json_text.specs.Loops.States.{Skips, is_plain}
use Rattle.pb_json_text.specs.Loops.Escapes.{part_of}
use Rattle.pb_json_text.specs.declared.fault.JsonFault.{JsonFault}
use Rattle.pb_json_text.specs.declared.escape.EscapePart.{EscapePart}
use Rattle.pb_json_text.specs.declared.escape.EscapePart.TheVariants as escape
use Rattle.pb_json_text.proofs.Forward.{run_byte, run_end, run_go}

pub go_at : (b : List ℕ) (i : ℕ) (m n : Mode) → i < length b → next m i (get_or b i 0) ≡ go n → run m i (drop i b) ≡ run n (i + 1) (drop (i + 1) b)
go_at b i m n l e = rw (drop_more b i 0 l) (run_go m n i (get_or b i 0) (drop (i + 1) b) e)

pub no_at : (b : List ℕ) (i : ℕ) (m : Mode) (c : JsonCause) → i < length b → next m i (get_or b i 0) ≡ no c → run m i (drop i b) ≡ stop i c
no_at b i m c l e = rw (drop_more b i 0 l) (run_byte m i (get_or b i 0) (drop (i + 1) b) ∙ ap (λ (k : Next). onward k i (λ n. run n (i + 1) (drop (i + 1) b))) e)

pub end_at : (b : List ℕ) (i : ℕ) (m : Mode) → length b ≤ i → run m i (drop i b) ≡ finish m i
end_at b i m l = rw (drop_of_length-le b l) (run_end m i)

-- BLANKS

pub blank_at : (b : List ℕ) (from i : ℕ) (m : Mode) → Skips m → i < length b → is_blank (get_or b i 0) ≡ true → run m from (drop from b) ≡ run m i (drop i b)
    → run m from (drop from b) ≡ run m (i + 1) (drop (i + 1) b)
blank_at b from i m s l e so_far = so_far ∙ go_at b i m m l (s i (get_or b i 0) e)

-- SLICES

pub range_more : (b : List ℕ) (from i : ℕ) → from ≤ i → i < length b → slice_range b from (i + 1) ≡ slice_range b from i ++ get_or b i 0 ∷ []
range_more b from i l h =
    let within : i - from < length (drop from b) = omega (arith, length-drop from b) in
    ap (λ (n : ℕ). take n (drop from b)) (less from i l) ∙ take_more (drop from b) (i - from) 0 within ∙ ap (λ (x : ℕ). take (i - from) (drop from b) ++ x ∷ []) (there from i l)
  where
    less : (from i : ℕ) → from ≤ i → (i + 1) - from ≡ (i - from) + 1
    less from i l = omega arith

    there : (from i : ℕ) → from ≤ i → get_or (drop from b) (i - from) 0 ≡ get_or b i 0
    there from i l = Rattle.std.proofs.lemmas.List.get_or-drop from b (i - from) 0 ∙ ap (λ (n : ℕ). get_or b n 0) (back from i l)
      where
        back : (from i : ℕ) → from ≤ i → from + (i - from) ≡ i
        back from i l = omega arith

pub range_none : (b : List ℕ) (i : ℕ) → slice_range b i i ≡ []
range_none b i = ap (λ (n : ℕ). take n (drop i b)) (nothing i)
  where
    nothing : (i : ℕ) → i - i ≡ 0
    nothing i = omega arith

-- WORDS

pub letter_at : (b w : List ℕ) (from i n : ℕ) (at : ℕ) (j : Json) (l : ℕ) (k : Stack) (whole : Outcome) → n < length w → i < length b → get_or b i 0 ≡ get_or w n 0
    → whole ≡ run (word_left (drop n w) at j l k) i (drop i b) → whole ≡ run (word_left (drop (n + 1) w) at j l k) (i + 1) (drop (i + 1) b)
letter_at b w from i n at j l k whole lw lb e so_far =
    so_far ∙ rw (drop_more w n 0 lw) (go_at b i (in_word (get_or w n 0) (drop (n + 1) w) at j l k) (word_left (drop (n + 1) w) at j l k) lb (rw (Rattle.std.proofs.lemmas.Bool.eq-eqb (get_or b i 0) (get_or w n 0) e) refl))

pub letter_end : (b w : List ℕ) (i n : ℕ) (at : ℕ) (j : Json) (l : ℕ) (k : Stack) → n < length w → length b ≤ i → run (word_left (drop n w) at j l k) i (drop i b) ≡ stop i cause.UnexpectedEnd
letter_end b w i n at j l k lw lb = rw (drop_more w n 0 lw) (end_at b i (in_word (get_or w n 0) (drop (n + 1) w) at j l k) lb)

pub letter_not : (b w : List ℕ) (i n : ℕ) (at : ℕ) (j : Json) (l : ℕ) (k : Stack) → n < length w → i < length b → get_or b i 0 ≢ get_or w n 0
    → run (word_left (drop n w) at j l k) i (drop i b) ≡ stop i cause.UnexpectedByte
letter_not b w i n at j l k lw lb e =
    rw (drop_more w n 0 lw) (no_at b i (in_word (get_or w n 0) (drop (n + 1) w) at j l k) cause.UnexpectedByte lb (rw (Rattle.std.proofs.Common.ne_eqb (get_or b i 0) (get_or w n 0) e) refl))

-- NUMBERS

pub digit_at : (b : List ℕ) (from i : ℕ) (part q : NumberPart) (at l : ℕ) (k : Stack) (whole : Outcome) → from ≤ i → i < length b → number_next part (get_or b i 0) ≡ Some q
    → whole ≡ run (in_number part (slice_range b from i) at l k) i (drop i b) → whole ≡ run (in_number q (slice_range b from (i + 1)) at l k) (i + 1) (drop (i + 1) b)
digit_at b from i part q at l k whole lf lb e so_far =
    so_far ∙ go_at b i (in_number part (slice_range b from i) at l k) (in_number q (slice_range b from i ++ get_or b i 0 ∷ []) at l k) lb (rw e refl)
    ∙ ap (λ (d : List ℕ). run (in_number q d at l k) (i + 1) (drop (i + 1) b)) (sym (range_more b from i lf lb))

pub number_over_at : (b : List ℕ) (i : ℕ) (part : NumberPart) (d : List ℕ) (at l : ℕ) (k : Stack) → i < length b → number_next part (get_or b i 0) ≡ None → is_final part ≡ true
    → run (in_number part d at l k) i (drop i b) ≡ run (after_value l at (number d) k) i (drop i b)
number_over_at b i part d at l k lb e f =
    rw (drop_more b i 0 lb)
    (run_byte (in_number part d at l k) i (get_or b i 0) (drop (i + 1) b) ∙ rw (e, f) (sym (run_byte (after_value l at (number d) k) i (get_or b i 0) (drop (i + 1) b))))

pub number_stops_at : (b : List ℕ) (i : ℕ) (part : NumberPart) (d : List ℕ) (at l : ℕ) (k : Stack) → i < length b → number_next part (get_or b i 0) ≡ None → is_final part ≡ false
    → run (in_number part d at l k) i (drop i b) ≡ stop i cause.UnexpectedByte
number_stops_at b i part d at l k lb e f = no_at b i (in_number part d at l k) cause.UnexpectedByte lb (rw (e, f) refl)

pub number_ends_at : (b : List ℕ) (i : ℕ) (part : NumberPart) (d : List ℕ) (at l : ℕ) (k : Stack) → length b ≤ i → is_final part ≡ true
    → run (in_number part d at l k) i (drop i b) ≡ run (after_value l at (number d) k) i (drop i b)
number_ends_at b i part d at l k lb f = rw (drop_of_length-le b lb) (run_end (in_number part d at l k) i ∙ rw f (sym (run_end (after_value l at (number d) k) i)))

pub number_cut_at : (b : List ℕ) (i : ℕ) (part : NumberPart) (d : List ℕ) (at l : ℕ) (k : Stack) → length b ≤ i → is_final part ≡ false
    → run (in_number part d at l k) i (drop i b) ≡ stop i cause.UnexpectedEnd
number_cut_at b i part d at l k lb f = end_at b i (in_number part d at l k) lb ∙ rw f refl

-- STRINGS

plain_next : (x : ℕ) → is_plain x ≡ true → ((x == 34) ≡ false) × (string_next text x ≡ goes text (x ∷ []))
plain_next x h =
    elim (eqb_tells x 34) [
      | inl a ↦ absurd (cc (rw a.0 at h))
      | inr a ↦ (let h2 = rw a.0 at h in elim (eqb_tells x 92) [
        | inl b ↦ absurd (cc (rw b.0 at h2))
        | inr b ↦ (let h3 = rw b.0 at h2 in elim (leb_tells (suc x) 32) [
          | inl c ↦ absurd (cc (rw c.0 at h3))
          | inr c ↦ (a.0, rw (b.0, c.0) refl)
        ])
      ])
    ]

pub plain_at : (b : List ℕ) (from i : ℕ) (s : List ℕ) (at : ℕ) (t : Target) (l : ℕ) (k : Stack) (whole : Outcome) → from ≤ i → i < length b → is_plain (get_or b i 0) ≡ true
    → whole ≡ run (in_string text (s ++ slice_range b from i) at t l k) i (drop i b) → whole ≡ run (in_string text (s ++ slice_range b from (i + 1)) at t l k) (i + 1) (drop (i + 1) b)
plain_at b from i s at t l k whole lf lb e so_far =
    let p = plain_next (get_or b i 0) e in
    so_far ∙ go_at b i (in_string text (s ++ slice_range b from i) at t l k) (in_string text ((s ++ slice_range b from i) ++ get_or b i 0 ∷ []) at t l k) lb (rw (p.0, p.1) refl)
    ∙ ap (λ (d : List ℕ). run (in_string text d at t l k) (i + 1) (drop (i + 1) b)) (append_assoc s (slice_range b from i) (get_or b i 0 ∷ []) ∙ ap (λ (d : List ℕ). s ++ d) (sym (range_more b from i lf lb)))

-- the run of a string up to the end of what is itself there
pub string_so_far : (b slice : List ℕ) (at end : ℕ) (s new : List ℕ) (i : ℕ) (t : Target) (l : ℕ) (k : Stack) (whole : Outcome)
    → whole ≡ run (in_string text s i t l k) at (drop at b)
    → ((s : List ℕ) (i : ℕ) (t : Target) (l : ℕ) (k : Stack) → run (in_string text s i t l k) at (drop at b) ≡ run (in_string text (s ++ slice_range b at end) i t l k) end (drop end b))
    → slice ≡ slice_range b at end → new ≡ s ++ slice → whole ≡ run (in_string text new i t l k) end (drop end b)
string_so_far b slice at end s new i t l k whole so_far runs e n =
    so_far ∙ runs s i t l k ∙ ap (λ (c : List ℕ). run (in_string text (s ++ c) i t l k) end (drop end b)) (sym e) ∙ ap (λ (c : List ℕ). run (in_string text c i t l k) end (drop end b)) (sym n)

pub quote_at : (b : List ℕ) (i : ℕ) (s : List ℕ) (at : ℕ) (t : Target) (l : ℕ) (k : Stack) → i < length b → get_or b i 0 ≡ 34 → run (in_string text s at t l k) i (drop i b) ≡ run (named t s at l k) (i + 1) (drop (i + 1) b)
quote_at b i s at t l k lt e = go_at b i (in_string text s at t l k) (named t s at l k) lt (rw e refl)

nothing_added : (q : StringPart) (s : List ℕ) (at : ℕ) (t : Target) (l : ℕ) (k : Stack) (i : ℕ) (b : List ℕ) → run (in_string q (s ++ []) at t l k) i b ≡ run (in_string q s at t l k) i b
nothing_added q s at t l k i b = ap (λ (c : List ℕ). run (in_string q c at t l k) i b) (append-nil s)

pub backslash_at : (b : List ℕ) (i : ℕ) (s : List ℕ) (at : ℕ) (t : Target) (l : ℕ) (k : Stack) → i < length b → get_or b i 0 ≡ 92 → run (in_string text s at t l k) i (drop i b) ≡ run (in_string backslash s at t l k) (i + 1) (drop (i + 1) b)
backslash_at b i s at t l k lt e =
    go_at b i (in_string text s at t l k) (in_string backslash (s ++ []) at t l k) lt (rw e refl) ∙ nothing_added backslash s at t l k (i + 1) (drop (i + 1) b)

control_stops : (x : ℕ) → is_plain x ≡ false → x ≢ 34 → x ≢ 92 → string_next text x ≡ stops
control_stops x h q n =
    elim (leb_tells (suc x) 32) [
      | inl c ↦ rw (Rattle.std.proofs.Common.ne_eqb x 92 n, c.0) refl
      | inr c ↦ absurd (cc (rw (Rattle.std.proofs.Common.ne_eqb x 34 q, Rattle.std.proofs.Common.ne_eqb x 92 n, c.0) at h))
    ]

pub control_at : (b : List ℕ) (i : ℕ) (s : List ℕ) (at : ℕ) (t : Target) (l : ℕ) (k : Stack) → i < length b → is_plain (get_or b i 0) ≡ false → get_or b i 0 ≢ 34 → get_or b i 0 ≢ 92
    → run (in_string text s at t l k) i (drop i b) ≡ stop i cause.UnexpectedByte
control_at b i s at t l k lt p q n =
    no_at b i (in_string text s at t l k) cause.UnexpectedByte lt (refused (get_or b i 0) p q n)
  where
    refused : (x : ℕ) → is_plain x ≡ false → x ≢ 34 → x ≢ 92 → next (in_string text s at t l k) i x ≡ no cause.UnexpectedByte
    refused x p q n = rw (Rattle.std.proofs.Common.ne_eqb x 34 q) (ap (λ (m : StringNext). string_goes m s at t l k) (control_stops x p q n))

-- ESCAPES

no_text : (part : EscapePart) → is_text (part_of part) ≡ false
no_text escape.Backslash = refl
no_text escape.Digits0 = refl
no_text (escape.Digits1 a) = refl
no_text (escape.Digits2 v) = refl
no_text (escape.Digits3 v) = refl
no_text (escape.High u) = refl
no_text (escape.HighBackslash u) = refl
no_text (escape.Low0 u) = refl
no_text (escape.Low1 u) = refl
no_text (escape.Low2 u v) = refl
no_text (escape.Low3 u v) = refl

escape_next : (part : EscapePart) (x : ℕ) (n : StringNext) (s : List ℕ) (at : ℕ) (t : Target) (l : ℕ) (k : Stack) (i : ℕ) → string_next (part_of part) x ≡ n
    → next (in_string (part_of part) s at t l k) i x ≡ string_goes n s at t l k
escape_next part x n s at t l k i e = rw (no_text part) (ap (λ (m : StringNext). string_goes m s at t l k) e)

pub part_at : (b : List ℕ) (i : ℕ) (part q : EscapePart) (s : List ℕ) (at : ℕ) (t : Target) (l : ℕ) (k : Stack) → i < length b → string_next (part_of part) (get_or b i 0) ≡ goes (part_of q) []
    → run (in_string (part_of part) s at t l k) i (drop i b) ≡ run (in_string (part_of q) s at t l k) (i + 1) (drop (i + 1) b)
part_at b i part q s at t l k lt e =
    go_at b i (in_string (part_of part) s at t l k) (in_string (part_of q) (s ++ []) at t l k) lt (escape_next part (get_or b i 0) (goes (part_of q) []) s at t l k i e)
    ∙ nothing_added (part_of q) s at t l k (i + 1) (drop (i + 1) b)

pub character_at : (b : List ℕ) (i : ℕ) (part : EscapePart) (c s : List ℕ) (at : ℕ) (t : Target) (l : ℕ) (k : Stack) → i < length b → string_next (part_of part) (get_or b i 0) ≡ goes text c
    → run (in_string (part_of part) s at t l k) i (drop i b) ≡ run (in_string text (s ++ c) at t l k) (i + 1) (drop (i + 1) b)
character_at b i part c s at t l k lt e =
    go_at b i (in_string (part_of part) s at t l k) (in_string text (s ++ c) at t l k) lt (escape_next part (get_or b i 0) (goes text c) s at t l k i e)

pub refused_at : (b : List ℕ) (i : ℕ) (part : EscapePart) (s : List ℕ) (at : ℕ) (t : Target) (l : ℕ) (k : Stack) → i < length b → string_next (part_of part) (get_or b i 0) ≡ stops
    → run (in_string (part_of part) s at t l k) i (drop i b) ≡ stop i cause.UnexpectedByte
refused_at b i part s at t l k lt e = no_at b i (in_string (part_of part) s at t l k) cause.UnexpectedByte lt (escape_next part (get_or b i 0) stops s at t l k i e)

-- FAULTS

pub stop_is : (e : JsonFault) (n : ℕ) (c : JsonCause) (o : Outcome) → e.byte ≡ n → e.cause ≡ c → o ≡ stop n c → o ≡ stop e.byte e.cause
stop_is e n c o a b h = h ∙ ap (λ (m : ℕ). stop m c) (sym a) ∙ ap (λ (d : JsonCause). stop e.byte d) (sym b)

pub begun_less : (from at : ℕ) (b : Bool) → from ≤ at → b ≡ true → (at ≡ from → b ≡ false) → from < at
begun_less from at b l t f =
    elim (eqb_tells at from) [
      | inl e ↦ absurd (let g : b ≡ false = f e.1 in cc)
      | inr e ↦ (let n = e.1 in omega arith)
    ]
