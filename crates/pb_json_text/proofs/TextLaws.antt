-- A text has one value, or the bytes have one fault.
use Rattle.std.proofs.Common.{◌≡◌, ℕ, suc, ◌+◌, ◌<◌, ◌≤◌, List, [], ◌∷◌, ◌++◌, length, take, refl, sym, ap, ◌∙◌, subst, arith, ◌⊎◌, inl, inr, append_assoc, append-nil, length-append}
use Rattle.std.proofs.lemmas.List.{take_at}
use Rattle.pb_json_text.specs.declared.fault.JsonCause.{JsonCause}
use Rattle.pb_json_text.specs.declared.fault.JsonCause.TheVariants as cause
use Rattle.pb_json_text.specs.Json.{Json, Placed}
use Rattle.pb_json_text.specs.Grammar.{IsText}
use Rattle.pb_json_text.specs.Texts.{Begins}
use Rattle.pb_json_text.specs.Loops.Machine.{Mode, top, before_value, Next, go, no, done, stop, next, run}
use Rattle.pb_json_text.proofs.Forward.{run_go}
use Rattle.pb_json_text.proofs.ForwardValues.{text_run}
use Rattle.pb_json_text.proofs.Backward.{run_text}
use Rattle.pb_json_text.proofs.Deeper.{deeper, Shifted, shifted}
use Rattle.pb_json_text.proofs.Stops.{StopsAt, stops_at, stuck_stops, Stuck, ends}

-- the machine at the start
abbrev pub start : ℕ → Mode
start levels = before_value levels top

-- one text has one value
pub one_value : (l : ℕ) (v w : Placed) (b : List ℕ) → IsText l v b → IsText l w b → v ≡ w
one_value l v w b s t =
    let e : done v.0 v.1 ≡ done w.0 w.1 = sym (text_run l v b s) ∙ text_run l w b t in
    let a : v.0 ≡ w.0 = cc in
    let j : v.1 ≡ w.1 = cc in
    ap (λ (n : ℕ). (n, v.1)) a ∙ ap (λ (i : Json). (w.0, i)) j

-- where the machine stops there is no text
pub no_text : (l : ℕ) (v : Placed) (b : List ℕ) (q : ℕ) (c : JsonCause) → run (start l) 0 b ≡ stop q c → ¬ IsText l v b
no_text l v b q c h t = cc (sym h ∙ text_run l v b t)

-- the bytes that lead to a state begin a text
reached : (l : ℕ) (front : List ℕ) (m : Mode) (q : ℕ) → ((z : List ℕ) → run (start l) 0 (front ++ z) ≡ run m q z) → Begins l front
reached l front m q same = let e = ends m q in (e.0, e.1, run_text l e.1 (front ++ e.0) (same e.0 ∙ e.2))

not_begun : (l : ℕ) (front : List ℕ) (m : Mode) (q x : ℕ) (c : JsonCause) → ((z : List ℕ) → run (start l) 0 (front ++ z) ≡ run m q z) → next m q x ≡ no c → ¬ Begins l (front ++ x ∷ [])
not_begun l front m q x c same stuck (more, v, t) =
    no_text l v ((front ++ x ∷ []) ++ more) q c
    (ap (run (start l) 0) (append_assoc front (x ∷ []) more) ∙ same (x ∷ more) ∙ stuck_stops m q x c more stuck) t

begun_deeper : (l : ℕ) (front : List ℕ) (m n : Mode) (q x : ℕ) → ((z : List ℕ) → run (start l) 0 (front ++ z) ≡ run m q z) → next m q x ≡ go n → Begins l (front ++ x ∷ [])
begun_deeper l front m n q x same e =
    reached l (front ++ x ∷ []) n (q + 1) (λ z. ap (run (start l) 0) (append_assoc front (x ∷ []) z) ∙ same (x ∷ z) ∙ run_go m n q x z e)

-- what there is at the byte where the machine stops
pub record StopFacts (l : ℕ) (b : List ℕ) (q : ℕ) (c : JsonCause) : Type 0 where
  pub within : q ≤ length b
  pub before : Begins l (take q b)
  pub here : ((q ≡ length b) × (c ≡ cause.UnexpectedEnd)) ⊎ ((q < length b) × (¬ Begins l (take (q + 1) b))
      × (((c ≡ cause.UnexpectedByte) × (¬ Begins (suc l) (take (q + 1) b))) ⊎ ((c ≡ cause.TooDeep) × Begins (suc l) (take (q + 1) b))))

stop_cause : (l : ℕ) (front : List ℕ) (m : Mode) (q x : ℕ) (c : JsonCause) → ((z : List ℕ) → run (start (suc l)) 0 (front ++ z) ≡ run (deeper m) q z)
    → Shifted (no c) (next (deeper m) q x)
    → ((c ≡ cause.UnexpectedByte) × (¬ Begins (suc l) (front ++ x ∷ []))) ⊎ ((c ≡ cause.TooDeep) × Begins (suc l) (front ++ x ∷ []))
stop_cause l front m q x cause.UnexpectedByte same s = inl (refl, not_begun (suc l) front (deeper m) q x cause.UnexpectedByte same s)
stop_cause l front m q x cause.TooDeep same (n, e) = inr (refl, begun_deeper (suc l) front (deeper m) n q x same e)
stop_cause l front m q x cause.UnexpectedEnd same s = absurd s
stop_cause l front m q x cause.BadUtf8 same s = absurd s
stop_cause l front m q x cause.OutOfMemory same s = absurd s

take_front : (front : List ℕ) (x : ℕ) (xs : List ℕ) (q : ℕ) → q ≡ length front → take q (front ++ x ∷ xs) ≡ front
take_front front x xs q e = take_at front (x ∷ xs) q (sym e)

take_byte : (front : List ℕ) (x : ℕ) (xs : List ℕ) (q : ℕ) → q ≡ length front → take (q + 1) (front ++ x ∷ xs) ≡ front ++ x ∷ []
take_byte front x xs q e =
    ap (take (q + 1)) (sym (append_assoc front (x ∷ []) xs)) ∙ take_at (front ++ x ∷ []) xs (q + 1) (omega (arith, length-append front (x ∷ [])))

stop_byte : (l : ℕ) (front : List ℕ) (x : ℕ) (xs : List ℕ) (m : Mode) (q : ℕ) (c : JsonCause) → ((z : List ℕ) → run (start l) 0 (front ++ z) ≡ run m q z)
    → ((z : List ℕ) → run (start (suc l)) 0 (front ++ z) ≡ run (deeper m) q z) → q ≡ length front → next m q x ≡ no c → StopFacts l (front ++ x ∷ xs) q c
stop_byte l front x xs m q c same same_deeper e stuck =
    let f = stop_cause l front m q x c same_deeper (let s = shifted m q x in subst (λ (k : Next). Shifted k (next (deeper m) q x)) stuck s.is) in
    let n = not_begun l front m q x c same stuck in
    record {
      within = omega (arith, length-append front (x ∷ xs));
      before = rw (take_front front x xs q e) (reached l front m q same);
      here = inr (omega (arith, length-append front (x ∷ xs)), rw (take_byte front x xs q e) n, rw (take_byte front x xs q e) f);
    }

stop_end : (l : ℕ) (front : List ℕ) (m : Mode) (q : ℕ) (c : JsonCause) → ((z : List ℕ) → run (start l) 0 (front ++ z) ≡ run m q z) → q ≡ length front → c ≡ cause.UnexpectedEnd
    → StopFacts l front q c
stop_end l front m q c same e stuck = record {
  within = omega arith;
  before = rw (whole_front front q e) (reached l front m q same);
  here = inl (e, stuck);
}
  where
    whole_front : (front : List ℕ) (q : ℕ) → q ≡ length front → take q front ≡ front
    whole_front front q e = ap (take q) (sym (append-nil front)) ∙ take_at front [] q (sym e)

pub stop_facts : (l : ℕ) (b : List ℕ) (q : ℕ) (c : JsonCause) → run (start l) 0 b ≡ stop q c → StopFacts l b q c
stop_facts l b q c h = by_rest (stops_at b (start l) 0 q c h)
  where
    by_parts : (front rest : List ℕ) (m : Mode) → b ≡ front ++ rest → q ≡ 0 + length front → ((z : List ℕ) → run (start l) 0 (front ++ z) ≡ run m q z)
        → ((z : List ℕ) → run (start (suc l)) 0 (front ++ z) ≡ run (deeper m) q z) → Stuck m q rest c → StopFacts l b q c
    by_parts front [] m e p same same_deeper stuck =
        subst (λ (d : List ℕ). StopFacts l d q c) (sym (e ∙ append-nil front)) (stop_end l front m q c same (omega arith) stuck)
    by_parts front (x ∷ xs) m e p same same_deeper stuck =
        subst (λ (d : List ℕ). StopFacts l d q c) (sym e) (stop_byte l front x xs m q c same same_deeper (omega arith) stuck)

    by_rest : StopsAt (start l) 0 b q c → StopFacts l b q c
    by_rest r = by_parts r.front r.rest r.mode r.joined r.place r.same r.same_deeper r.stuck
