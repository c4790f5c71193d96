-- Faults of bytes: where they come from, and that there is one.
use Rattle.std.proofs.Common.{◌≡◌, ◌≢◌, ℕ, zero, suc, ◌+◌, ◌<◌, ◌≤◌, List, [], ◌∷◌, ◌++◌, length, take, drop, refl, sym, ap, ◌∙◌, subst, arith, ◌⊎◌, inl, inr, append_assoc, append-nil, length-take, take_all}
use Rattle.std.specs.Prelude.{IsUtf8, Result, Ok, Err, IfOk, IfErr, OnOk, IsErrAnd, MatchResult}
use Rattle.pb_json_text.specs.Fault.{fault, out_of_memory}
use Rattle.pb_json_text.specs.View.{value_view}
use Rattle.pb_json_text.specs.Loops.States.{IsStop}
use Rattle.pb_json_text.specs.declared.fault.JsonFault.{JsonFault}
use Rattle.pb_json_text.specs.declared.value.JsonValue.{JsonValue}
use Rattle.std.specs.Str.Lossy.{utf8_valid_len}
use Rattle.std.proofs.lemmas.Str.{utf8_valid_len-IsUtf8}
use Rattle.pb_json_text.specs.declared.fault.JsonCause.{JsonCause}
use Rattle.pb_json_text.specs.declared.fault.JsonCause.TheVariants as cause
use Rattle.pb_json_text.specs.Json.{Placed}
use Rattle.pb_json_text.specs.Grammar.{IsText}
use Rattle.pb_json_text.specs.Texts.{max_depth, IsJson, Begins, IsFirstBad, HasFault}
use Rattle.pb_json_text.specs.Loops.Machine.{done, stop, run}
use Rattle.pb_json_text.proofs.Backward.{run_text}
use Rattle.pb_json_text.proofs.TextLaws.{start, one_value, no_text, StopFacts, stop_facts}

-- PREFIXES

-- what is before a prefix's end is in it
take_less : (m n : ℕ) (b : List ℕ) → m ≤ n → take m (take n b) ≡ take m b
take_less zero n b l = refl
take_less (suc m) zero b l = absurd (omega arith)
take_less (suc m) (suc n) [] l = refl
take_less (suc m) (suc n) (x ∷ b) l = ap (λ (v : List ℕ). x ∷ v) (take_less m n b (omega arith))

split : (m : ℕ) (b : List ℕ) → take m b ++ drop m b ≡ b
split zero b = refl
split (suc m) [] = refl
split (suc m) (x ∷ b) = ap (λ (v : List ℕ). x ∷ v) (split m b)

begins_front : (l : ℕ) (front rest : List ℕ) → Begins l (front ++ rest) → Begins l front
begins_front l front rest (more, v, t) = (rest ++ more, v, subst (IsText l v) (append_assoc front rest more) t)

begins_less : (l m n : ℕ) (b : List ℕ) → m ≤ n → Begins l (take n b) → Begins l (take m b)
begins_less l m n b h s =
    subst (Begins l) (take_less m n b h) (begins_front l (take m (take n b)) (drop m (take n b)) (subst (Begins l) (sym (split m (take n b))) s))

begins_whole : (l m : ℕ) (b : List ℕ) → Begins l b → Begins l (take m b)
begins_whole l m b s = begins_front l (take m b) (drop m b) (subst (Begins l) (sym (split m b)) s)

text_begins : (l : ℕ) (v : Placed) (b : List ℕ) → IsText l v b → Begins l b
text_begins l v b t = ([], v, subst (IsText l v) (sym (append-nil b)) t)

-- FROM WHERE THE MACHINE STOPS

-- a fault in bytes that are UTF-8 as far as they go
first_bad : (b : List ℕ) (n q : ℕ) (c : JsonCause) → n ≡ utf8_valid_len b → n ≤ length b → q < n → Begins max_depth (take q (take n b)) → (¬ Begins max_depth (take (q + 1) (take n b)))
    → (((c ≡ cause.UnexpectedByte) × (¬ Begins (suc max_depth) (take (q + 1) (take n b)))) ⊎ ((c ≡ cause.TooDeep) × Begins (suc max_depth) (take (q + 1) (take n b))))
    → HasFault c b q
first_bad b n q c e within less before bad (inl (k, deep)) =
    subst (λ (d : JsonCause). HasFault d b q) (sym k) (
      record { within = omega arith; before = subst (Begins max_depth) (take_less q n b (omega arith)) before; bad = subst (λ (w : List ℕ). ¬ Begins max_depth w) (take_less (q + 1) n b (omega arith)) bad },
      subst (λ (w : List ℕ). ¬ Begins (suc max_depth) w) (take_less (q + 1) n b (omega arith)) deep,
    )
first_bad b n q c e within less before bad (inr (k, deep)) =
    subst (λ (d : JsonCause). HasFault d b q) (sym k) (
      record { within = omega arith; before = subst (Begins max_depth) (take_less q n b (omega arith)) before; bad = subst (λ (w : List ℕ). ¬ Begins max_depth w) (take_less (q + 1) n b (omega arith)) bad },
      subst (Begins (suc max_depth)) (take_less (q + 1) n b (omega arith)) deep,
    )

whole_prefix : (b : List ℕ) (n : ℕ) → n ≡ length b → take n b ≡ b
whole_prefix b n e = take_all n b (omega arith)

-- the fault of bytes that are UTF-8
pub fault_of_text : (b : List ℕ) (q : ℕ) (c : JsonCause) → IsUtf8 b → run (start max_depth) 0 b ≡ stop q c → HasFault c b q
fault_of_text b q c u h = by_facts (stop_facts max_depth b q c h)
  where
    valid : utf8_valid_len b ≡ length b
    valid = utf8_valid_len-IsUtf8 b u

    by_facts : StopFacts max_depth b q c → HasFault c b q
    by_facts f = by_here f.before f.here
      where
        by_here : Begins max_depth (take q b) → (((q ≡ length b) × (c ≡ cause.UnexpectedEnd)) ⊎ ((q < length b) × (¬ Begins max_depth (take (q + 1) b))
            × (((c ≡ cause.UnexpectedByte) × (¬ Begins (suc max_depth) (take (q + 1) b))) ⊎ ((c ≡ cause.TooDeep) × Begins (suc max_depth) (take (q + 1) b))))) → HasFault c b q
        by_here before (inl (e, k)) =
            subst (λ (d : JsonCause). HasFault d b q) (sym k) (e, u, subst (Begins max_depth) (whole_prefix b q e) before, λ v. no_text max_depth v b q c h)
        by_here before (inr (less, bad, kind)) =
            let same : take (length b) b ≡ b = whole_prefix b (length b) refl in
            first_bad b (length b) q c (sym valid) (omega arith) less (rw same before) (rw same bad) (rw same kind)

-- the fault of bytes that are not, by the longest prefix that is
pub fault_of_prefix : (b : List ℕ) (n q : ℕ) (c : JsonCause) → n ≡ utf8_valid_len b → n < length b → run (start max_depth) 0 (take n b) ≡ stop q c
    → ((c ≡ cause.UnexpectedEnd) × HasFault cause.BadUtf8 b n) ⊎ ((c ≢ cause.UnexpectedEnd) × HasFault c b q)
fault_of_prefix b n q c e less h = by_facts (stop_facts max_depth (take n b) q c h)
  where
    not_the_end : (((c ≡ cause.UnexpectedByte) × (¬ Begins (suc max_depth) (take (q + 1) (take n b)))) ⊎ ((c ≡ cause.TooDeep) × Begins (suc max_depth) (take (q + 1) (take n b)))) → c ≢ cause.UnexpectedEnd
    not_the_end (inl (k, d)) z = cc
    not_the_end (inr (k, d)) z = cc

    size : length (take n b) ≡ n
    size = omega (arith, length-take n b)

    by_facts : StopFacts max_depth (take n b) q c → ((c ≡ cause.UnexpectedEnd) × HasFault cause.BadUtf8 b n) ⊎ ((c ≢ cause.UnexpectedEnd) × HasFault c b q)
    by_facts f = by_here f.before f.here
      where
        by_here : Begins max_depth (take q (take n b)) → (((q ≡ length (take n b)) × (c ≡ cause.UnexpectedEnd)) ⊎ ((q < length (take n b)) × (¬ Begins max_depth (take (q + 1) (take n b)))
            × (((c ≡ cause.UnexpectedByte) × (¬ Begins (suc max_depth) (take (q + 1) (take n b)))) ⊎ ((c ≡ cause.TooDeep) × Begins (suc max_depth) (take (q + 1) (take n b))))))
            → ((c ≡ cause.UnexpectedEnd) × HasFault cause.BadUtf8 b n) ⊎ ((c ≢ cause.UnexpectedEnd) × HasFault c b q)
        by_here before (inl (same, k)) = inl (k, (e, less, subst (Begins max_depth) (whole_prefix (take n b) q same) before))
        by_here before (inr (inside, bad, kind)) = inr (not_the_end kind, first_bad b n q c e (omega arith) (omega (arith, size)) before bad kind)

-- the prefix is a text
pub text_then_bad : (b : List ℕ) (n : ℕ) (v : Placed) → n ≡ utf8_valid_len b → n < length b → run (start max_depth) 0 (take n b) ≡ done v.0 v.1 → HasFault cause.BadUtf8 b n
text_then_bad b n v e less h = (e, less, text_begins max_depth v (take n b) (run_text max_depth v (take n b) h))

-- ONE FAULT

bad_at : (b : List ℕ) (n m : ℕ) → IsFirstBad b n → Begins max_depth (take m b) → n < m → ⊥
bad_at b n m f s l = f.bad (begins_less max_depth (n + 1) m b (omega arith) s)

same_bad : (b : List ℕ) (n m : ℕ) → IsFirstBad b n → IsFirstBad b m → n ≡ m
same_bad b n m f g = by_order (Rattle.std.proofs.lemmas.Bool.Decides.leb_tells n m) (Rattle.std.proofs.lemmas.Bool.Decides.leb_tells m n)
  where
    by_order : ((Rattle.std.proofs.Math.Dec.leb n m ≡ Rattle.std.specs.Prelude.true) × (n ≤ m)) ⊎ ((Rattle.std.proofs.Math.Dec.leb n m ≡ Rattle.std.specs.Prelude.false) × (m < n))
        → ((Rattle.std.proofs.Math.Dec.leb m n ≡ Rattle.std.specs.Prelude.true) × (m ≤ n)) ⊎ ((Rattle.std.proofs.Math.Dec.leb m n ≡ Rattle.std.specs.Prelude.false) × (n < m)) → n ≡ m
    by_order (inl (p, a)) (inl (q, b)) = omega arith
    by_order (inr (p, a)) o = absurd (bad_at b m n g f.before a)
    by_order (inl (p, a)) (inr (q, l)) = absurd (bad_at b n m f g.before l)

whole_not_bad : (b : List ℕ) (n : ℕ) → IsFirstBad b n → Begins max_depth b → ⊥
whole_not_bad b n f s = f.bad (begins_whole max_depth (n + 1) b s)

utf8_not_cut : (b : List ℕ) (n : ℕ) → IsUtf8 b → n ≡ utf8_valid_len b → n < length b → ⊥
utf8_not_cut b n u e l = let v = utf8_valid_len-IsUtf8 b u in absurd (omega arith)

prefix_not_bad : (b : List ℕ) (n m : ℕ) → IsFirstBad b n → m ≡ utf8_valid_len b → Begins max_depth (take m b) → ⊥
prefix_not_bad b n m f e s = bad_at b n m f s (let w = f.within in omega arith)

pub one_fault : (b : List ℕ) (c d : JsonCause) (n m : ℕ) → HasFault c b n → HasFault d b m → (n ≡ m) × (c ≡ d)
one_fault b cause.UnexpectedByte cause.UnexpectedByte n m (f, x) (g, y) = (same_bad b n m f g, refl)
one_fault b cause.UnexpectedByte cause.TooDeep n m (f, x) (g, y) = absurd (x (subst (λ (k : ℕ). Begins (max_depth + 1) (take (k + 1) b)) (sym (same_bad b n m f g)) y))
one_fault b cause.UnexpectedByte cause.UnexpectedEnd n m (f, x) (g, u, s, y) = absurd (whole_not_bad b n f s)
one_fault b cause.UnexpectedByte cause.BadUtf8 n m (f, x) (g, u, s) = absurd (prefix_not_bad b n m f g s)
one_fault b cause.UnexpectedByte cause.OutOfMemory n m f g = absurd g
one_fault b cause.TooDeep cause.UnexpectedByte n m (f, x) (g, y) = absurd (y (subst (λ (k : ℕ). Begins (max_depth + 1) (take (k + 1) b)) (same_bad b n m f g) x))
one_fault b cause.TooDeep cause.TooDeep n m (f, x) (g, y) = (same_bad b n m f g, refl)
one_fault b cause.TooDeep cause.UnexpectedEnd n m (f, x) (g, u, s, y) = absurd (whole_not_bad b n f s)
one_fault b cause.TooDeep cause.BadUtf8 n m (f, x) (g, u, s) = absurd (prefix_not_bad b n m f g s)
one_fault b cause.TooDeep cause.OutOfMemory n m f g = absurd g
one_fault b cause.UnexpectedEnd cause.UnexpectedByte n m (f, u, s, x) (g, y) = absurd (whole_not_bad b m g s)
one_fault b cause.UnexpectedEnd cause.TooDeep n m (f, u, s, x) (g, y) = absurd (whole_not_bad b m g s)
one_fault b cause.UnexpectedEnd cause.UnexpectedEnd n m (f, u, s, x) (g, w, t, y) = (f ∙ sym g, refl)
one_fault b cause.UnexpectedEnd cause.BadUtf8 n m (f, u, s, x) (g, w, t) = absurd (utf8_not_cut b m u g w)
one_fault b cause.UnexpectedEnd cause.OutOfMemory n m f g = absurd g
one_fault b cause.BadUtf8 cause.UnexpectedByte n m (f, u, s) (g, y) = absurd (prefix_not_bad b m n g f s)
one_fault b cause.BadUtf8 cause.TooDeep n m (f, u, s) (g, y) = absurd (prefix_not_bad b m n g f s)
one_fault b cause.BadUtf8 cause.UnexpectedEnd n m (f, u, s) (g, w, t, y) = absurd (utf8_not_cut b n w f u)
one_fault b cause.BadUtf8 cause.BadUtf8 n m (f, u, s) (g, w, t) = (f ∙ sym g, refl)
one_fault b cause.BadUtf8 cause.OutOfMemory n m f g = absurd g
one_fault b cause.OutOfMemory d n m f g = absurd f

pub not_both : (b : List ℕ) (v : Placed) (c : JsonCause) (n : ℕ) → IsJson v b → HasFault c b n → ⊥
not_both b v cause.UnexpectedByte n (u, t) (f, x) = whole_not_bad b n f (text_begins max_depth v b t)
not_both b v cause.TooDeep n (u, t) (f, x) = whole_not_bad b n f (text_begins max_depth v b t)
not_both b v cause.UnexpectedEnd n (u, t) (f, w, s, x) = x v t
not_both b v cause.BadUtf8 n (u, t) (f, w, s) = utf8_not_cut b n u f w
not_both b v cause.OutOfMemory n t f = f

-- WHAT THE CALLS ANSWER

-- what is reported of bytes whose longest prefix in UTF-8 is no text, or a text
prefix_fault : (b prefix : List ℕ) (e f : JsonFault) → prefix ≡ take (utf8_valid_len b) b → utf8_valid_len b < length b → IsStop e (run (start max_depth) 0 prefix)
    → (e.cause ≡ cause.UnexpectedEnd → (f.byte ≡ length prefix) × (f.cause ≡ cause.BadUtf8)) → (e.cause ≢ cause.UnexpectedEnd → f ≡ e) → (f ≡ out_of_memory) ⊎ HasFault f.cause b f.byte
prefix_fault b prefix e f p less (inl h) cut other = inl (other (λ z. cc (ap (λ (g : JsonFault). g.cause) h)) ∙ h)
prefix_fault b prefix e f p less (inr h) cut other = inr (by_cause (fault_of_prefix b (utf8_valid_len b) e.byte e.cause refl less (ap (run (start max_depth) 0) (sym p) ∙ h)))
  where
    size : (utf8_valid_len b < length b) → length prefix ≡ utf8_valid_len b
    size less = ap length p ∙ omega (arith, length-take (utf8_valid_len b) b)

    by_cause : ((e.cause ≡ cause.UnexpectedEnd) × HasFault cause.BadUtf8 b (utf8_valid_len b)) ⊎ ((e.cause ≢ cause.UnexpectedEnd) × HasFault e.cause b e.byte) → HasFault f.cause b f.byte
    by_cause (inl (k, g)) =
        let r = cut k in
        subst (λ (c : JsonCause). HasFault c b f.byte) (sym r.1) (subst (HasFault cause.BadUtf8 b) (sym (r.0 ∙ size less)) g)
    by_cause (inr (k, g)) = subst (λ (x : JsonFault). HasFault x.cause b x.byte) (sym (other k)) g

prefix_text : (b prefix : List ℕ) (f : JsonFault) (v : Placed) → prefix ≡ take (utf8_valid_len b) b → utf8_valid_len b < length b → run (start max_depth) 0 prefix ≡ done v.0 v.1
    → f.byte ≡ length prefix → f.cause ≡ cause.BadUtf8 → (f ≡ out_of_memory) ⊎ HasFault f.cause b f.byte
prefix_text b prefix f v p less h n c =
    inr (subst (λ (d : JsonCause). HasFault d b f.byte) (sym c)
    (subst (HasFault cause.BadUtf8 b) (sym (n ∙ ap length p ∙ omega (arith, length-take (utf8_valid_len b) b)))
    (text_then_bad b (utf8_valid_len b) v refl less (ap (run (start max_depth) 0) (sym p) ∙ h))))

pub prefix_answer : (b prefix : List ℕ) (n : ℕ) (r : Result JsonValue JsonFault) (f : JsonFault) → prefix ≡ take (utf8_valid_len b) b → utf8_valid_len b < length b → n ≡ length prefix
    → IfOk r (λ v. run (start max_depth) 0 prefix ≡ done (value_view v).0 (value_view v).1) → IfErr r (λ e. IsStop e (run (start max_depth) 0 prefix))
    → OnOk r ((f.byte ≡ n) × (f.cause ≡ cause.BadUtf8))
    → IfErr r (λ e. (e.cause ≡ cause.UnexpectedEnd → (f.byte ≡ n) × (f.cause ≡ cause.BadUtf8)) × (e.cause ≢ cause.UnexpectedEnd → f ≡ e))
    → (f ≡ out_of_memory) ⊎ HasFault f.cause b f.byte
prefix_answer b prefix n (Ok v) f p less m ok err a o = prefix_text b prefix f (value_view v) p less ok (a.0 ∙ m) a.1
prefix_answer b prefix n (Err e) f p less m ok err a o = prefix_fault b prefix e f p less err (λ z. let x = o.0 z in (x.0 ∙ m, x.1)) o.1

pub record Answers (b : List ℕ) (r : Result JsonValue JsonFault) : Type 0 where
  pub value : IfOk r (λ v. IsJson (value_view v) b)
  pub reported : IfErr r (λ e. (e ≡ out_of_memory) ⊎ HasFault e.cause b e.byte)
  pub accepted : (v : Placed) → IsJson v b → MatchResult r (λ w. value_view w ≡ v) (λ e. e ≡ out_of_memory)
  pub refused : (n : ℕ) (c : JsonCause) → HasFault c b n → IsErrAnd r (λ e. (e ≡ out_of_memory) ⊎ (e ≡ fault n c))

pub answers_err : (b : List ℕ) (e : JsonFault) → (e ≡ out_of_memory) ⊎ HasFault e.cause b e.byte → Answers b (Err e)
answers_err b e h = record {
  value = tt;
  reported = h;
  accepted = λ v is. memory v is h;
  refused = λ n c f. same n c f h;
}
  where
    memory : (v : Placed) → IsJson v b → (e ≡ out_of_memory) ⊎ HasFault e.cause b e.byte → e ≡ out_of_memory
    memory v is (inl m) = m
    memory v is (inr f) = absurd (not_both b v e.cause e.byte is f)

    same : (n : ℕ) (c : JsonCause) → HasFault c b n → (e ≡ out_of_memory) ⊎ HasFault e.cause b e.byte → (e ≡ out_of_memory) ⊎ (e ≡ fault n c)
    same n c f (inl m) = inl m
    same n c f (inr g) = let o = one_fault b e.cause c e.byte n g f in inr (ap (λ (m : ℕ). fault m e.cause) o.0 ∙ ap (fault n) o.1)

pub answers_ok : (b : List ℕ) (v : JsonValue) → IsJson (value_view v) b → Answers b (Ok v)
answers_ok b v is = record {
  value = is;
  reported = tt;
  accepted = λ w other. one_value max_depth (value_view v) w b is.1 other.1;
  refused = λ n c f. absurd (not_both b (value_view v) c n is f);
}

pub answers_of : (b input : List ℕ) (r : Result JsonValue JsonFault) → input ≡ b → IsUtf8 b → IfOk r (λ v. run (start max_depth) 0 input ≡ done (value_view v).0 (value_view v).1)
    → IfErr r (λ e. IsStop e (run (start max_depth) 0 input)) → Answers b r
answers_of b input (Ok v) e u h g = answers_ok b v (u, run_text max_depth (value_view v) b (ap (run (start max_depth) 0) (sym e) ∙ h))
answers_of b input (Err f) e u h g = answers_err b f (by_stop g)
  where
    by_stop : IsStop f (run (start max_depth) 0 input) → (f ≡ out_of_memory) ⊎ HasFault f.cause b f.byte
    by_stop (inl m) = inl m
    by_stop (inr s) = inr (fault_of_text b f.byte f.cause u (ap (run (start max_depth) 0) (sym e) ∙ s))
