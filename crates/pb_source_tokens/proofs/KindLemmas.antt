-- One of many languages, by the kind of the symbol that stands first.
use Rattle.std.proofs.Common.{◌≡◌, ℕ, suc, ◌+◌, ◌≤◌, List, [], ◌∷◌, ◌++◌, length, Bool, true, false, refl, ap, sym, ◌∙◌, subst, append_assoc, length-append, Option, Some, None, Ok, Err, arith}
use Rattle.std.proofs.lemmas.Bool.{false≢true}
use Rattle.pb_source_tokens.specs.declared.rule.Rule.{Rule}
use Rattle.pb_source_tokens.specs.Symbols.{Symbol}
use Rattle.pb_source_tokens.specs.Language.{Language, Rules, all_rules, Begins}
use Rattle.pb_source_tokens.specs.Readers.Forms.{Refusal, Outcome, Reader, first_passes, if_some, on_kind, by_kind}
use Rattle.pb_source_tokens.proofs.ReaderLaws.{Reads, IsStop, Taken, Refused, Allowed, leaves}
use Rattle.pb_source_tokens.proofs.Parts.{err_parts}

abbrev pub first_kind : {K : Type 0} → (Symbol → Option K) → List Symbol → Option K
first_kind kind [] = None
first_kind kind (s ∷ ts) = kind s

-- the words whose first symbol has a kind, and which are words of the kind's language
abbrev pub ByKind : {K A : Type 0} → (Symbol → Option K) → (K → Rules → A → Language) → Rules → A → Language
ByKind {K} kind Line rules v ts = (k : K) × (first_kind kind ts ≡ Some k) × Line k rules v ts

-- the language has this reader, or where there is none, no words
abbrev pub Offers : {A : Type 0} → ℕ → (Symbol → Bool) → (Rules → A → Language) → Option (Reader A) → Type 0
Offers {A} n e R None = (rules : Rules) (v : A) (c : List Symbol) → R rules v c → ⊥
Offers n e R (Some p) = Reads n e R p

-- where no symbol of any kind passes, no word's first symbol does
pub kinds_fail : {K A : Type 0} (kind : Symbol → Option K) (Line : K → Rules → A → Language) (test : Symbol → Bool) → ((s : Symbol) → test s ≡ true → kind s ≡ None)
    → (rules : Rules) (v : A) (c rest : List Symbol) → ByKind kind Line rules v c → first_passes test (c ++ rest) ≡ false
kinds_fail kind Line test none rules v [] rest (k, h, d) = absurd (cc h)
kinds_fail kind Line test none rules v (s ∷ c) rest (k, h, d) = by_test (test s) refl
  where
    by_test : (b : Bool) → test s ≡ b → test s ≡ false
    by_test true e = absurd (let z = none s e in cc (z, h))
    by_test false e = e

pub kinds_filled : {K A : Type 0} (kind : Symbol → Option K) (Line : K → Rules → A → Language) (rules : Rules) (v : A) (c : List Symbol) → ByKind kind Line rules v c → 1 ≤ length c
kinds_filled kind Line rules v [] (k, h, d) = absurd (cc h)
kinds_filled kind Line rules v (s ∷ c) (k, h, d) = omega arith

module _ {K A : Type 0} (n : ℕ) (e : Symbol → Bool) (kind : Symbol → Option K) (Line : K → Rules → A → Language) (p : K → Option (Reader A))
    (offers : (k : K) → Offers n e (Line k) (p k))
    (filled : (k : K) (rules : Rules) (v : A) → Line k rules v [] → ⊥)
    (some : (rules : Rules) → (v : A) × (c : List Symbol) × ByKind kind Line rules v c) where
  abbrev L : Rules → A → Language
  L = ByKind kind Line

  apart : {o : Outcome A} {x : A × List Symbol} {y : Refusal} → o ≡ Err y → o ≡ Ok x → ⊥
  apart h k = cc (h, k)

  parts : {x y : List Symbol} {c d : Option Rule} {o : Outcome A} → o ≡ Err (x, c) → o ≡ Err (y, d) → (x ≡ y) × (c ≡ d)
  parts {x} {y} {c} {d} h k = err_parts {A = A} {x = x} {y = y} {c = c} {d = d} (sym h ∙ k)

  same_kind : {j k : K} {o : Option K} → o ≡ Some j → o ≡ Some k → j ≡ k
  same_kind h k = cc (h, k)

  data Seen (s : Symbol) : Type 0 where
    found : (k : K) (q : Reader A) → kind s ≡ Some k → Reads n e (Line k) q → ((rules : Rules) (ts : List Symbol) → by_kind kind p rules (s ∷ ts) ≡ q rules (s ∷ ts)) → Seen s
    none : ((k : K) (rules : Rules) (v : A) (c : List Symbol) → kind s ≡ Some k → Line k rules v c → ⊥)
        → ((rules : Rules) (ts : List Symbol) → by_kind kind p rules (s ∷ ts) ≡ Err (s ∷ ts, None)) → Seen s

  seen : (s : Symbol) → Seen s
  seen s = by_option (kind s) refl
    where
      by_offer : (k : K) → kind s ≡ Some k → (o : Option (Reader A)) → p k ≡ o → Offers n e (Line k) o → Seen s
      by_offer k h (Some q) g r = Seen.found k q h r (λ rules ts. ap (λ o. on_kind p o rules (s ∷ ts)) h ∙ ap (λ o. if_some o rules (s ∷ ts)) g)
      by_offer k h None g r =
          Seen.none (λ j rules v c i d. r rules v c (subst (λ j. Line j rules v c) (same_kind i h) d))
          (λ rules ts. ap (λ o. on_kind p o rules (s ∷ ts)) h ∙ ap (λ o. if_some o rules (s ∷ ts)) g)

      by_option : (o : Option K) → kind s ≡ o → Seen s
      by_option (Some k) h = by_offer k h (p k) refl (offers k)
      by_option None h = Seen.none (λ k rules v c i d. cc (h, i)) (λ rules ts. ap (λ o. on_kind p o rules (s ∷ ts)) h)

  head_same : (s t : Symbol) (x y : List Symbol) → s ∷ x ≡ t ∷ y → t ≡ s
  head_same s t x y h = cc h

  -- what stands before the rest, of symbols that begin with this one, has its kind
  headed : (k : K) (s : Symbol) (ts c rest : List Symbol) → s ∷ ts ≡ c ++ rest → (c ≡ [] → ⊥) → kind s ≡ Some k → first_kind kind c ≡ Some k
  headed k s ts [] rest j some h = absurd (some refl)
  headed k s ts (t ∷ c) rest j some h = ap kind (head_same s t ts (c ++ rest) j) ∙ h

  begins_so : (k : K) (rules : Rules) (s : Symbol) (ts front rest : List Symbol) → s ∷ ts ≡ front ++ rest → kind s ≡ Some k → Begins (Line k rules) front → Begins (L rules) front
  begins_so k rules s ts [] rest j h b = some rules
  begins_so k rules s ts (t ∷ front) rest j h (v, more, d) = (v, more, (k, ap kind (head_same s t ts (front ++ rest) j) ∙ h, d))

  kind_sound : (rules : Rules) (ts : List Symbol) (v : A) (rest : List Symbol) → length ts ≤ n → by_kind kind p rules ts ≡ Ok (v, rest) → Taken (L rules) ts v rest
  kind_sound rules [] v rest l h = absurd (apart refl h)
  kind_sound rules (s ∷ ts) v rest l h = by_seen (seen s)
    where
      by_seen : Seen s → Taken (L rules) (s ∷ ts) v rest
      by_seen (Seen.found k q i r g) =
          let a = r.sound rules (s ∷ ts) v rest l (sym (g rules ts) ∙ h) in
          record {
            taken = a.taken;
            joined = a.joined;
            derived = (k, headed k s ts a.taken rest a.joined (λ z. filled k rules v (subst (Line k rules v) z a.derived)) i, a.derived);
          }
      by_seen (Seen.none i g) = absurd (apart (g rules ts) h)

  kind_complete : (rules : Rules) (v : A) (c rest : List Symbol) → length (c ++ rest) ≤ n → L rules v c → IsStop e rest → by_kind kind p rules (c ++ rest) ≡ Ok (v, rest)
  kind_complete rules v [] rest l (k, i, d) stop = absurd (cc i)
  kind_complete rules v (s ∷ c) rest l (k, i, d) stop = by_seen (seen s)
    where
      by_seen : Seen s → by_kind kind p rules (s ∷ (c ++ rest)) ≡ Ok (v, rest)
      by_seen (Seen.found j q z r g) = g rules (c ++ rest) ∙ r.complete rules v (s ∷ c) rest l (subst (λ k. Line k rules v (s ∷ c)) (same_kind i z) d) stop
      by_seen (Seen.none f g) = absurd (f k rules v (s ∷ c) i d)

  kind_again : (rules : Rules) (c : List Symbol) (v : A) (t : Symbol) (x y : List Symbol) → length (c ++ t ∷ x) ≤ n → length (c ++ t ∷ y) ≤ n
      → by_kind kind p rules (c ++ t ∷ x) ≡ Ok (v, t ∷ x) → by_kind kind p rules (c ++ t ∷ y) ≡ Ok (v, t ∷ y)
  kind_again rules [] v t x y l m h = by_seen (seen t)
    where
      by_seen : Seen t → by_kind kind p rules (t ∷ y) ≡ Ok (v, t ∷ y)
      by_seen (Seen.found k q z r g) = g rules y ∙ r.again rules [] v t x y l m (sym (g rules x) ∙ h)
      by_seen (Seen.none z g) = absurd (apart (g rules x) h)
  kind_again rules (s ∷ c) v t x y l m h = by_seen (seen s)
    where
      by_seen : Seen s → by_kind kind p rules (s ∷ (c ++ t ∷ y)) ≡ Ok (v, t ∷ y)
      by_seen (Seen.found k q z r g) = g rules (c ++ t ∷ y) ∙ r.again rules (s ∷ c) v t x y l m (sym (g rules (c ++ t ∷ x)) ∙ h)
      by_seen (Seen.none z g) = absurd (apart (g rules (c ++ t ∷ x)) h)

  kind_refused : (rules : Rules) (ts rest : List Symbol) (why : Option Rule) → length ts ≤ n → by_kind kind p rules ts ≡ Err (rest, why) → Refused (L rules) ts rest
  kind_refused rules [] rest why l h = record { front = []; joined = (parts refl h).0; begins = some rules }
  kind_refused rules (s ∷ ts) rest why l h = by_seen (seen s)
    where
      by_seen : Seen s → Refused (L rules) (s ∷ ts) rest
      by_seen (Seen.found k q i r g) =
          let a = r.refused rules (s ∷ ts) rest why l (sym (g rules ts) ∙ h) in
          record { front = a.front; joined = a.joined; begins = begins_so k rules s ts a.front rest a.joined i a.begins }
      by_seen (Seen.none k g) = record { front = []; joined = (parts (g rules ts) h).0; begins = some rules }

  kind_at_end : (rules : Rules) (ts : List Symbol) (why : Option Rule) → length ts ≤ n → by_kind kind p rules ts ≡ Err ([], why) → why ≡ None
  kind_at_end rules [] why l h = sym (parts refl h).1
  kind_at_end rules (s ∷ ts) why l h = by_seen (seen s)
    where
      by_seen : Seen s → why ≡ None
      by_seen (Seen.found k q i r g) = r.at_end rules (s ∷ ts) why l (sym (g rules ts) ∙ h)
      by_seen (Seen.none k g) = sym (parts (g rules ts) h).1

  kind_stuck :
      (rules : Rules) (front : List Symbol) (t : Symbol) (x y : List Symbol) (why : Option Rule) → length (front ++ t ∷ x) ≤ n → length (front ++ t ∷ y) ≤ n
      → by_kind kind p rules (front ++ t ∷ x) ≡ Err (t ∷ x, why) → by_kind kind p rules (front ++ t ∷ y) ≡ Err (t ∷ y, why)
  kind_stuck rules [] t x y why l m h = by_seen (seen t)
    where
      by_seen : Seen t → by_kind kind p rules (t ∷ y) ≡ Err (t ∷ y, why)
      by_seen (Seen.found k q i r g) = g rules y ∙ r.stuck rules [] t x y why l m (sym (g rules x) ∙ h)
      by_seen (Seen.none i g) = g rules y ∙ ap (λ w. Err (t ∷ y, w)) (parts (g rules x) h).1
  kind_stuck rules (s ∷ c) t x y why l m h = by_seen (seen s)
    where
      longer : (a b : ℕ) → suc (a + suc b) ≡ suc b → ⊥
      longer a b z = omega arith

      by_seen : Seen s → by_kind kind p rules (s ∷ (c ++ t ∷ y)) ≡ Err (t ∷ y, why)
      by_seen (Seen.found k q i r g) = g rules (c ++ t ∷ y) ∙ r.stuck rules (s ∷ c) t x y why l m (sym (g rules (c ++ t ∷ x)) ∙ h)
      by_seen (Seen.none i g) =
          absurd (longer (length c) (length x) (ap (λ m. suc m) (sym (length-append c (t ∷ x))) ∙ ap length (parts (g rules (c ++ t ∷ x)) h).0))

  kind_kept : (rules : Rules) (ts : List Symbol) (v : A) (rest : List Symbol) → length ts ≤ n → by_kind kind p all_rules ts ≡ Ok (v, rest) → by_kind kind p rules ts ≡ Ok (v, rest)
  kind_kept rules [] v rest l h = absurd (apart refl h)
  kind_kept rules (s ∷ ts) v rest l h = by_seen (seen s)
    where
      by_seen : Seen s → by_kind kind p rules (s ∷ ts) ≡ Ok (v, rest)
      by_seen (Seen.found k q i r g) = g rules ts ∙ r.kept rules (s ∷ ts) v rest l (sym (g all_rules ts) ∙ h)
      by_seen (Seen.none i g) = absurd (apart (g all_rules ts) h)

  kind_same : (rules : Rules) (ts rest : List Symbol) (why : Option Rule) → length ts ≤ n → leaves rules why ≡ false → by_kind kind p all_rules ts ≡ Err (rest, why) → by_kind kind p rules ts ≡ Err (rest, why)
  kind_same rules [] rest why l z h = h
  kind_same rules (s ∷ ts) rest why l z h = by_seen (seen s)
    where
      by_seen : Seen s → by_kind kind p rules (s ∷ ts) ≡ Err (rest, why)
      by_seen (Seen.found k q i r g) = g rules ts ∙ r.same rules (s ∷ ts) rest why l z (sym (g all_rules ts) ∙ h)
      by_seen (Seen.none i g) = g rules ts ∙ sym (g all_rules ts) ∙ h

  kind_allowed : (rules : Rules) (ts rest : List Symbol) (why : Option Rule) → length ts ≤ n → leaves rules why ≡ true → by_kind kind p all_rules ts ≡ Err (rest, why) → Allowed (L rules) ts rest
  kind_allowed rules [] rest why l z h = absurd (false≢true (ap (leaves rules) (parts refl h).1 ∙ z))
  kind_allowed rules (s ∷ ts) rest why l z h = by_seen (seen s)
    where
      by_seen : Seen s → Allowed (L rules) (s ∷ ts) rest
      by_seen (Seen.found k q i r g) =
          let a = r.allowed rules (s ∷ ts) rest why l z (sym (g all_rules ts) ∙ h) in
          record {
            front = a.front;
            symbol = a.symbol;
            more = a.more;
            left = a.left;
            joined = a.joined;
            begins = begins_so k rules s ts (a.front ++ a.symbol ∷ []) a.more (a.joined ∙ sym (append_assoc a.front (a.symbol ∷ []) a.more)) i a.begins;
          }
      by_seen (Seen.none i g) = absurd (false≢true (ap (leaves rules) (parts (g all_rules ts) h).1 ∙ z))

  pub reads_kinds : Reads n e L (by_kind kind p)
  reads_kinds = record {
    sound = kind_sound;
    complete = kind_complete;
    again = kind_again;
    refused = kind_refused;
    at_end = kind_at_end;
    stuck = kind_stuck;
    some_word = some;
    kept = kind_kept;
    same = kind_same;
    allowed = kind_allowed;
  }
