-- Readers of one thing after another, with the values of both or of one.
use Rattle.std.proofs.Common.{◌≡◌, ℕ, List, [], ◌∷◌, ◌++◌, Bool, true, false, refl, ap, sym, ◌∙◌, subst, append-nil, arith}
use Rattle.pb_source_tokens.specs.Symbols.{Symbol}
use Rattle.pb_source_tokens.specs.Language.{Language, ◌▸◌, ◌or◌, Rules, all_rules}
use Rattle.pb_source_tokens.specs.Readers.Forms.{Reader, answer, mapped, both, preceded, before, choice, first_passes}
use Rattle.pb_source_tokens.proofs.ReaderLaws.{Reads, IsStop, Chained, reads_chain}
use Rattle.pb_source_tokens.proofs.Parts.{Answered, reads_answer, reads_as, reads_choice}

-- every symbol may follow
abbrev pub never : Symbol → Bool
never _ = false

pub any_stop : (rest : List Symbol) → IsStop never rest
any_stop [] = tt
any_stop (s ∷ ts) = refl

-- what is read, and what stops it, stops the reader before it
abbrev pub Stops : {B : Type 0} → (Symbol → Bool) → (Symbol → Bool) → (Rules → B → Language) → Type 0
Stops {B} first second S = (rules : Rules) (w : B) (c rest : List Symbol) → S rules w c → IsStop second rest → IsStop first (c ++ rest)

abbrev pub Mapped : {A B : Type 0} → (A → B) → (Rules → A → Language) → Rules → B → Language
Mapped {A} g R rules w ts = (v : A) × (w ≡ g v) × R rules v ts

abbrev pub Both : {A B : Type 0} → (Rules → A → Language) → (Rules → B → Language) → Rules → A × B → Language
Both R S rules x = R rules x.0 ▸ S rules x.1

abbrev pub Behind : {B : Type 0} → (Rules → Language) → (Rules → B → Language) → Rules → B → Language
Behind L S rules w = L rules ▸ S rules w

abbrev pub Before : {A : Type 0} → (Rules → A → Language) → (Rules → Language) → Rules → A → Language
Before R L rules v = R rules v ▸ L rules

pub reads_mapped : {A B : Type 0} {n : ℕ} {e : Symbol → Bool} {R : Rules → A → Language} {p : Reader A} (g : A → B) → Reads n e R p → Reads n e (Mapped g R) (mapped g p)
reads_mapped {A} {B} {n} {e} {R} {p} g r =
    reads_as n e (Chained R (λ v. Answered (g v))) (Mapped g R) (mapped g p)
    (reads_chain n n e e R (λ v. Answered (g v)) p (λ v. answer (g v)) r (λ v. reads_answer n e (g v))
    (λ rules v w c rest d s. subst (λ z. IsStop e (z ++ rest)) (sym d.1) s) (λ rules v c d. omega arith))
    to from
  where
    to : (rules : Rules) (w : B) (c : List Symbol) → Chained R (λ v. Answered (g v)) rules w c → Mapped g R rules w c
    to rules w c (v, (a, b, ha, hb, j)) = (v, hb.0, subst (R rules v) (sym (j ∙ ap (λ r. a ++ r) hb.1 ∙ append-nil a)) ha)

    from : (rules : Rules) (w : B) (c : List Symbol) → Mapped g R rules w c → Chained R (λ v. Answered (g v)) rules w c
    from rules w c (v, h, d) = (v, (c, [], d, (h, refl), sym (append-nil c)))

pub reads_both_so : {A B : Type 0} {n : ℕ} {e1 e2 : Symbol → Bool} {R : Rules → A → Language} {S : Rules → B → Language} {p : Reader A} {q : Reader B}
    → Reads n e1 R p → Reads n e2 S q → Stops e1 e2 S → Reads n e2 (Both R S) (both p q)
reads_both_so {A} {B} {n} {e1} {e2} {R} {S} {p} {q} rp rq stops =
    reads_as n e2 (Chained R (λ v. Mapped (λ w. (v, w)) S)) (Both R S) (both p q)
    (reads_chain n n e1 e2 R (λ v. Mapped (λ w. (v, w)) S) p (λ v. mapped (λ w. (v, w)) q) rp (λ v. reads_mapped (λ w. (v, w)) rq)
    (λ rules v x c rest d s. stops rules d.0 c rest d.2 s) (λ rules v c d. omega arith))
    to from
  where
    to : (rules : Rules) (x : A × B) (c : List Symbol) → Chained R (λ v. Mapped (λ w. (v, w)) S) rules x c → Both R S rules x c
    to rules x c (v, (a, b, ha, (w, h, hb), j)) = subst (λ x. Both R S rules x c) (sym h) (a, b, ha, hb, j)

    from : (rules : Rules) (x : A × B) (c : List Symbol) → Both R S rules x c → Chained R (λ v. Mapped (λ w. (v, w)) S) rules x c
    from rules x c (a, b, ha, hb, j) = (x.0, (a, b, ha, (x.1, refl, hb), j))

pub reads_both : {A B : Type 0} {n : ℕ} {e : Symbol → Bool} {R : Rules → A → Language} {S : Rules → B → Language} {p : Reader A} {q : Reader B}
    → Reads n never R p → Reads n e S q → Reads n e (Both R S) (both p q)
reads_both rp rq = reads_both_so rp rq (λ rules w c rest d s. any_stop (c ++ rest))

pub reads_behind_so : {B : Type 0} {n : ℕ} {e1 e2 : Symbol → Bool} {L : Rules → Language} {S : Rules → B → Language} {p : Reader (Unit {0})} {q : Reader B}
    → Reads n e1 (λ rules u. L rules) p → Reads n e2 S q → Stops e1 e2 S → Reads n e2 (Behind L S) (preceded p q)
reads_behind_so {B} {n} {e1} {e2} {L} {S} {p} {q} rp rq stops =
    reads_as n e2 (Chained (λ rules u. L rules) (λ u. S)) (Behind L S) (preceded p q)
    (reads_chain n n e1 e2 (λ rules u. L rules) (λ u. S) p (λ u. q) rp (λ u. rq) (λ rules v w c rest d s. stops rules w c rest d s) (λ rules v c d. omega arith))
    (λ rules w c d. d.1) (λ rules w c d. (tt, d))

pub reads_behind : {B : Type 0} {n : ℕ} {e : Symbol → Bool} {L : Rules → Language} {S : Rules → B → Language} {p : Reader (Unit {0})} {q : Reader B}
    → Reads n never (λ rules u. L rules) p → Reads n e S q → Reads n e (Behind L S) (preceded p q)
reads_behind rp rq = reads_behind_so rp rq (λ rules w c rest d s. any_stop (c ++ rest))

pub reads_before_so : {A : Type 0} {n : ℕ} {e1 e2 : Symbol → Bool} {R : Rules → A → Language} {L : Rules → Language} {p : Reader A} {q : Reader (Unit {0})}
    → Reads n e1 R p → Reads n e2 (λ rules u. L rules) q → Stops {B = Unit {0}} e1 e2 (λ rules u. L rules) → Reads n e2 (Before R L) (before p q)
reads_before_so {A} {n} {e1} {e2} {R} {L} {p} {q} rp rq stops =
    reads_as n e2 (Chained R (λ v. Mapped {A = Unit {0}} (λ _. v) (λ rules u. L rules))) (Before R L) (before p q)
    (reads_chain n n e1 e2 R (λ v. Mapped {A = Unit {0}} (λ _. v) (λ rules u. L rules)) p (λ v. mapped (λ _. v) q) rp (λ v. reads_mapped (λ _. v) rq)
    (λ rules v x c rest d s. stops rules tt c rest d.2 s) (λ rules v c d. omega arith))
    to from
  where
    to : (rules : Rules) (x : A) (c : List Symbol) → Chained R (λ v. Mapped {A = Unit {0}} (λ _. v) (λ rules u. L rules)) rules x c → Before R L rules x c
    to rules x c (v, (a, b, ha, (u, h, hb), j)) = subst (λ x. Before R L rules x c) (sym h) (a, b, ha, hb, j)

    from : (rules : Rules) (x : A) (c : List Symbol) → Before R L rules x c → Chained R (λ v. Mapped {A = Unit {0}} (λ _. v) (λ rules u. L rules)) rules x c
    from rules x c (a, b, ha, hb, j) = (x, (a, b, ha, (tt, refl, hb), j))

pub reads_before : {A : Type 0} {n : ℕ} {e : Symbol → Bool} {R : Rules → A → Language} {L : Rules → Language} {p : Reader A} {q : Reader (Unit {0})}
    → Reads n never R p → Reads n e (λ rules u. L rules) q → Reads n e (Before R L) (before p q)
reads_before rp rq = reads_before_so rp rq (λ rules w c rest d s. any_stop (c ++ rest))

-- the value is let go
pub reads_some : {A : Type 0} {n : ℕ} {e : Symbol → Bool} {R : Rules → A → Language} {p : Reader A}
    → Reads n e R p → Reads n e (λ rules (u : Unit {0}) ts. (v : A) × R rules v ts) (mapped (λ _. tt) p)
reads_some {A} {n} {e} {R} {p} r =
    reads_as n e (Mapped (λ _. tt) R) (λ rules u ts. (v : A) × R rules v ts) (mapped (λ _. tt) p) (reads_mapped (λ _. tt) r)
    (λ rules u c d. (d.0, d.2)) (λ rules u c d. (d.0, refl, d.1))

-- the same language said otherwise
pub said_so : {A : Type 0} {n : ℕ} {e : Symbol → Bool} {R Q : Rules → A → Language} {p : Reader A} → Reads n e R p
    → ((rules : Rules) (v : A) (c : List Symbol) → R rules v c → Q rules v c) → ((rules : Rules) (v : A) (c : List Symbol) → Q rules v c → R rules v c) → Reads n e Q p
said_so {A} {n} {e} {R} {Q} {p} r to from = reads_as n e R Q p r to from

-- one of two, by the symbol that stands first
pub reads_either : {A : Type 0} {n : ℕ} {e : Symbol → Bool} {R S : Rules → A → Language} {p q : Reader A} (test : Symbol → Bool) → Reads n e R p → Reads n e S q
    → ((rules : Rules) (v : A) (c : List Symbol) → R rules v c → first_passes test c ≡ true)
    → ((rules : Rules) (v : A) (c rest : List Symbol) → S rules v c → IsStop e rest → first_passes test (c ++ rest) ≡ false)
    → Reads n e (λ rules v. R rules v or S rules v) (choice test p q)
reads_either {A} {n} {e} {R} {S} {p} {q} test rp rq begins begins_not = reads_choice n e test R S p q rp rq begins begins_not

-- a reader that gives the same on all symbols
pub reads_equal : {A : Type 0} {n : ℕ} {e : Symbol → Bool} {R : Rules → A → Language} {p q : Reader A} → Reads n e R p → ((rules : Rules) (ts : List Symbol) → q rules ts ≡ p rules ts) → Reads n e R q
reads_equal r f = record {
  sound = λ rules ts v rest l h. r.sound rules ts v rest l (sym (f rules ts) ∙ h);
  complete = λ rules v c rest l d stop. f rules (c ++ rest) ∙ r.complete rules v c rest l d stop;
  again = λ rules c v t x y l k h. f rules (c ++ t ∷ y) ∙ r.again rules c v t x y l k (sym (f rules (c ++ t ∷ x)) ∙ h);
  refused = λ rules ts rest why l h. r.refused rules ts rest why l (sym (f rules ts) ∙ h);
  at_end = λ rules ts why l h. r.at_end rules ts why l (sym (f rules ts) ∙ h);
  stuck = λ rules front t x y why l k h. f rules (front ++ t ∷ y) ∙ r.stuck rules front t x y why l k (sym (f rules (front ++ t ∷ x)) ∙ h);
  some_word = r.some_word;
  kept = λ rules ts v rest l h. f rules ts ∙ r.kept rules ts v rest l (sym (f all_rules ts) ∙ h);
  same = λ rules ts rest why l z h. f rules ts ∙ r.same rules ts rest why l z (sym (f all_rules ts) ∙ h);
  allowed = λ rules ts rest why l z h. r.allowed rules ts rest why l z (sym (f all_rules ts) ∙ h);
}
