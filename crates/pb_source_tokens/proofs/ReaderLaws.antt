-- What a reader of a language owes, and that readers built of readers owe it too.
use Rattle.std.proofs.Common.{◌≡◌, ℕ, ◌+◌, ◌≤◌, List, [], ◌∷◌, ◌++◌, length, Bool, true, false, not, refl, ap, sym, ◌∙◌, subst, append_assoc, length-append, Option, Some, None, Ok, Err, arith, ◌⊎◌, inl, inr}
use Rattle.std.proofs.lemmas.List.{append_cancel_right}
use Rattle.pb_source_tokens.specs.Symbols.{Symbol}
use Rattle.pb_source_tokens.specs.Language.{Language, ◌▸◌, Rules, all_rules, Begins}
use Rattle.pb_source_tokens.specs.declared.rule.Rule.{Rule}
use Rattle.pb_source_tokens.specs.Readers.Forms.{Refusal, Outcome, Reader, on_outcome, chain}

-- the rule is left out
abbrev pub leaves : Rules → Option Rule → Bool
leaves rules None = false
leaves rules (Some r) = not (rules r)

-- the rest does not begin with a symbol that would be read too
abbrev pub IsStop : (Symbol → Bool) → List Symbol → Type 0
IsStop extends [] = Unit {0}
IsStop extends (s ∷ ts) = extends s ≡ false

-- what was read
pub record Taken {A : Type 0} (R : A → Language) (ts : List Symbol) (v : A) (rest : List Symbol) : Type 0 where
  pub taken : List Symbol
  pub joined : ts ≡ taken ++ rest
  pub derived : R v taken

-- what stands before a refused symbol begins a word
pub record Refused {A : Type 0} (R : A → Language) (ts : List Symbol) (rest : List Symbol) : Type 0 where
  pub front : List Symbol
  pub joined : ts ≡ front ++ rest
  pub begins : Begins R front

-- and with it too
pub record Allowed {A : Type 0} (R : A → Language) (ts : List Symbol) (rest : List Symbol) : Type 0 where
  pub front : List Symbol
  pub symbol : Symbol
  pub more : List Symbol
  pub left : rest ≡ symbol ∷ more
  pub joined : ts ≡ front ++ symbol ∷ more
  pub begins : Begins R (front ++ symbol ∷ [])

-- Of at most n symbols, the reader reads exactly the words of the language, where no symbol follows that extends one, and refuses the symbol with
-- which no word goes on, whatever follows.
pub record Reads {A : Type 0} (n : ℕ) (extends : Symbol → Bool) (R : Rules → A → Language) (p : Reader A) : Type 0 where
  pub sound : (rules : Rules) (ts : List Symbol) (v : A) (rest : List Symbol) → length ts ≤ n → p rules ts ≡ Ok (v, rest) → Taken (R rules) ts v rest
  pub complete : (rules : Rules) (v : A) (c rest : List Symbol) → length (c ++ rest) ≤ n → R rules v c → IsStop extends rest → p rules (c ++ rest) ≡ Ok (v, rest)
  -- what was read is read again, whatever comes after the symbol that follows it
  pub again :
      (rules : Rules) (c : List Symbol) (v : A) (t : Symbol) (x y : List Symbol) → length (c ++ t ∷ x) ≤ n → length (c ++ t ∷ y) ≤ n
      → p rules (c ++ t ∷ x) ≡ Ok (v, t ∷ x) → p rules (c ++ t ∷ y) ≡ Ok (v, t ∷ y)
  pub refused : (rules : Rules) (ts rest : List Symbol) (why : Option Rule) → length ts ≤ n → p rules ts ≡ Err (rest, why) → Refused (R rules) ts rest
  pub at_end : (rules : Rules) (ts : List Symbol) (why : Option Rule) → length ts ≤ n → p rules ts ≡ Err ([], why) → why ≡ None
  pub stuck :
      (rules : Rules) (front : List Symbol) (t : Symbol) (x y : List Symbol) (why : Option Rule) → length (front ++ t ∷ x) ≤ n → length (front ++ t ∷ y) ≤ n
      → p rules (front ++ t ∷ x) ≡ Err (t ∷ x, why) → p rules (front ++ t ∷ y) ≡ Err (t ∷ y, why)
  pub some_word : (rules : Rules) → (v : A) × (c : List Symbol) × R rules v c
  -- a rule that is left out changes no answer but its own refusals
  pub kept : (rules : Rules) (ts : List Symbol) (v : A) (rest : List Symbol) → length ts ≤ n → p all_rules ts ≡ Ok (v, rest) → p rules ts ≡ Ok (v, rest)
  pub same :
      (rules : Rules) (ts rest : List Symbol) (why : Option Rule) → length ts ≤ n → leaves rules why ≡ false → p all_rules ts ≡ Err (rest, why) → p rules ts ≡ Err (rest, why)
  pub allowed : (rules : Rules) (ts rest : List Symbol) (why : Option Rule) → length ts ≤ n → leaves rules why ≡ true → p all_rules ts ≡ Err (rest, why) → Allowed (R rules) ts rest

-- ---- one reader and then another

pub bind_ok : {A B : Type 0} (o : Outcome A) (f : A → List Symbol → Outcome B) (y : B × List Symbol) → on_outcome o f ≡ Ok y → (v : A) × (mid : List Symbol) × (o ≡ Ok (v, mid)) × (f v mid ≡ Ok y)
bind_ok (Ok x) f y h = (x.0, x.1, refl, h)
bind_ok (Err e) f y h = absurd (cc h)

bind_err : {A B : Type 0} (o : Outcome A) (f : A → List Symbol → Outcome B) (e : Refusal) → on_outcome o f ≡ Err e → (o ≡ Err e) ⊎ ((v : A) × (mid : List Symbol) × (o ≡ Ok (v, mid)) × (f v mid ≡ Err e))
bind_err (Ok x) f e h = inr (x.0, x.1, refl, h)
bind_err (Err d) f e h = inl (ap Err (cc h))

-- what is left is within what is left of the bound
within : (n m : ℕ) (ts c mid : List Symbol) → ts ≡ c ++ mid → length ts ≤ n → n ≤ m + length c → length mid ≤ m
within n m ts c mid j l f = let e : length ts ≡ length c + length mid = ap length j ∙ length-append c mid in omega arith

-- what the second reader reads stops the first
abbrev pub Follows : {A B : Type 0} → (Symbol → Bool) → (Symbol → Bool) → (R : Rules → A → Language) → (A → Rules → B → Language) → Type 0
Follows {A} {B} first second R S =
    (rules : Rules) (v : A) (w : B) (c rest : List Symbol) → S v rules w c → IsStop second rest → IsStop first (c ++ rest)

-- R and then S, for some value of R
abbrev pub Chained : {A B : Type 0} → (Rules → A → Language) → (A → Rules → B → Language) → Rules → B → Language
Chained {A} R S rules w ts = (v : A) × (R rules v ▸ S v rules w) ts

-- What a reader gave with this front read is given again, whatever comes after the first symbol of what was left.
again_at : {A : Type 0} {n : ℕ} {e : Symbol → Bool} {R : Rules → A → Language} {p : Reader A} → Reads n e R p
    → (rules : Rules) (c : List Symbol) (v : A) (d : List Symbol) (t : Symbol) (x y : List Symbol)
    → length (c ++ (d ++ t ∷ x)) ≤ n → length (c ++ (d ++ t ∷ y)) ≤ n
    → p rules (c ++ (d ++ t ∷ x)) ≡ Ok (v, d ++ t ∷ x) → p rules (c ++ (d ++ t ∷ y)) ≡ Ok (v, d ++ t ∷ y)
again_at r rules c v [] t x y l m h = r.again rules c v t x y l m h
again_at r rules c v (s ∷ d) t x y l m h = r.again rules c v s (d ++ t ∷ x) (d ++ t ∷ y) l m h

module _ {A B : Type 0} (n m : ℕ) (e1 e2 : Symbol → Bool) (R : Rules → A → Language) (S : A → Rules → B → Language) (p : Reader A) (q : A → Reader B)
    (rp : Reads n e1 R p) (rq : (v : A) → Reads m e2 (S v) (q v)) (follows : Follows e1 e2 R S)
    (fits : (rules : Rules) (v : A) (c : List Symbol) → R rules v c → n ≤ m + length c) where
  chain_sound : (rules : Rules) (ts : List Symbol) (w : B) (rest : List Symbol) → length ts ≤ n → chain p q rules ts ≡ Ok (w, rest) → Taken (Chained R S rules) ts w rest
  chain_sound rules ts w rest l h =
      let b = bind_ok (p rules ts) (λ v r. q v rules r) (w, rest) h in
      let x = rp.sound rules ts b.0 b.1 l b.2 in
      let y = (rq b.0).sound rules b.1 w rest (within n m ts x.taken b.1 x.joined l (fits rules b.0 x.taken x.derived)) b.3 in
      record {
        taken = x.taken ++ y.taken;
        joined = x.joined ∙ ap (λ r. x.taken ++ r) y.joined ∙ sym (append_assoc x.taken y.taken rest);
        derived = (b.0, (x.taken, y.taken, x.derived, y.derived, refl));
      }

  chain_complete : (rules : Rules) (w : B) (c rest : List Symbol) → length (c ++ rest) ≤ n → Chained R S rules w c → IsStop e2 rest → chain p q rules (c ++ rest) ≡ Ok (w, rest)
  chain_complete rules w c rest l (v, (a, b, ha, hb, j)) stop =
      let e : c ++ rest ≡ a ++ (b ++ rest) = ap (λ ts. ts ++ rest) j ∙ append_assoc a b rest in
      ap (λ ts. chain p q rules ts) e
      ∙ ap (λ o. on_outcome o (λ v r. q v rules r)) (rp.complete rules v a (b ++ rest) (subst (λ ts. length ts ≤ n) e l) ha (follows rules v w b rest hb stop))
      ∙ (rq v).complete rules w b rest (within n m (c ++ rest) a (b ++ rest) e l (fits rules v a ha)) hb stop

  chain_again : (rules : Rules) (c : List Symbol) (w : B) (t : Symbol) (x y : List Symbol) → length (c ++ t ∷ x) ≤ n → length (c ++ t ∷ y) ≤ n
      → chain p q rules (c ++ t ∷ x) ≡ Ok (w, t ∷ x) → chain p q rules (c ++ t ∷ y) ≡ Ok (w, t ∷ y)
  chain_again rules c w t x y l k h =
      let b = bind_ok (p rules (c ++ t ∷ x)) (λ v r. q v rules r) (w, t ∷ x) h in
      let v = b.0 in
      let a = rp.sound rules (c ++ t ∷ x) v b.1 l b.2 in
      let f = fits rules v a.taken a.derived in
      let lm = within n m (c ++ t ∷ x) a.taken b.1 a.joined l f in
      let d = (rq v).sound rules b.1 w (t ∷ x) lm b.3 in
      let split : c ≡ a.taken ++ d.taken = append_cancel_right c (a.taken ++ d.taken) (t ∷ x) (a.joined ∙ ap (λ r. a.taken ++ r) d.joined ∙ sym (append_assoc a.taken d.taken (t ∷ x))) in
      let at : (z : List Symbol) → c ++ t ∷ z ≡ a.taken ++ (d.taken ++ t ∷ z) = λ z. ap (λ r. r ++ t ∷ z) split ∙ append_assoc a.taken d.taken (t ∷ z) in
      let first : p rules (a.taken ++ (d.taken ++ t ∷ x)) ≡ Ok (v, d.taken ++ t ∷ x) = ap (λ ts. p rules ts) (sym (at x)) ∙ b.2 ∙ ap (λ r. Ok (v, r)) d.joined in
      let second : q v rules (d.taken ++ t ∷ x) ≡ Ok (w, t ∷ x) = ap (λ r. q v rules r) (sym d.joined) ∙ b.3 in
      ap (λ ts. chain p q rules ts) (at y)
      ∙ ap (λ o. on_outcome o (λ v r. q v rules r)) (again_at rp rules a.taken v d.taken t x y (subst (λ ts. length ts ≤ n) (at x) l) (subst (λ ts. length ts ≤ n) (at y) k) first)
      ∙ (rq v).again rules d.taken w t x y (subst (λ ts. length ts ≤ m) d.joined lm) (within n m (c ++ t ∷ y) a.taken (d.taken ++ t ∷ y) (at y) k f) second

  chain_refused : (rules : Rules) (ts rest : List Symbol) (why : Option Rule) → length ts ≤ n → chain p q rules ts ≡ Err (rest, why) → Refused (Chained R S rules) ts rest
  chain_refused rules ts rest why l h = by_case (bind_err (p rules ts) (λ v r. q v rules r) (rest, why) h)
    where
      by_case : (p rules ts ≡ Err (rest, why)) ⊎ ((v : A) × (mid : List Symbol) × (p rules ts ≡ Ok (v, mid)) × (q v rules mid ≡ Err (rest, why))) → Refused (Chained R S rules) ts rest
      by_case (inl e) =
          let x = rp.refused rules ts rest why l e in
          let v = x.begins.0 in
          let y = (rq v).some_word rules in
          record {
            front = x.front;
            joined = x.joined;
            begins = (y.0, x.begins.1 ++ y.1, (v, (x.front ++ x.begins.1, y.1, x.begins.2, y.2, sym (append_assoc x.front x.begins.1 y.1))));
          }
      by_case (inr (v, mid, e, f)) =
          let x = rp.sound rules ts v mid l e in
          let y = (rq v).refused rules mid rest why (within n m ts x.taken mid x.joined l (fits rules v x.taken x.derived)) f in
          record {
            front = x.taken ++ y.front;
            joined = x.joined ∙ ap (λ r. x.taken ++ r) y.joined ∙ sym (append_assoc x.taken y.front rest);
            begins = (y.begins.0, y.begins.1, (v, (x.taken, y.front ++ y.begins.1, x.derived, y.begins.2, append_assoc x.taken y.front y.begins.1)));
          }

  chain_at_end : (rules : Rules) (ts : List Symbol) (why : Option Rule) → length ts ≤ n → chain p q rules ts ≡ Err ([], why) → why ≡ None
  chain_at_end rules ts why l h = by_case (bind_err (p rules ts) (λ v r. q v rules r) ([], why) h)
    where
      by_case : (p rules ts ≡ Err ([], why)) ⊎ ((v : A) × (mid : List Symbol) × (p rules ts ≡ Ok (v, mid)) × (q v rules mid ≡ Err ([], why))) → why ≡ None
      by_case (inl e) = rp.at_end rules ts why l e
      by_case (inr (v, mid, e, f)) =
          let a = rp.sound rules ts v mid l e in
          (rq v).at_end rules mid why (within n m ts a.taken mid a.joined l (fits rules v a.taken a.derived)) f

  chain_stuck :
      (rules : Rules) (front : List Symbol) (t : Symbol) (x y : List Symbol) (why : Option Rule) → length (front ++ t ∷ x) ≤ n → length (front ++ t ∷ y) ≤ n
      → chain p q rules (front ++ t ∷ x) ≡ Err (t ∷ x, why) → chain p q rules (front ++ t ∷ y) ≡ Err (t ∷ y, why)
  chain_stuck rules front t x y why l k h = by_case (bind_err (p rules (front ++ t ∷ x)) (λ v r. q v rules r) (t ∷ x, why) h)
    where
      by_case : (p rules (front ++ t ∷ x) ≡ Err (t ∷ x, why)) ⊎ ((v : A) × (mid : List Symbol) × (p rules (front ++ t ∷ x) ≡ Ok (v, mid)) × (q v rules mid ≡ Err (t ∷ x, why))) → chain p q rules (front ++ t ∷ y) ≡ Err (t ∷ y, why)
      by_case (inl e) = ap (λ o. on_outcome o (λ v r. q v rules r)) (rp.stuck rules front t x y why l k e)
      by_case (inr (v, mid, e, g)) =
          let a = rp.sound rules (front ++ t ∷ x) v mid l e in
          let f = fits rules v a.taken a.derived in
          let lm = within n m (front ++ t ∷ x) a.taken mid a.joined l f in
          let b = (rq v).refused rules mid (t ∷ x) why lm g in
          let split : front ≡ a.taken ++ b.front = append_cancel_right front (a.taken ++ b.front) (t ∷ x) (a.joined ∙ ap (λ r. a.taken ++ r) b.joined ∙ sym (append_assoc a.taken b.front (t ∷ x))) in
          let at : (z : List Symbol) → front ++ t ∷ z ≡ a.taken ++ (b.front ++ t ∷ z) = λ z. ap (λ r. r ++ t ∷ z) split ∙ append_assoc a.taken b.front (t ∷ z) in
          let first : p rules (a.taken ++ (b.front ++ t ∷ x)) ≡ Ok (v, b.front ++ t ∷ x) = ap (λ ts. p rules ts) (sym (at x)) ∙ e ∙ ap (λ r. Ok (v, r)) b.joined in
          ap (λ ts. chain p q rules ts) (at y)
          ∙ ap (λ o. on_outcome o (λ v r. q v rules r)) (again_at rp rules a.taken v b.front t x y (subst (λ ts. length ts ≤ n) (at x) l) (subst (λ ts. length ts ≤ n) (at y) k) first)
          ∙ (rq v).stuck rules b.front t x y why (subst (λ ts. length ts ≤ m) b.joined lm) (within n m (front ++ t ∷ y) a.taken (b.front ++ t ∷ y) (at y) k f)
          (ap (λ r. q v rules r) (sym b.joined) ∙ g)

  chain_some_word : (rules : Rules) → (w : B) × (c : List Symbol) × Chained R S rules w c
  chain_some_word rules =
      let x = rp.some_word rules in
      let y = (rq x.0).some_word rules in
      (y.0, x.1 ++ y.1, (x.0, (x.1, y.1, x.2, y.2, refl)))

  chain_kept : (rules : Rules) (ts : List Symbol) (w : B) (rest : List Symbol) → length ts ≤ n → chain p q all_rules ts ≡ Ok (w, rest) → chain p q rules ts ≡ Ok (w, rest)
  chain_kept rules ts w rest l h =
      let b = bind_ok (p all_rules ts) (λ v r. q v all_rules r) (w, rest) h in
      let a = rp.sound all_rules ts b.0 b.1 l b.2 in
      ap (λ o. on_outcome o (λ v r. q v rules r)) (rp.kept rules ts b.0 b.1 l b.2)
      ∙ (rq b.0).kept rules b.1 w rest (within n m ts a.taken b.1 a.joined l (fits all_rules b.0 a.taken a.derived)) b.3

  chain_same : (rules : Rules) (ts rest : List Symbol) (why : Option Rule) → length ts ≤ n → leaves rules why ≡ false → chain p q all_rules ts ≡ Err (rest, why) → chain p q rules ts ≡ Err (rest, why)
  chain_same rules ts rest why l z h = by_case (bind_err (p all_rules ts) (λ v r. q v all_rules r) (rest, why) h)
    where
      by_case : (p all_rules ts ≡ Err (rest, why)) ⊎ ((v : A) × (mid : List Symbol) × (p all_rules ts ≡ Ok (v, mid)) × (q v all_rules mid ≡ Err (rest, why))) → chain p q rules ts ≡ Err (rest, why)
      by_case (inl e) = ap (λ o. on_outcome o (λ v r. q v rules r)) (rp.same rules ts rest why l z e)
      by_case (inr (v, mid, e, f)) =
          let a = rp.sound all_rules ts v mid l e in
          ap (λ o. on_outcome o (λ v r. q v rules r)) (rp.kept rules ts v mid l e)
          ∙ (rq v).same rules mid rest why (within n m ts a.taken mid a.joined l (fits all_rules v a.taken a.derived)) z f

  chain_allowed : (rules : Rules) (ts rest : List Symbol) (why : Option Rule) → length ts ≤ n → leaves rules why ≡ true → chain p q all_rules ts ≡ Err (rest, why) → Allowed (Chained R S rules) ts rest
  chain_allowed rules ts rest why l z h = by_case (bind_err (p all_rules ts) (λ v r. q v all_rules r) (rest, why) h)
    where
      by_case : (p all_rules ts ≡ Err (rest, why)) ⊎ ((v : A) × (mid : List Symbol) × (p all_rules ts ≡ Ok (v, mid)) × (q v all_rules mid ≡ Err (rest, why))) → Allowed (Chained R S rules) ts rest
      by_case (inl e) =
          let x = rp.allowed rules ts rest why l z e in
          let v = x.begins.0 in
          let y = (rq v).some_word rules in
          record {
            front = x.front;
            symbol = x.symbol;
            more = x.more;
            left = x.left;
            joined = x.joined;
            begins = (y.0, x.begins.1 ++ y.1, (v, ((x.front ++ x.symbol ∷ []) ++ x.begins.1, y.1, x.begins.2, y.2, sym (append_assoc (x.front ++ x.symbol ∷ []) x.begins.1 y.1))));
          }
      by_case (inr (v, mid, e, f)) =
          let d = rp.sound rules ts v mid l (rp.kept rules ts v mid l e) in
          let y = (rq v).allowed rules mid rest why (within n m ts d.taken mid d.joined l (fits rules v d.taken d.derived)) z f in
          record {
            front = d.taken ++ y.front;
            symbol = y.symbol;
            more = y.more;
            left = y.left;
            joined = d.joined ∙ ap (λ r. d.taken ++ r) y.joined ∙ sym (append_assoc d.taken y.front (y.symbol ∷ y.more));
            begins = (
              y.begins.0,
              y.begins.1,
              (
                v,
                (
                  d.taken,
                  (y.front ++ y.symbol ∷ []) ++ y.begins.1,
                  d.derived,
                  y.begins.2,
                  ap (λ c. c ++ y.begins.1) (append_assoc d.taken y.front (y.symbol ∷ [])) ∙ append_assoc d.taken (y.front ++ y.symbol ∷ []) y.begins.1,
                ),
              ),
            );
          }

  pub reads_chain : Reads n e2 (Chained R S) (chain p q)
  reads_chain = record {
    sound = chain_sound;
    complete = chain_complete;
    again = chain_again;
    refused = chain_refused;
    at_end = chain_at_end;
    stuck = chain_stuck;
    some_word = chain_some_word;
    kept = chain_kept;
    same = chain_same;
    allowed = chain_allowed;
  }
