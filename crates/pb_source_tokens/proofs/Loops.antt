-- Readers of repetition.
use Rattle.std.proofs.Common.{◌≡◌, ℕ, zero, suc, ◌+◌, ◌≤◌, List, [], ◌∷◌, ◌++◌, length, Bool, true, false, refl, ap, sym, ◌∙◌, subst, append_assoc, append-nil, length-append, Option, None, Ok, Err, arith, inl, inr}
use Rattle.pb_source_tokens.specs.Symbols.{Symbol}
use Rattle.pb_source_tokens.specs.Language.{Language, ◌or◌, Rules, all_rules}
use Rattle.pb_source_tokens.specs.declared.rule.Rule.{Rule}
use Rattle.pb_source_tokens.specs.Phrases.{Until, Separated}
use Rattle.pb_source_tokens.specs.Readers.Forms.{Reader, chain, answer, choice, first_passes, until, separated}
use Rattle.pb_source_tokens.proofs.ReaderLaws.{Reads, IsStop, leaves, Chained, reads_chain}
use Rattle.pb_source_tokens.proofs.Parts.{Answered, reads_answer, reads_as, reads_choice, reads_less}
use Rattle.pb_source_tokens.proofs.Compose.{never, any_stop}

pub nothing_fits : {P : Type 0} (c : List Symbol) (t : Symbol) (x : List Symbol) → length (c ++ t ∷ x) ≤ 0 → P
nothing_fits c t x l = absurd (let e = length-append c (t ∷ x) in zero_size (length (c ++ t ∷ x)) (length c) (length x) l e)
  where
    zero_size : (n a b : ℕ) → n ≤ 0 → n ≡ a + suc b → ⊥
    zero_size n a b l e = omega arith

-- Of no symbols, a reader that refuses them reads a language that has a word, and no empty one.
pub reads_none : {A : Type 0} (e : Symbol → Bool) (R : Rules → A → Language) (p : Reader A) → ((rules : Rules) (ts : List Symbol) → p rules ts ≡ Err ([], None))
    → ((rules : Rules) → (v : A) × (c : List Symbol) × R rules v c) → ((rules : Rules) (v : A) (c : List Symbol) → R rules v c → 1 ≤ length c) → Reads 0 e R p
reads_none {A} e R p refuses some full = record {
  sound = λ rules ts v rest l h. absurd (apart rules ts h);
  complete = λ rules v c rest l d stop. absurd (too_long (length (c ++ rest)) (length c) (length rest) l (length-append c rest) (full rules v c d));
  again = λ rules c v t x y l k h. nothing_fits c t x l;
  refused = λ rules ts rest why l h. let a = some rules in
      record { front = []; joined = empty ts l ∙ (parts (sym (refuses rules ts) ∙ h)).0; begins = a };
  at_end = λ rules ts why l h. sym (parts (sym (refuses rules ts) ∙ h)).1;
  stuck = λ rules front t x y why l k h. nothing_fits front t x l;
  some_word = some;
  kept = λ rules ts v rest l h. absurd (apart all_rules ts h);
  same = λ rules ts rest why l z h. refuses rules ts ∙ sym (refuses all_rules ts) ∙ h;
  allowed = λ rules ts rest why l z h. absurd (unlike (leaves rules) (parts (sym (refuses all_rules ts) ∙ h)).1 z refl);
}
  where
    apart : (rules : Rules) (ts : List Symbol) {x : A × List Symbol} → p rules ts ≡ Ok x → ⊥
    apart rules ts h = let e = refuses rules ts in cc (h, e)

    too_long : (n a b : ℕ) → n ≤ 0 → n ≡ a + b → 1 ≤ a → ⊥
    too_long n a b l e f = omega arith

    parts : {x y : List Symbol} {c d : Option Rule} → Rattle.pb_source_tokens.proofs.Parts.fails {A = A} x c ≡ Rattle.pb_source_tokens.proofs.Parts.fails y d → (x ≡ y) × (c ≡ d)
    parts h = Rattle.pb_source_tokens.proofs.Parts.err_parts h

    empty : (ts : List Symbol) → length ts ≤ 0 → ts ≡ []
    empty [] l = refl
    empty (s ∷ ts) l = absurd (omega arith)

    unlike : (f : Option Rule → Bool) {why : Option Rule} → None ≡ why → f why ≡ true → f None ≡ false → ⊥
    unlike f e g h = Rattle.std.proofs.lemmas.Bool.false≢true (sym h ∙ ap f e ∙ g)

module _ {I : Type 0} (N : ℕ) (test : Symbol → Bool) (Item : Rules → I → Language) (Close : Rules → Unit {0} → Language) (item : Reader I) (close : Reader (Unit {0}))
    (ri : Reads N never Item item) (rc : Reads N never Close close)
    (closes : (rules : Rules) (u : Unit {0}) (c : List Symbol) → Close rules u c → first_passes test c ≡ true)
    (begins_not : (rules : Rules) (i : I) (c rest : List Symbol) → Item rules i c → first_passes test (c ++ rest) ≡ false)
    (full : (rules : Rules) (i : I) (c : List Symbol) → Item rules i c → 1 ≤ length c) where
  -- those of front, and those that are read
  abbrev pub Closed : List I → Rules → List I → Language
  Closed front rules is c = (js : List I) × (is ≡ front ++ js) × Until (Item rules) (Close rules tt) js c

  close_full : (c : List Symbol) → first_passes test c ≡ true → 1 ≤ length c
  close_full [] h = absurd (Rattle.std.proofs.lemmas.Bool.false≢true h)
  close_full (s ∷ c) h = omega arith

  longer : (a b c : List Symbol) → c ≡ a ++ b → 1 ≤ length a → 1 ≤ length c
  longer a b c e l = let e' : length c ≡ length a + length b = ap length e ∙ length-append a b in omega arith

  closed_full : (front : List I) (rules : Rules) (is : List I) (c : List Symbol) → Closed front rules is c → 1 ≤ length c
  closed_full front rules is c ([], e, d) = close_full c (closes rules tt c d)
  closed_full front rules is c (j ∷ js, e, (a, b, ha, hb, k)) = longer a b c k (full rules j a ha)

  close_word : (rules : Rules) (u : Unit {0}) (c : List Symbol) → Close rules u c → Close rules tt c
  close_word rules tt c d = d

  some_closed : (front : List I) (rules : Rules) → (is : List I) × (c : List Symbol) × Closed front rules is c
  some_closed front rules = let a = rc.some_word rules in (front, a.1, ([], sym (append-nil front), close_word rules a.0 a.1 a.2))

  abbrev End : List I → Rules → List I → Language
  End front = Chained Close (λ _. Answered front)

  abbrev Rest : List I → Rules → List I → Language
  Rest front = Chained Item (λ i. Closed (front ++ i ∷ []))

  to_closed : (front : List I) (rules : Rules) (is : List I) (c : List Symbol) → (End front rules is or Rest front rules is) c → Closed front rules is c
  to_closed front rules is c (inl (tt, (a, b, ha, hb, j))) =
      ([], hb.0 ∙ sym (append-nil front), subst (Close rules tt) (sym (j ∙ ap (λ r. a ++ r) hb.1 ∙ append-nil a)) ha)
  to_closed front rules is c (inr (i, (a, b, ha, (js, e, d), j))) = (i ∷ js, e ∙ append_assoc front (i ∷ []) js, (a, b, ha, d, j))

  of_closed : (front : List I) (rules : Rules) (is : List I) (c : List Symbol) → Closed front rules is c → (End front rules is or Rest front rules is) c
  of_closed front rules is c ([], e, d) = inl (tt, (c, [], d, (e ∙ append-nil front, refl), sym (append-nil c)))
  of_closed front rules is c (i ∷ js, e, (a, b, ha, hb, j)) = inr (i, (a, b, ha, (js, e ∙ sym (append_assoc front (i ∷ []) js), hb), j))

  reads_until_from : (n : ℕ) → n ≤ N → (front : List I) → Reads n never (Closed front) (until n test item close front)
  reads_until_from zero l front = reads_none never (Closed front) (until zero test item close front) (λ rules ts. refl) (some_closed front) (closed_full front)
  reads_until_from (suc n) l front =
      reads_as (suc n) never (λ rules is. End front rules is or Rest front rules is) (Closed front) (until (suc n) test item close front)
      (reads_choice (suc n) never test (End front) (Rest front) (chain close (λ _. answer front)) (chain item (λ i. until n test item close (front ++ i ∷ [])))
      (reads_chain (suc n) (suc n) never never Close (λ _. Answered front) close (λ _. answer front) (reads_less N (suc n) never Close close l rc) (λ _. reads_answer (suc n) never front)
      (λ rules v w c rest d s. any_stop (c ++ rest)) (λ rules v c d. omega arith))
      (reads_chain (suc n) n never never Item (λ i. Closed (front ++ i ∷ [])) item (λ i. until n test item close (front ++ i ∷ []))
      (reads_less N (suc n) never Item item l ri) (λ i. reads_until_from n (omega arith) (front ++ i ∷ []))
      (λ rules v w c rest d s. any_stop (c ++ rest)) (λ rules i c d. let f = full rules i c d in omega arith))
      end_passes rest_passes_not)
      (to_closed front) (of_closed front)
    where
      end_passes : (rules : Rules) (is : List I) (c : List Symbol) → End front rules is c → first_passes test c ≡ true
      end_passes rules is c (tt, (a, b, ha, hb, j)) = subst (λ c. first_passes test c ≡ true) (sym (j ∙ ap (λ r. a ++ r) hb.1 ∙ append-nil a)) (closes rules tt a ha)

      rest_passes_not : (rules : Rules) (is : List I) (c rest : List Symbol) → Rest front rules is c → IsStop never rest → first_passes test (c ++ rest) ≡ false
      rest_passes_not rules is c rest (i, (a, b, ha, hb, j)) s = subst (λ c. first_passes test c ≡ false) (sym (ap (λ r. r ++ rest) j ∙ append_assoc a b rest)) (begins_not rules i a (b ++ rest) ha)

  -- { item } close
  pub reads_until : (n : ℕ) → n ≤ N → Reads n never (λ rules is. Until (Item rules) (Close rules tt) is) (until n test item close [])
  reads_until n l =
      reads_as n never (Closed []) (λ rules is. Until (Item rules) (Close rules tt) is) (until n test item close []) (reads_until_from n l [])
      (λ rules is c d. subst (λ is. Until (Item rules) (Close rules tt) is c) (sym d.1) d.2) (λ rules is c d. (is, refl, d))

-- ---- separated items

module _ {I : Type 0} (N : ℕ) (e1 e test : Symbol → Bool) (Item : Rules → I → Language) (Separator : Rules → Unit {0} → Language) (item : Reader I) (separator : Reader (Unit {0}))
    (ri : Reads N e1 Item item) (rs : Reads N never Separator separator)
    (separates : (rules : Rules) (u : Unit {0}) (c : List Symbol) → Separator rules u c → first_passes test c ≡ true)
    (stops : (rest : List Symbol) → IsStop e rest → IsStop e1 rest × (first_passes test rest ≡ false))
    (stopped : (rules : Rules) (u : Unit {0}) (c rest : List Symbol) → Separator rules u c → IsStop e1 (c ++ rest))
    (full : (rules : Rules) (i : I) (c : List Symbol) → Item rules i c → 1 ≤ length c) where
  abbrev pub Row : Rules → List I → Language
  Row rules is = Separated (Item rules) (Separator rules tt) is

  row_full : (rules : Rules) (is : List I) (c : List Symbol) → Row rules is c → 1 ≤ length c
  row_full rules [] c d = absurd d
  row_full rules (i ∷ []) c d = full rules i c d
  row_full rules (i ∷ j ∷ is) c (a, b, ha, hb, k) = let f = full rules i a ha in let e : length c ≡ length a + length b = ap length k ∙ length-append a b in omega arith

  some_row : (rules : Rules) → (is : List I) × (c : List Symbol) × Row rules is c
  some_row rules = let a = ri.some_word rules in (a.0 ∷ [], a.1, a.2)

  abbrev More : I → Rules → List I → Language
  More i = Chained Separator (λ _. Chained Row (λ is. Answered (i ∷ is)))

  abbrev Tail : I → Rules → List I → Language
  Tail i rules is = More i rules is or Answered (i ∷ []) rules is

  abbrev tail : ℕ → I → Reader (List I)
  tail n i = choice test (chain separator (λ _. chain (separated n test item separator) (λ is. answer (i ∷ is)))) (answer (i ∷ []))

  to_row : (rules : Rules) (is : List I) (c : List Symbol) → Chained Item Tail rules is c → Row rules is c
  to_row rules is c (i, (a, b, ha, inr hb, k)) =
      subst (λ is. Row rules is c) (sym hb.0) (subst (Item rules i) (sym (k ∙ ap (λ r. a ++ r) hb.1 ∙ append-nil a)) ha)
  to_row rules is c (i, (a, b, ha, inl (tt, (s, d, hs, (is', (f, r, hf, hr, k3)), k2)), k)) =
      subst (λ is. Row rules is c) (sym hr.0) (row is' hf)
    where
      joins : c ≡ a ++ (s ++ f)
      joins = k ∙ ap (λ r. a ++ r) (k2 ∙ ap (λ r. s ++ r) (k3 ∙ ap (λ r. f ++ r) hr.1 ∙ append-nil f))

      row : (is' : List I) → Row rules is' f → Row rules (i ∷ is') c
      row [] h = absurd h
      row (j ∷ js) h = (a, s ++ f, ha, (s, f, hs, h, refl), joins)

  of_row : (rules : Rules) (is : List I) (c : List Symbol) → Row rules is c → Chained Item Tail rules is c
  of_row rules [] c d = absurd d
  of_row rules (i ∷ []) c d = (i, (c, [], d, inr (refl, refl), sym (append-nil c)))
  of_row rules (i ∷ j ∷ is) c (a, b, ha, (s, f, hs, hf, k2), k) = (i, (a, b, ha, inl (tt, (s, f, hs, (j ∷ is, (f, [], hf, (refl, refl), sym (append-nil f))), k2)), k))

  pub reads_separated : (n : ℕ) → n ≤ N → Reads n e Row (separated n test item separator)
  reads_separated zero l = reads_none e Row (separated zero test item separator) (λ rules ts. refl) some_row row_full
  reads_separated (suc n) l =
      reads_as (suc n) e (Chained Item Tail) Row (separated (suc n) test item separator)
      (reads_chain (suc n) n e1 e Item Tail item (tail n) (reads_less N (suc n) e1 Item item l ri)
      (λ i. reads_choice n e test (More i) (Answered (i ∷ [])) (chain separator (λ _. chain (separated n test item separator) (λ is. answer (i ∷ is)))) (answer (i ∷ []))
      (reads_chain n n never e Separator (λ _. Chained Row (λ is. Answered (i ∷ is))) separator (λ _. chain (separated n test item separator) (λ is. answer (i ∷ is)))
      (reads_less N n never Separator separator (omega arith) rs)
      (λ _. reads_chain n n e e Row (λ is. Answered (i ∷ is)) (separated n test item separator) (λ is. answer (i ∷ is)) (reads_separated n (omega arith)) (λ is. reads_answer n e (i ∷ is))
      (λ rules v w c rest d s. subst (λ z. IsStop e (z ++ rest)) (sym d.1) s) (λ rules v c d. omega arith))
      (λ rules v w c rest d s. any_stop (c ++ rest)) (λ rules v c d. omega arith))
      (reads_answer n e (i ∷ []))
      (λ rules is c d. more_passes i rules is c d)
      (λ rules is c rest d s. subst (λ z. first_passes test (z ++ rest) ≡ false) (sym d.1) (stops rest s).1))
      (λ rules i w c rest d s. tail_stops rules i w c rest d s) (λ rules i c d. let f = full rules i c d in omega arith))
      to_row of_row
    where
      more_passes : (i : I) (rules : Rules) (is : List I) (c : List Symbol) → More i rules is c → first_passes test c ≡ true
      more_passes i rules is c (tt, (a, b, ha, hb, k)) = subst (λ z. first_passes test z ≡ true) (sym k) (Rattle.pb_source_tokens.proofs.Parts.passes_front test a b (separates rules tt a ha))

      tail_stops : (rules : Rules) (i : I) (w : List I) (c rest : List Symbol) → Tail i rules w c → IsStop e rest → IsStop e1 (c ++ rest)
      tail_stops rules i w c rest (inl (tt, (a, b, ha, hb, k))) s = subst (IsStop e1) (sym (ap (λ r. r ++ rest) k ∙ append_assoc a b rest)) (stopped rules tt a (b ++ rest) ha)
      tail_stops rules i w c rest (inr d) s = subst (λ z. IsStop e1 (z ++ rest)) (sym d.1) (stops rest s).0
