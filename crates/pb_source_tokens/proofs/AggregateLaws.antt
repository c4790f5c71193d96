-- The reader of aggregates reads them.
use Rattle.std.proofs.Common.{◌≡◌, ℕ, zero, suc, ◌≤◌, List, [], ◌∷◌, ◌++◌, length, Bool, true, false, codes, refl, ap, sym, ◌∙◌, subst, append_assoc, append-nil, Option, Some, None, arith}
use Rattle.std.specs.Prelude.{if◌then◌else◌}
use Rattle.std.proofs.lemmas.Bool.{false≢true}
use Rattle.pb_source_tokens.specs.declared.bracket.Bracket.{Bracket}
use Rattle.pb_source_tokens.specs.declared.bracket.Bracket.TheVariants.{Curly, Square, Angle}
use Rattle.pb_source_tokens.specs.declared.bracket.Role.{Role}
use Rattle.pb_source_tokens.specs.declared.bracket.Role.TheVariants.{Plain, Opens, Closes}
use Rattle.pb_source_tokens.specs.Symbols.{Symbol, sign}
use Rattle.pb_source_tokens.specs.Language.{Language, ◌▸◌, one, nothing, Rules}
use Rattle.pb_source_tokens.specs.Aggregates.{role_of, same_bracket, closing, Balanced}
use Rattle.pb_source_tokens.specs.Phrases.{mark, aggregate}
use Rattle.pb_source_tokens.specs.Readers.Forms.{symbol, plain, mark_reader}
use Rattle.pb_source_tokens.specs.Readers.Phrases.{behind_role, open_after, closed_reader, aggregate_reader}
use Rattle.pb_source_tokens.proofs.ReaderLaws.{Reads, Chained, reads_chain}
use Rattle.pb_source_tokens.proofs.Parts.{reads_answer}
use Rattle.pb_source_tokens.proofs.Compose.{never, any_stop, reads_behind, said_so}
use Rattle.pb_source_tokens.proofs.SymbolTests.{reads_plain, reads_mark}
use Rattle.pb_source_tokens.proofs.Loops.{reads_none}

-- what closes the brackets that are open, the last one first
abbrev Closed : List Bracket → Language
Closed [] = nothing
Closed (b ∷ bs) = Balanced ▸ closing b ▸ Closed bs

-- one symbol, by the brackets that are open after it
abbrev Step : List Bracket → Rules → List Bracket → Language
Step bs rules cs ts = (s : Symbol) × (open_after bs s ≡ Some cs) × (ts ≡ s ∷ [])

abbrev closer : Bracket → Symbol
closer Curly = sign (codes "}")
closer Square = sign (codes "]")
closer Angle = sign (codes ">")

closer_closes : (b : Bracket) → role_of (closer b) ≡ Closes b
closer_closes Curly = refl
closer_closes Square = refl
closer_closes Angle = refl

same_self : (b : Bracket) → same_bracket b b ≡ true
same_self Curly = refl
same_self Square = refl
same_self Angle = refl

same_only : (b c : Bracket) → same_bracket b c ≡ true → b ≡ c
same_only Curly Curly h = refl
same_only Curly Square h = absurd (false≢true h)
same_only Curly Angle h = absurd (false≢true h)
same_only Square Curly h = absurd (false≢true h)
same_only Square Square h = refl
same_only Square Angle h = absurd (false≢true h)
same_only Angle Curly h = absurd (false≢true h)
same_only Angle Square h = absurd (false≢true h)
same_only Angle Angle h = refl

closes_last : (b : Bracket) (bs : List Bracket) (s : Symbol) → role_of s ≡ Closes b → open_after (b ∷ bs) s ≡ Some bs
closes_last b bs s e = ap (behind_role b bs) e ∙ ap (λ t. if t then Some bs else None) (same_self b)

reads_step : {n : ℕ} {e : Symbol → Bool} (b : Bracket) (bs : List Bracket) → Reads n e (Step (b ∷ bs)) (symbol (plain (open_after (b ∷ bs))))
reads_step b bs =
    reads_plain {R = λ cs ts. (s : Symbol) × (open_after (b ∷ bs) s ≡ Some cs) × (ts ≡ s ∷ [])} (open_after (b ∷ bs)) (closer b) bs (closes_last b bs (closer b) (closer_closes b))
    (λ s cs h. (s, h, refl)) (λ cs c d. d)

abbrev Steps : Bracket → List Bracket → Language
Steps b bs c = (cs : List Bracket) × (Step (b ∷ bs) (λ _. true) cs ▸ Closed cs) c

module _ (b : Bracket) (bs : List Bracket) where
  on_opens : (s : Symbol) (c : Bracket) (ts : List Symbol) → role_of s ≡ Opens c → Closed (c ∷ b ∷ bs) ts → Closed (b ∷ bs) (s ∷ ts)
  on_opens s c ts e (x, x1, hx, (y, y1, hy, (z, z1, hz, hw, l), m), k) = (
    s ∷ (x ++ (y ++ z)),
    z1,
    Balanced.nested e hx hy hz refl,
    hw,
    ap (λ ts. s ∷ ts) (k ∙ ap (λ r. x ++ r) (m ∙ ap (λ r. y ++ r) l ∙ sym (append_assoc y z z1)) ∙ sym (append_assoc x (y ++ z) z1)),
  )

  on_plain : (s : Symbol) (ts : List Symbol) → role_of s ≡ Plain → Closed (b ∷ bs) ts → Closed (b ∷ bs) (s ∷ ts)
  on_plain s ts e (x, y, hx, hy, k) = (s ∷ x, y, Balanced.plain e hx, hy, ap (λ ts. s ∷ ts) k)

  on_closes : (s : Symbol) (c : Bracket) (ts : List Symbol) → role_of s ≡ Closes c → b ≡ c → Closed bs ts → Closed (b ∷ bs) (s ∷ ts)
  on_closes s c ts e i d = ([], s ∷ ts, Balanced.none, (s ∷ [], ts, (s, e ∙ ap Closes (sym i), refl), d, refl), refl)

  by_role : (s : Symbol) (r : Role) (cs : List Bracket) (ts : List Symbol) → role_of s ≡ r → behind_role b bs r ≡ Some cs → Closed cs ts → Closed (b ∷ bs) (s ∷ ts)
  by_role s Plain cs ts e h d = let k : b ∷ bs ≡ cs = cc h in on_plain s ts e (subst (λ cs. Closed cs ts) (sym k) d)
  by_role s (Opens c) cs ts e h d = let k : c ∷ b ∷ bs ≡ cs = cc h in on_opens s c ts e (subst (λ cs. Closed cs ts) (sym k) d)
  by_role s (Closes c) cs ts e h d = by_test (same_bracket b c) refl h
    where
      by_test : (t : Bool) → same_bracket b c ≡ t → (if t then Some bs else None) ≡ Some cs → Closed (b ∷ bs) (s ∷ ts)
      by_test false i h = absurd (cc h)
      by_test true i h = let k : bs ≡ cs = cc h in on_closes s c ts e (same_only b c i) (subst (λ cs. Closed cs ts) (sym k) d)

  to_closed : (rules : Rules) (u : Unit {0}) (c : List Symbol) → Chained (Step (b ∷ bs)) (λ cs rules u. Closed cs) rules u c → Closed (b ∷ bs) c
  to_closed rules u c (cs, (x, y, (s, h, i), hy, j)) =
      subst (Closed (b ∷ bs)) (sym (j ∙ ap (λ x. x ++ y) i)) (by_role s (role_of s) cs y refl h hy)

  of_parts : (rules : Rules) (u : Unit {0}) (c x y : List Symbol) → Balanced x → (closing b ▸ Closed bs) y → c ≡ x ++ y → Chained (Step (b ∷ bs)) (λ cs rules u. Closed cs) rules u c
  of_parts rules u c [] y Balanced.none (z, w, (s, e, i), hw, k) j =
      (bs, (s ∷ [], w, (s, closes_last b bs s e, refl), hw, j ∙ k ∙ ap (λ z. z ++ w) i))
  of_parts rules u c (s ∷ x) y (Balanced.plain e h) d j =
      (b ∷ bs, (s ∷ [], x ++ y, (s, ap (behind_role b bs) e, refl), (x, y, h, d, refl), j))
  of_parts rules u c x y (Balanced.nested {s} {b = o} {inside} {close} {ts} e hi hc ht i) d j = (
    o ∷ b ∷ bs,
    (
      s ∷ [],
      inside ++ (close ++ (ts ++ y)),
      (s, ap (behind_role b bs) e, refl),
      (inside, close ++ (ts ++ y), hi, (close, ts ++ y, hc, (ts, y, ht, d, refl), refl), refl),
      j ∙ ap (λ x. x ++ y) i ∙ ap (λ r. s ∷ r) (append_assoc inside (close ++ ts) y ∙ ap (λ r. inside ++ r) (append_assoc close ts y)),
    ),
  )

  of_closed : (rules : Rules) (u : Unit {0}) (c : List Symbol) → Closed (b ∷ bs) c → Chained (Step (b ∷ bs)) (λ cs rules u. Closed cs) rules u c
  of_closed rules u c (x, y, hx, hy, j) = of_parts rules u c x y hx hy j

  closed_full : (rules : Rules) (u : Unit {0}) (c : List Symbol) → Closed (b ∷ bs) c → 1 ≤ length c
  closed_full rules u c d =
      let x = of_closed rules u c d in
      subst (λ c. 1 ≤ length c) (sym (x.1.4 ∙ ap (λ r. r ++ x.1.1) x.1.2.2)) (omega arith)

some_closed : (bs : List Bracket) → (u : Unit {0}) × (c : List Symbol) × Closed bs c
some_closed [] = (tt, [], refl)
some_closed (b ∷ bs) =
    let x = some_closed bs in
    (tt, closer b ∷ x.1, ([], closer b ∷ x.1, Balanced.none, (closer b ∷ [], x.1, (closer b, closer_closes b, refl), x.2, refl), refl))

none_left : (n : ℕ) → Reads n never (λ rules (u : Unit {0}). nothing) (Rattle.pb_source_tokens.specs.Readers.Forms.answer tt)
none_left n = said_so {Q = λ rules (u : Unit {0}). nothing} (reads_answer n never tt) (λ rules u c d. d.1) (λ rules u c d. (refl, d))

reads_closed : (n : ℕ) (bs : List Bracket) → Reads n never (λ rules (u : Unit {0}). Closed bs) (closed_reader n bs)
reads_closed zero [] = none_left zero
reads_closed (suc n) [] = none_left (suc n)
reads_closed zero (b ∷ bs) =
    reads_none never (λ rules (u : Unit {0}). Closed (b ∷ bs)) (closed_reader zero (b ∷ bs)) (λ rules ts. refl) (λ rules. some_closed (b ∷ bs)) (closed_full b bs)
reads_closed (suc n) (b ∷ bs) =
    said_so {Q = λ rules (u : Unit {0}). Closed (b ∷ bs)}
    (reads_chain (suc n) n never never (Step (b ∷ bs)) (λ cs rules (u : Unit {0}). Closed cs) (symbol (plain (open_after (b ∷ bs)))) (closed_reader n)
    (reads_step b bs) (λ cs. reads_closed n cs) (λ rules v w c rest d s. any_stop (c ++ rest)) (λ rules cs c d. let l = one_long c d.0 d.2 in omega arith))
    (to_closed b bs) (of_closed b bs)
  where
    one_long : (c : List Symbol) (s : Symbol) → c ≡ s ∷ [] → 1 ≤ length c
    one_long c s h = subst (λ c. 1 ≤ length c) (sym h) (omega arith)

pub reads_aggregate : (n : ℕ) → Reads n never (λ rules (u : Unit {0}). aggregate) (aggregate_reader n)
unfolding aggregate_reader
reads_aggregate n =
    said_so {Q = λ rules (u : Unit {0}). aggregate}
    (reads_behind {L = λ rules. mark "{"} (reads_mark (codes "{")) (reads_closed n (Curly ∷ [])))
    (λ rules u c d. (d.0, d.1, d.2, (d.3.0, d.3.1, d.3.2, subst (closing Curly) (sym (d.3.3.4 ∙ ap (λ r. d.3.3.0 ++ r) d.3.3.3 ∙ append-nil d.3.3.0)) d.3.3.2, d.3.4), d.4))
    (λ rules u c d. (d.0, d.1, d.2, (d.3.0, d.3.1, d.3.2, (d.3.1, [], d.3.3, refl, sym (append-nil d.3.1)), d.3.4), d.4))
