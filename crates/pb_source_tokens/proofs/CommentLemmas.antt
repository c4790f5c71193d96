-- Where a comment ends.
use Rattle.std.proofs.Common.{◌≡◌, ℕ, zero, suc, ◌<◌, List, [], ◌∷◌, length, take, get_or, Bool, true, false, ◌&&◌, ◌||◌, eqb, eqb→eq, T, subst, sym, refl, arith}
use Rattle.pb_source_tokens.specs.Tokens.{has_close}

pub or_parts : (a b : Bool) → a || b ≡ false → (a ≡ false) × (b ≡ false)
or_parts true b h = absurd (cc h)
or_parts false b h = (refl, h)

pub both_false : (a b : Bool) → a ≡ false → b ≡ false → a || b ≡ false
both_false true b h k = absurd (cc h)
both_false false b h k = k

not_both : (c d : ℕ) → (c ≡ 42 → d ≡ 47 → ⊥) → (eqb c 42) && (eqb d 47) ≡ false
not_both c d f = by_tests (eqb c 42) (eqb d 47) (λ e. eqb→eq c 42 (subst T (sym e) tt)) (λ e. eqb→eq d 47 (subst T (sym e) tt))
  where
    by_tests : (a b : Bool) → (a ≡ true → c ≡ 42) → (b ≡ true → d ≡ 47) → a && b ≡ false
    by_tests true true h k = absurd (f (h refl) (k refl))
    by_tests true false h k = refl
    by_tests false b h k = refl

pub no_close_more : (bs : List ℕ) (j : ℕ) → suc j < length bs → has_close (take (suc j) bs) ≡ false → (get_or bs j 0 ≡ 42 → get_or bs (suc j) 0 ≡ 47 → ⊥)
    → has_close (take (suc (suc j)) bs) ≡ false
no_close_more [] j l h f = refl
no_close_more (c ∷ []) j l h f = absurd (omega arith)
no_close_more (c ∷ d ∷ cs) zero l h f = both_false (eqb c 42 && eqb d 47) false (not_both c d f) refl
no_close_more (c ∷ d ∷ cs) (suc j) l h f =
    let p = or_parts (eqb c 42 && eqb d 47) (has_close (d ∷ take j cs)) h in
    both_false (eqb c 42 && eqb d 47) (has_close (take (suc (suc j)) (d ∷ cs))) p.0 (no_close_more (d ∷ cs) j (omega arith) p.1 f)
