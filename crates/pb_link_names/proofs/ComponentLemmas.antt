-- Components of a graph by numbers: how much a walk has to do, and what its numbers tell.
use Rattle.std.proofs.Common.{◌≡◌, ℕ, zero, suc, ◌+◌, ◌<◌, ◌≤◌, List, [], ◌∷◌, length, get_or, set, sym, ap, arith}
use Rattle.std.specs.List.{All}
use Rattle.std.proofs.lemmas.List.Elements.{All-contains}
use Rattle.pb_link_names.specs.declared.components.Progress.{Progress}
use Rattle.pb_link_names.specs.declared.components.Progress.TheVariants.{Unseen, Open, Numbered}
use Rattle.pb_graphs.specs.Reach.{next_of, Reached, begun, further}
use Rattle.pb_link_names.specs.Components.{weight, unseen_work, number_of, NeverRise}

not_numbered : Unseen ≡ Numbered → ⊥
not_numbered e = cc

-- WHAT IS LEFT TO DO
pub seen_within : (ps : List Progress) (i : ℕ) (p : Progress) → get_or ps i Numbered ≡ p → (p ≡ Numbered → ⊥) → i < length ps
seen_within [] i p e ne = absurd (ne (sym e))
seen_within (q ∷ ps) zero p e ne = omega arith
seen_within (q ∷ ps) (suc i) p e ne = omega (arith, seen_within ps i p e ne)

work_set : (graph : List (List ℕ)) (ps : List Progress) (i : ℕ) (p : Progress) → i < length ps → unseen_work graph (set ps i p) + weight (get_or ps i Numbered) (next_of graph i) ≡ unseen_work graph ps + weight p (next_of graph i)
work_set graph [] i p h = absurd (omega (arith, h))
work_set [] (q ∷ ps) zero p h = omega arith
work_set [] (q ∷ ps) (suc i) p h = omega (arith, work_set [] ps i p (omega (arith, h)))
work_set (next ∷ graph) (q ∷ ps) zero p h = omega arith
work_set (next ∷ graph) (q ∷ ps) (suc i) p h = omega (arith, work_set graph ps i p (omega (arith, h)))

-- what is seen is no work
pub work_seen : (graph : List (List ℕ)) (ps : List Progress) (i : ℕ) (p : Progress) → i < length ps → weight p (next_of graph i) ≡ 0 → unseen_work graph (set ps i p) ≤ unseen_work graph ps
work_seen graph ps i p h none = omega (arith, work_set graph ps i p h, none)

pub work_opened : (graph : List (List ℕ)) (ps : List Progress) (i place : ℕ) → get_or ps i Numbered ≡ Unseen → unseen_work graph (set ps i (Open place)) + length (next_of graph i) + 1 ≡ unseen_work graph ps
work_opened graph ps i place was =
    let e = work_set graph ps i (Open place) (seen_within ps i Unseen was not_numbered) in
    let w : ◌≡◌ {A = ℕ} (weight (get_or ps i Numbered) (next_of graph i)) (length (next_of graph i) + 1) = ap (λ p. weight p (next_of graph i)) was in
    omega (arith, e, w)

-- WHAT NUMBERS TELL: from below a number nothing leads up to it
stays_below : (graph : List (List ℕ)) (numbers starts : List ℕ) (bound j : ℕ) → NeverRise graph numbers → All (λ k. number_of numbers k < bound) starts → Reached graph starts j → number_of numbers j < bound
stays_below graph numbers starts bound j never below (begun among) = All-contains (λ k. number_of numbers k < bound) starts j below among
stays_below graph numbers starts bound j never below (further {k} way led) =
    omega (arith, All-contains (λ m. number_of numbers m ≤ number_of numbers k) (next_of graph k) j (never k) led, stays_below graph numbers starts bound k never below way)

pub not_back : (graph : List (List ℕ)) (numbers : List ℕ) (i : ℕ) → NeverRise graph numbers → All (λ k. number_of numbers k < number_of numbers i) (next_of graph i) → Reached graph (next_of graph i) i → ⊥
not_back graph numbers i never below way = omega (arith, stays_below graph numbers (next_of graph i) (number_of numbers i) i never below way)
