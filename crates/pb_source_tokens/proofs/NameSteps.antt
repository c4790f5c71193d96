-- Words, joined one after another.
use Rattle.std.proofs.Common.{◌≡◌, ◌<◌, ◌+◌, ℕ, List, [], ◌∷◌, ◌++◌, length, drop, get_or, ap, sym, ◌∙◌, append-nil, append_assoc, false, ◌==◌}
use Rattle.std.proofs.lemmas.Bool.{true≢false}
use Rattle.std.proofs.lemmas.List.{drop_more}
use Rattle.std.specs.Borrow.{Bor}
use Rattle.pb_source_tokens.specs.PhraseView.{words_view}
use Rattle.pb_source_tokens.specs.Said.{joined}

-- the words, each after a dot
abbrev pub behind_dots : List (List ℕ) → List ℕ
behind_dots [] = []
behind_dots (w ∷ ws) = 46 ∷ w ++ behind_dots ws

pub joined-cons : (w : List ℕ) (ws : List (List ℕ)) → joined (w ∷ ws) ≡ w ++ behind_dots ws
joined-cons w [] = sym (append-nil w)
joined-cons w (v ∷ ws) = ap (λ x. w ++ 46 ∷ x) (joined-cons v ws)

behind_dots-drop : (ws : List (Bor (List ℕ))) (i : ℕ) (d : Bor (List ℕ)) → i < length ws
    → behind_dots (words_view (drop i ws)) ≡ (46 ∷ (get_or ws i d).now) ++ behind_dots (words_view (drop (i + 1) ws))
behind_dots-drop ws i d l = ap (λ xs. behind_dots (words_view xs)) (drop_more ws i d l)

pub more_pushed : (ws : List (Bor (List ℕ))) (i : ℕ) (d : Bor (List ℕ)) (s s1 s2 r : List ℕ) → i < length ws → s1 ≡ s ++ 46 ∷ [] → s2 ≡ s1 ++ (get_or ws i d).now
    → s ++ behind_dots (words_view (drop i ws)) ≡ r → s2 ++ behind_dots (words_view (drop (i + 1) ws)) ≡ r
more_pushed ws i d s s1 s2 r l f g h =
    let w = (get_or ws i d).now in
    let b = behind_dots (words_view (drop (i + 1) ws)) in
    ap (λ x. x ++ b) (g ∙ ap (λ x. x ++ w) f) ∙ append_assoc (s ++ 46 ∷ []) w b ∙ append_assoc s (46 ∷ []) (w ++ b) ∙ ap (λ x. s ++ x) (sym (behind_dots-drop ws i d l)) ∙ h

pub first_pushed : (ws : List (Bor (List ℕ))) (d : Bor (List ℕ)) (s s1 : List ℕ) → (length ws == 0) ≡ false → s1 ≡ s ++ (get_or ws 0 d).now
    → s1 ++ behind_dots (words_view (drop 1 ws)) ≡ s ++ joined (words_view ws)
first_pushed [] d s s1 l h = absurd (true≢false l)
first_pushed (w ∷ ws) d s s1 l h = ap (λ x. x ++ behind_dots (words_view ws)) h ∙ append_assoc s w.now (behind_dots (words_view ws)) ∙ ap (λ x. s ++ x) (sym (joined-cons w.now (words_view ws)))
