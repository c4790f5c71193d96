-- Texts by reference, in parts.
use Rattle.std.proofs.Common.{◌≡◌, ◌+◌, ◌<◌, ℕ, List, [], ◌∷◌, ◌++◌, length, get_or, take, drop, sym, ap, ◌∙◌}
use Rattle.std.specs.Borrow.{Bor}
use Rattle.std.proofs.lemmas.List.{map-append, take-append-drop, take_more}
use Rattle.pbtool_command.specs.CompileAnswer.{texts_of}

-- one more
pub texts_more :
    (texts : List (Bor (List ℕ))) (i : ℕ) (d : Bor (List ℕ)) → i < length texts
    → texts_of (take (i + 1) texts) ≡ texts_of (take i texts) ++ (get_or texts i d).now ∷ []
texts_more texts i d lt =
    ap texts_of (take_more texts i d lt) ∙ map-append (λ (t : Bor (List ℕ)). t.now) (take i texts) (get_or texts i d ∷ [])

-- and then the rest
pub texts_whole :
    (texts : List (Bor (List ℕ))) (i : ℕ) (d : Bor (List ℕ)) → i < length texts
    → (texts_of (take i texts) ++ (get_or texts i d).now ∷ []) ++ texts_of (drop (i + 1) texts) ≡ texts_of texts
texts_whole texts i d lt =
    ap (λ (l : List (List ℕ)). l ++ texts_of (drop (i + 1) texts)) (sym (texts_more texts i d lt))
    ∙ sym (map-append (λ (t : Bor (List ℕ)). t.now) (take (i + 1) texts) (drop (i + 1) texts)) ∙ ap texts_of (take-append-drop (i + 1) texts)
