-- The text of a path, step by step.
use Rattle.std.proofs.Common.{◌≡◌, ℕ, ◌+◌, ◌<◌, List, [], ◌∷◌, ◌++◌, length, get_or, take, drop, sym, refl, ap, ◌∙◌, append_assoc, append-nil, codes}
use Rattle.std.proofs.lemmas.List.{take_more, take-append-drop}
use Rattle.pb_wire.specs.declared.fault.PathStep.{PathStep}
use Rattle.pb_wire.specs.PathText.{dotted, step_text}

-- what stands at an index past the end
abbrev pub no_step : PathStep
no_step = record { number = 0; occurrence = 0 }

dotted-append : (xs ys : List PathStep) → dotted (xs ++ ys) ≡ dotted xs ++ dotted ys
dotted-append [] ys = refl
dotted-append (x ∷ xs) ys =
    ap (λ (l : List ℕ). codes "." ++ step_text x ++ l) (dotted-append xs ys) ∙ sym (append_assoc (codes "." ++ step_text x) (dotted xs) (dotted ys))

-- some steps, and the rest
pub dotted-parts : (i : ℕ) (xs : List PathStep) → dotted xs ≡ dotted (take i xs) ++ dotted (drop i xs)
dotted-parts i xs = ap dotted (sym (take-append-drop i xs)) ∙ dotted-append (take i xs) (drop i xs)

-- some steps, and the next
pub dotted-more : (i : ℕ) (xs : List PathStep) (d : PathStep) → i < length xs → dotted (take (i + 1) xs) ≡ dotted (take i xs) ++ (codes "." ++ step_text (get_or xs i d))
dotted-more i xs d below =
    ap dotted (take_more xs i d below) ∙ dotted-append (take i xs) (get_or xs i d ∷ [])
    ∙ ap (λ (l : List ℕ). dotted (take i xs) ++ l) (append-nil (codes "." ++ step_text (get_or xs i d)))
