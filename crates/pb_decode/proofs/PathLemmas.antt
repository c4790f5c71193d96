-- The path of the parents, outermost first.
use Rattle.std.proofs.Common.{◌≡◌, List, [], ◌∷◌, ◌++◌, map, refl, sym, ap, ◌∙◌, append-nil, append_assoc}
use Rattle.std.proofs.lemmas.List.{reverse-append}
use Rattle.pb_wire.specs.declared.fault.PathStep.{PathStep}
use Rattle.pb_decode_parts.specs.declared.open.part.Parent.{Parent as ParentKept}
use Rattle.pb_decode_parts.specs.Open.Parents.{Parent, path_of, next_step}
use Rattle.pb_decode_parts.specs.Open.PartView.{scope_view, parent_view}
use Rattle.pb_decode.specs.Reader.{parents_view}

path_of-append : (xs ys : List Parent) → path_of (xs ++ ys) ≡ path_of ys ++ path_of xs
path_of-append [] ys = sym (append-nil (path_of ys))
path_of-append (x ∷ xs) ys = ap (λ (z : List PathStep). z ++ next_step x.number x.scope ∷ []) (path_of-append xs ys) ∙ append_assoc (path_of ys) (path_of xs) (next_step x.number x.scope ∷ [])

pub path_of-parents : (fs : List ParentKept) → path_of (parents_view fs) ≡ map (λ f. next_step f.number (scope_view f.scope)) fs
path_of-parents [] = refl
path_of-parents (f ∷ fs) =
    ap path_of (reverse-append (parent_view f ∷ []) (map parent_view fs)) ∙ path_of-append (parents_view fs) (parent_view f ∷ [])
    ∙ ap (λ (z : List PathStep). next_step f.number (scope_view f.scope) ∷ z) (path_of-parents fs)

-- with no record begun, or one
pub path_alone : (fs given : List ParentKept) (steps own : List PathStep) → steps ≡ map (λ f. next_step f.number (scope_view f.scope)) given → given ≡ fs → own ≡ [] → steps ≡ path_of (parents_view fs) ++ own
path_alone fs given steps own are same none =
    are ∙ ap (map (λ (f : ParentKept). next_step f.number (scope_view f.scope))) same ∙ sym (path_of-parents fs) ∙ sym (append-nil (path_of (parents_view fs))) ∙ ap (λ (z : List PathStep). path_of (parents_view fs) ++ z) (sym none)

pub path_begun :
    (fs given : List ParentKept) (steps own whole : List PathStep) (s t : PathStep) → steps ≡ map (λ f. next_step f.number (scope_view f.scope)) given → given ≡ fs → own ≡ t ∷ [] → s ≡ t → whole ≡ steps ++ s ∷ []
    → whole ≡ path_of (parents_view fs) ++ own
path_begun fs given steps own whole s t are same one last made =
    made ∙ ap (λ (z : PathStep). steps ++ z ∷ []) last
    ∙ ap (λ (z : List PathStep). z ++ t ∷ []) (are ∙ ap (map (λ (f : ParentKept). next_step f.number (scope_view f.scope))) same ∙ sym (path_of-parents fs)) ∙ ap (λ (z : List PathStep). path_of (parents_view fs) ++ z) (sym one)
