-- Lists in another order: elements that differ in one order differ in the other.
use Rattle.std.proofs.Common.{◌≡◌, ◌≢◌, List, [], ◌∷◌, ◌++◌, sym, ap, ◌∙◌, subst}
use Rattle.std.specs.List.{AllByRecursion, flat_map}
use Rattle.std.proofs.lemmas.List.{append_assoc, append-nil}
use Rattle.pb_schema.specs.Names.{AllDiffer}
use Rattle.pb_link.proofs.ForestLemmas.{all_append}

-- one list is the other in another order
pub data IsReordered {X : Type 0} : List X → List X → Type 0 where
  nothing : IsReordered [] []
  kept : (x : X) {xs ys : List X} → IsReordered xs ys → IsReordered (x ∷ xs) (x ∷ ys)
  turned : (x y : X) (xs : List X) → IsReordered (x ∷ y ∷ xs) (y ∷ x ∷ xs)
  onward : {xs ys zs : List X} → IsReordered xs ys → IsReordered ys zs → IsReordered xs zs

pub reordered_all : {X : Type 0} (P : X → Type 0) (xs ys : List X) → IsReordered xs ys → AllByRecursion P xs → AllByRecursion P ys
reordered_all P xs ys nothing all = tt
reordered_all P xs ys (kept x {xs = us} {ys = vs} r) all = (all.0, reordered_all P us vs r all.1)
reordered_all P xs ys (turned x y us) all = (all.1.0, (all.0, all.1.1))
reordered_all P xs zs (onward {ys = ys} r s) all = reordered_all P ys zs s (reordered_all P xs ys r all)

pub reordered_differ : {X : Type 0} (xs ys : List X) → IsReordered xs ys → AllDiffer xs → AllDiffer ys
reordered_differ xs ys nothing h = tt
reordered_differ xs ys (kept x {xs = us} {ys = vs} r) h = (reordered_all (λ y. x ≢ y) us vs r h.0, reordered_differ us vs r h.1)
reordered_differ xs ys (turned x y us) h = ((λ e. h.0.0 (sym e), h.1.0), (h.0.1, h.1.1))
reordered_differ xs zs (onward {ys = ys} r s) h = reordered_differ ys zs s (reordered_differ xs ys r h)

pub reordered_same : {X : Type 0} (xs : List X) → IsReordered xs xs
reordered_same [] = nothing
reordered_same (x ∷ xs) = kept x (reordered_same xs)

pub reordered_back : {X : Type 0} (xs ys : List X) → IsReordered xs ys → IsReordered ys xs
reordered_back xs ys nothing = nothing
reordered_back xs ys (kept x {xs = us} {ys = vs} r) = kept x (reordered_back us vs r)
reordered_back xs ys (turned x y us) = turned y x us
reordered_back xs zs (onward {ys = ys} r s) = onward (reordered_back ys zs s) (reordered_back xs ys r)

pub reordered_is : {X : Type 0} (xs ys : List X) → xs ≡ ys → IsReordered xs ys
reordered_is xs ys e = subst (IsReordered xs) e (reordered_same xs)

behind : {X : Type 0} (xs ys zs : List X) → IsReordered ys zs → IsReordered (xs ++ ys) (xs ++ zs)
behind [] ys zs r = r
behind (x ∷ xs) ys zs r = kept x (behind xs ys zs r)

before : {X : Type 0} (xs ys zs : List X) → IsReordered xs ys → IsReordered (xs ++ zs) (ys ++ zs)
before xs ys zs nothing = reordered_same zs
before xs ys zs (kept x {xs = us} {ys = vs} r) = kept x (before us vs zs r)
before xs ys zs (turned x y us) = turned x y (us ++ zs)
before xs ws zs (onward {ys = ys} r s) = onward (before xs ys zs r) (before ys ws zs s)

pub reordered_append : {X : Type 0} (xs ys us vs : List X) → IsReordered xs ys → IsReordered us vs → IsReordered (xs ++ us) (ys ++ vs)
reordered_append xs ys us vs r s = onward (before xs ys us r) (behind ys us vs s)

pub reordered_into : {X : Type 0} (x : X) (ys xs : List X) → IsReordered (x ∷ (ys ++ xs)) (ys ++ x ∷ xs)
reordered_into x [] xs = reordered_same (x ∷ xs)
reordered_into x (y ∷ ys) xs = onward (turned x y (ys ++ xs)) (kept y (reordered_into x ys xs))

pub reordered_turn : {X : Type 0} (xs ys : List X) → IsReordered (xs ++ ys) (ys ++ xs)
reordered_turn [] ys = reordered_is ys (ys ++ []) (sym (append-nil ys))
reordered_turn (x ∷ xs) ys = onward (kept x (reordered_turn xs ys)) (reordered_into x ys xs)

-- of four, the inner two turned
pub reordered_inner : {X : Type 0} (a b c d : List X) → IsReordered ((a ++ b) ++ (c ++ d)) ((a ++ c) ++ (b ++ d))
reordered_inner a b c d =
    onward (reordered_is ((a ++ b) ++ (c ++ d)) (a ++ ((b ++ c) ++ d)) (append_assoc a b (c ++ d) ∙ ap (λ l. a ++ l) (sym (append_assoc b c d))))
    (onward (behind a ((b ++ c) ++ d) ((c ++ b) ++ d) (before (b ++ c) (c ++ b) d (reordered_turn b c)))
    (reordered_is (a ++ ((c ++ b) ++ d)) ((a ++ c) ++ (b ++ d)) (ap (λ l. a ++ l) (append_assoc c b d) ∙ sym (append_assoc a c (b ++ d)))))

-- the parts of each element first, and then its others
pub reordered_parts : {X Y : Type 0} (f g h : X → List Y) (xs : List X) → ((x : X) → IsReordered (f x) (g x ++ h x)) → IsReordered (flat_map f xs) (flat_map g xs ++ flat_map h xs)
reordered_parts f g h [] each = nothing
reordered_parts f g h (x ∷ xs) each =
    onward (reordered_append (f x) (g x ++ h x) (flat_map f xs) (flat_map g xs ++ flat_map h xs) (each x) (reordered_parts f g h xs each))
    (reordered_inner (g x) (h x) (flat_map g xs) (flat_map h xs))

-- LISTS WHOSE ELEMENTS DIFFER

pub differ_left : {X : Type 0} (xs ys : List X) → AllDiffer (xs ++ ys) → AllDiffer xs
differ_left [] ys h = tt
differ_left {X = X} (x ∷ xs) ys h = (left xs ys h.0, differ_left xs ys h.1)
  where
    left : (us vs : List X) → AllByRecursion (λ y. x ≢ y) (us ++ vs) → AllByRecursion (λ y. x ≢ y) us
    left [] vs all = tt
    left (u ∷ us) vs all = (all.0, left us vs all.1)

pub differ_right : {X : Type 0} (xs ys : List X) → AllDiffer (xs ++ ys) → AllDiffer ys
differ_right [] ys h = h
differ_right (x ∷ xs) ys h = differ_right xs ys h.1

pub differ_apart : {X : Type 0} (xs ys : List X) → AllDiffer (xs ++ ys) → AllByRecursion (λ x. AllByRecursion (λ y. x ≢ y) ys) xs
differ_apart [] ys h = tt
differ_apart {X = X} (x ∷ xs) ys h = (right xs ys h.0, differ_apart xs ys h.1)
  where
    right : (us vs : List X) → AllByRecursion (λ y. x ≢ y) (us ++ vs) → AllByRecursion (λ y. x ≢ y) vs
    right [] vs all = all
    right (u ∷ us) vs all = right us vs all.1

pub differ_append : {X : Type 0} (xs ys : List X) → AllDiffer xs → AllDiffer ys → AllByRecursion (λ x. AllByRecursion (λ y. x ≢ y) ys) xs → AllDiffer (xs ++ ys)
differ_append [] ys first second apart = second
differ_append (x ∷ xs) ys first second apart = (all_append (λ y. x ≢ y) xs ys first.0 apart.0, differ_append xs ys first.1 second apart.1)
