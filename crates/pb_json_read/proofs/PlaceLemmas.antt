-- The places of the first things that have a name.
use Rattle.std.proofs.Common.{◌≡◌, ◌⊎◌, inl, inr, ℕ, zero, suc, ◌+◌, ◌<◌, ◌≤◌, Bool, true, false, cond, List, [], ◌∷◌, ◌++◌, length, map, take, get_or, Bor, MatchOption, Option, Some, None, option_map, refl, sym, ap, ◌∙◌, arith, find}
use Rattle.std.specs.Prelude.{slice_get}
use Rattle.std.specs.List.{HoldsAt, position_from}
use Rattle.std.specs.Option.{option_or}
use Rattle.std.proofs.lemmas.List.{take_more, map-append, length-take-le, length-map}
use Rattle.pb_json_read.specs.NameTables.{first_named, place_if}
use Rattle.pb_json_read.specs.Names.{is_given}

pub or_none : {X : Type 0} (o : Option X) → option_or o None ≡ o
or_none None = refl
or_none (Some x) = refl

pub or_assoc : {X : Type 0} (o p q : Option X) → option_or (option_or o p) q ≡ option_or o (option_or p q)
or_assoc None p q = refl
or_assoc (Some x) p q = refl

-- ---- one more thing at the end

front_or : (b : Bool) (n : ℕ) (o p q r : Option ℕ) → o ≡ option_or p q → q ≡ r → cond b (Some n) o ≡ option_or (cond b (Some n) p) r
front_or true n o p q r e f = refl
front_or false n o p q r e f = e ∙ ap (option_or p) f

place_more : {X : Type 0} (t : X → Bool) (n : ℕ) (xs : List X) (x : X) → position_from t n (xs ++ x ∷ []) ≡ option_or (position_from t n xs) (cond (t x) (Some (n + length xs)) None)
place_more t n [] x =
    let same : n ≡ n + 0 = omega arith in
    ap (λ k. cond (t x) (Some k) None) same
place_more t n (y ∷ ys) x =
    let same : n + 1 + length ys ≡ n + suc (length ys) = omega arith in
    front_or (t y) n (position_from t (n + 1) (ys ++ x ∷ [])) (position_from t (n + 1) ys) _ _ (place_more t (n + 1) ys x) (ap (λ k. cond (t x) (Some k) None) same)

-- one more of a list that is seen so
pub named_more : {X Y : Type 0} (view : X → Y) (name_of : Y → Option (List ℕ)) (xs : List X) (i : ℕ) (x : X) (s : List ℕ) → i < length xs → x ≡ get_or xs i x
    → first_named name_of (map view (take (i + 1) xs)) s ≡ option_or (first_named name_of (map view (take i xs)) s) (place_if (name_of (view x)) i s)
named_more view name_of xs i x s below is =
    let taken : length (map view (take i xs)) ≡ i = length-map (take i xs) view ∙ length-take-le i xs (omega (arith, below)) in
    let far : 0 + length (map view (take i xs)) ≡ i = omega (arith, taken) in
    ap (λ ys. first_named name_of (map view ys) s) (take_more xs i x below)
    ∙ ap (λ ys. first_named name_of ys s) (map-append view (take i xs) (get_or xs i x ∷ []))
    ∙ place_more (λ y. is_given (name_of y) s) 0 (map view (take i xs)) (view (get_or xs i x))
    ∙ ap (λ n. option_or (first_named name_of (map view (take i xs)) s) (place_if (name_of (view (get_or xs i x))) n s)) far
    ∙ ap (λ y. option_or (first_named name_of (map view (take i xs)) s) (place_if (name_of (view y)) i s)) (sym is)

-- after one more name was noted
pub noted_more : {X Y : Type 0} (view : X → Y) (name_of : Y → Option (List ℕ)) (xs : List X) (i : ℕ) (x : X) (s : List ℕ) (first before after : Option ℕ) (own : Option (List ℕ))
    → i < length xs → x ≡ get_or xs i x → own ≡ name_of (view x)
    → before ≡ option_or first (first_named name_of (map view (take i xs)) s) → after ≡ option_or before (place_if own i s)
    → after ≡ option_or first (first_named name_of (map view (take (i + 1) xs)) s)
noted_more view name_of xs i x s first before after own below is named were are =
    are ∙ ap (λ o. option_or o (place_if own i s)) were ∙ or_assoc first (first_named name_of (map view (take i xs)) s) (place_if own i s)
    ∙ ap (λ n. option_or first (option_or (first_named name_of (map view (take i xs)) s) (place_if n i s))) named
    ∙ ap (option_or first) (sym (named_more view name_of xs i x s below is))

-- ---- what is found at a place

none_some : {X : Type 0} {x : X} → ◌≡◌ {A = Option X} None (Some x) → ⊥
none_some p = cc

some_same : {X : Type 0} {x y : X} {o : Option X} → o ≡ Some x → o ≡ Some y → x ≡ y
some_same p q = cc

-- a place among things, the first of which is at place n, and what is there
abbrev pub Found : {X : Type 0} → ℕ → List X → Option ℕ → Option X → Type 0
Found {X} n xs place found =
    ((place ≡ None) × (found ≡ None)) ⊎ ((i : ℕ) × (x : X) × (place ≡ Some (n + i)) × (found ≡ Some x) × (slice_get xs i ≡ Some x))

found_first : {X : Type 0} (n : ℕ) (x : X) (xs : List X) (b : Bool) (p : Option ℕ) (f : Option X) → Found (n + 1) xs p f → Found n (x ∷ xs) (cond b (Some n) p) (cond b (Some x) f)
found_first n x xs true p f there =
    let same : n ≡ n + 0 = omega arith in
    inr (0, x, ap Some same, refl, refl)
found_first n x xs false p f (inl e) = inl e
found_first n x xs false p f (inr (i, y, place, found, at)) =
    let same : n + 1 + i ≡ n + suc i = omega arith in
    inr (suc i, y, place ∙ ap Some same, found, at)

pub found_by : {X : Type 0} (t : X → Bool) (n : ℕ) (xs : List X) → Found n xs (position_from t n xs) (find t xs)
found_by t n [] = inl (refl, refl)
found_by t n (x ∷ xs) = found_first n x xs (t x) (position_from t (n + 1) xs) (find t xs) (found_by t (n + 1) xs)

pub found_or : {X : Type 0} (n : ℕ) (xs : List X) (p q : Option ℕ) (f g : Option X) → Found n xs p f → Found n xs q g → Found n xs (option_or p q) (option_or f g)
found_or n xs p q f g (inl e) right = rw (e.0, e.1) right
found_or n xs p q f g (inr (i, x, place, found, at)) right = inr (i, x, ap (λ o. option_or o q) place, ap (λ o. option_or o g) found, at)

-- what is found where a place is known
pub found_here : {X : Type 0} (xs : List X) (p : Option ℕ) (f : Option X) (i : ℕ) → Found 0 xs p f → p ≡ Some i → f ≡ slice_get xs i
found_here xs p f i (inl e) is = absurd (none_some (sym e.0 ∙ is))
found_here xs p f i (inr (j, x, place, found, at)) is =
    let there : i ≡ 0 + j = some_same is place in
    let same : j ≡ i = omega (arith, there) in
    found ∙ sym at ∙ ap (slice_get xs) same

pub found_nowhere : {X : Type 0} (xs : List X) (p : Option ℕ) (f : Option X) → Found 0 xs p f → p ≡ None → f ≡ None
found_nowhere xs p f (inl e) is = e.1
found_nowhere xs p f (inr (j, x, place, found, at)) is = absurd (none_some (sym is ∙ place))

-- ---- what a read at a place gives, where the things are seen so

get_past : {X : Type 0} (xs : List X) (i : ℕ) → length xs ≤ i → slice_get xs i ≡ None
get_past [] i h = refl
get_past (x ∷ xs) zero h = absurd (omega (arith, h))
get_past (x ∷ xs) (suc i) h = get_past xs i (omega (arith, h))

viewed : {X Y : Type 0} (view : X → Y) (ys : List X) (j : ℕ) (x : X) → j < length ys → x ≡ get_or ys j x → slice_get (map view ys) j ≡ Some (view x)
viewed view [] j x h is = absurd (omega (arith, h))
viewed view (y ∷ ys) zero x h is = ap (λ z. Some (view z)) (sym is)
viewed view (y ∷ ys) (suc j) x h is = viewed view ys j x (omega (arith, h)) is

pub read_at : {X Y : Type 0} (view : X → Y) (xs : List X) (i : ℕ) (r : Option (Bor X))
    → MatchOption r (length xs ≤ i) (λ x. (i < length xs) × HoldsAt (λ y. x.now ≡ y) xs i) → option_map (λ x. view x.now) r ≡ slice_get (map view xs) i
read_at view xs i None past = sym (get_past (map view xs) i (omega (arith, past, length-map xs view)))
read_at view xs i (Some x) here = sym (viewed view xs i x.now here.0 (here.1 x.now))
