-- Marks, by the index of what they speak of.
use Rattle.std.proofs.Common.{◌≡◌, ℕ, ℤ, ◌+◌, ◌<◌, ◌≤◌, List, [], ◌∷◌, ◌++◌, length, map, take, get_or, Bool, true, false, ◌||◌, ◌&&◌, refl, sym, ap, ◌∙◌, subst, zero-add}
use Rattle.std.specs.Prelude.{cond}
use Rattle.std.specs.Ordering.{int_eq}
use Rattle.std.specs.List.{enumerate_from}
use Rattle.std.proofs.lemmas.List.{length-map, get_or-map, take_all, map_more}
use Rattle.std.proofs.lemmas.List.Folds.{list_any_more}
use Rattle.std.proofs.lemmas.Cmp.{int_eq_equiv}
use Rattle.std.specs.List.{list_any, list_all}
use Rattle.pb_link_names.specs.declared.marks.Marks.{Marks}
use Rattle.pb_declarations.specs.Decls.{DeclaredMessage, message}
use Rattle.pb_link_names.specs.Declarations.{head_of, item_of_message}
use Rattle.pb_link_names.specs.Marks.{marks_of}
use Rattle.pb_link_names.specs.MarkRules.{is_message_range, message_ranges_overlap, none_overlap}
use Rattle.std.proofs.lemmas.List.FromFn.{length-enumerate_from, get_or-enumerate_from}

pub marks_size : {X Y M : Type 0} (f : ℕ × Y → M) (view : X → Y) (xs : List X) (ms : List M) → ms ≡ map f (enumerate_from 0 (map view xs)) → length ms ≡ length xs
marks_size f view xs ms e = ap length e ∙ length-map (enumerate_from 0 (map view xs)) f ∙ length-enumerate_from 0 (map view xs) ∙ length-map xs view

pub below_marks : {X Y M : Type 0} (f : ℕ × Y → M) (view : X → Y) (xs : List X) (ms : List M) (i : ℕ) → ms ≡ map f (enumerate_from 0 (map view xs)) → i < length xs → i < length ms
below_marks f view xs ms i e h = let P : ℕ → Type 0 = λ n. i < n in subst P (sym (marks_size f view xs ms e)) h

pub marks_at : {X Y M : Type 0} (f : ℕ × Y → M) (view : X → Y) (xs : List X) (ms : List M) (i : ℕ) (x : X) (d : M) → ms ≡ map f (enumerate_from 0 (map view xs)) → i < length xs → x ≡ get_or xs i x → get_or ms i d ≡ f (i, view x)
marks_at f view xs ms i x d e h there =
    let P : ℕ → Type 0 = λ n. i < n in
    let below : i < length (map view xs) = subst P (sym (length-map xs view)) h in
    let below_all : i < length (enumerate_from 0 (map view xs)) = subst P (sym (length-enumerate_from 0 (map view xs))) below in
    ap (λ l. get_or l i d) e
    ∙ get_or-map f (enumerate_from 0 (map view xs)) i (0, view x) d below_all
    ∙ ap f (get_or-enumerate_from 0 (map view xs) i (0, view x) below ∙ ap (λ k. (k, get_or (map view xs) i (view x))) (zero-add i) ∙ ap (λ y. (i, y)) (get_or-map view xs i x (view x) h ∙ ap view (sym there)))

-- an element stands in a list of views
pub view_there : {X Y : Type 0} (view : X → Y) (xs : List X) (ys : List Y) (i : ℕ) (x : X) → map view xs ≡ ys → i < length xs → x ≡ get_or xs i x → (i < length ys) × (view x ≡ get_or ys i (view x))
view_there view xs ys i x e h there =
    let P : List _ → Type 0 = λ l. (i < length l) × (view x ≡ get_or l i (view x)) in
    let Q : ℕ → Type 0 = λ n. i < n in
    subst P e (subst Q (sym (length-map xs view)) h, ap view there ∙ sym (get_or-map view xs i x (view x) h))

-- a set of the numbers so far, with one more
pub numbers_more : {Y : Type 0} (number : Y → ℤ) (ys : List Y) (i : ℕ) (y : Y) (z : ℤ) (seen next : Bool) → (i < length ys) × (y ≡ get_or ys i y) → next ≡ cond (int_eq (number y) z) true seen → seen ≡ list_any (λ g. int_eq z (number g)) (take i ys) → next ≡ list_any (λ g. int_eq z (number g)) (take (i + 1) ys)
numbers_more number ys i y z seen next at updates held =
    updates ∙ flip (int_eq (number y) z) seen
    ∙ ap (λ b. b || int_eq (number y) z) held
    ∙ ap (λ b. list_any (λ g. int_eq z (number g)) (take i ys) || b) (int_eq_equiv.symm (number y) z ∙ ap (λ g. int_eq z (number g)) at.1)
    ∙ sym (list_any_more (λ g. int_eq z (number g)) ys i y at.0)
  where
    flip : (b c : Bool) → cond b true c ≡ (c || b)
    flip true true = refl
    flip true false = refl
    flip false true = refl
    flip false false = refl

-- all are marked
pub all_marked : {X Y M : Type 0} (f : ℕ × Y → M) (view : X → Y) (xs : List X) (ys : List Y) (i : ℕ) (ms : List M) → ms ≡ map f (enumerate_from 0 (map view (take i xs))) → length xs ≤ i → map view xs ≡ ys → ms ≡ map f (enumerate_from 0 ys)
all_marked f view xs ys i ms held h e = held ∙ ap (λ l. map f (enumerate_from 0 (map view l))) (take_all i xs h) ∙ ap (λ l. map f (enumerate_from 0 l)) e

-- the marks of a message, which has no sibling's rule but that of its ranges
pub message_marked : (t : DeclaredMessage) (right : Bool) → right ≡ (list_all is_message_range (head_of t).reserved && none_overlap message_ranges_overlap (head_of t).reserved) → record { is_named = true; number_is_free = true; is_not_reserved = true; is_oneof_right = true; ranges_are_right = right } ≡ marks_of (item_of_message t)
message_marked (message head inner) right e = λ i. record { is_named = true; number_is_free = true; is_not_reserved = true; is_oneof_right = true; ranges_are_right = e i }

abbrev pub mark_of : Bool → Bool → Bool → Bool → Bool → Marks
mark_of a b c d e = record { is_named = a; number_is_free = b; is_not_reserved = c; is_oneof_right = d; ranges_are_right = e }

-- one more of a list with its indexes
pub enumerated_more : {Y Z : Type 0} (f : ℕ × Y → Z) (ys : List Y) (i : ℕ) (d : Y) → i < length ys → map f (take (i + 1) (enumerate_from 0 ys)) ≡ map f (take i (enumerate_from 0 ys)) ++ f (i, get_or ys i d) ∷ []
enumerated_more f ys i d h =
    let P : ℕ → Type 0 = λ n. i < n in
    map_more f (enumerate_from 0 ys) i (0, d) (subst P (sym (length-enumerate_from 0 ys)) h)
    ∙ ap (λ e. map f (take i (enumerate_from 0 ys)) ++ f e ∷ []) (get_or-enumerate_from 0 ys i (0, d) h ∙ ap (λ k. (k, get_or ys i d)) (zero-add i))

pub any_index_more : {Y : Type 0} (test : ℕ → Bool) (ys : List Y) (i : ℕ) (d : Y) → i < length ys → list_any (λ e. test e.0) (take (i + 1) (enumerate_from 0 ys)) ≡ (list_any (λ e. test e.0) (take i (enumerate_from 0 ys)) || test i)
any_index_more test ys i d h =
    let P : ℕ → Type 0 = λ n. i < n in
    list_any_more (λ e. test e.0) (enumerate_from 0 ys) i (0, d) (subst P (sym (length-enumerate_from 0 ys)) h)
    ∙ ap (λ e. list_any (λ g. test g.0) (take i (enumerate_from 0 ys)) || test e.0) (get_or-enumerate_from 0 ys i (0, d) h)
    ∙ ap (λ k. list_any (λ g. test g.0) (take i (enumerate_from 0 ys)) || test k) (zero-add i)

pub all_enumerated : {Y Z : Type 0} (f : ℕ × Y → Z) (ys : List Y) (i : ℕ) (zs : List Z) → zs ≡ map f (take i (enumerate_from 0 ys)) → length ys ≤ i → zs ≡ map f (enumerate_from 0 ys)
all_enumerated f ys i zs held h =
    let P : ℕ → Type 0 = λ n. n ≤ i in
    held ∙ ap (map f) (take_all i (enumerate_from 0 ys) (subst P (sym (length-enumerate_from 0 ys)) h))
