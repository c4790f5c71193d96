-- A map that takes entries at once has those that it has where it takes them in turn.
use Rattle.std.proofs.Common.{◌≡◌, List, [], ◌∷◌, refl, sym, ap, ◌∙◌, subst, Option, Some, None, Ordering, Less, Equal, Greater, Bool, true, false}
use Rattle.std.specs.Prelude.{cond}
use Rattle.std.specs.Ordering.{match_ordering, is_eq, eq_by_cmp, ordering_reverse}
use Rattle.std.specs.List.{AllByRecursion}
use Rattle.std.specs.List.Sorted.{IsStrictlySortedBy}
use Rattle.std.specs.Map.{keys_of, lookup, update, update_all}
use Rattle.std.specs.Cmp.{IsTotalOrder, eq_by_cmp_equiv}
use Rattle.std.specs.BTreeMap.{BTreeMap, insert_entry, is_at, get, IsOrdered, InsertsAll, IsFromIterResult}
use Rattle.std.proofs.lemmas.Map.Lookups.{map_keys}
use Rattle.std.proofs.lemmas.Cmp.{tied_itself}
use Rattle.pb_decode_parts.specs.Close.Mapped.{insert_in_turn}

equal_is : (r : Ordering) → is_eq r ≡ true → r ≡ Equal
equal_is Equal h = refl
equal_is Less h = absurd (cc)
equal_is Greater h = absurd (cc)

module _ {K : Type 0} {R : K → K → Ordering} (o : IsTotalOrder R) where
  turned : (x y : K) (r : Ordering) → R x y ≡ r → R y x ≡ ordering_reverse r
  turned x y r h = o.antisymm y x ∙ ap ordering_reverse h

  same_test : (q k : K) → is_eq (R q k) ≡ is_eq (R k q)
  same_test q k = (eq_by_cmp_equiv o).symm q k

  never : (k q l : K) → R k l ≡ Greater → is_eq (R q l) ≡ true → is_eq (R k q) ≡ true → ⊥
  never k q l h a b =
      let same : R k l ≡ R q l = o.congr k q l (equal_is (R k q) b) in
      let both : Greater ≡ Equal = sym h ∙ same ∙ equal_is (R q l) a in absurd (cc)

module _ {K X : Type 0} {R : K → K → Ordering} (o : IsTotalOrder R) where
  -- THE ORDER is kept
  below_all : (x : K) (k : K) (es : List (K × X)) → R x k ≡ Less → AllByRecursion (λ y. R k y ≡ Less) (keys_of es) → AllByRecursion (λ y. R x y ≡ Less) (keys_of es)
  below_all x k [] h a = tt
  below_all x k (e ∷ es) h a = (o.trans x k e.0 h a.0, below_all x k es h a.1)

  below_inserted : (x k : K) (v : X) (es : List (K × X)) → R x k ≡ Less → AllByRecursion (λ y. R x y ≡ Less) (keys_of es) → AllByRecursion (λ y. R x y ≡ Less) (keys_of (insert_entry R es k v))
  below_inserted x k v [] h a = (h, tt)
  below_inserted x k v (e ∷ es) h a = by_place (R k e.0) (below_inserted x k v es h a.1)
    where
      by_place : (r : Ordering) → AllByRecursion (λ y. R x y ≡ Less) (keys_of (insert_entry R es k v)) → AllByRecursion (λ y. R x y ≡ Less) (keys_of (match_ordering r ((k, v) ∷ e ∷ es) ((e.0, v) ∷ es) (e ∷ insert_entry R es k v)))
      by_place Less later = (h, a)
      by_place Equal later = a
      by_place Greater later = (a.0, later)

  pub sorted_inserted : (k : K) (v : X) (es : List (K × X)) → IsStrictlySortedBy R (keys_of es) → IsStrictlySortedBy R (keys_of (insert_entry R es k v))
  unfolding IsStrictlySortedBy
  sorted_inserted k v [] s = (tt, tt)
  sorted_inserted k v (e ∷ es) s = by_place (R k e.0) refl (sorted_inserted k v es s.1)
    where
      by_place : (r : Ordering) → R k e.0 ≡ r → IsStrictlySortedBy R (keys_of (insert_entry R es k v)) → IsStrictlySortedBy R (keys_of (match_ordering r ((k, v) ∷ e ∷ es) ((e.0, v) ∷ es) (e ∷ insert_entry R es k v)))
      by_place Less h later = ((h, below_all k e.0 es h s.0), s)
      by_place Equal h later = s
      by_place Greater h later = (below_inserted e.0 k v es (turned o k e.0 Greater h) s.0, later)

  pub sorted_each : (xs es : List (K × X)) → IsStrictlySortedBy R (keys_of es) → IsStrictlySortedBy R (keys_of (insert_in_turn R xs es))
  sorted_each [] es s = s
  sorted_each (x ∷ xs) es s = sorted_each xs (insert_entry R es x.0 x.1) (sorted_inserted x.0 x.1 es s)

  -- WHAT IS under a key
  pub found_inserted : (k : K) (v : X) (q : K) (es : List (K × X)) → lookup (is_at (R q)) (insert_entry R es k v) ≡ cond (is_eq (R k q)) (Some v) (lookup (is_at (R q)) es)
  found_inserted k v q [] = ap (λ (b : Bool). cond b (Some v) None) (same_test o q k)
  found_inserted k v q (e ∷ es) = by_place (R k e.0) refl (found_inserted k v q es)
    where
      tested : (a b : Bool) → a ≡ b → (w : Option X) → cond a (Some v) w ≡ cond b (Some v) (cond a (Some e.1) w)
      tested true b h w = subst (λ (z : Bool). Some v ≡ cond z (Some v) (Some e.1)) h refl
      tested false b h w = subst (λ (z : Bool). w ≡ cond z (Some v) w) h refl

      apart : (a b : Bool) → (a ≡ true → b ≡ true → ⊥) → (w : Option X) → cond a (Some e.1) (cond b (Some v) w) ≡ cond b (Some v) (cond a (Some e.1) w)
      apart true true h w = absurd (h refl refl)
      apart true false h w = refl
      apart false b h w = refl

      by_place : (r : Ordering) → R k e.0 ≡ r → lookup (is_at (R q)) (insert_entry R es k v) ≡ cond (is_eq (R k q)) (Some v) (lookup (is_at (R q)) es)
          → lookup (is_at (R q)) (match_ordering r ((k, v) ∷ e ∷ es) ((e.0, v) ∷ es) (e ∷ insert_entry R es k v)) ≡ cond (is_eq (R k q)) (Some v) (lookup (is_at (R q)) (e ∷ es))
      by_place Less h later = ap (λ (b : Bool). cond b (Some v) (lookup (is_at (R q)) (e ∷ es))) (same_test o q k)
      by_place Equal h later = tested (is_eq (R q e.0)) (is_eq (R k q)) (same_test o q e.0 ∙ ap is_eq (sym (o.congr k e.0 q h))) (lookup (is_at (R q)) es)
      by_place Greater h later =
          ap (λ (w : Option X). cond (is_eq (R q e.0)) (Some e.1) w) later ∙ apart (is_eq (R q e.0)) (is_eq (R k q)) (never o k q e.0 h) (lookup (is_at (R q)) es)

  update_same : (xs : List (K × X)) (f g : K → Option X) → ((q : K) → f q ≡ g q) → (q : K) → update_all (eq_by_cmp R) f xs q ≡ update_all (eq_by_cmp R) g xs q
  update_same [] f g h q = h q
  update_same (x ∷ xs) f g h q = update_same xs (update (eq_by_cmp R) f x.0 (Some x.1)) (update (eq_by_cmp R) g x.0 (Some x.1)) (λ p. ap (λ (w : Option X). cond (eq_by_cmp R x.0 p) (Some x.1) w) (h p)) q

  pub found_each : (xs es : List (K × X)) (q : K) → lookup (is_at (R q)) (insert_in_turn R xs es) ≡ update_all (eq_by_cmp R) (λ p. lookup (is_at (R p)) es) xs q
  found_each [] es q = refl
  found_each (x ∷ xs) es q =
      found_each xs (insert_entry R es x.0 x.1) q
      ∙ update_same xs (λ p. lookup (is_at (R p)) (insert_entry R es x.0 x.1)) (update (eq_by_cmp R) (λ p. lookup (is_at (R p)) es) x.0 (Some x.1)) (λ p. found_inserted x.0 x.1 p es) q

  -- BY WAY OF A MAP OF THEIR OWN
  abbrev over : Option X → Option X → Option X
  over None w = w
  over (Some v) w = Some v

  over_none : (u : Option X) → over u None ≡ u
  over_none None = refl
  over_none (Some v) = refl

  over_more : (u : Option X) (b : Bool) (v : X) (w : Option X) → over u (cond b (Some v) w) ≡ over (over u (cond b (Some v) None)) w
  over_more None true v w = refl
  over_more None false v w = refl
  over_more (Some u) b v w = refl

  update_over : (xs : List (K × X)) (f : K → Option X) (q : K) → update_all (eq_by_cmp R) f xs q ≡ over (update_all (eq_by_cmp R) (λ _. None) xs q) (f q)
  update_over [] f q = refl
  update_over (x ∷ xs) f q =
      update_over xs (update (eq_by_cmp R) f x.0 (Some x.1)) q
      ∙ over_more (update_all (eq_by_cmp R) (λ _. None) xs q) (eq_by_cmp R x.0 q) x.1 (f q)
      ∙ ap (λ (w : Option X). over w (f q)) (sym (update_over xs (update (eq_by_cmp R) (λ _. None) x.0 (Some x.1)) q))

  none_above : (k q : K) (es : List (K × X)) → R k q ≡ Equal → AllByRecursion (λ y. R k y ≡ Less) (keys_of es) → lookup (is_at (R q)) es ≡ None
  none_above k q [] h a = refl
  none_above k q (e ∷ es) h a =
      let less : R q e.0 ≡ Less = sym (o.congr k q e.0 h) ∙ a.0 in
      ap (λ (r : Ordering). cond (is_eq r) (Some e.1) (lookup (is_at (R q)) es)) less ∙ none_above k q es h a.1

  own : (es : List (K × X)) (q : K) → IsStrictlySortedBy R (keys_of es) → update_all (eq_by_cmp R) (λ _. None) es q ≡ lookup (is_at (R q)) es
  unfolding IsStrictlySortedBy
  own [] q s = refl
  own (e ∷ es) q s =
      update_over es (update (eq_by_cmp R) (λ _. None) e.0 (Some e.1)) q ∙ ap (λ (w : Option X). over w (cond (eq_by_cmp R e.0 q) (Some e.1) None)) (own es q s.1)
      ∙ first (eq_by_cmp R e.0 q) refl ∙ ap (λ (b : Bool). cond b (Some e.1) (lookup (is_at (R q)) es)) (same_test o e.0 q)
    where
      first : (b : Bool) → eq_by_cmp R e.0 q ≡ b → over (lookup (is_at (R q)) es) (cond b (Some e.1) None) ≡ cond b (Some e.1) (lookup (is_at (R q)) es)
      first true h = ap (λ (w : Option X). over w (Some e.1)) (none_above e.0 q es (equal_is (R e.0 q) h) s.0)
      first false h = over_none (lookup (is_at (R q)) es)

  -- a map that took those of a map of these entries took these
  pub by_way : (m more n : BTreeMap K X) (xs : List (K × X)) → IsFromIterResult R xs more → InsertsAll R m more.entries n → InsertsAll R m xs n
  by_way m more n xs made took = (
    λ q.
        took.0 q ∙ update_over more.entries (get R m) q ∙ ap (λ (w : Option X). over w (get R m q)) (own more.entries q made.1 ∙ made.0 q)
        ∙ sym (update_over xs (get R m) q),
    took.1,
  )

  -- TWO LISTS IN ORDER in which each key finds the same
  none_below : (k : K) (es : List (K × X)) → AllByRecursion (λ y. R k y ≡ Less) (keys_of es) → lookup (is_at (R k)) es ≡ None
  none_below k [] a = refl
  none_below k (e ∷ es) a = ap (λ (r : Ordering). cond (is_eq r) (Some e.1) (lookup (is_at (R k)) es)) a.0 ∙ none_below k es a.1

  head_found : (e : K × X) (es : List (K × X)) → lookup (is_at (R e.0)) (e ∷ es) ≡ Some e.1
  head_found e es = ap (λ (r : Ordering). cond (is_eq r) (Some e.1) (lookup (is_at (R e.0)) es)) (tied_itself o e.0)

  tail_found : (q : K) (e x : K × X) (es xs : List (K × X)) → R e.0 x.0 ≡ Equal → AllByRecursion (λ y. R e.0 y ≡ Less) (keys_of es) → AllByRecursion (λ y. R x.0 y ≡ Less) (keys_of xs)
      → lookup (is_at (R q)) (e ∷ es) ≡ lookup (is_at (R q)) (x ∷ xs) → lookup (is_at (R q)) es ≡ lookup (is_at (R q)) xs
  tail_found q e x es xs same a b h = by_test (is_eq (R q e.0)) refl
    where
      both : is_eq (R q x.0) ≡ is_eq (R q e.0)
      both = same_test o q x.0 ∙ ap is_eq (sym (o.congr e.0 x.0 q same)) ∙ same_test o e.0 q

      by_test : (t : Bool) → is_eq (R q e.0) ≡ t → lookup (is_at (R q)) es ≡ lookup (is_at (R q)) xs
      by_test true is =
          let first : R e.0 q ≡ Equal = equal_is (R e.0 q) (same_test o e.0 q ∙ is) in
          let second : R x.0 q ≡ Equal = sym (o.congr e.0 x.0 q same) ∙ first in
          none_above e.0 q es first a ∙ sym (none_above x.0 q xs second b)
      by_test false is =
          sym (ap (λ (t : Bool). cond t (Some e.1) (lookup (is_at (R q)) es)) is) ∙ h ∙ ap (λ (t : Bool). cond t (Some x.1) (lookup (is_at (R q)) xs)) (both ∙ is)

  some_is : (v w : X) → Some v ≡ Some w → v ≡ w
  some_is v w h = cc

  found_same : {B : Type 0} (f : K → B) → ((x y : K) → R x y ≡ Equal → f x ≡ f y) → (es xs : List (K × X)) → IsStrictlySortedBy R (keys_of es) → IsStrictlySortedBy R (keys_of xs)
      → ((q : K) → lookup (is_at (R q)) es ≡ lookup (is_at (R q)) xs) → map_keys f es ≡ map_keys f xs
  unfolding IsStrictlySortedBy
  found_same f reads [] [] s t h = refl
  found_same f reads [] (x ∷ xs) s t h = let found : None ≡ Some x.1 = h x.0 ∙ head_found x xs in absurd (cc)
  found_same f reads (e ∷ es) [] s t h = let found : Some e.1 ≡ None = sym (head_found e es) ∙ h e.0 in absurd (cc)
  found_same {B} f reads (e ∷ es) (x ∷ xs) s t h = by_place (R e.0 x.0) refl (λ same. found_same f reads es xs s.1 t.1 (λ q. tail_found q e x es xs same s.0 t.0 (h q)))
    where
      heads : R e.0 x.0 ≡ Equal → e.1 ≡ x.1
      heads same = some_is e.1 x.1 (sym (head_found e es) ∙ h e.0 ∙ ap (λ (r : Ordering). cond (is_eq r) (Some x.1) (lookup (is_at (R e.0)) xs)) same)

      by_place : (r : Ordering) → R e.0 x.0 ≡ r → (R e.0 x.0 ≡ Equal → map_keys f es ≡ map_keys f xs) → map_keys f (e ∷ es) ≡ map_keys f (x ∷ xs)
      by_place Less is later = let found : Some e.1 ≡ None = sym (head_found e es) ∙ h e.0 ∙ none_below e.0 (x ∷ xs) (is, below_all e.0 x.0 xs is t.0) in absurd (cc)
      by_place Equal is later = ap (λ (b : B). (b, e.1) ∷ map_keys f es) (reads e.0 x.0 is) ∙ ap (λ (v : X). (f x.0, v) ∷ map_keys f es) (heads is) ∙ ap (λ (l : List (B × X)). (f x.0, x.1) ∷ l) (later is)
      by_place Greater is later =
          let less : R x.0 e.0 ≡ Less = turned o e.0 x.0 Greater is in
          let found : None ≡ Some x.1 = sym (none_below x.0 (e ∷ es) (less, below_all x.0 e.0 es less s.0)) ∙ h x.0 ∙ head_found x xs in absurd (cc)

  -- ALL AT ONCE OR EACH IN TURN: what is read of the keys is the same
  pub at_once : {B : Type 0} (f : K → B) → ((x y : K) → R x y ≡ Equal → f x ≡ f y) → (m n : BTreeMap K X) (xs : List (K × X)) → IsOrdered R m → InsertsAll R m xs n → map_keys f n.entries ≡ map_keys f (insert_in_turn R xs m.entries)
  at_once f reads m n xs s took = found_same f reads n.entries (insert_in_turn R xs m.entries) took.1 (sorted_each xs m.entries s) (λ q. took.0 q ∙ sym (found_each xs m.entries q))
