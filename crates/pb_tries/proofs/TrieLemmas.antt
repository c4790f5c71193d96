-- Names as paths of bytes.
use Rattle.std.proofs.Common.{◌≡◌, ◌≢◌, ℕ, zero, suc, ◌+◌, ◌<◌, ◌≤◌, ◌⊎◌, inl, inr, ⊎_elim, List, [], ◌∷◌, ◌++◌, length, take, drop, get_or, set, Bool, true, false, ◌&&◌, ◌==◌, refl, sym, ap, ◌∙◌, subst, arith, cond, Option, Some, None, length-append}
use Rattle.std.specs.Prelude.{slice_get, option_and_then}
use Rattle.std.specs.List.{position_from}
use Rattle.std.specs.Cmp.{unsigned_Decides}
use Rattle.std.proofs.lemmas.Bool.{false≢true, cases_eq}
use Rattle.std.proofs.lemmas.Option.{none-some}
use Rattle.std.proofs.lemmas.List.{length-set, get_or-set_same, get_or-set_other, get_or_append_left, append_assoc, take_more, take-append-drop}
use Rattle.pb_tries.specs.Tries.{is_edge, child_of, node_from, IsNewest, IsTrie, GrowsBy, ByteAdded}
use Rattle.pb_tries.specs.declared.trie.NameTrie.{NameTrie}

some_same : {X : Type 0} (a b : X) → Some a ≡ Some b → a ≡ b
some_same a b h = cc

and_cases : (a b : Bool) → (a && b) ≡ true → (a ≡ true) × (b ≡ true)
and_cases true b h = (refl, h)
and_cases false b h = absurd (false≢true h)

edge_is : (node byte : ℕ) (e : ℕ × ℕ) → is_edge node byte e ≡ true → e ≡ (node, byte)
edge_is node byte e h =
    let both = and_cases (e.0 == node) (e.1 == byte) h in
    ap (λ (p : ℕ). (p, e.1)) ((unsigned_Decides e.0 node).0 both.0) ∙ ap (λ (b : ℕ). (node, b)) ((unsigned_Decides e.1 byte).0 both.1)

is_itself : (node byte : ℕ) → is_edge node byte (node, byte) ≡ true
is_itself node byte = ap (λ b. b && (byte == byte)) ((unsigned_Decides node node).1 refl) ∙ (unsigned_Decides byte byte).1 refl

-- ELEMENTS BY INDEX
less_there : {X : Type 0} (xs : List X) (i : ℕ) (x : X) → slice_get xs i ≡ Some x → i < length xs
less_there [] i x h = absurd (none-some x h)
less_there (y ∷ ys) zero x h = omega arith
less_there (y ∷ ys) (suc i) x h = omega (arith, less_there ys i x h)

get_left : {X : Type 0} (xs ys : List X) (i : ℕ) (x : X) → slice_get xs i ≡ Some x → slice_get (xs ++ ys) i ≡ Some x
get_left [] ys i x e = absurd (none-some x e)
get_left (z ∷ zs) ys zero x e = e
get_left (z ∷ zs) ys (suc i) x e = get_left zs ys i x e

get_cases : {X : Type 0} (xs : List X) (y : X) (i : ℕ) (x : X) → slice_get (xs ++ y ∷ []) i ≡ Some x → (slice_get xs i ≡ Some x) ⊎ ((i ≡ length xs) × (y ≡ x))
get_cases [] y zero x e = inr (refl, some_same y x e)
get_cases [] y (suc i) x e = absurd (none-some x e)
get_cases (z ∷ zs) y zero x e = inl e
get_cases (z ∷ zs) y (suc i) x e = ⊎_elim inl (λ p. inr (ap suc p.0, p.1)) (get_cases zs y i x e)

-- FIRST PLACES
pub found_at : {X : Type 0} (t : X → Bool) (n : ℕ) (xs : List X) (k : ℕ) → position_from t n xs ≡ Some k → (i : ℕ) × (x : X) × (k ≡ n + i) × (slice_get xs i ≡ Some x) × (t x ≡ true)
found_at t n [] k h = absurd (none-some k h)
found_at t n (x ∷ xs) k h = by (found_at t (n + 1) xs k) (t x) refl h
  where
    by : (position_from t (n + 1) xs ≡ Some k → (i : ℕ) × (y : _) × (k ≡ n + 1 + i) × (slice_get xs i ≡ Some y) × (t y ≡ true)) → (b : Bool) → t x ≡ b → cond b (Some n) (position_from t (n + 1) xs) ≡ Some k → (i : ℕ) × (y : _) × (k ≡ n + i) × (slice_get (x ∷ xs) i ≡ Some y) × (t y ≡ true)
    by onward true is e = (0, x, omega (arith, some_same n k e), refl, is)
    by onward false is e = let at = onward e in (suc at.0, at.1, omega (arith, at.2), at.3, at.4)

pub nowhere : {X : Type 0} (t : X → Bool) (n : ℕ) (xs : List X) → position_from t n xs ≡ None → (i : ℕ) (x : X) → slice_get xs i ≡ Some x → t x ≡ true → ⊥
nowhere t n [] h i x there passes = none-some x there
nowhere t n (y ∷ ys) h i x there passes = by (λ e j at. nowhere t (n + 1) ys e j x at passes) (t y) refl h i there
  where
    by : (position_from t (n + 1) ys ≡ None → (j : ℕ) → slice_get ys j ≡ Some x → ⊥) → (b : Bool) → t y ≡ b → cond b (Some n) (position_from t (n + 1) ys) ≡ None → (i : ℕ) → slice_get (y ∷ ys) i ≡ Some x → ⊥
    by onward true is e i at = none-some n (sym e)
    by onward false is e zero at = false≢true (sym is ∙ ap t (some_same y x at) ∙ passes)
    by onward false is e (suc i) at = onward e i at

push_found : {X : Type 0} (t : X → Bool) (n : ℕ) (xs ys : List X) (k : ℕ) → position_from t n xs ≡ Some k → position_from t n (xs ++ ys) ≡ Some k
push_found t n [] ys k h = absurd (none-some k h)
push_found t n (x ∷ xs) ys k h = by (push_found t (n + 1) xs ys k) (t x) h
  where
    by : (position_from t (n + 1) xs ≡ Some k → position_from t (n + 1) (xs ++ ys) ≡ Some k) → (b : Bool) → cond b (Some n) (position_from t (n + 1) xs) ≡ Some k → cond b (Some n) (position_from t (n + 1) (xs ++ ys)) ≡ Some k
    by onward true e = e
    by onward false e = onward e

push_none : {X : Type 0} (t : X → Bool) (n : ℕ) (xs : List X) (x : X) → position_from t n xs ≡ None → t x ≡ true → position_from t n (xs ++ x ∷ []) ≡ Some (n + length xs)
push_none t n [] x h passes = ap (λ b. cond b (Some n) None) passes ∙ ap Some (omega arith)
push_none t n (y ∷ ys) x h passes = by (λ e. push_none t (n + 1) ys x e passes) (t y) h
  where
    by : (position_from t (n + 1) ys ≡ None → position_from t (n + 1) (ys ++ x ∷ []) ≡ Some (n + 1 + length ys)) → (b : Bool) → cond b (Some n) (position_from t (n + 1) ys) ≡ None → cond b (Some n) (position_from t (n + 1) (ys ++ x ∷ [])) ≡ Some (n + suc (length ys))
    by onward true e = absurd (none-some n (sym e))
    by onward false e = onward e ∙ ap Some (omega arith)

-- CHILDREN
pub child_at : (es : List (ℕ × ℕ)) (node byte child : ℕ) → child_of es node byte ≡ Some child → (i : ℕ) × (child ≡ i + 1) × (slice_get es i ≡ Some (node, byte))
child_at es node byte child h =
    let at = found_at (is_edge node byte) 1 es child h in
    (at.0, omega (arith, at.2), at.3 ∙ ap Some (edge_is node byte at.1 at.4))

-- the child of an edge, where edges differ
pub child_here : (t : NameTrie) (node byte i : ℕ) → IsTrie t → slice_get t.edges.items i ≡ Some (node, byte) → child_of t.edges.items node byte ≡ Some (i + 1)
child_here t node byte i trie there = by (child_of t.edges.items node byte) refl
  where
    by : (o : Option ℕ) → child_of t.edges.items node byte ≡ o → o ≡ Some (i + 1)
    by None is = absurd (nowhere (is_edge node byte) 1 t.edges.items is i (node, byte) there (is_itself node byte))
    by (Some k) is = let at = child_at t.edges.items node byte k is in ap Some (at.1 ∙ ap (λ n. n + 1) (trie.differ at.0 i (node, byte) at.2 there))

-- SEARCHING: the child that is sought is not after a node
pub record Seeks (es : List (ℕ × ℕ)) (node byte child : ℕ) : Type 0 where
  pub within : child ≤ length es
  pub own : (i : ℕ) (e : ℕ × ℕ) → child ≡ i + 1 → slice_get es i ≡ Some e → e.0 ≡ node
  pub left : (i : ℕ) → slice_get es i ≡ Some (node, byte) → i < child

pub seek_first : (t : NameTrie) (node byte child : ℕ) → IsTrie t → child ≡ get_or t.newest.items node 0 → Seeks t.edges.items node byte child
seek_first t node byte child trie is =
    let newest = subst (IsNewest t.edges.items node (length t.edges.items)) (sym is) (trie.newest_child node) in
    record { within = newest.within; own = newest.own; left = λ i there. newest.last i (node, byte) there refl (less_there t.edges.items i (node, byte) there) }

pub seek_found : (t : NameTrie) (node byte child i : ℕ) (e : ℕ × ℕ) → IsTrie t → Seeks t.edges.items node byte child → child ≡ i + 1 → slice_get t.edges.items i ≡ Some e → e.1 ≡ byte → child_of t.edges.items node byte ≡ Some child
seek_found t node byte child i e trie s at there same =
    let own : e.0 ≡ node = s.own i e at there in
    let edge : e ≡ (node, byte) = ap (λ (p : ℕ). (p, e.1)) own ∙ ap (λ (b : ℕ). (node, b)) same in
    child_here t node byte i trie (there ∙ ap Some edge) ∙ ap Some (sym at)

pub seek_more : (t : NameTrie) (node byte child i older : ℕ) (e : ℕ × ℕ) → IsTrie t → Seeks t.edges.items node byte child → child ≡ i + 1 → slice_get t.edges.items i ≡ Some e → (e.1 ≡ byte → ⊥) → older ≡ get_or t.older.items child 0 → Seeks t.edges.items node byte older × (older < child)
seek_more t node byte child i older e trie s at there differs is =
    let own : e.0 ≡ node = s.own i e at there in
    let old : IsNewest t.edges.items e.0 i older = subst (IsNewest t.edges.items e.0 i) (sym (is ∙ ap (λ n. get_or t.older.items n 0) at)) (trie.older_child i e there) in
    let inside : i < length t.edges.items = less_there t.edges.items i e there in (
      record {
        within = omega (arith, old.within, inside);
        own = λ j f is_next at_next. old.own j f is_next at_next ∙ own;
        left = λ j at_j. old.last j (node, byte) at_j (sym own) (before j at_j);
      },
      omega (arith, old.within, at),
    )
  where
    before : (j : ℕ) → slice_get t.edges.items j ≡ Some (node, byte) → j < i
    before j at_j = ⊎_elim
        (λ same. absurd (differs (ap (λ (p : ℕ × ℕ). p.1) (some_same e (node, byte) (sym there ∙ ap (slice_get t.edges.items) (sym same) ∙ at_j)))))
        (λ other. omega (arith, s.left j at_j, at, other))
        (cases_eq j i)

pub seek_none : (es : List (ℕ × ℕ)) (node byte child : ℕ) → Seeks es node byte child → child ≡ 0 → child_of es node byte ≡ None
seek_none es node byte child s none = by (child_of es node byte) refl
  where
    by : (o : Option ℕ) → child_of es node byte ≡ o → o ≡ None
    by None is = refl
    by (Some k) is = let at = child_at es node byte k is in absurd (omega (arith, s.left at.0 at.2, none))

-- NODES OF NAMES
pub node_append : (es : List (ℕ × ℕ)) (n : ℕ) (xs ys : List ℕ) → node_from es n (xs ++ ys) ≡ option_and_then (λ k. node_from es k ys) (node_from es n xs)
node_append es n [] ys = refl
node_append es n (c ∷ xs) ys = by (λ k. node_append es k xs ys) (child_of es n c)
  where
    by : ((k : ℕ) → node_from es k (xs ++ ys) ≡ option_and_then (λ j. node_from es j ys) (node_from es k xs)) → (o : Option ℕ) → option_and_then (λ k. node_from es k (xs ++ ys)) o ≡ option_and_then (λ k. node_from es k ys) (option_and_then (λ k. node_from es k xs) o)
    by onward None = refl
    by onward (Some k) = onward k

-- one byte more
pub node_more : (es : List (ℕ × ℕ)) (n node child byte : ℕ) (xs : List ℕ) → node_from es n xs ≡ Some node → child_of es node byte ≡ Some child → node_from es n (xs ++ byte ∷ []) ≡ Some child
node_more es n node child byte xs at on =
    node_append es n xs (byte ∷ []) ∙ ap (λ o. option_and_then (λ k. node_from es k (byte ∷ [])) o) at ∙ ap (λ o. option_and_then (λ (k : ℕ). Some k) o) on

pub node_ends : (es : List (ℕ × ℕ)) (n node byte : ℕ) (xs ys : List ℕ) → node_from es n xs ≡ Some node → child_of es node byte ≡ None → node_from es n (xs ++ byte ∷ ys) ≡ None
node_ends es n node byte xs ys at none =
    node_append es n xs (byte ∷ ys) ∙ ap (λ o. option_and_then (λ k. node_from es k (byte ∷ ys)) o) at ∙ ap (λ o. option_and_then (λ k. node_from es k ys) o) none

-- the node before the last byte
step_back : (es : List (ℕ × ℕ)) (n k byte : ℕ) (xs : List ℕ) → node_from es n (xs ++ byte ∷ []) ≡ Some k → (m : ℕ) × (node_from es n xs ≡ Some m) × (child_of es m byte ≡ Some k)
step_back es n k byte xs h = by (node_from es n xs) refl (sym (node_append es n xs (byte ∷ [])) ∙ h)
  where
    last : (m : ℕ) (o : Option ℕ) → option_and_then (λ (j : ℕ). Some j) o ≡ Some k → o ≡ Some k
    last m None e = absurd (none-some k e)
    last m (Some j) e = e

    by : (o : Option ℕ) → node_from es n xs ≡ o → option_and_then (λ j. node_from es j (byte ∷ [])) o ≡ Some k → (m : ℕ) × (node_from es n xs ≡ Some m) × (child_of es m byte ≡ Some k)
    by None is e = absurd (none-some k e)
    by (Some m) is e = (m, is, last m (child_of es m byte) e)

pub node_within : (es : List (ℕ × ℕ)) (n k : ℕ) (xs : List ℕ) → n ≤ length es → node_from es n xs ≡ Some k → k ≤ length es
node_within es n k [] h e = subst (λ m. m ≤ length es) (some_same n k e) h
node_within es n k (c ∷ xs) h e = by (λ j. node_within es j k xs) (child_of es n c) refl e
  where
    by : ((j : ℕ) → j ≤ length es → node_from es j xs ≡ Some k → k ≤ length es) → (o : Option ℕ) → child_of es n c ≡ o → option_and_then (λ j. node_from es j xs) o ≡ Some k → k ≤ length es
    by onward None is e = absurd (none-some k e)
    by onward (Some j) is e = let at = child_at es n c j is in onward j (omega (arith, at.1, less_there es at.0 (n, c) at.2)) e

-- A NODE HAS ONE NAME
last_of : (xs : List ℕ) → (xs ≡ []) ⊎ ((ys : List ℕ) × (c : ℕ) × (xs ≡ ys ++ c ∷ []))
last_of [] = inl refl
last_of (x ∷ xs) = by (last_of xs)
  where
    by : (xs ≡ []) ⊎ ((ys : List ℕ) × (c : ℕ) × (xs ≡ ys ++ c ∷ [])) → (x ∷ xs ≡ []) ⊎ ((ys : List ℕ) × (c : ℕ) × (x ∷ xs ≡ ys ++ c ∷ []))
    by (inl none) = inr ([], x, ap (λ l. x ∷ l) none)
    by (inr some) = inr (x ∷ some.0, some.1, ap (λ l. x ∷ l) some.2)

no_root : (es : List (ℕ × ℕ)) (c : ℕ) (ys : List ℕ) → node_from es 0 (ys ++ c ∷ []) ≡ Some 0 → ⊥
no_root es c ys h =
    let back = step_back es 0 0 c ys h in
    let at = child_at es back.0 c 0 back.2 in
    omega (arith, at.1)

-- shorter names of one node being the same
same_step : (es : List (ℕ × ℕ)) (k : ℕ) (xs ys : List ℕ) → ((m : ℕ) (v w : List ℕ) → length v < length xs → node_from es 0 v ≡ Some m → node_from es 0 w ≡ Some m → v ≡ w) → node_from es 0 xs ≡ Some k → node_from es 0 ys ≡ Some k → xs ≡ ys
same_step es k xs ys shorter a b = by (last_of xs) (last_of ys)
  where
    by : (xs ≡ []) ⊎ ((zs : List ℕ) × (c : ℕ) × (xs ≡ zs ++ c ∷ [])) → (ys ≡ []) ⊎ ((zs : List ℕ) × (c : ℕ) × (ys ≡ zs ++ c ∷ [])) → xs ≡ ys
    by (inl x) (inl y) = x ∙ sym y
    by (inl x) (inr y) =
        let root : 0 ≡ k = some_same 0 k (ap (node_from es 0) (sym x) ∙ a) in
        absurd (no_root es y.1 y.0 (ap (node_from es 0) (sym y.2) ∙ b ∙ ap Some (sym root)))
    by (inr x) (inl y) =
        let root : 0 ≡ k = some_same 0 k (ap (node_from es 0) (sym y) ∙ b) in
        absurd (no_root es x.1 x.0 (ap (node_from es 0) (sym x.2) ∙ a ∙ ap Some (sym root)))
    by (inr x) (inr y) =
        let one = step_back es 0 k x.1 x.0 (ap (node_from es 0) (sym x.2) ∙ a) in
        let other = step_back es 0 k y.1 y.0 (ap (node_from es 0) (sym y.2) ∙ b) in
        let at_one = child_at es one.0 x.1 k one.2 in
        let at_other = child_at es other.0 y.1 k other.2 in
        let index : at_one.0 ≡ at_other.0 = omega (arith, at_one.1, at_other.1) in
        let edge : (one.0, x.1) ≡ (other.0, y.1) = some_same (one.0, x.1) (other.0, y.1) (sym at_one.2 ∙ ap (slice_get es) index ∙ at_other.2) in
        let parent : one.0 ≡ other.0 = ap (λ (p : ℕ × ℕ). p.0) edge in
        let byte : x.1 ≡ y.1 = ap (λ (p : ℕ × ℕ). p.1) edge in
        let fronts : x.0 ≡ y.0 = shorter one.0 x.0 y.0 (omega (arith, ap length x.2, length-append x.0 (x.1 ∷ []))) one.1 (other.1 ∙ ap Some (sym parent)) in
        x.2 ∙ ap (λ l. l ++ x.1 ∷ []) fronts ∙ ap (λ c. y.0 ++ c ∷ []) byte ∙ sym y.2

same_within : (n : ℕ) (es : List (ℕ × ℕ)) (k : ℕ) (xs ys : List ℕ) → length xs < n → node_from es 0 xs ≡ Some k → node_from es 0 ys ≡ Some k → xs ≡ ys
same_within zero es k xs ys size = absurd (omega (arith, size))
same_within (suc n) es k xs ys size = same_step es k xs ys (λ m v w less. same_within n es m v w (omega (arith, less, size)))

pub same_name : (es : List (ℕ × ℕ)) (k : ℕ) (xs ys : List ℕ) → node_from es 0 xs ≡ Some k → node_from es 0 ys ≡ Some k → xs ≡ ys
same_name es k xs ys = same_within (suc (length xs)) es k xs ys (omega arith)

-- GROWING: names keep their nodes, and old nodes get no other names
pub node_kept : (es ds : List (ℕ × ℕ)) (n k : ℕ) (xs : List ℕ) → node_from es n xs ≡ Some k → node_from (es ++ ds) n xs ≡ Some k
node_kept es ds n k [] e = e
node_kept es ds n k (c ∷ xs) e = by (λ j. node_kept es ds j k xs) (child_of es n c) refl e
  where
    by : ((j : ℕ) → node_from es j xs ≡ Some k → node_from (es ++ ds) j xs ≡ Some k) → (o : Option ℕ) → child_of es n c ≡ o → option_and_then (λ j. node_from es j xs) o ≡ Some k → option_and_then (λ j. node_from (es ++ ds) j xs) (child_of (es ++ ds) n c) ≡ Some k
    by onward None is e = absurd (none-some k e)
    by onward (Some j) is e = ap (λ o. option_and_then (λ i. node_from (es ++ ds) i xs) o) (push_found (is_edge n c) 1 es ds j is) ∙ onward j e

pub node_grown : (e : ℕ × ℕ) (es new : List (ℕ × ℕ)) (n k : ℕ) (xs : List ℕ) → GrowsBy e es new → node_from es n xs ≡ Some k → node_from new n xs ≡ Some k
node_grown e es new n k xs (inl same) at = ap (λ l. node_from l n xs) same ∙ at
node_grown e es new n k xs (inr more) at = ap (λ l. node_from l n xs) more ∙ node_kept es (e ∷ []) n k xs at

get_old : {X : Type 0} (xs : List X) (y : X) (i : ℕ) (x : X) → i < length xs → slice_get (xs ++ y ∷ []) i ≡ Some x → slice_get xs i ≡ Some x
get_old xs y i x h there = ⊎_elim (λ old. old) (λ new. absurd (omega (arith, h, new.0))) (get_cases xs y i x there)

abbrev IsLower : List (ℕ × ℕ) → Type 0
IsLower es = (i : ℕ) (e : ℕ × ℕ) → slice_get es i ≡ Some e → e.0 ≤ i

-- no name leads on from the newest node
ends_there : (es : List (ℕ × ℕ)) (e : ℕ × ℕ) (k m : ℕ) (xs : List ℕ) → IsLower (es ++ e ∷ []) → m ≡ length es + 1 → node_from (es ++ e ∷ []) m xs ≡ Some k → k ≡ m
ends_there es e k m [] lower at h = sym (some_same m k h)
ends_there es e k m (c ∷ xs) lower at h = by (child_of (es ++ e ∷ []) m c) refl h
  where
    by : (o : Option ℕ) → child_of (es ++ e ∷ []) m c ≡ o → option_and_then (λ j. node_from (es ++ e ∷ []) j xs) o ≡ Some k → k ≡ m
    by None is h = absurd (none-some k h)
    by (Some j) is h =
        let child = child_at (es ++ e ∷ []) m c j is in
        absurd (omega (arith, at, lower child.0 (m, c) child.2, less_there (es ++ e ∷ []) child.0 (m, c) child.2, length-append es (e ∷ [])))

old_child : (es : List (ℕ × ℕ)) (e : ℕ × ℕ) (n c j i : ℕ) → child_of (es ++ e ∷ []) n c ≡ Some j → slice_get es i ≡ Some (n, c) → child_of es n c ≡ Some j
old_child es e n c j i now there = by (child_of es n c) refl
  where
    by : (o : Option ℕ) → child_of es n c ≡ o → o ≡ Some j
    by None is = absurd (nowhere (is_edge n c) 1 es is i (n, c) there (is_itself n c))
    by (Some k) is = sym (push_found (is_edge n c) 1 es (e ∷ []) k is) ∙ now

node_old : (es : List (ℕ × ℕ)) (e : ℕ × ℕ) (n k : ℕ) (xs : List ℕ) → IsLower (es ++ e ∷ []) → k ≤ length es → node_from (es ++ e ∷ []) n xs ≡ Some k → node_from es n xs ≡ Some k
node_old es e n k [] lower h at = at
node_old es e n k (c ∷ xs) lower h at = by (λ j. node_old es e j k xs lower h) (child_of (es ++ e ∷ []) n c) refl at
  where
    on : ((j : ℕ) → node_from (es ++ e ∷ []) j xs ≡ Some k → node_from es j xs ≡ Some k) → (j : ℕ) → child_of (es ++ e ∷ []) n c ≡ Some j → node_from (es ++ e ∷ []) j xs ≡ Some k → (i : ℕ) → j ≡ i + 1 → (slice_get es i ≡ Some (n, c)) ⊎ ((i ≡ length es) × (e ≡ (n, c))) → node_from es n (c ∷ xs) ≡ Some k
    on onward j is rest i step (inl old) = ap (λ o. option_and_then (λ m. node_from es m xs) o) (old_child es e n c j i is old) ∙ onward j rest
    on onward j is rest i step (inr new) = absurd (omega (arith, h, step, new.0, ends_there es e k j xs lower (omega (arith, step, new.0)) rest))

    by : ((j : ℕ) → node_from (es ++ e ∷ []) j xs ≡ Some k → node_from es j xs ≡ Some k) → (o : Option ℕ) → child_of (es ++ e ∷ []) n c ≡ o → option_and_then (λ j. node_from (es ++ e ∷ []) j xs) o ≡ Some k → node_from es n (c ∷ xs) ≡ Some k
    by onward None is at = absurd (none-some k at)
    by onward (Some j) is at = let child = child_at (es ++ e ∷ []) n c j is in on onward j is at child.0 child.1 (get_cases es e child.0 (n, c) child.2)

pub node_shrunk : (e : ℕ × ℕ) (es : List (ℕ × ℕ)) (t : NameTrie) (n k : ℕ) (xs : List ℕ) → IsTrie t → GrowsBy e es t.edges.items → k ≤ length es → node_from t.edges.items n xs ≡ Some k → node_from es n xs ≡ Some k
node_shrunk e es t n k xs trie (inl same) h at = ap (λ l. node_from l n xs) (sym same) ∙ at
node_shrunk e es t n k xs trie (inr more) h at = node_old es e n k xs (subst IsLower more trie.lower) h (ap (λ l. node_from l n xs) (sym more) ∙ at)

-- ONE CHILD MORE
or_zero : (xs : List ℕ) (n : ℕ) → get_or (xs ++ 0 ∷ []) n 0 ≡ get_or xs n 0
or_zero [] zero = refl
or_zero [] (suc n) = refl
or_zero (x ∷ xs) zero = refl
or_zero (x ∷ xs) (suc n) = or_zero xs n

get_end : (xs : List ℕ) (x d : ℕ) (n : ℕ) → n ≡ length xs → get_or (xs ++ x ∷ []) n d ≡ x
get_end [] x d zero h = refl
get_end [] x d (suc n) h = absurd (omega (arith, h))
get_end (y ∷ ys) x d zero h = absurd (omega (arith, h))
get_end (y ∷ ys) x d (suc n) h = get_end ys x d n (omega (arith, h))

still_newest : (es : List (ℕ × ℕ)) (e : ℕ × ℕ) (parent bound newest : ℕ) → bound ≤ length es → IsNewest es parent bound newest → IsNewest (es ++ e ∷ []) parent bound newest
still_newest es e parent bound newest h was = record {
  within = was.within;
  own = λ i f is there. was.own i f is (get_old es e i f (omega (arith, h, was.within, is)) there);
  last = λ i f there child below. was.last i f (get_old es e i f (omega (arith, h, below)) there) child below;
}

newest_other : (es : List (ℕ × ℕ)) (e : ℕ × ℕ) (parent bound newest : ℕ) → bound ≡ length es → (e.0 ≡ parent → ⊥) → IsNewest es parent bound newest → IsNewest (es ++ e ∷ []) parent (bound + 1) newest
newest_other es e parent bound newest h other was = record {
  within = omega (arith, was.within);
  own = λ i f is there. was.own i f is (get_old es e i f (omega (arith, h, was.within, is)) there);
  last = λ i f there child below. ⊎_elim
      (λ old. was.last i f old child (omega (arith, h, less_there es i f old)))
      (λ new. absurd (other (ap (λ (p : ℕ × ℕ). p.0) new.1 ∙ child)))
      (get_cases es e i f there);
}

newest_now : (es : List (ℕ × ℕ)) (node byte : ℕ) → IsNewest (es ++ (node, byte) ∷ []) node (length es + 1) (length es + 1)
newest_now es node byte = record {
  within = omega arith;
  own = λ i f is there. ⊎_elim
      (λ old. absurd (omega (arith, is, less_there es i f old)))
      (λ new. ap (λ (p : ℕ × ℕ). p.0) (sym new.1))
      (get_cases es (node, byte) i f there);
  last = λ i f there child below. below;
}

abbrev AreDistinct : List (ℕ × ℕ) → Type 0
AreDistinct es = (i j : ℕ) (e : ℕ × ℕ) → slice_get es i ≡ Some e → slice_get es j ≡ Some e → i ≡ j

pub child_added : (t s : NameTrie) (node byte : ℕ) → IsTrie t → node ≤ length t.edges.items → child_of t.edges.items node byte ≡ None → s.edges.items ≡ t.edges.items ++ (node, byte) ∷ [] → s.older.items ≡ t.older.items ++ get_or t.newest.items node 0 ∷ [] → s.newest.items ≡ set (t.newest.items ++ 0 ∷ []) node (length t.edges.items + 1) → ByteAdded t s node byte (length t.edges.items + 1)
child_added t s node byte trie within is_new edges older newest = record {
  trie = record {
    newest_size = ap length newest ∙ length-set (t.newest.items ++ 0 ∷ []) node (length t.edges.items + 1) ∙ length-append t.newest.items (0 ∷ []) ∙ more t.newest.items trie.newest_size;
    older_size = ap length older ∙ length-append t.older.items (get_or t.newest.items node 0 ∷ []) ∙ more t.older.items trie.older_size;
    differ = λ i j e a b. subst AreDistinct (sym edges) differ i j e a b;
    lower = subst IsLower (sym edges) lower;
    newest_child = λ n. subst (λ l. IsNewest l n (length l) (get_or s.newest.items n 0)) (sym edges) (newest_child n);
    older_child = subst (λ l. (i : ℕ) (e : ℕ × ℕ) → slice_get l i ≡ Some e → IsNewest l e.0 i (get_or s.older.items (i + 1) 0)) (sym edges) older_child;
  };
  grown = inr edges;
  there = ap (λ l. child_of l node byte) edges ∙ push_none (is_edge node byte) 1 t.edges.items (node, byte) is_new (is_itself node byte) ∙ ap Some (omega arith);
}
  where
    more : (l : List ℕ) → length l ≡ suc (length t.edges.items) → length l + 1 ≡ suc (length s.edges.items)
    more l h = omega (arith, h, ap length edges, length-append t.edges.items ((node, byte) ∷ []))

    not_there : (i : ℕ) → slice_get t.edges.items i ≡ Some (node, byte) → ⊥
    not_there i at = nowhere (is_edge node byte) 1 t.edges.items is_new i (node, byte) at (is_itself node byte)

    differ : (i j : ℕ) (e : ℕ × ℕ) → slice_get (t.edges.items ++ (node, byte) ∷ []) i ≡ Some e → slice_get (t.edges.items ++ (node, byte) ∷ []) j ≡ Some e → i ≡ j
    differ i j e a b = by (get_cases t.edges.items (node, byte) i e a) (get_cases t.edges.items (node, byte) j e b)
      where
        by : (slice_get t.edges.items i ≡ Some e) ⊎ ((i ≡ length t.edges.items) × ((node, byte) ≡ e)) → (slice_get t.edges.items j ≡ Some e) ⊎ ((j ≡ length t.edges.items) × ((node, byte) ≡ e)) → i ≡ j
        by (inl x) (inl y) = trie.differ i j e x y
        by (inl x) (inr y) = absurd (not_there i (x ∙ ap Some (sym y.1)))
        by (inr x) (inl y) = absurd (not_there j (y ∙ ap Some (sym x.1)))
        by (inr x) (inr y) = x.0 ∙ sym y.0

    lower : (i : ℕ) (e : ℕ × ℕ) → slice_get (t.edges.items ++ (node, byte) ∷ []) i ≡ Some e → e.0 ≤ i
    lower i e at = ⊎_elim (λ old. trie.lower i e old) (λ new. omega (arith, within, new.0, ap (λ (p : ℕ × ℕ). p.0) new.1)) (get_cases t.edges.items (node, byte) i e at)

    size : length (t.edges.items ++ (node, byte) ∷ []) ≡ length t.edges.items + 1
    size = length-append t.edges.items ((node, byte) ∷ [])

    newest_child : (n : ℕ) → IsNewest (t.edges.items ++ (node, byte) ∷ []) n (length (t.edges.items ++ (node, byte) ∷ [])) (get_or s.newest.items n 0)
    newest_child n = subst (λ k. IsNewest (t.edges.items ++ (node, byte) ∷ []) n k (get_or s.newest.items n 0)) (sym size) (⊎_elim same other (cases_eq n node))
      where
        at : get_or s.newest.items n 0 ≡ get_or (set (t.newest.items ++ 0 ∷ []) node (length t.edges.items + 1)) n 0
        at = ap (λ l. get_or l n 0) newest

        inside : node < length (t.newest.items ++ 0 ∷ [])
        inside = omega (arith, within, trie.newest_size, length-append t.newest.items (0 ∷ []))

        same : n ≡ node → IsNewest (t.edges.items ++ (node, byte) ∷ []) n (length t.edges.items + 1) (get_or s.newest.items n 0)
        same e =
            let value : get_or s.newest.items n 0 ≡ length t.edges.items + 1 = at ∙ ap (λ k. get_or (set (t.newest.items ++ 0 ∷ []) node (length t.edges.items + 1)) k 0) e ∙ get_or-set_same (t.newest.items ++ 0 ∷ []) node (length t.edges.items + 1) 0 inside in
            subst (λ m. IsNewest (t.edges.items ++ (node, byte) ∷ []) m (length t.edges.items + 1) (get_or s.newest.items n 0)) (sym e) (subst (IsNewest (t.edges.items ++ (node, byte) ∷ []) node (length t.edges.items + 1)) (sym value) (newest_now t.edges.items node byte))

        other : (n ≡ node → ⊥) → IsNewest (t.edges.items ++ (node, byte) ∷ []) n (length t.edges.items + 1) (get_or s.newest.items n 0)
        other ne =
            let value : get_or s.newest.items n 0 ≡ get_or t.newest.items n 0 = at ∙ get_or-set_other (t.newest.items ++ 0 ∷ []) node n (length t.edges.items + 1) 0 ne ∙ or_zero t.newest.items n in
            subst (IsNewest (t.edges.items ++ (node, byte) ∷ []) n (length t.edges.items + 1)) (sym value) (newest_other t.edges.items (node, byte) n (length t.edges.items) (get_or t.newest.items n 0) refl (λ e. ne (sym e)) (trie.newest_child n))

    older_child : (i : ℕ) (e : ℕ × ℕ) → slice_get (t.edges.items ++ (node, byte) ∷ []) i ≡ Some e → IsNewest (t.edges.items ++ (node, byte) ∷ []) e.0 i (get_or s.older.items (i + 1) 0)
    older_child i e at = ⊎_elim old new (get_cases t.edges.items (node, byte) i e at)
      where
        place : get_or s.older.items (i + 1) 0 ≡ get_or (t.older.items ++ get_or t.newest.items node 0 ∷ []) (i + 1) 0
        place = ap (λ l. get_or l (i + 1) 0) older

        old : slice_get t.edges.items i ≡ Some e → IsNewest (t.edges.items ++ (node, byte) ∷ []) e.0 i (get_or s.older.items (i + 1) 0)
        old there =
            let inside : i < length t.edges.items = less_there t.edges.items i e there in
            let value : get_or s.older.items (i + 1) 0 ≡ get_or t.older.items (i + 1) 0 = place ∙ get_or_append_left t.older.items (get_or t.newest.items node 0 ∷ []) 0 (i + 1) (omega (arith, inside, trie.older_size)) in
            subst (IsNewest (t.edges.items ++ (node, byte) ∷ []) e.0 i) (sym value) (still_newest t.edges.items (node, byte) e.0 i (get_or t.older.items (i + 1) 0) (omega (arith, inside)) (trie.older_child i e there))

        new : (i ≡ length t.edges.items) × ((node, byte) ≡ e) → IsNewest (t.edges.items ++ (node, byte) ∷ []) e.0 i (get_or s.older.items (i + 1) 0)
        new at_end =
            let value : get_or s.older.items (i + 1) 0 ≡ get_or t.newest.items node 0 = place ∙ get_end t.older.items (get_or t.newest.items node 0) 0 (i + 1) (omega (arith, at_end.0, trie.older_size)) in
            let parent : node ≡ e.0 = ap (λ (p : ℕ × ℕ). p.0) at_end.1 in
            subst (λ p. IsNewest (t.edges.items ++ (node, byte) ∷ []) p i (get_or s.older.items (i + 1) 0)) parent
            (subst (λ k. IsNewest (t.edges.items ++ (node, byte) ∷ []) node k (get_or s.older.items (i + 1) 0)) (sym at_end.0)
            (subst (IsNewest (t.edges.items ++ (node, byte) ∷ []) node (length t.edges.items)) (sym value)
            (still_newest t.edges.items (node, byte) node (length t.edges.items) (get_or t.newest.items node 0) (omega arith) (trie.newest_child node))))

-- A NAME, FROM BYTE TO BYTE
pub find_more : (es : List (ℕ × ℕ)) (name : List ℕ) (i node child : ℕ) → i < length name → node_from es 0 (take i name) ≡ Some node → child_of es node (get_or name i 0) ≡ Some child → node_from es 0 (take (i + 1) name) ≡ Some child
find_more es name i node child h at on =
    ap (node_from es 0) (take_more name i 0 h) ∙ node_more es 0 node child (get_or name i 0) (take i name) at on

pub find_ends : (es : List (ℕ × ℕ)) (name : List ℕ) (i node : ℕ) → i < length name → node_from es 0 (take i name) ≡ Some node → child_of es node (get_or name i 0) ≡ None → node_from es 0 name ≡ None
find_ends es name i node h at none =
    ap (node_from es 0) (sym (take-append-drop (i + 1) name) ∙ ap (λ l. l ++ drop (i + 1) name) (take_more name i 0 h) ∙ append_assoc (take i name) (get_or name i 0 ∷ []) (drop (i + 1) name))
    ∙ node_ends es 0 node (get_or name i 0) (take i name) (drop (i + 1) name) at none

-- an element that is read
pub get_at : {X : Type 0} (xs : List X) (i : ℕ) (x : X) → i < length xs → x ≡ get_or xs i x → slice_get xs i ≡ Some x
get_at [] i x h there = absurd (omega (arith, h))
get_at (y ∷ ys) zero x h there = ap Some (sym there)
get_at (y ∷ ys) (suc i) x h there = get_at ys i x (omega (arith, h)) there

pub grown_size : (e : ℕ × ℕ) (es new : List (ℕ × ℕ)) → GrowsBy e es new → length es ≤ length new
grown_size e es new (inl same) = omega (arith, ap length same)
grown_size e es new (inr more) = omega (arith, ap length more, length-append es (e ∷ []))
