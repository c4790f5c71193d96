-- Names as words in scopes.
use Rattle.std.proofs.Common.{◌≡◌, ◌≢◌, ℕ, zero, suc, ◌<◌, ◌≤◌, List, [], ◌∷◌, ◌++◌, Bool, true, false, not, ◌&&◌, ◌||◌, if◌then◌else◌, IsTrue, ◌⊎◌, inl, inr, ⊎_elim, length, refl, sym, ◌∙◌, ap, subst, arith, Contains, Option, Some, None, eqb, position, append_assoc, length-append}
use Rattle.std.specs.Prelude.{slice_get}
use Rattle.std.specs.List.{AllByRecursion, list_all, list_any}
use Rattle.std.specs.Option.{option_eq}
use Rattle.std.specs.Str.{bytes_eq}
use Rattle.std.proofs.lemmas.Bool.Decides.{Decides-eqb}
use Rattle.std.proofs.lemmas.Bool.{false≢true}
use Rattle.std.proofs.lemmas.List.{append_cancel_left, append_cancel_right}
use Rattle.std.proofs.lemmas.Option.{slice_get_within}
use Rattle.std.proofs.lemmas.List.Elements.{Contains-append_left}
use Rattle.pb_schema.specs.Names.{begins_word, continues_word, is_word, in_scope, name_at, AllDiffer}
use Rattle.pb_schema.specs.declared.names.tree.NameTree.{NameTree}
use Rattle.pb_schema.specs.Names.Tree.{scope_name, names_behind, full_names, full_names_of, IsScope, AreNamed, IsTree, IsInTree, NameAdded}
use Rattle.std.proofs.Math.Bool.{or-true}
use Rattle.pb_graphs.proofs.ContainsLemmas.{Contains-none, Contains-first, Contains-later, Contains-cases}
use Rattle.pb_names.specs.NameSets.{with_name}
use Rattle.pb_names.proofs.NameIndexLemmas.{named_at}
use Rattle.pb_schema.proofs.NameSetLemmas.{has_name, All-at, AllDiffer-push}

-- ELEMENTS BY INDEX

some_same : {X : Type 0} {x y : X} {o : Option X} → o ≡ Some x → o ≡ Some y → x ≡ y
some_same p q = cc

none_some : {X : Type 0} {x : X} → ◌≡◌ {A = Option X} None (Some x) → ⊥
none_some p = cc

pub get-contains : {X : Type 0} (xs : List X) (i : ℕ) (x : X) → slice_get xs i ≡ Some x → Contains xs x
get-contains [] i x e = absurd (none_some e)
get-contains (y ∷ ys) zero x e = subst (Contains (y ∷ ys)) (some_same refl e) (Contains-first y ys)
get-contains (y ∷ ys) (suc i) x e = Contains-later x y ys (get-contains ys i x e)

pub get-place : {X : Type 0} (xs : List X) (x : X) → Contains xs x → (i : ℕ) × (slice_get xs i ≡ Some x)
get-place [] x h = Contains-none x h
get-place (y ∷ ys) x h = ⊎_elim (λ e. (zero, ap Some e)) (λ later. let p = get-place ys x later in (suc p.0, p.1)) (Contains-cases x y ys h)

pub get-there : {X : Type 0} (xs : List X) (i : ℕ) → i < length xs → (x : X) × (slice_get xs i ≡ Some x)
get-there [] i h = absurd (omega (arith, h))
get-there (x ∷ xs) zero h = (x, refl)
get-there (x ∷ xs) (suc i) h = get-there xs i (omega (arith, h))

pub get-push : {X : Type 0} (xs : List X) (x : X) → slice_get (xs ++ x ∷ []) (length xs) ≡ Some x
get-push [] x = refl
get-push (y ∷ ys) x = get-push ys x

pub get-front : {X : Type 0} (xs ys : List X) (i : ℕ) (x : X) → slice_get xs i ≡ Some x → slice_get (xs ++ ys) i ≡ Some x
get-front [] ys i x e = absurd (none_some e)
get-front (z ∷ zs) ys zero x e = e
get-front (z ∷ zs) ys (suc i) x e = get-front zs ys i x e

pub get-push_cases : {X : Type 0} (xs : List X) (y : X) (i : ℕ) (x : X) → slice_get (xs ++ y ∷ []) i ≡ Some x → (slice_get xs i ≡ Some x) ⊎ ((i ≡ length xs) × (y ≡ x))
get-push_cases [] y zero x e = inr (refl, some_same refl e)
get-push_cases [] y (suc i) x e = absurd (none_some e)
get-push_cases (z ∷ zs) y zero x e = inl e
get-push_cases (z ∷ zs) y (suc i) x e = ⊎_elim inl (λ p. inr (ap suc p.0, p.1)) (get-push_cases zs y i x e)

-- elements that differ have one index each
pub one_index : {X : Type 0} (xs : List X) (i j : ℕ) (x : X) → AllDiffer xs → slice_get xs i ≡ Some x → slice_get xs j ≡ Some x → i ≡ j
one_index [] i j x differ a b = absurd (none_some a)
one_index (y ∷ ys) zero zero x differ a b = refl
one_index (y ∷ ys) zero (suc j) x differ a b = absurd (All-at (λ z. y ≢ z) ys x differ.0 (get-contains ys j x b) (some_same refl a))
one_index (y ∷ ys) (suc i) zero x differ a b = absurd (All-at (λ z. y ≢ z) ys x differ.0 (get-contains ys i x a) (some_same refl b))
one_index (y ∷ ys) (suc i) (suc j) x differ a b = ap suc (one_index ys i j x differ.1 a b)

pub name_at-get : (names : List (List ℕ)) (i : ℕ) (name : List ℕ) → slice_get names i ≡ Some name → name_at names i ≡ name
name_at-get [] i name e = absurd (none_some e)
name_at-get (x ∷ xs) zero name e = some_same refl e
name_at-get (x ∷ xs) (suc i) name e = name_at-get xs i name e

pub get-name_at : (names : List (List ℕ)) (i : ℕ) → i < length names → slice_get names i ≡ Some (name_at names i)
get-name_at [] i h = absurd (omega (arith, h))
get-name_at (x ∷ xs) zero h = refl
get-name_at (x ∷ xs) (suc i) h = get-name_at xs i (omega (arith, h))

pub name_at-front : (xs ys : List (List ℕ)) (i : ℕ) → i < length xs → name_at (xs ++ ys) i ≡ name_at xs i
name_at-front [] ys i h = absurd (omega (arith, h))
name_at-front (x ∷ xs) ys zero h = refl
name_at-front (x ∷ xs) ys (suc i) h = name_at-front xs ys i (omega (arith, h))

-- A NAME IN A SCOPE DETERMINES BOTH

-- the bytes have no dot
abbrev pub HasNoDot : List ℕ → Type 0
HasNoDot s = ¬ Contains s 46

-- the bytes are none, or end in a dot
abbrev IsDotted : List ℕ → Type 0
IsDotted [] = Unit {0}
IsDotted (c ∷ []) = c ≡ 46
IsDotted (c ∷ d ∷ cs) = IsDotted (d ∷ cs)

dotted_rest : (c : ℕ) (cs : List ℕ) → IsDotted (c ∷ cs) → IsDotted cs
dotted_rest c [] h = tt
dotted_rest c (d ∷ cs) h = h

dotted_has : (c : ℕ) (cs : List ℕ) → IsDotted (c ∷ cs) → Contains (c ∷ cs) 46
dotted_has c [] h = subst (Contains (c ∷ [])) h (Contains-first c [])
dotted_has c (d ∷ cs) h = Contains-later 46 c (d ∷ cs) (dotted_has d cs h)

pub nil_cons : {X P : Type 0} {x : X} {xs : List X} → ◌≡◌ {A = List X} [] (x ∷ xs) → P
nil_cons e = cc

heads : {X : Type 0} {x y : X} {xs ys : List X} → x ∷ xs ≡ y ∷ ys → x ≡ y
heads e = cc

tails : {X : Type 0} {x y : X} {xs ys : List X} → x ∷ xs ≡ y ∷ ys → xs ≡ ys
tails e = cc

fronts_same : (x y v w : List ℕ) → IsDotted x → IsDotted y → HasNoDot v → HasNoDot w → x ++ v ≡ y ++ w → x ≡ y
fronts_same [] [] v w dx dy nv nw e = refl
fronts_same [] (d ∷ ds) v w dx dy nv nw e = absurd (nv (subst (λ l. Contains l 46) (sym e) (Contains-append_left (d ∷ ds) w 46 (dotted_has d ds dy))))
fronts_same (c ∷ cs) [] v w dx dy nv nw e = absurd (nw (subst (λ l. Contains l 46) e (Contains-append_left (c ∷ cs) v 46 (dotted_has c cs dx))))
fronts_same (c ∷ cs) (d ∷ ds) v w dx dy nv nw e =
    let same : cs ≡ ds = fronts_same cs ds v w (dotted_rest c cs dx) (dotted_rest d ds dy) nv nw (tails e) in
    ap (λ x. x ∷ cs) (heads e) ∙ ap (λ l. d ∷ l) same

-- what comes before a name of a scope
abbrev pub before_in : List ℕ → List ℕ
before_in [] = []
before_in (c ∷ cs) = (c ∷ cs) ++ 46 ∷ []

pub in_scope-before : (scope name : List ℕ) → in_scope scope name ≡ before_in scope ++ name
in_scope-before [] name = refl
in_scope-before (c ∷ cs) name = sym (append_assoc (c ∷ cs) (46 ∷ []) name)

ends_dotted : (c : ℕ) (cs : List ℕ) → IsDotted ((c ∷ cs) ++ 46 ∷ [])
ends_dotted c [] = refl
ends_dotted c (d ∷ cs) = ends_dotted d cs

before_dotted : (scope : List ℕ) → IsDotted (before_in scope)
before_dotted [] = tt
before_dotted (c ∷ cs) = ends_dotted c cs

before_same : (a b : List ℕ) → before_in a ≡ before_in b → a ≡ b
before_same [] [] e = refl
before_same [] (d ∷ ds) e = nil_cons e
before_same (c ∷ cs) [] e = nil_cons (sym e)
before_same (c ∷ cs) (d ∷ ds) e = append_cancel_right (c ∷ cs) (d ∷ ds) (46 ∷ []) e

pub same_scope : (a b v w : List ℕ) → HasNoDot v → HasNoDot w → in_scope a v ≡ in_scope b w → (a ≡ b) × (v ≡ w)
same_scope a b v w nv nw e =
    let e' : before_in a ++ v ≡ before_in b ++ w = sym (in_scope-before a v) ∙ e ∙ in_scope-before b w in
    let scopes : before_in a ≡ before_in b = fronts_same (before_in a) (before_in b) v w (before_dotted a) (before_dotted b) nv nw e' in
    (before_same a b scopes, append_cancel_left (before_in b) v w (ap (λ l. l ++ v) (sym scopes) ∙ e'))

dot_continues_no_word : continues_word 46 ≡ true → ⊥
dot_continues_no_word e = false≢true e

dot_begins_no_word : begins_word 46 ≡ true → ⊥
dot_begins_no_word e = false≢true e

and_left : (a b : Bool) → (a && b) ≡ true → a ≡ true
and_left true b e = refl
and_left false b e = absurd (false≢true e)

and_right : (a b : Bool) → (a && b) ≡ true → b ≡ true
and_right true b e = e
and_right false b e = absurd (false≢true e)

all_continue : (cs : List ℕ) (c : ℕ) → list_all continues_word cs ≡ true → Contains cs c → continues_word c ≡ true
all_continue [] c all h = Contains-none c h
all_continue (d ∷ ds) c all h =
    ⊎_elim (λ e. subst (λ x. continues_word x ≡ true) e (and_left (continues_word d) (list_all continues_word ds) all)) (λ later. all_continue ds c (and_right (continues_word d) (list_all continues_word ds) all) later) (Contains-cases c d ds h)

pub word_has_no_dot : (w : List ℕ) → IsTrue (is_word w) → HasNoDot w
word_has_no_dot [] word h = absurd (false≢true word)
word_has_no_dot (c ∷ cs) word h =
    ⊎_elim (λ e. dot_begins_no_word (subst (λ x. begins_word x ≡ true) e (and_left (begins_word c) (list_all continues_word cs) word))) (λ later. dot_continues_no_word (all_continue cs 46 (and_right (begins_word c) (list_all continues_word cs) word) later)) (Contains-cases 46 c cs h)

word_is_some : (w : List ℕ) → IsTrue (is_word w) → w ≢ []
word_is_some [] word e = false≢true word
word_is_some (c ∷ cs) word e = nil_cons (sym e)

pub in_scope-some : (a w : List ℕ) → w ≢ [] → in_scope a w ≢ []
in_scope-some [] w some e = some e
in_scope-some (c ∷ cs) w some e = nil_cons (sym e)

-- MORE NAMES

pub names_behind-push : (W before : List (List ℕ)) (ns : List (Option ℕ × ℕ)) (n : Option ℕ × ℕ) → names_behind W before (ns ++ n ∷ []) ≡ names_behind W before ns ++ in_scope (scope_name (names_behind W before ns) n.0) (name_at W n.1) ∷ []
names_behind-push W before [] n = refl
names_behind-push W before (m ∷ ms) n = names_behind-push W (before ++ in_scope (scope_name before m.0) (name_at W m.1) ∷ []) ms n

pub full_names-push : (W : List (List ℕ)) (ns : List (Option ℕ × ℕ)) (n : Option ℕ × ℕ) → full_names W (ns ++ n ∷ []) ≡ full_names W ns ++ in_scope (scope_name (full_names W ns) n.0) (name_at W n.1) ∷ []
unfolding full_names
full_names-push W ns n = names_behind-push W [] ns n

names_behind-words : (W V before : List (List ℕ)) (ns : List (Option ℕ × ℕ)) → ((i : ℕ) (n : Option ℕ × ℕ) → slice_get ns i ≡ Some n → n.1 < length W) → names_behind (W ++ V) before ns ≡ names_behind W before ns
names_behind-words W V before [] within = refl
names_behind-words W V before (m ∷ ms) within =
    ap (λ w. names_behind (W ++ V) (before ++ in_scope (scope_name before m.0) w ∷ []) ms) (name_at-front W V m.1 (within zero m refl))
    ∙ names_behind-words W V (before ++ in_scope (scope_name before m.0) (name_at W m.1) ∷ []) ms (λ i n at. within (suc i) n at)

pub full_names-words : (W V : List (List ℕ)) (ns : List (Option ℕ × ℕ)) → ((i : ℕ) (n : Option ℕ × ℕ) → slice_get ns i ≡ Some n → n.1 < length W) → full_names (W ++ V) ns ≡ full_names W ns
unfolding full_names
full_names-words W V ns within = names_behind-words W V [] ns within

pub full_names-none : (W : List (List ℕ)) → full_names W [] ≡ []
unfolding full_names
full_names-none W = refl

all_push : {X : Type 0} (P : X → Type 0) (xs : List X) (x : X) → AllByRecursion P xs → P x → AllByRecursion P (xs ++ x ∷ [])
all_push P [] x all p = (p, tt)
all_push P (y ∷ ys) x all p = (all.0, all_push P ys x all.1 p)

pub named-none : AreNamed [] [] []
named-none = record {
  each_word = tt;
  words_differ = tt;
  differ = tt;
  size = refl;
  words_within = λ i n e. absurd (none_some e);
  scopes_before = λ i j n e s. absurd (none_some e);
  named = λ i n e. absurd (none_some e);
}

-- a word more
pub named-word : (W : List (List ℕ)) (N : List (Option ℕ × ℕ)) (F : List (List ℕ)) (w : List ℕ) → AreNamed W N F → IsTrue (is_word w) → ¬ Contains W w → AreNamed (W ++ w ∷ []) N F
named-word W N F w are word new = record {
  each_word = all_push (λ v. IsTrue (is_word v)) W w are.each_word word;
  words_differ = AllDiffer-push W w are.words_differ new;
  differ = are.differ;
  size = are.size;
  words_within = λ i n e. omega (arith, are.words_within i n e, length-append W (w ∷ []));
  scopes_before = are.scopes_before;
  named = λ i n e. are.named i n e ∙ ap (λ v. Some (in_scope (scope_name F n.0) v)) (sym (name_at-front W (w ∷ []) n.1 (are.words_within i n e)));
}

pub scope_name-front : (F G : List (List ℕ)) (s : Option ℕ) → IsScope F s → scope_name (F ++ G) s ≡ scope_name F s
scope_name-front F G None h = refl
scope_name-front F G (Some i) h = name_at-front F G i h

is_scope : (F : List (List ℕ)) (i : ℕ) (s : Option ℕ) → i ≤ length F → ((j : ℕ) → s ≡ Some j → j < i) → IsScope F s
is_scope F i None h before = tt
is_scope F i (Some j) h before = omega (arith, h, before j refl)

scope_before : (F : List (List ℕ)) (s : Option ℕ) (j : ℕ) → IsScope F s → s ≡ Some j → j < length F
scope_before F None j h e = absurd (none_some e)
scope_before F (Some i) j h e = let same : i ≡ j = some_same refl e in omega (arith, h, same)

module _ (W : List (List ℕ)) (N : List (Option ℕ × ℕ)) (F : List (List ℕ)) (are : AreNamed W N F) where
  pub word_at : (k : ℕ) → k < length W → IsTrue (is_word (name_at W k))
  word_at k h = All-at (λ v. IsTrue (is_word v)) W (name_at W k) are.each_word (get-contains W k (name_at W k) (get-name_at W k h))

  -- the name that a full name is of
  pub full_is_of : (x : List ℕ) (i : ℕ) → slice_get F i ≡ Some x → (n : Option ℕ × ℕ) × (slice_get N i ≡ Some n) × (x ≡ in_scope (scope_name F n.0) (name_at W n.1))
  full_is_of x i at =
      let p = get-there N i (omega (arith, slice_get_within F i x at, are.size)) in
      (p.0, p.1, some_same at (are.named i p.0 p.1))

  full_is_some : (i : ℕ) → i < length F → name_at F i ≢ []
  full_is_some i h e =
      let p = full_is_of (name_at F i) i (get-name_at F i h) in
      let within = are.words_within i p.0 p.1 in
      in_scope-some (scope_name F p.0.0) (name_at W p.0.1) (word_is_some (name_at W p.0.1) (word_at p.0.1 within)) (sym p.2 ∙ e)

  pub one_scope : (a b : Option ℕ) → IsScope F a → IsScope F b → scope_name F a ≡ scope_name F b → a ≡ b
  one_scope None None ha hb e = refl
  one_scope None (Some j) ha hb e = absurd (full_is_some j hb (sym e))
  one_scope (Some i) None ha hb e = absurd (full_is_some i ha e)
  one_scope (Some i) (Some j) ha hb e = ap Some (one_index F i j (name_at F i) are.differ (get-name_at F i ha) (get-name_at F j hb ∙ ap Some (sym e)))

  -- a full name is of one scope and one word
  pub one_name : (s : Option ℕ) (w : List ℕ) (i : ℕ) → IsScope F s → HasNoDot w → slice_get F i ≡ Some (in_scope (scope_name F s) w) → (k : ℕ) × (slice_get N i ≡ Some (s, k)) × (slice_get W k ≡ Some w)
  one_name s w i hs nw at =
      let p = full_is_of (in_scope (scope_name F s) w) i at in
      let within = are.words_within i p.0 p.1 in
      let both = same_scope (scope_name F s) (scope_name F p.0.0) w (name_at W p.0.1) nw (word_has_no_dot (name_at W p.0.1) (word_at p.0.1 within)) p.2 in
      let scope : p.0.0 ≡ s = one_scope p.0.0 s (is_scope F i p.0.0 (omega (arith, slice_get_within F i (in_scope (scope_name F s) w) at)) (λ j e. are.scopes_before i j p.0 p.1 e)) hs (sym both.0) in
      (p.0.1, p.1 ∙ ap (λ t. Some (t, p.0.1)) scope, get-name_at W p.0.1 within ∙ ap Some (sym both.1))

  pub not_named : (n : Option ℕ × ℕ) (w : List ℕ) → IsScope F n.0 → slice_get W n.1 ≡ Some w → ¬ Contains N n → ¬ Contains F (in_scope (scope_name F n.0) w)
  not_named n w hs word new h =
      let p = get-place F (in_scope (scope_name F n.0) w) h in
      let of_word = All-at (λ v. IsTrue (is_word v)) W w are.each_word (get-contains W n.1 w word) in
      let q = one_name n.0 w p.0 hs (word_has_no_dot w of_word) p.1 in
      let same : q.0 ≡ n.1 = one_index W q.0 n.1 w are.words_differ q.2 word in
      new (get-contains N p.0 n (q.1 ∙ ap (λ k. Some (n.0, k)) same))

  -- a name more
  pub named-push : (n : Option ℕ × ℕ) → IsScope F n.0 → n.1 < length W → ¬ Contains N n → AreNamed W (N ++ n ∷ []) (F ++ in_scope (scope_name F n.0) (name_at W n.1) ∷ [])
  named-push n hs hw new =
      let x = in_scope (scope_name F n.0) (name_at W n.1) in
      record {
        each_word = are.each_word;
        words_differ = are.words_differ;
        differ = AllDiffer-push F x are.differ (not_named n (name_at W n.1) hs (get-name_at W n.1 hw) new);
        size = omega (arith, are.size, length-append F (x ∷ []), length-append N (n ∷ []));
        words_within = λ i m e. ⊎_elim (λ old. are.words_within i m old) (λ p. subst (λ (k : Option ℕ × ℕ). k.1 < length W) p.1 hw) (get-push_cases N n i m e);
        scopes_before = λ i j m e s. ⊎_elim (λ old. are.scopes_before i j m old s) (λ p. omega (arith, are.size, p.0, scope_before F n.0 j hs (ap (λ (k : Option ℕ × ℕ). k.0) p.1 ∙ s))) (get-push_cases N n i m e);
        named = λ i m e. ⊎_elim (λ old. still i m old) (λ p. this i m p.0 p.1) (get-push_cases N n i m e);
      }
    where
      still : (i : ℕ) (m : Option ℕ × ℕ) → slice_get N i ≡ Some m → slice_get (F ++ in_scope (scope_name F n.0) (name_at W n.1) ∷ []) i ≡ Some (in_scope (scope_name (F ++ in_scope (scope_name F n.0) (name_at W n.1) ∷ []) m.0) (name_at W m.1))
      still i m e =
          let x = in_scope (scope_name F n.0) (name_at W n.1) in
          let within : i < length N = slice_get_within N i m e in
          get-front F (x ∷ []) i _ (are.named i m e) ∙ ap (λ s. Some (in_scope s (name_at W m.1))) (sym (scope_name-front F (x ∷ []) m.0 (is_scope F i m.0 (omega (arith, within, are.size)) (λ j s. are.scopes_before i j m e s))))

      this : (i : ℕ) (m : Option ℕ × ℕ) → i ≡ length N → n ≡ m → slice_get (F ++ in_scope (scope_name F n.0) (name_at W n.1) ∷ []) i ≡ Some (in_scope (scope_name (F ++ in_scope (scope_name F n.0) (name_at W n.1) ∷ []) m.0) (name_at W m.1))
      this i m at same =
          let x = in_scope (scope_name F n.0) (name_at W n.1) in
          let last : i ≡ length F = at ∙ sym are.size in
          subst (λ k. slice_get (F ++ x ∷ []) k ≡ Some (in_scope (scope_name (F ++ x ∷ []) m.0) (name_at W m.1))) (sym last) (get-push F x ∙ ap (λ s. Some (in_scope s (name_at W n.1))) (sym (scope_name-front F (x ∷ []) n.0 hs)) ∙ ap (λ (k : Option ℕ × ℕ). Some (in_scope (scope_name (F ++ x ∷ []) k.0) (name_at W k.1))) same)

pub tree-none : (t : NameTree) → t.words ≡ [] → t.names.keys ≡ [] → IsTree t
tree-none t words names =
    let none : AreNamed t.words t.names.keys [] = rw (words, names) named-none in
    let empty : full_names_of t ≡ [] = ap (full_names t.words) names ∙ full_names-none t.words in
    record { named = subst (AreNamed t.words t.names.keys) (sym empty) none }

-- A WORD AND A NAME ARE PUT INTO THEIR SETS

same_option : (a b : Option ℕ) → option_eq eqb a b ≡ true → a ≡ b
same_option None None e = refl
same_option None (Some y) e = absurd (false≢true e)
same_option (Some x) None e = absurd (false≢true e)
same_option (Some x) (Some y) e = ap Some ((Decides-eqb x y).0 e)

option_itself : (a : Option ℕ) → option_eq eqb a a ≡ true
option_itself None = refl
option_itself (Some x) = (Decides-eqb x x).1 refl

-- the test for one name
abbrev pub is_name : Option ℕ → ℕ → (Option ℕ × ℕ) → Bool
is_name scope w n = option_eq eqb scope n.0 && eqb w n.1

same_name : (scope : Option ℕ) (w : ℕ) (n : Option ℕ × ℕ) → is_name scope w n ≡ true → n ≡ (scope, w)
same_name scope w n e =
    let s : scope ≡ n.0 = same_option scope n.0 (and_left (option_eq eqb scope n.0) (eqb w n.1) e) in
    let k : w ≡ n.1 = (Decides-eqb w n.1).0 (and_right (option_eq eqb scope n.0) (eqb w n.1) e) in
    ap (λ (t : Option ℕ). (t, n.1)) (sym s) ∙ ap (λ (j : ℕ). (scope, j)) (sym k)

name_itself : (scope : Option ℕ) (w : ℕ) → is_name scope w (scope, w) ≡ true
name_itself scope w = ap (λ b. b && eqb w w) (option_itself scope) ∙ (Decides-eqb w w).1 refl

any_true : {X : Type 0} (t : X → Bool) (xs : List X) (x : X) → t x ≡ true → Contains xs x → list_any t xs ≡ true
any_true t [] x e h = Contains-none x h
any_true t (y ∷ ys) x e h =
    ⊎_elim (λ same. ap (λ b. b || list_any t ys) (subst (λ z. t z ≡ true) (sym same) e)) (λ later. ap (λ b. t y || b) (any_true t ys x e later) ∙ or-true (t y)) (Contains-cases x y ys h)

module _ (a b : NameTree) (scope : Option ℕ) (text : List ℕ) (w i : ℕ) (is_new : Bool) (tree : IsTree a) (hs : IsInTree a scope) where
  -- the words with the new one
  module _ (are : AreNamed b.words a.names.keys (full_names b.words a.names.keys)) (same : full_names b.words a.names.keys ≡ full_names_of a) (word : slice_get b.words w ≡ Some text) where
    word_is : name_at b.words w ≡ text
    word_is = name_at-get b.words w text word

    are_old : AreNamed b.words a.names.keys (full_names_of a)
    are_old = subst (AreNamed b.words a.names.keys) same are

    new_name : list_any (is_name scope w) a.names.keys ≡ false → b.names.keys ≡ a.names.keys ++ (scope, w) ∷ [] → (n : Option ℕ × ℕ) → slice_get b.names.keys i ≡ Some n → is_name scope w n ≡ true → NameAdded a b (in_scope (scope_name (full_names_of a) scope) text) i true
    new_name none keys n at is =
        let W = b.words in
        let N = a.names.keys in
        let F = full_names_of a in
        let x = in_scope (scope_name F scope) text in
        let fresh : ¬ Contains N (scope, w) = λ h. false≢true (sym none ∙ any_true (is_name scope w) N (scope, w) (name_itself scope w) h) in
        let full : full_names_of b ≡ F ++ x ∷ [] = ap (full_names W) keys ∙ full_names-push W N (scope, w) ∙ ap (λ f. f ++ in_scope (scope_name f scope) (name_at W w) ∷ []) same ∙ ap (λ v. F ++ in_scope (scope_name F scope) v ∷ []) word_is in
        let pushed : AreNamed W (N ++ (scope, w) ∷ []) (F ++ in_scope (scope_name F scope) (name_at W w) ∷ []) = named-push W N F are_old (scope, w) hs (slice_get_within W w text word) fresh in
        let pushed' : AreNamed W (N ++ (scope, w) ∷ []) (full_names_of b) = subst (AreNamed W (N ++ (scope, w) ∷ [])) (ap (λ v. F ++ in_scope (scope_name F scope) v ∷ []) word_is ∙ sym full) pushed in
        let last : i ≡ length N = ⊎_elim (λ old. absurd (false≢true (sym none ∙ any_true (is_name scope w) N n is (get-contains N i n old)))) (λ p. p.0) (get-push_cases N (scope, w) i n (subst (λ l. slice_get l i ≡ Some n) keys at)) in
        record {
          tree = record { named = subst (λ l. AreNamed W l (full_names_of b)) (sym keys) pushed' };
          at_index = (full, last ∙ sym are_old.size, not_named W N F are_old (scope, w) text hs word fresh);
        }

    old_name : b.names.keys ≡ a.names.keys → (n : Option ℕ × ℕ) → slice_get b.names.keys i ≡ Some n → is_name scope w n ≡ true → NameAdded a b (in_scope (scope_name (full_names_of a) scope) text) i false
    old_name keys n at is =
        let W = b.words in
        let F = full_names_of a in
        let full : full_names_of b ≡ F = ap (full_names W) keys ∙ same in
        let at' : slice_get a.names.keys i ≡ Some (scope, w) = subst (λ l. slice_get l i ≡ Some n) keys at ∙ ap Some (same_name scope w n is) in
        record {
          tree = record { named = subst (λ l. AreNamed W l (full_names_of b)) (sym keys) (subst (AreNamed W a.names.keys) (sym full) are_old) };
          at_index = (full, are_old.named i (scope, w) at' ∙ ap (λ v. Some (in_scope (scope_name F scope) v)) word_is);
        }

    by_name : (has : Bool) → list_any (is_name scope w) a.names.keys ≡ has → b.names.keys ≡ (if has then a.names.keys else a.names.keys ++ (scope, w) ∷ []) → (n : Option ℕ × ℕ) → slice_get b.names.keys i ≡ Some n → is_name scope w n ≡ true → NameAdded a b (in_scope (scope_name (full_names_of a) scope) text) i (not has)
    by_name true e keys n at is = old_name keys n at is
    by_name false e keys n at is = new_name e keys n at is

  name_added : IsTrue (is_word text) → (has : Bool) → list_any (bytes_eq text) a.words ≡ has → b.words ≡ (if has then a.words else a.words ++ text ∷ []) → slice_get b.words w ≡ Some text → b.names.keys ≡ (if list_any (is_name scope w) a.names.keys then a.names.keys else a.names.keys ++ (scope, w) ∷ []) → (n : Option ℕ × ℕ) → slice_get b.names.keys i ≡ Some n → is_name scope w n ≡ true → NameAdded a b (in_scope (scope_name (full_names_of a) scope) text) i (not (list_any (is_name scope w) a.names.keys))
  name_added ok true e words here names n at is =
      let full : full_names b.words a.names.keys ≡ full_names_of a = ap (λ l. full_names l a.names.keys) words in
      let are = subst (λ l. AreNamed l a.names.keys (full_names l a.names.keys)) (sym words) tree.named in
      by_name are full here (list_any (is_name scope w) a.names.keys) refl names n at is
  name_added ok false e words here names n at is =
      let W = a.words in
      let kept : full_names (W ++ text ∷ []) a.names.keys ≡ full_names_of a = full_names-words W (text ∷ []) a.names.keys tree.named.words_within in
      let full : full_names b.words a.names.keys ≡ full_names_of a = ap (λ l. full_names l a.names.keys) words ∙ kept in
      let unknown : ¬ Contains W text = λ h. false≢true (sym e ∙ (has_name text W).1 h) in
      let are : AreNamed (W ++ text ∷ []) a.names.keys (full_names_of a) = named-word W a.names.keys (full_names_of a) text tree.named ok unknown in
      let are' = subst (λ l. AreNamed l a.names.keys (full_names l a.names.keys)) (sym words) (subst (AreNamed (W ++ text ∷ []) a.names.keys) (sym kept) are) in
      by_name are' full here (list_any (is_name scope w) a.names.keys) refl names n at is

  pub tree_added : IsTrue (is_word text) → b.words ≡ with_name text a.words → position (bytes_eq text) b.words ≡ Some w → b.names.keys ≡ (if list_any (is_name scope w) a.names.keys then a.names.keys else a.names.keys ++ (scope, w) ∷ []) → (n : Option ℕ × ℕ) → slice_get b.names.keys i ≡ Some n → is_name scope w n ≡ true → is_new ≡ not (list_any (is_name scope w) a.names.keys) → NameAdded a b (in_scope (scope_name (full_names_of a) scope) text) i is_new
  tree_added ok words at names n here is new =
      subst (NameAdded a b (in_scope (scope_name (full_names_of a) scope) text) i) (sym new) (name_added ok (list_any (bytes_eq text) a.words) refl words (named_at text w b.words at) names n here is)
