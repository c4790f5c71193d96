-- Tables by which names are found.
use Rattle.std.proofs.Common.{rules, ◌≡◌, ℕ, zero, suc, ◌+◌, ◌<◌, List, [], ◌∷◌, ◌++◌, Bool, true, false, cond, ◌||◌, length, map, refl, sym, ◌∙◌, ap, subst, arith, Option, Some, None, position, Vec, Global, if◌then◌else◌, ◌==◌}
use Rattle.std.specs.Prelude.{slice_get, is_some}
use Rattle.std.specs.List.{position_from, list_any}
use Rattle.std.specs.Option.{option_map_or}
use Rattle.std.specs.Str.{bytes_eq}
use Rattle.std.specs.BTreeMap.{BTreeMap, UpdatesBy}
use Rattle.std.specs.Map.{KeepsOthers}
use Rattle.std.specs.Cmp.Lexicographic.{slice_cmp}
use Rattle.std.specs.declared.cmp.Ordering.{Ordering}
use Rattle.std.specs.declared.cmp.Ordering.TheVariants.{Less, Equal, Greater}
use Rattle.std.specs.Ordering.{is_eq, nat_cmp}
use Rattle.std.proofs.lemmas.Cmp.{nat_list_cmp_total, nat_list_eq_equiv}
use Rattle.std.proofs.lemmas.List.{length-append, length-map}
use Rattle.std.proofs.lemmas.Iterator.Adapters.{position_from-zero}
use Rattle.std.proofs.lemmas.Map.Text.{is_eq-slice_cmp}
use Rattle.std.proofs.lemmas.Slice.Eq.{bytes_eq-Decides}
use Rattle.pb_names.specs.NameHash.{name_hash}
use Rattle.pb_names.specs.NameIndex.{IsIndex, IsPut, IsPutAt, IsPutFirst, IsPutOther, first_of, other_of, found_from, is_at_index}

some_same : {x y : ℕ} → ◌≡◌ {A = Option ℕ} (Some x) (Some y) → x ≡ y
some_same p = cc

none_some : {x : ℕ} → ◌≡◌ {A = Option ℕ} None (Some x) → ⊥
none_some p = cc

true_false : true ≡ false → ⊥
true_false p = cc

pub bytes_eq-sym : (x y : List ℕ) → bytes_eq x y ≡ bytes_eq y x
bytes_eq-sym = nat_list_eq_equiv.symm

-- POSITIONS

-- the position among the elements before, or that of one more element
abbrev or_last : Option ℕ → Bool → ℕ → Option ℕ
or_last (Some i) here n = Some i
or_last None here n = cond here (Some n) None

position_from-push : {X : Type 0} (t : X → Bool) (i : ℕ) (xs : List X) (x : X) → position_from t i (xs ++ x ∷ []) ≡ or_last (position_from t i xs) (t x) (i + length xs)
position_from-push t i [] x = ap (λ k. cond (t x) (Some k) None) (omega arith)
position_from-push t i (y ∷ ys) x = by_test (t y) (position_from-push t (i + 1) ys x ∙ ap (or_last (position_from t (i + 1) ys) (t x)) (omega arith))
  where
    by_test : (b : Bool) → position_from t (i + 1) (ys ++ x ∷ []) ≡ or_last (position_from t (i + 1) ys) (t x) (i + length (y ∷ ys)) → cond b (Some i) (position_from t (i + 1) (ys ++ x ∷ [])) ≡ or_last (cond b (Some i) (position_from t (i + 1) ys)) (t x) (i + length (y ∷ ys))
    by_test true later = refl
    by_test false later = later

position-push : {X : Type 0} (t : X → Bool) (xs : List X) (x : X) → position t (xs ++ x ∷ []) ≡ or_last (position t xs) (t x) (length xs)
position-push t xs x =
    position_from-zero t (xs ++ x ∷ []) ∙ position_from-push t 0 xs x ∙ ap (λ o. or_last o (t x) (0 + length xs)) (sym (position_from-zero t xs)) ∙ ap (or_last (position t xs) (t x)) (omega arith)

or_last-none : (o : Option ℕ) (n : ℕ) → or_last o false n ≡ o
or_last-none (Some i) n = refl
or_last-none None n = refl

is_some-position_from : {X : Type 0} (t : X → Bool) (i : ℕ) (xs : List X) → is_some (position_from t i xs) ≡ list_any t xs
is_some-position_from t i [] = refl
is_some-position_from t i (x ∷ xs) = by_test (t x) (is_some-position_from t (i + 1) xs)
  where
    by_test : (b : Bool) → is_some (position_from t (i + 1) xs) ≡ list_any t xs → is_some (cond b (Some i) (position_from t (i + 1) xs)) ≡ (b || list_any t xs)
    by_test true later = refl
    by_test false later = later

pub is_some-position : {X : Type 0} (t : X → Bool) (xs : List X) → is_some (position t xs) ≡ list_any t xs
is_some-position t xs = ap is_some (position_from-zero t xs) ∙ is_some-position_from t 0 xs

-- one that is found
pub found_known : (x : List ℕ) (names : List (List ℕ)) (i : ℕ) → position (bytes_eq x) names ≡ Some i → list_any (bytes_eq x) names ≡ true
found_known x names i e = sym (is_some-position (bytes_eq x) names) ∙ ap is_some e

-- and one that is not
pub found_unknown : (x : List ℕ) (names : List (List ℕ)) → position (bytes_eq x) names ≡ None → list_any (bytes_eq x) names ≡ false
found_unknown x names e = sym (is_some-position (bytes_eq x) names) ∙ ap is_some e

-- the name at its position
named_from : (x : List ℕ) (i k : ℕ) (names : List (List ℕ)) → position_from (bytes_eq x) i names ≡ Some k → (j : ℕ) × (k ≡ i + j) × (slice_get names j ≡ Some x)
named_from x i k [] e = absurd (none_some e)
named_from x i k (n ∷ ns) e = by_test (bytes_eq x n) refl (named_from x (i + 1) k ns) e
  where
    by_test : (b : Bool) → bytes_eq x n ≡ b → (position_from (bytes_eq x) (i + 1) ns ≡ Some k → (j : ℕ) × (k ≡ i + 1 + j) × (slice_get ns j ≡ Some x)) → cond b (Some i) (position_from (bytes_eq x) (i + 1) ns) ≡ Some k → (j : ℕ) × (k ≡ i + j) × (slice_get (n ∷ ns) j ≡ Some x)
    by_test true same later e = (zero, omega (arith, some_same e), ap Some (sym ((bytes_eq-Decides x n).0 same)))
    by_test false same later e = let r = later e in (suc r.0, omega (arith, r.1), r.2)

pub named_at : (x : List ℕ) (i : ℕ) (names : List (List ℕ)) → position (bytes_eq x) names ≡ Some i → slice_get names i ≡ Some x
named_at x i names e =
    let r = named_from x 0 i names (sym (position_from-zero (bytes_eq x) names) ∙ e) in
    subst (λ j. slice_get names j ≡ Some x) (omega (arith, r.1)) r.2

slice_get-push : {X : Type 0} (xs : List X) (y : X) (i : ℕ) → i < length xs → slice_get (xs ++ y ∷ []) i ≡ slice_get xs i
slice_get-push [] y i h = absurd (omega (arith, h))
slice_get-push (x ∷ xs) y zero h = refl
slice_get-push (x ∷ xs) y (suc i) h = slice_get-push xs y i (omega (arith, h))

slice_get-last : {X : Type 0} (xs : List X) (y : X) → slice_get (xs ++ y ∷ []) (length xs) ≡ Some y
slice_get-last [] y = refl
slice_get-last (x ∷ xs) y = slice_get-last xs y

length-push : {X : Type 0} (xs : List X) (y : X) → length (xs ++ y ∷ []) ≡ length xs + 1
length-push xs y = length-append xs (y ∷ [])

pub same_length : {X Y : Type 0} (f : X → Y) (xs : List X) → length (map f xs) ≡ length xs
same_length f xs = simp (length-map)

-- ONE MORE NAME

module _ (names : List (List ℕ)) (first : ℕ → Option ℕ) (other : List ℕ → Option ℕ) (name : List ℕ) where
  abbrev more : List (List ℕ)
  more = names ++ name ∷ []

  at_more : (x : List ℕ) (i : ℕ) → i < length names → is_at_index more x i ≡ is_at_index names x i
  at_more x i h = ap (λ o. option_map_or (bytes_eq x) o false) (slice_get-push names name i h)

  at_last : (x : List ℕ) → is_at_index more x (length names) ≡ bytes_eq x name
  at_last x = ap (λ o. option_map_or (bytes_eq x) o false) (slice_get-last names name)

  same_position : (x : List ℕ) → bytes_eq x name ≡ false → position (bytes_eq x) more ≡ position (bytes_eq x) names
  same_position x e = position-push (bytes_eq x) names name ∙ ap (λ b. or_last (position (bytes_eq x) names) b (length names)) e ∙ or_last-none (position (bytes_eq x) names) (length names)

  last_position : (x : List ℕ) → bytes_eq x name ≡ true → position (bytes_eq x) names ≡ None → position (bytes_eq x) more ≡ Some (length names)
  last_position x e absent = position-push (bytes_eq x) names name ∙ ap (λ b. or_last (position (bytes_eq x) names) b (length names)) e ∙ ap (λ o. or_last o true (length names)) absent

  -- one more name that is new
  pub new_position : position (bytes_eq name) names ≡ None → position (bytes_eq name) more ≡ Some (length names)
  new_position absent = last_position name (nat_list_eq_equiv.refl name) absent

  earlier_position : (x : List ℕ) (i : ℕ) → position (bytes_eq x) names ≡ Some i → position (bytes_eq x) more ≡ Some i
  earlier_position x i e = position-push (bytes_eq x) names name ∙ ap (λ o. or_last o (bytes_eq x name) (length names)) e

  module _ (is : IsIndex names first other) (absent : position (bytes_eq name) names ≡ None) (next_first : ℕ → Option ℕ) (next_other : List ℕ → Option ℕ) where
    -- another name is found as before
    found_still : (x : List ℕ) (o : Option ℕ) → first (name_hash x) ≡ o → bytes_eq x name ≡ false → next_other x ≡ other x → found_from more next_other x o ≡ position (bytes_eq x) more
    found_still x None at e same = ap (found_from names other x) (sym at) ∙ is.found x ∙ sym (same_position x e)
    found_still x (Some i) at e same =
        ap (λ b. if b then Some i else next_other x) (at_more x i (is.within (name_hash x) i at)) ∙ ap (λ o. if is_at_index names x i then Some i else o) same ∙ ap (found_from names other x) (sym at) ∙ is.found x ∙ sym (same_position x e)

    module _ (none : first (name_hash name) ≡ None) (puts : IsPutFirst (name_hash name) (length names) first next_first) (same : (x : List ℕ) → next_other x ≡ other x) where
      within_first : (hash i : ℕ) (b : Bool) → next_first hash ≡ (if b then Some (length names) else first hash) → next_first hash ≡ Some i → i < length more
      within_first hash i true put e = let h : length names ≡ i = some_same (sym put ∙ e) in omega (arith, length-push names name, h)
      within_first hash i false put e = let h : i < length names = is.within hash i (sym put ∙ e) in omega (arith, length-push names name, h)

      no_other : (x : List ℕ) (o : Option ℕ) → other x ≡ o → position (bytes_eq x) names ≡ None → o ≡ None
      no_other x None at e = refl
      no_other x (Some i) at e = absurd (none_some (sym e ∙ is.sound x i at))

      found_here : (x : List ℕ) (b : Bool) → bytes_eq x name ≡ b → position (bytes_eq x) names ≡ None → (if b then Some (length names) else next_other x) ≡ position (bytes_eq x) more
      found_here x true e none_before = sym (last_position x e none_before)
      found_here x false e none_before = same x ∙ no_other x (other x) refl none_before ∙ sym none_before ∙ sym (same_position x e)

      found_first : (x : List ℕ) (b : Bool) → (name_hash name == name_hash x) ≡ b → next_first (name_hash x) ≡ (if b then Some (length names) else first (name_hash x)) → found_from more next_other x (next_first (name_hash x)) ≡ position (bytes_eq x) more
      found_first x true e put =
          let hashes : name_hash name ≡ name_hash x = search (rules, e) in
          let none_before : position (bytes_eq x) names ≡ None = sym (is.found x) ∙ ap (found_from names other x) (ap first (sym hashes) ∙ none) in
          ap (found_from more next_other x) put ∙ ap (λ b. if b then Some (length names) else next_other x) (at_last x) ∙ found_here x (bytes_eq x name) refl none_before
      found_first x false e put =
          let apart : bytes_eq x name ≡ false = differ (bytes_eq x name) refl in
          ap (found_from more next_other x) put ∙ found_still x (first (name_hash x)) refl apart (same x)
        where
          differ : (b : Bool) → bytes_eq x name ≡ b → b ≡ false
          differ true h = absurd (true_false (search (rules, e, ap name_hash ((bytes_eq-Decides x name).0 h))))
          differ false h = refl

      pub IsIndex-push_first : IsIndex more next_first next_other
      IsIndex-push_first = record {
        within = λ hash i e. within_first hash i (name_hash name == hash) (puts hash) e;
        sound = λ x i e. earlier_position x i (is.sound x i (sym (same x) ∙ e));
        found = λ x. found_first x (name_hash name == name_hash x) refl (puts (name_hash x));
      }

    module _ (j : ℕ) (some : first (name_hash name) ≡ Some j) (same : (h : ℕ) → next_first h ≡ first h) (puts : IsPutOther name (length names) other next_other) where
      sound_other : (x : List ℕ) (i : ℕ) (b : Bool) → bytes_eq name x ≡ b → next_other x ≡ (if b then Some (length names) else other x) → next_other x ≡ Some i → position (bytes_eq x) more ≡ Some i
      sound_other x i true e put at =
          let here : name ≡ x = (bytes_eq-Decides name x).0 e in
          last_position x (bytes_eq-sym x name ∙ e) (subst (λ y. position (bytes_eq y) names ≡ None) here absent) ∙ sym put ∙ at
      sound_other x i false e put at = earlier_position x i (is.sound x i (sym put ∙ at))

      -- an earlier name with the hash of the name is another one
      not_there : (b : Bool) → (if b then Some j else other name) ≡ None → b ≡ false
      not_there true e = absurd (none_some (sym e))
      not_there false e = refl

      at_earlier : is_at_index more name j ≡ false
      at_earlier = at_more name j (is.within (name_hash name) j some) ∙ not_there (is_at_index names name j) (ap (found_from names other name) (sym some) ∙ is.found name ∙ absent)

      found_other : (x : List ℕ) (b : Bool) → bytes_eq name x ≡ b → next_other x ≡ (if b then Some (length names) else other x) → found_from more next_other x (next_first (name_hash x)) ≡ position (bytes_eq x) more
      found_other x true e put =
          let here : name ≡ x = (bytes_eq-Decides name x).0 e in
          let at : next_first (name_hash x) ≡ Some j = same (name_hash x) ∙ ap (λ y. first (name_hash y)) (sym here) ∙ some in
          let there : is_at_index more x j ≡ false = subst (λ y. is_at_index more y j ≡ false) here at_earlier in
          ap (found_from more next_other x) at ∙ ap (λ b. if b then Some j else next_other x) there ∙ put ∙ sym (last_position x (bytes_eq-sym x name ∙ e) (subst (λ y. position (bytes_eq y) names ≡ None) here absent))
      found_other x false e put = ap (found_from more next_other x) (same (name_hash x)) ∙ found_still x (first (name_hash x)) refl (bytes_eq-sym x name ∙ e) put

      pub IsIndex-push_other : IsIndex more next_first next_other
      IsIndex-push_other = record {
        within = λ hash i e. let h : i < length names = is.within hash i (sym (same hash) ∙ e) in omega (arith, length-push names name, h);
        sound = λ x i e. sound_other x i (bytes_eq name x) refl (puts x) e;
        found = λ x. found_other x (bytes_eq name x) refl (puts x);
      }

    by_first : (o : Option ℕ) → first (name_hash name) ≡ o → IsPutAt name (length names) (is_some o) first other next_first next_other → IsIndex more next_first next_other
    by_first None none put = IsIndex-push_first none put.0 put.1
    by_first (Some j) some put = IsIndex-push_other j some put.0 put.1

    pub IsIndex-push : IsPut name (length names) first other next_first next_other → IsIndex more next_first next_other
    IsIndex-push put = by_first (first (name_hash name)) refl put

-- the tables have the same entries
pub IsIndex-same : (names more : List (List ℕ)) (first next_first : BTreeMap ℕ ℕ) (other next_other : BTreeMap (Vec ℕ Global) ℕ) → more ≡ names → next_first.entries ≡ first.entries → next_other.entries ≡ other.entries → IsIndex names (first_of first) (other_of other) → IsIndex more (first_of next_first) (other_of next_other)
IsIndex-same names more first next_first other next_other n f o is = rw (n, f, o) is

-- WHAT IS FOUND

pub nothing_found : (names : List (List ℕ)) (first : ℕ → Option ℕ) (other : List ℕ → Option ℕ) (x : List ℕ) → IsIndex names first other → first (name_hash x) ≡ None → None ≡ position (bytes_eq x) names
nothing_found names first other x is at = ap (found_from names other x) (sym at) ∙ is.found x

pub found_at : (names : List (List ℕ)) (first : ℕ → Option ℕ) (other : List ℕ → Option ℕ) (x : List ℕ) (i : ℕ) (b : Bool) → IsIndex names first other → first (name_hash x) ≡ Some i → is_at_index names x i ≡ b → (if b then Some i else other x) ≡ position (bytes_eq x) names
found_at names first other x i b is at here = ap (λ b. if b then Some i else other x) (sym here) ∙ ap (found_from names other x) (sym at) ∙ is.found x

pub is_at_index_of : (names : List (Vec ℕ Global)) (x : List ℕ) (i : ℕ) (v : Vec ℕ Global) → slice_get names i ≡ Some v → is_at_index (map (λ n. n.items) names) x i ≡ bytes_eq x v.items
is_at_index_of [] x i v e = absurd (no_vec e)
  where
    no_vec : ◌≡◌ {A = Option (Vec ℕ Global)} None (Some v) → ⊥
    no_vec p = cc
is_at_index_of (n ∷ ns) x zero v e = ap (λ (w : Vec ℕ Global). bytes_eq x w.items) (some_vec e)
  where
    some_vec : ◌≡◌ {A = Option (Vec ℕ Global)} (Some n) (Some v) → n ≡ v
    some_vec p = cc
is_at_index_of (n ∷ ns) x (suc i) v e = is_at_index_of ns x i v e

-- WHAT AN INSERTION PUTS

abbrev name_cmp : Vec ℕ Global → Vec ℕ Global → Ordering
name_cmp x y = slice_cmp nat_cmp x.items y.items

equal_by : (o : Ordering) → is_eq o ≡ true → o ≡ Equal
equal_by Less e = absurd (true_false (sym e))
equal_by Equal e = refl
equal_by Greater e = absurd (true_false (sym e))

pub puts_other : (name : List ℕ) (old new : BTreeMap (Vec ℕ Global) ℕ) (i : ℕ) → UpdatesBy name_cmp (λ k. slice_cmp nat_cmp name k.items) old new (Some i) → IsPutOther name i (other_of old) (other_of new)
unfolding KeepsOthers
puts_other name old new i updates x = by_test (bytes_eq name x) refl
  where
    kept : bytes_eq name x ≡ false → other_of new x ≡ other_of old x
    kept e = updates.3 (λ k. is_eq (slice_cmp nat_cmp x k.items))
        (λ a b h. ap is_eq (nat_list_cmp_total.congr x a.items b.items (equal_by (slice_cmp nat_cmp x a.items) h)))
        (λ k h. apart k (is_eq (slice_cmp nat_cmp x k.items)) refl h)
      where
        apart : (k : Vec ℕ Global) (b : Bool) → is_eq (slice_cmp nat_cmp x k.items) ≡ b → is_eq (slice_cmp nat_cmp name k.items) ≡ true → b ≡ false
        apart k false at h = refl
        apart k true at h =
            let one : name ≡ k.items = (bytes_eq-Decides name k.items).0 (sym (is_eq-slice_cmp name k.items) ∙ h) in
            let two : x ≡ k.items = (bytes_eq-Decides x k.items).0 (sym (is_eq-slice_cmp x k.items) ∙ at) in
            absurd (true_false (sym ((bytes_eq-Decides name x).1 (one ∙ sym two)) ∙ e))

    by_test : (b : Bool) → bytes_eq name x ≡ b → other_of new x ≡ (if b then Some i else other_of old x)
    by_test true e = subst (λ y. other_of new y ≡ Some i) ((bytes_eq-Decides name x).0 e) updates.1
    by_test false e = kept e
