-- Packages that are added word by word.
use Rattle.std.proofs.Common.{◌≡◌, ◌≢◌, ℕ, ◌+◌, ◌-◌, ◌<◌, ◌≤◌, List, [], ◌∷◌, ◌++◌, map, string_bytes, Bool, true, false, ◌&&◌, ◌==◌, IsTrue, ◌↔◌, ◌⊎◌, inl, inr, ⊎_elim, length, take, drop, get_or, refl, sym, ◌∙◌, ap, subst, arith, Contains, Option, Some, None, append_assoc, append-nil, length-append}
use Rattle.std.specs.Prelude.{slice_get}
use Rattle.std.specs.List.{AllByRecursion, AllZip, flat_map, list_all}
use Rattle.std.proofs.lemmas.List.{take_more, drop_more, take-append-drop, length-drop}
use Rattle.std.proofs.lemmas.Grind.{flat_map-append}
use Rattle.std.proofs.lemmas.Bool.{false≢true}
use Rattle.std.proofs.lemmas.Bool.Decides.{Decides-eqb}
use Rattle.std.proofs.lemmas.Option.{slice_get_within}
use Rattle.std.proofs.lemmas.List.Elements.{Contains-push, Contains-push_cases, Contains-append_left, Contains-append_right, Contains-append_cases}
use Rattle.pb_graphs.proofs.ContainsLemmas.{Contains-none, Contains-first, Contains-later, Contains-cases}
use Rattle.pb_schema.specs.declared.names.tree.NameTree.{NameTree}
use Rattle.pb_schema.specs.Names.{is_word, is_package, onto_first, onto_parts, parts_of, with_front, fronts_from, packages_of, in_scope, name_at}
use Rattle.pb_schema.specs.Names.Tree.{IsTree, IsScope, IsInTree, scope_name, full_names_of, Keeps, IsAddedAt, NameAdded, IsSplit, PackageAdded, AddsPackage, ArePackages, PackagesAdded}
use Rattle.pb_schema.specs.declared.types.FileInfo.{FileInfo}
use Rattle.pb_schema.specs.View.{file_view}
use Rattle.pb_schema.specs.Types.{FileView}
use Rattle.pb_schema.specs.Rules.{PackagesAreWords}
use Rattle.pb_schema.proofs.NameTreeLemmas.{HasNoDot, before_in, in_scope-before, in_scope-some, name_at-get, get-name_at, get-push, get-front, get-contains, nil_cons}
use Rattle.pb_schema.proofs.NameLemmas.{map_push}
use Rattle.pb_schema.proofs.AddLemmas.{take_past}
use Rattle.pb_schema.proofs.RuleLemmas.{all_at}

-- PARTS

eq_false : (a b : ℕ) → a ≢ b → (a == b) ≡ false
eq_false a b ne = by (a == b) (Decides-eqb a b).0
  where
    by : (t : Bool) → (t ≡ true → a ≡ b) → t ≡ false
    by true is = absurd (ne (is refl))
    by false is = refl

no_dot_first : (c : ℕ) (cs : List ℕ) → HasNoDot (c ∷ cs) → (c == 46) ≡ false
no_dot_first c cs nd = eq_false c 46 (λ e. nd (subst (Contains (c ∷ cs)) e (Contains-first c cs)))

no_dot_later : (c : ℕ) (cs : List ℕ) → HasNoDot (c ∷ cs) → HasNoDot cs
no_dot_later c cs nd h = nd (Contains-later 46 c cs h)

pub parts_split : (word rest : List ℕ) → HasNoDot word → parts_of (word ++ 46 ∷ rest) ≡ word ∷ parts_of rest
parts_split [] rest nd = refl
parts_split (c ∷ cs) rest nd =
    ap (λ b. onto_parts b c (parts_of (cs ++ 46 ∷ rest))) (no_dot_first c cs nd) ∙ ap (onto_first c) (parts_split cs rest (no_dot_later c cs nd))

pub parts_whole : (word : List ℕ) → HasNoDot word → parts_of word ≡ word ∷ []
parts_whole [] nd = refl
parts_whole (c ∷ cs) nd = ap (λ b. onto_parts b c (parts_of cs)) (no_dot_first c cs nd) ∙ ap (onto_first c) (parts_whole cs (no_dot_later c cs nd))

-- the packages that words make after a prefix
abbrev pub packages_from : List ℕ → List (List ℕ) → List (List ℕ)
packages_from front [] = []
packages_from front (w ∷ ws) = (front ++ w) ∷ packages_from (front ++ w ++ 46 ∷ []) ws

parts_some : (cs : List ℕ) → (w : List ℕ) × (ws : List (List ℕ)) × (parts_of cs ≡ w ∷ ws)
parts_some [] = ([], [], refl)
parts_some (c ∷ cs) = by (c == 46) (parts_some cs)
  where
    by : (dot : Bool) → (w : List ℕ) × (ws : List (List ℕ)) × (parts_of cs ≡ w ∷ ws) → (w : List ℕ) × (ws : List (List ℕ)) × (onto_parts dot c (parts_of cs) ≡ w ∷ ws)
    by true p = ([], parts_of cs, refl)
    by false p = (c ∷ p.0, p.1, ap (onto_first c) p.2)

onto : (front : List ℕ) (c : ℕ) (cs : List ℕ) → packages_from front (onto_first c (parts_of cs)) ≡ packages_from (front ++ c ∷ []) (parts_of cs)
onto front c cs =
    let p = parts_some cs in
    let e : front ++ c ∷ p.0 ≡ (front ++ c ∷ []) ++ p.0 = sym (append_assoc front (c ∷ []) p.0) in
    ap (λ l. packages_from front (onto_first c l)) p.2 ∙ ap (λ l. l ∷ packages_from (l ++ 46 ∷ []) p.1) e ∙ ap (packages_from (front ++ c ∷ [])) (sym p.2)

fronts_packages : (front cs : List ℕ) → fronts_from front cs ++ (front ++ cs) ∷ [] ≡ packages_from front (parts_of cs)
fronts_packages front [] = refl
fronts_packages front (c ∷ cs) = by (c == 46) (Decides-eqb c 46).0 (ap (λ l. fronts_from (front ++ c ∷ []) cs ++ l ∷ []) (sym (append_assoc front (c ∷ []) cs)) ∙ fronts_packages (front ++ c ∷ []) cs)
  where
    by : (dot : Bool) → (dot ≡ true → c ≡ 46) → fronts_from (front ++ c ∷ []) cs ++ (front ++ c ∷ cs) ∷ [] ≡ packages_from (front ++ c ∷ []) (parts_of cs) → with_front dot front (fronts_from (front ++ c ∷ []) cs) ++ (front ++ c ∷ cs) ∷ [] ≡ packages_from front (onto_parts dot c (parts_of cs))
    by true is next =
        let same : packages_from (front ++ c ∷ []) (parts_of cs) ≡ packages_from (front ++ [] ++ 46 ∷ []) (parts_of cs) = ap (λ d. packages_from (front ++ d ∷ []) (parts_of cs)) (is refl) ∙ ap (λ l. packages_from (l ++ 46 ∷ []) (parts_of cs)) (sym (append-nil front)) in
        ap (λ l. front ∷ l) (next ∙ same) ∙ ap (λ l. l ∷ packages_from (front ++ [] ++ 46 ∷ []) (parts_of cs)) (sym (append-nil front))
    by false is next = next ∙ sym (onto front c cs)

pub same_packages : (name : List ℕ) → name ≢ [] → (x : List ℕ) → Contains (packages_of name) x ↔ Contains (packages_from [] (parts_of name)) x
same_packages [] some x = absurd (some refl)
same_packages (c ∷ cs) some x =
    let name = c ∷ cs in
    let e = fronts_packages [] name in (
      λ h. subst (λ l. Contains l x) e (⊎_elim (λ same. subst (Contains (fronts_from [] name ++ name ∷ [])) same (Contains-push (fronts_from [] name) name)) (λ front. Contains-append_left (fronts_from [] name) (name ∷ []) x front) (Contains-cases x name (fronts_from [] name) h)),
      λ h. ⊎_elim (λ front. Contains-later x name (fronts_from [] name) front) (λ same. subst (Contains (name ∷ fronts_from [] name)) same (Contains-first name (fronts_from [] name))) (Contains-push_cases (fronts_from [] name) name x (subst (λ l. Contains l x) (sym e) h)),
    )

-- what keeps its index keeps its name as a scope
pub keeps_scope : (old new : List (List ℕ)) → Keeps old new → (s : Option ℕ) → IsScope old s → IsScope new s × (scope_name new s ≡ scope_name old s)
keeps_scope old new kept None h = (tt, refl)
keeps_scope old new kept (Some i) h =
    let at = kept i (name_at old i) (get-name_at old i h) in (slice_get_within new i (name_at old i) at, name_at-get new i (name_at old i) at)

pub packages_kept : (old new : List (List ℕ)) (scopes : List (Option ℕ)) (files : List FileView) → Keeps old new → ArePackages old scopes files → ArePackages new scopes files
packages_kept old new [] [] kept are = tt
packages_kept old new [] (f ∷ fs) kept are = absurd are
packages_kept old new (s ∷ ss) [] kept are = absurd are
packages_kept old new (s ∷ ss) (f ∷ fs) kept are =
    let k = keeps_scope old new kept s are.0.0 in ((k.0, k.1 ∙ are.0.1), packages_kept old new ss fs kept are.1)

pub zip_push : {X Y : Type 0} (R : X → Y → Type 0) (xs : List X) (ys : List Y) (x : X) (y : Y) → AllZip R xs ys → R x y → AllZip R (xs ++ x ∷ []) (ys ++ y ∷ [])
zip_push R [] [] x y all r = (r, tt)
zip_push R [] (b ∷ bs) x y all r = absurd all
zip_push R (a ∷ as') [] x y all r = absurd all
zip_push R (a ∷ as') (b ∷ bs) x y all r = (all.0, zip_push R as' bs x y all.1 r)

pub all_join : {X : Type 0} (P : X → Type 0) (xs ys : List X) → AllByRecursion P xs → AllByRecursion P ys → AllByRecursion P (xs ++ ys)
all_join P [] ys a b = b
all_join P (x ∷ xs) ys a b = (a.0, all_join P xs ys a.1 b)

pub all_of : {X : Type 0} (P : X → Type 0) (xs : List X) → ((x : X) → Contains xs x → P x) → AllByRecursion P xs
all_of P [] each = tt
all_of P (x ∷ xs) each = (each x (Contains-first x xs), all_of P xs (λ y h. each y (Contains-later y x xs h)))

-- A NAME THAT WAS ADDED

pub added_index : (old new : List (List ℕ)) (name : List ℕ) (i : ℕ) (is_new : Bool) → IsAddedAt old new name i is_new → slice_get new i ≡ Some name
added_index old new name i true at = subst (λ l. slice_get l i ≡ Some name) (sym at.0) (subst (λ k. slice_get (old ++ name ∷ []) k ≡ Some name) (sym at.1) (get-push old name))
added_index old new name i false at = subst (λ l. slice_get l i ≡ Some name) (sym at.0) at.1

pub added_kept : (old new : List (List ℕ)) (name : List ℕ) (i : ℕ) (is_new : Bool) → IsAddedAt old new name i is_new → Keeps old new
added_kept old new name i true at k x e = subst (λ l. slice_get l k ≡ Some x) (sym at.0) (get-front old (name ∷ []) k x e)
added_kept old new name i false at k x e = subst (λ l. slice_get l k ≡ Some x) (sym at.0) e

pub added_members : (old new : List (List ℕ)) (name : List ℕ) (i : ℕ) (is_new : Bool) → IsAddedAt old new name i is_new → (x : List ℕ) → Contains new x ↔ (Contains old x ⊎ (name ≡ x))
added_members old new name i true at x = (
  λ h. Contains-push_cases old name x (subst (λ l. Contains l x) at.0 h),
  λ h. subst (λ l. Contains l x) (sym at.0) (⊎_elim (λ o. Contains-append_left old (name ∷ []) x o) (λ same. subst (Contains (old ++ name ∷ [])) same (Contains-push old name)) h),
)
added_members old new name i false at x = (
  λ h. inl (subst (λ l. Contains l x) at.0 h),
  λ h. subst (λ l. Contains l x) (sym at.0) (⊎_elim (λ o. o) (λ same. subst (Contains old) same (get-contains old i name at.1)) h),
)

-- A PACKAGE

abbrev parts_left : Option (List ℕ) → List (List ℕ)
parts_left None = []
parts_left (Some rest) = parts_of rest

abbrev IsWhole : List ℕ → List ℕ → Option (List ℕ) → Type 0
IsWhole name scope None = scope ≡ name
IsWhole name scope (Some rest) = in_scope scope rest ≡ name

-- a package whose first words have been added
pub record PackageSoFar (old now : NameTree) (name : List ℕ) (scope : Option ℕ) (rest : Option (List ℕ)) : Type 0 where
  pub tree : IsTree now
  pub kept : Keeps (full_names_of old) (full_names_of now)
  pub in_tree : IsInTree now scope
  pub whole : IsWhole name (scope_name (full_names_of now) scope) rest
  pub words : IsTrue (list_all is_word (parts_left rest))
  pub members : (x : List ℕ) → (Contains (full_names_of old) x ⊎ Contains (packages_of name) x) ↔ (Contains (full_names_of now) x ⊎ Contains (packages_from (before_in (scope_name (full_names_of now) scope)) (parts_left rest)) x)

pub package-empty : (old : NameTree) → IsTree old → PackageSoFar old old [] None None
package-empty old tree = record { tree = tree; kept = λ i x e. e; in_tree = tt; whole = refl; words = refl; members = λ x. (λ h. h, λ h. h) }

pub package-start : (old : NameTree) (name : List ℕ) → IsTree old → IsTrue (is_package name) → name ≢ [] → PackageSoFar old old name None (Some name)
package-start old [] tree ok some = absurd (some refl)
package-start old (c ∷ cs) tree ok some = record {
  tree = tree;
  kept = λ i x e. e;
  in_tree = tt;
  whole = refl;
  words = ok;
  members = λ x. let same = same_packages (c ∷ cs) some x in (λ h. ⊎_elim inl (λ p. inr (same.0 p)) h, λ h. ⊎_elim inl (λ p. inr (same.1 p)) h);
}

before_some : (name : List ℕ) → name ≢ [] → before_in name ≡ name ++ 46 ∷ []
before_some [] some = absurd (some refl)
before_some (c ∷ cs) some = refl

split_parts : (name word : List ℕ) (others : Option (List ℕ)) → IsSplit name word others → parts_of name ≡ word ∷ parts_left others
split_parts name word None split = ap parts_of split.0 ∙ parts_whole word split.1
split_parts name word (Some rest) split = ap parts_of split.0 ∙ parts_split word rest split.1

in_scope-more : (scope word rest : List ℕ) → in_scope scope word ≢ [] → in_scope (in_scope scope word) rest ≡ in_scope scope (word ++ 46 ∷ rest)
in_scope-more scope word rest some =
    in_scope-before (in_scope scope word) rest ∙ ap (λ l. l ++ rest) (before_some (in_scope scope word) some) ∙ append_assoc (in_scope scope word) (46 ∷ []) rest ∙ ap (λ l. l ++ 46 ∷ rest) (in_scope-before scope word) ∙ append_assoc (before_in scope) word (46 ∷ rest) ∙ sym (in_scope-before scope (word ++ 46 ∷ rest))

whole_more : (pack scope name word : List ℕ) (others : Option (List ℕ)) → in_scope scope word ≢ [] → in_scope scope name ≡ pack → IsSplit name word others → IsWhole pack (in_scope scope word) others
whole_more pack scope name word None some whole split = ap (in_scope scope) (sym split.0) ∙ whole
whole_more pack scope name word (Some rest) some whole split = in_scope-more scope word rest some ∙ ap (in_scope scope) (sym split.0) ∙ whole

and_left : (a b : Bool) → (a && b) ≡ true → a ≡ true
and_left true b e = refl
and_left false b e = absurd (false≢true e)

and_right : (a b : Bool) → (a && b) ≡ true → b ≡ true
and_right true b e = e
and_right false b e = absurd (false≢true e)

word_some : (w : List ℕ) → IsTrue (is_word w) → w ≢ []
word_some [] word e = false≢true word
word_some (c ∷ cs) word e = nil_cons (sym e)

pub package_word : (old now : NameTree) (pack name word : List ℕ) (scope : Option ℕ) (others : Option (List ℕ)) → PackageSoFar old now pack scope (Some name) → IsSplit name word others → IsTrue (is_word word)
package_word old now pack name word scope others so split =
    and_left (is_word word) (list_all is_word (parts_left others)) (subst (λ l. IsTrue (list_all is_word l)) (split_parts name word others split) so.words)

pub package-step : (old now new : NameTree) (pack name word : List ℕ) (scope : Option ℕ) (others : Option (List ℕ)) (i : ℕ) (is_new : Bool) → PackageSoFar old now pack scope (Some name) → IsSplit name word others → NameAdded now new (in_scope (scope_name (full_names_of now) scope) word) i is_new → PackageSoFar old new pack (Some i) others
package-step old now new pack name word scope others i is_new so split added =
    let F = full_names_of now in
    let G = full_names_of new in
    let s = scope_name F scope in
    let x = in_scope s word in
    let parts = split_parts name word others split in
    let all = subst (λ l. IsTrue (list_all is_word l)) parts so.words in
    let word_ok = and_left (is_word word) (list_all is_word (parts_left others)) all in
    let some : x ≢ [] = in_scope-some s word (word_some word word_ok) in
    let at = added_index F G x i is_new added.at_index in
    let named : name_at G i ≡ x = name_at-get G i x at in
    let front : before_in (name_at G i) ≡ before_in s ++ word ++ 46 ∷ [] = ap before_in named ∙ before_some x some ∙ ap (λ l. l ++ 46 ∷ []) (in_scope-before s word) in
    let rest = packages_from (before_in (name_at G i)) (parts_left others) in
    let before : packages_from (before_in s) (parts_of name) ≡ x ∷ rest = ap (packages_from (before_in s)) parts ∙ ap (λ l. l ∷ packages_from (before_in s ++ word ++ 46 ∷ []) (parts_left others)) (sym (in_scope-before s word)) ∙ ap (λ l. x ∷ packages_from l (parts_left others)) (sym front) in
    record {
      tree = added.tree;
      kept = λ k y e. added_kept F G x i is_new added.at_index k y (so.kept k y e);
      in_tree = slice_get_within G i x at;
      whole = subst (λ n. IsWhole pack n others) (sym named) (whole_more pack s name word others some so.whole split);
      words = and_right (is_word word) (list_all is_word (parts_left others)) all;
      members = λ y.
          let m = added_members F G x i is_new added.at_index y in (
            λ h. ⊎_elim (λ old_one. inl (m.1 (inl old_one))) (λ p. ⊎_elim (λ same. inl (m.1 (inr same))) inr (Contains-cases y x rest (subst (λ l. Contains l y) before p))) ((so.members y).0 h),
            λ h. (so.members y).1 (⊎_elim (λ g. ⊎_elim inl (λ same. inr (subst (λ l. Contains l y) (sym before) (subst (Contains (x ∷ rest)) same (Contains-first x rest)))) (m.0 g)) (λ p. inr (subst (λ l. Contains l y) (sym before) (Contains-later y x rest p))) h),
          );
    }

pub package-end : (old now : NameTree) (pack : List ℕ) (scope : Option ℕ) → PackageSoFar old now pack scope None → PackageAdded old now pack scope
package-end old now pack scope so = record {
  tree = so.tree;
  kept = so.kept;
  in_tree = so.in_tree;
  name = so.whole;
  members = λ x. (λ h. (so.members x).1 (inl h), λ h. ⊎_elim (λ f. f) (λ p. Contains-none x p) ((so.members x).0 h));
}

-- the name, cut at its first dot
pub cut_at : (name : List ℕ) (i : ℕ) → i < length name → get_or name i 0 ≡ 46 → name ≡ take i name ++ 46 ∷ take (length name - (i + 1)) (drop (i + 1) name)
cut_at name i h is =
    let all : take (length name - (i + 1)) (drop (i + 1) name) ≡ drop (i + 1) name = take_past (drop (i + 1) name) (length name - (i + 1)) (omega (arith, length-drop (i + 1) name)) in
    sym (take-append-drop i name) ∙ ap (λ l. take i name ++ l) (drop_more name i 0 h) ∙ ap (λ c. take i name ++ c ∷ drop (i + 1) name) is ∙ ap (λ l. take i name ++ 46 ∷ l) (sym all)

-- how much is left, by one more than the length
abbrev pub length_left : Option (List ℕ) → ℕ
length_left None = 0
length_left (Some rest) = length rest + 1

pub less_left : (name word : List ℕ) (others : Option (List ℕ)) → IsSplit name word others → length_left others < length_left (Some name)
less_left name word None split = omega arith
less_left name word (Some rest) split = omega (arith, ap length split.0, length-append word (46 ∷ rest))

-- THE PACKAGES OF FILES

pub packages-none : (t : NameTree) → IsTree t → PackagesAdded t t [] []
packages-none t tree = record { tree = tree; kept = λ i x e. e; packages = tt; members = λ x. (inl, λ h. ⊎_elim (λ o. o) (λ p. Contains-none x p) h) }

contains_join : (xs ys : List (List ℕ)) (x : List ℕ) → Contains (xs ++ ys) x ↔ (Contains xs x ⊎ Contains ys x)
contains_join xs ys x = (λ h. Contains-append_cases xs ys x h, λ h. ⊎_elim (λ a. Contains-append_left xs ys x a) (λ b. Contains-append_right xs ys x b) h)

pub packages-more : (xs : List FileInfo) (scopes : List (Option ℕ)) (s : Option ℕ) (i : ℕ) (x : FileInfo) (name : List ℕ) (a b c : NameTree) → i < length xs → x ≡ get_or xs i x → PackagesAreWords (map file_view xs) → name ≡ string_bytes x.«package» → PackagesAdded a b (map file_view (take i xs)) scopes → AddsPackage b c name s → PackagesAdded a c (map file_view (take (i + 1) xs)) (scopes ++ s ∷ [])
packages-more xs scopes s i x name a b c h is words named so adds =
    let f = file_view x in
    let front = map file_view (take i xs) in
    let ok = all_at (λ (g : FileView). IsTrue (is_package g.package_name)) file_view xs i x words h is in
    let this : PackageAdded b c f.package_name s = subst (λ n. AddsPackage b c n s) named adds so.tree ok in
    let more : map file_view (take (i + 1) xs) ≡ front ++ f ∷ [] = ap (map file_view) (take_more xs i x h ∙ ap (λ y. take i xs ++ y ∷ []) (sym is)) ∙ map_push file_view (take i xs) x in
    let P = λ (g : FileView). packages_of g.package_name in
    let joined : flat_map P (front ++ f ∷ []) ≡ flat_map P front ++ P f = flat_map-append P front (f ∷ []) ∙ ap (λ l. flat_map P front ++ l) (append-nil (P f)) in
    subst (λ l. PackagesAdded a c l (scopes ++ s ∷ [])) (sym more) (record {
      tree = this.tree;
      kept = λ k y e. this.kept k y (so.kept k y e);
      packages = zip_push (λ t g. IsScope (full_names_of c) t × (scope_name (full_names_of c) t ≡ g.package_name)) scopes front s f (packages_kept (full_names_of b) (full_names_of c) scopes front this.kept so.packages) (this.in_tree, this.name);
      members = λ y. let both = contains_join (flat_map P front) (P f) y in (
        λ g. ⊎_elim (λ o. ⊎_elim inl (λ p. inr (subst (λ l. Contains l y) (sym joined) (both.1 (inl p)))) ((so.members y).0 o)) (λ p. inr (subst (λ l. Contains l y) (sym joined) (both.1 (inr p)))) ((this.members y).0 g),
        λ g. ⊎_elim (λ o. (this.members y).1 (inl ((so.members y).1 (inl o)))) (λ p. ⊎_elim (λ q. (this.members y).1 (inl ((so.members y).1 (inr q)))) (λ q. (this.members y).1 (inr q)) (both.0 (subst (λ l. Contains l y) joined p))) g,
      );
    })

pub packages-all : (xs : List FileInfo) (scopes : List (Option ℕ)) (i : ℕ) (a b : NameTree) → length xs ≤ i → PackagesAdded a b (map file_view (take i xs)) scopes → PackagesAdded a b (map file_view xs) scopes
packages-all xs scopes i a b h so = subst (λ l. PackagesAdded a b (map file_view l) scopes) (take_past xs i h) so

pub none_of_length : (name : List ℕ) → (length name == 0) ≡ true → name ≡ []
none_of_length [] e = refl
none_of_length (c ∷ cs) e = absurd (omega (arith, (Decides-eqb (length (c ∷ cs)) 0).0 e))

pub some_of_length : (name : List ℕ) → (length name == 0) ≡ false → name ≢ []
some_of_length [] e = λ _. false≢true (sym e)
some_of_length (c ∷ cs) e = λ is. nil_cons (sym is)
