-- Which fields use a type.
use Rattle.std.proofs.Common.{◌≡◌, ℕ, zero, suc, ◌+◌, ◌<◌, ◌≤◌, ⊎_elim, List, [], ◌∷◌, ◌++◌, map, take, length, get_or, set, replicate, Bool, true, false, ◌||◌, ◌==◌, refl, sym, ap, ◌∙◌, subst, arith, Option, Some, None, cond}
use Rattle.std.specs.Prelude.{filter, slice_get}
use Rattle.std.specs.List.{list_any, enumerate_from}
use Rattle.std.proofs.lemmas.Bool.{cases_eq}
use Rattle.std.proofs.lemmas.Option.{none-some}
use Rattle.std.proofs.lemmas.Bool.Decides.{nat_tests, Decides-eqb}
use Rattle.std.proofs.lemmas.List.{length-set, get_or-set_same, get_or-set_other}
use Rattle.std.proofs.lemmas.List.Elements.{filter-append}
use Rattle.pb_schema.proofs.LookupLemmas.{get_viewed}
use Rattle.pb_declarations.specs.Decls.{DeclaredField, MessageHead}
use Rattle.pb_link_names.specs.Declarations.{Item, a_file, a_message, a_field, a_oneof, an_enum, a_value, a_service, a_method, Declaration}
use Rattle.pb_link_names.specs.Lookup.{Found, found, not_found, not_visible, not_a_type}
use Rattle.pb_link_rules.specs.Rules.{World, lookups, lookups_if, lookup_at, is_field, is_found_at, place_found, uses, gives_name, is_map_field, is_one_map_field, has_one_use}
use Rattle.pb_link_rules.specs.Uses.{field_in, message_name_in, gives, target_by, is_target, with_user, users_at, AddsUser, Sums}
use Rattle.pb_link_rules.specs.declared.rules.uses.Users.{Users}
use Rattle.pb_link_rules.specs.declared.rules.uses.Users.TheVariants as users
use Rattle.pb_link_names.proofs.GraphLemmas.{map_more}
use Rattle.pb_link_names.proofs.RowLemmas.{grown}

gives_by_field : (head : MessageHead) (i : ℕ) (f : DeclaredField) (e : Item) → gives_name (a_field head i f) e ≡ gives (Some f) (message_name_in e)
gives_by_field head i f (a_file g) = refl
gives_by_field head i f (a_message h inner) = refl
gives_by_field head i f (a_field h j g) = refl
gives_by_field head i f (a_oneof h j name) = refl
gives_by_field head i f (an_enum e) = refl
gives_by_field head i f (a_value e j v) = refl
gives_by_field head i f (a_service s) = refl
gives_by_field head i f (a_method m) = refl

pub gives_same : (d e : Item) → gives_name d e ≡ gives (field_in d) (message_name_in e)
gives_same (a_file f) e = refl
gives_same (a_message head inner) e = refl
gives_same (a_field head i f) e = gives_by_field head i f e
gives_same (a_oneof head i name) e = refl
gives_same (an_enum v) e = refl
gives_same (a_value v i u) e = refl
gives_same (a_service s) e = refl
gives_same (a_method m) e = refl

or_false : (b : Bool) → (b || false) ≡ b
or_false true = refl
or_false false = refl

found_target : (p : ℕ) (f : Found) → (is_found_at p f || false) ≡ is_target p (place_found f)
found_target p (found q) = or_false (p == q)
found_target p not_found = refl
found_target p not_visible = refl
found_target p not_a_type = refl

named_target : (w : World) (p : ℕ) (d : Declaration) (o : Option (List ℕ)) → list_any (is_found_at p) (lookups_if w d o) ≡ is_target p (target_by true (lookups_if w d o))
named_target w p d None = refl
named_target w p d (Some name) = found_target p (lookup_at w d name)

uses_item : (w : World) (p file parent : ℕ) (scope : List ℕ) (i : Item) → uses w p (record { file = file; parent = parent; scope = scope; item = i }) ≡ is_target p (target_by (is_field i) (lookups w (record { file = file; parent = parent; scope = scope; item = i })))
uses_item w p file parent scope (a_file f) = refl
uses_item w p file parent scope (a_message head inner) = refl
uses_item w p file parent scope (a_field head i f) = named_target w p (record { file = file; parent = parent; scope = scope; item = a_field head i f }) f.type_name
uses_item w p file parent scope (a_oneof head i name) = refl
uses_item w p file parent scope (an_enum e) = refl
uses_item w p file parent scope (a_value e i v) = refl
uses_item w p file parent scope (a_service s) = refl
uses_item w p file parent scope (a_method m) = refl

pub uses_target : (w : World) (p : ℕ) (d : Declaration) → uses w p d ≡ is_target p (target_by (is_field d.item) (lookups w d))
uses_target w p d = uses_item w p d.file d.parent d.scope d.item

-- ADDING A USER
pub user_none : (place : ℕ) (old : List Users) → AddsUser place None old old
user_none place old = record { size = refl; each = λ p h. refl }

not_equal : (p q : ℕ) → (p ≡ q → ⊥) → (p == q) ≡ false
not_equal p q ne = grind (arith, nat_tests)

pub user_past : (place q : ℕ) (old : List Users) → length old ≤ q → AddsUser place (Some q) old old
user_past place q old over = record { size = refl; each = λ p h. ap (λ b. cond b (with_user (users_at old p) place) (users_at old p)) (sym (not_equal p q (λ e. omega (arith, e, h, over)))) }

pub user_set : (place q : ℕ) (old : List Users) (u : Users) → q < length old → u ≡ with_user (users_at old q) place → AddsUser place (Some q) old (set old q u)
user_set place q old u h is = record {
  size = length-set old q u;
  each = λ p within. ⊎_elim
      (λ e. subst (λ k. users_at (set old q u) k ≡ cond (k == q) (with_user (users_at old k) place) (users_at old k)) (sym e) (get_or-set_same old q u users.None h ∙ is ∙ ap (λ b. cond b (with_user (users_at old q) place) (users_at old q)) (sym ((Decides-eqb q q).1 refl))))
      (λ ne. get_or-set_other old q p u users.None ne ∙ ap (λ b. cond b (with_user (users_at old p) place) (users_at old p)) (sym (not_equal p q ne)))
      (cases_eq p q);
}

-- SUMS
one_more : (ds : List Declaration) (u : Users) (of : List Declaration) (place : ℕ) (d : Declaration) → slice_get ds place ≡ Some d → Sums ds u of → Sums ds (with_user u place) (of ++ d ∷ [])
one_more ds users.None of place d at sums = (d, at, ap (λ l. l ++ d ∷ []) sums)
one_more ds (users.One first) of place d at sums = (sums.0, d, [], ap (λ l. l ++ d ∷ []) sums.2)
one_more ds users.Many of place d at sums = (sums.0, sums.1, sums.2 ++ d ∷ [], ap (λ l. l ++ d ∷ []) sums.3)

no_more : {X : Type 0} (l : List X) → l ++ [] ≡ l
no_more [] = refl
no_more (x ∷ l) = ap (λ r. x ∷ r) (no_more l)

step_sums : (ds : List Declaration) (t : Declaration → Bool) (of : List Declaration) (place : ℕ) (d : Declaration) (u : Users) (b : Bool) → slice_get ds place ≡ Some d → Sums ds u (filter t of) → t d ≡ b → Sums ds (cond b (with_user u place) u) (filter t (of ++ d ∷ []))
step_sums ds t of place d u true at sums is = subst (Sums ds (with_user u place)) (sym (filter-append t of (d ∷ []) ∙ ap (λ c. filter t of ++ cond c (d ∷ []) []) is)) (one_more ds u (filter t of) place d at sums)
step_sums ds t of place d u false at sums is = subst (Sums ds u) (sym (filter-append t of (d ∷ []) ∙ ap (λ c. filter t of ++ cond c (d ∷ []) []) is ∙ no_more (filter t of))) sums

-- the sums so far
abbrev pub SumsSoFar : World → List Declaration → List Declaration → List Users → Type 0
SumsSoFar w ds so_far all = (p : ℕ) → p < length ds → Sums ds (users_at all p) (filter (uses w p) so_far)

pub sums_more : {X : Type 0} (w : World) (view : X → Declaration) (row : List X) (i : ℕ) (x : X) (target : Option ℕ) (old new : List Users) → i < length row → x ≡ get_or row i x → length old ≡ length (map view row) → target ≡ target_by (is_field (view x).item) (lookups w (view x)) → AddsUser i target old new → SumsSoFar w (map view row) (map view (take i row)) old → SumsSoFar w (map view row) (map view (take (i + 1) row)) new
sums_more w view row i x target old new less is size at adds so p h =
    let ds = map view row in
    let passes : uses w p (view x) ≡ is_target p target = uses_target w p (view x) ∙ ap (is_target p) (sym at) in
    subst (λ u. Sums ds u (filter (uses w p) (map view (take (i + 1) row)))) (sym (adds.each p (subst (λ n. p < n) (sym size) h)))
    (subst (λ l. Sums ds (cond (is_target p target) (with_user (users_at old p) i) (users_at old p)) (filter (uses w p) l)) (sym (map_more view row i x less is))
    (step_sums ds (uses w p) (map view (take i row)) i (view x) (users_at old p) (is_target p target) (get_viewed view row i x less is) (so p h) passes))

none_at : (n p : ℕ) → users_at (replicate n users.None) p ≡ users.None
none_at zero p = refl
none_at (suc n) zero = refl
none_at (suc n) (suc p) = none_at n p

pub sums_first : (w : World) (ds : List Declaration) (n : ℕ) (all : List Users) → all ≡ replicate n users.None → SumsSoFar w ds [] all
sums_first w ds n all is p h = subst (λ u. Sums ds u []) (sym (ap (λ l. users_at l p) is ∙ none_at n p)) refl

-- THE ONE USE
pub none_used : (ds : List Declaration) (entry : Declaration) (u : Users) (of : List Declaration) → ((place : ℕ) → u ≡ users.One place → ⊥) → Sums ds u of → false ≡ is_one_map_field entry of
none_used ds entry users.None of not_one sums = ap (is_one_map_field entry) (sym sums)
none_used ds entry (users.One place) of not_one sums = absurd (not_one place refl)
none_used ds entry users.Many of not_one sums = ap (is_one_map_field entry) (sym sums.3)

some_same : {A : Type 0} (a b : A) → Some a ≡ Some b → a ≡ b
some_same a b h = cc

pub one_used : (ds : List Declaration) (entry : Declaration) (place : ℕ) (d : Declaration) (of : List Declaration) (b : Bool) → slice_get ds place ≡ Some d → b ≡ is_map_field entry d → Sums ds (users.One place) of → b ≡ is_one_map_field entry of
one_used ds entry place d of b at is sums =
    is ∙ ap (is_map_field entry) (some_same d sums.0 (sym at ∙ sums.1)) ∙ ap (is_one_map_field entry) (sym sums.2)

pub none_there : (ds : List Declaration) (place : ℕ) (of : List Declaration) → slice_get ds place ≡ None → Sums ds (users.One place) of → ⊥
none_there ds place of past sums = none-some sums.0 (sym past ∙ sums.1)

-- what is reported at a place
nil_cons : {A P : Type 0} (b : A) (bs : List A) → ◌≡◌ {A = List A} [] (b ∷ bs) → P
nil_cons b bs h = cc

first_same : {A : Type 0} (a b : A) (cs bs : List A) → a ∷ cs ≡ b ∷ bs → a ≡ b
first_same a b cs bs h = cc

rest_same : {A : Type 0} (a b : A) (cs bs : List A) → a ∷ cs ≡ b ∷ bs → cs ≡ bs
rest_same a b cs bs h = cc

pub told_at : {T X Y : Type 0} (told : T → Y) (g : X → Y) (all : List T) (row : List X) (i : ℕ) (x : X) (d : T) → map told all ≡ map g row → i < length row → x ≡ get_or row i x → told (get_or all i d) ≡ g x
told_at told g all [] i x d same h is = absurd (omega (arith, h))
told_at told g [] (y ∷ ys) i x d same h is = nil_cons (g y) (map g ys) same
told_at told g (t ∷ ts) (y ∷ ys) zero x d same h is = first_same (told t) (g y) (map told ts) (map g ys) same ∙ ap g (sym is)
told_at told g (t ∷ ts) (y ∷ ys) (suc i) x d same h is = told_at told g ts ys i x d (rest_same (told t) (g y) (map told ts) (map g ys) same) (omega (arith, h)) is

pub used_more : {X : Type 0} (w : World) (view : X → Declaration) (row : List X) (i : ℕ) (x : X) (u : Users) (held now : List Bool) (b : Bool) → i < length row → x ≡ get_or row i x → Sums (map view row) u (filter (uses w i) w.declared) → ((of : List Declaration) → Sums (map view row) u of → b ≡ is_one_map_field (view x) of) → held ≡ map (λ e. has_one_use w e.0 e.1) (enumerate_from 0 (map view (take i row))) → now ≡ held ++ b ∷ [] → now ≡ map (λ e. has_one_use w e.0 e.1) (enumerate_from 0 (map view (take (i + 1) row)))
used_more w view row i x u held now b less is sums one was pushed =
    grown (λ e. has_one_use w e.0 e.1) view row i x [] held now less is was (pushed ∙ ap (λ c. held ++ c ∷ []) (one (filter (uses w i) w.declared) sums))
