-- The loops that make the parts of a pool.
use Rattle.std.proofs.Common.{◌≡◌, ℕ, zero, suc, ◌+◌, ◌<◌, ◌≤◌, List, [], ◌∷◌, ◌++◌, Bool, true, false, not, length, map, take, drop, get_or, refl, sym, ap, ◌∙◌, arith, append_assoc, append-nil}
use Rattle.std.specs.Prelude.{string_bytes, if◌then◌else◌, cond, filter}
use Rattle.std.specs.List.{enumerate_from}
use Rattle.std.specs.Str.{bytes_eq}
use Rattle.std.proofs.lemmas.List.{drop_more, take_more, take_all, map-append}
use Rattle.pb_schema.specs.declared.types.Kind.{Kind}
use Rattle.pb_declarations.specs.Decls.{DeclaredFile, MessageHead}
use Rattle.pb_declarations.specs.View.{field_view}
use Rattle.pb_graphs.specs.Reach.{next_of}
use Rattle.pb_declarations.specs.declared.decl.FieldDecl.{FieldDecl}
use Rattle.pb_link_names.specs.Sees.{file_of}
use Rattle.pb_link_rules.specs.Rules.{key_name}
use Rattle.pb_link_names.specs.Declarations.{is_synthetic}
use Rattle.pb_link.specs.Pools.{real_from, kind_of_number, kind_read, place_named, parts_read}
use Rattle.pb_link_names.specs.declared.found.TypeNames.{TypeNames}
use Rattle.pb_link.specs.declared.pools.tables.Tables.{Tables}

-- the elements from an index on, as they are seen
pub rest_more : {X Y : Type 0} (view : X → Y) (xs : List X) (i : ℕ) (x : X) → i < length xs → x ≡ get_or xs i x → map view (drop i xs) ≡ view x ∷ map view (drop (i + 1) xs)
rest_more view xs i x h there = ap (map view) (drop_more xs i x h) ∙ ap (λ y. view y ∷ map view (drop (i + 1) xs)) (sym there)

-- FIELDS

two_of : (xs : List FieldDecl) (a b : FieldDecl) → length xs ≡ 2 → a ≡ get_or xs 0 a → b ≡ get_or xs 1 b → map field_view xs ≡ field_view a ∷ field_view b ∷ []
two_of [] a b size first second = absurd (omega (arith, size))
two_of (x ∷ []) a b size first second = absurd (omega (arith, size))
two_of (x ∷ y ∷ []) a b size first second = ap (λ z. field_view z ∷ field_view y ∷ []) (sym first) ∙ ap (λ z. field_view a ∷ field_view z ∷ []) (sym second)
two_of (x ∷ y ∷ z ∷ xs) a b size first second = absurd (omega (arith, size))

pub key_first : (t : Tables) (names : List TypeNames) (xs : List FieldDecl) (a b : FieldDecl) (k v : Kind) → length xs ≡ 2 → a ≡ get_or xs 0 a → b ≡ get_or xs 1 b → bytes_eq key_name (string_bytes a.name) ≡ true → k ≡ kind_of_number a.ty → v ≡ kind_read t (place_named names 1) b.ty → ◌≡◌ {A = Kind × Kind} (k, v) (parts_read t names (map field_view xs))
key_first t names xs a b k v size first second is key value =
    (λ i. (key i, value i))
    ∙ ap (λ c. if c then (kind_of_number a.ty, kind_read t (place_named names 1) b.ty) else (kind_of_number b.ty, kind_read t (place_named names 0) a.ty)) (sym is)
    ∙ ap (parts_read t names) (sym (two_of xs a b size first second))

pub key_second : (t : Tables) (names : List TypeNames) (xs : List FieldDecl) (a b : FieldDecl) (k v : Kind) → length xs ≡ 2 → a ≡ get_or xs 0 a → b ≡ get_or xs 1 b → bytes_eq key_name (string_bytes a.name) ≡ false → k ≡ kind_of_number b.ty → v ≡ kind_read t (place_named names 0) a.ty → ◌≡◌ {A = Kind × Kind} (k, v) (parts_read t names (map field_view xs))
key_second t names xs a b k v size first second is key value =
    (λ i. (key i, value i))
    ∙ ap (λ c. if c then (kind_of_number a.ty, kind_read t (place_named names 1) b.ty) else (kind_of_number b.ty, kind_read t (place_named names 0) a.ty)) (sym is)
    ∙ ap (parts_read t names) (sym (two_of xs a b size first second))

-- ONEOFS

pub real_more : {X : Type 0} (view : X → List ℕ) (head : MessageHead) (xs : List X) (i : ℕ) (x : X) (b : Bool) (held now whole : List (List ℕ)) → i < length xs → x ≡ get_or xs i x → b ≡ is_synthetic head i → held ++ real_from head i (map view (drop i xs)) ≡ whole → now ≡ held ++ (if not b then view x ∷ [] else []) → now ++ real_from head (i + 1) (map view (drop (i + 1) xs)) ≡ whole
real_more view head xs i x b held now whole h there same invariant added = by_mark b same added
  where
    step : (b : Bool) → b ≡ is_synthetic head i → real_from head i (map view (drop i xs)) ≡ map (λ e. e.1) (cond (not b) ((i, view x) ∷ filter (λ e. not (is_synthetic head e.0)) (enumerate_from (i + 1) (map view (drop (i + 1) xs)))) (filter (λ e. not (is_synthetic head e.0)) (enumerate_from (i + 1) (map view (drop (i + 1) xs)))))
    step b same = ap (real_from head i) (rest_more view xs i x h there) ∙ ap (λ c. map (λ e. e.1) (cond (not c) ((i, view x) ∷ filter (λ e. not (is_synthetic head e.0)) (enumerate_from (i + 1) (map view (drop (i + 1) xs)))) (filter (λ e. not (is_synthetic head e.0)) (enumerate_from (i + 1) (map view (drop (i + 1) xs)))))) (sym same)

    by_mark : (b : Bool) → b ≡ is_synthetic head i → now ≡ held ++ (if not b then view x ∷ [] else []) → now ++ real_from head (i + 1) (map view (drop (i + 1) xs)) ≡ whole
    by_mark true same added = ap (λ n. n ++ real_from head (i + 1) (map view (drop (i + 1) xs))) (added ∙ append-nil held) ∙ ap (λ r. held ++ r) (sym (step true same)) ∙ invariant
    by_mark false same added = ap (λ n. n ++ real_from head (i + 1) (map view (drop (i + 1) xs))) added ∙ append_assoc held (view x ∷ []) (real_from head (i + 1) (map view (drop (i + 1) xs))) ∙ ap (λ r. held ++ r) (sym (step false same)) ∙ invariant

-- COPIES

pub copied_more : {X Y Z : Type 0} (view : X → Z) (see : Y → Z) (xs : List X) (i : ℕ) (x : X) (held now : List Y) (y : Y) → i < length xs → x ≡ get_or xs i x → map see held ≡ map view (take i xs) → now ≡ held ++ y ∷ [] → see y ≡ view x → map see now ≡ map view (take (i + 1) xs)
copied_more view see xs i x held now y h there invariant pushed same =
    ap (map see) pushed ∙ map-append see held (y ∷ []) ∙ ap (λ r. r ++ see y ∷ []) invariant ∙ ap (λ z. map view (take i xs) ++ z ∷ []) (same ∙ ap view there)
    ∙ sym (ap (map view) (take_more xs i x h) ∙ map-append view (take i xs) (get_or xs i x ∷ []))

pub copied_all : {X Y Z V : Type 0} (make : V → Z) (view : X → V) (see : Y → Z) (xs : List X) (i : ℕ) (held : List Y) → length xs ≤ i → map see held ≡ map (λ x. make (view x)) (take i xs) → map see held ≡ map make (map view xs)
copied_all make view see xs i held past invariant = invariant ∙ ap (map (λ x. make (view x))) (take_all i xs past) ∙ twice make view xs
  where
    twice : {X Z V : Type 0} (make : V → Z) (view : X → V) (ys : List X) → map (λ x. make (view x)) ys ≡ map make (map view ys)
    twice make view [] = refl
    twice make view (y ∷ ys) = ap (λ zs. make (view y) ∷ zs) (twice make view ys)

-- FILES

-- what a file imports
pub imports_at : {X : Type 0} (view : X → DeclaredFile) (all : List DeclaredFile) (graph : List (List ℕ)) (xs : List X) (i : ℕ) (x : X) → graph ≡ map (λ f. f.imports) (map (file_of all) (map view xs)) → i < length xs → x ≡ get_or xs i x → next_of graph i ≡ (file_of all (view x)).imports
imports_at {X} view all graph xs i x same h there = ap (λ g. next_of g i) same ∙ listed xs i h there
  where
    listed : (ys : List X) (k : ℕ) → k < length ys → x ≡ get_or ys k x → next_of (map (λ f. f.imports) (map (file_of all) (map view ys))) k ≡ (file_of all (view x)).imports
    listed [] k less is = absurd (omega (arith, less))
    listed (y ∷ ys) zero less is = ap (λ z. (file_of all (view z)).imports) (sym is)
    listed (y ∷ ys) (suc k) less is = listed ys k (omega (arith, less)) is
