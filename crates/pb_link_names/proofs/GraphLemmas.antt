-- Imports as graphs: what they lead to are files, and what is reached along them is seen.
use Rattle.std.proofs.Common.{◌≡◌, ℕ, zero, suc, ◌+◌, ◌-◌, ◌<◌, ◌≤◌, ◌≢◌, ◌↔◌, ◌⊎◌, inl, inr, ⊎_elim, List, [], ◌∷◌, ◌++◌, map, take, length, drop, get_or, Bool, true, false, ◌==◌, ◌&&◌, not, refl, sym, ap, ◌∙◌, subst, arith, append_assoc, length-append, IsTrue, Contains, Option, Some, None, cond}
use Rattle.std.specs.Prelude.{ℤ, pos, negsuc, filter_map, option_and_then, option_to_list, slice_get}
use Rattle.std.specs.List.{AllByRecursion, cons_option, enumerate_from, position_from}
use Rattle.std.specs.Cmp.{unsigned_Decides}
use Rattle.std.specs.Str.{bytes_eq}
use Rattle.std.proofs.lemmas.Bool.{cases_eq, false≢true}
use Rattle.std.proofs.lemmas.Option.{none-some}
use Rattle.std.proofs.lemmas.List.{take_more, take_all, map-append, append-nil}
use Rattle.std.proofs.lemmas.Grind.{flat_map-append}
use Rattle.std.proofs.lemmas.List.Elements.{filter_map-append}
use Rattle.std.proofs.lemmas.Slice.Eq.{bytes_eq-Decides}
use Rattle.std.proofs.Math.Seq.{take-append_seam, drop-append_seam}
use Rattle.pb_schema.specs.Types.{FileView}
use Rattle.pb_schema.specs.Imports.{imports_of, Reaches, directly, further}
use Rattle.pb_schema.proofs.LookupLemmas.{get_viewed}
use Rattle.pb_schema.proofs.ImportLemmas.{next_files, reaches_from, reached_by}
use Rattle.pb_declarations.specs.Decls.{DeclaredFile}
use Rattle.pb_declarations.specs.View.{file_view}
use Rattle.pb_declarations.specs.declared.decl.FileDecl.{FileDecl}
use Rattle.pb_link_names.specs.Sees.{file_named, import_at, file_of, files_of, public_file_of, public_files_of, Sees, itself, imported, onward}
use Rattle.pb_graphs.specs.declared.flat.FlatGraph.{FlatGraph}
use Rattle.pb_graphs.specs.Flat.{lists_of, open_list, IsLaid, Grows}
use Rattle.pb_graphs.proofs.FlatLemmas.{grows_append}
use Rattle.pb_graphs.specs.Reach.{next_of, Reached, begun, further as led, IsGraph, is_marked}
use Rattle.pb_link_names.specs.Graphs.{target_at, joined_names, AreImports, LeadToFiles, KnowsSight, sees_by, is_file}
use Rattle.pb_link_names.specs.declared.imports.Imports.{Imports}
use Rattle.pb_link_names.specs.declared.sight.Sight.{Sight}
use Rattle.pb_link_names.proofs.AnyLemmas.{or_cases, or_first, or_second, same_test}
use Rattle.pb_link_names.proofs.FirstsLemmas.{same_bytes, none_past, position_from-first}

some_same : {A : Type 0} (a b : A) → Some a ≡ Some b → a ≡ b
some_same a b h = cc

-- LISTS THAT GROW
as_list : {Y : Type 0} (o : Option Y) → cons_option o [] ≡ option_to_list o
as_list None = refl
as_list (Some y) = refl

pub filter_more : {X Y : Type 0} (h : X → Option Y) (xs : List X) (i : ℕ) (x : X) → i < length xs → x ≡ get_or xs i x → filter_map h (take (i + 1) xs) ≡ filter_map h (take i xs) ++ option_to_list (h x)
filter_more h xs i x less is =
    ap (filter_map h) (take_more xs i x less ∙ ap (λ z. take i xs ++ z ∷ []) (sym is)) ∙ filter_map-append h (take i xs) (x ∷ []) ∙ ap (λ l. filter_map h (take i xs) ++ l) (as_list (h x))

pub public_more : (targets : List (Option ℕ)) (zs : List ℤ) (i : ℕ) (z : ℤ) (start old new : FlatGraph) (r : Option ℕ) → i < length zs → z ≡ get_or zs i z → r ≡ target_at targets z → Grows (filter_map (target_at targets) (take i zs)) start old → Grows (option_to_list r) old new → Grows (filter_map (target_at targets) (take (i + 1) zs)) start new
public_more targets zs i z start old new r less is at was now =
    subst (λ l. Grows l start new) (ap (λ o. filter_map (target_at targets) (take i zs) ++ option_to_list o) at ∙ sym (filter_more (target_at targets) zs i z less is))
    (grows_append (filter_map (target_at targets) (take i zs)) (option_to_list r) start old new was now)

pub taken : {X : Type 0} (xs : List X) (i : ℕ) → i < length xs → (x : X) × (x ≡ get_or xs i x) × (slice_get xs i ≡ Some x)
taken [] i less = absurd (omega (arith, less))
taken (x ∷ xs) zero less = (x, refl, refl)
taken (x ∷ xs) (suc i) less = taken xs i (omega (arith, less))

pub all_more : (targets : List (Option ℕ)) (i : ℕ) (start old new : FlatGraph) (r : Option ℕ) → i < length targets → r ≡ option_and_then (λ (o : Option ℕ). o) (slice_get targets i) → Grows (filter_map (λ (o : Option ℕ). o) (take i targets)) start old → Grows (option_to_list r) old new → Grows (filter_map (λ (o : Option ℕ). o) (take (i + 1) targets)) start new
all_more targets i start old new r less at was now =
    let here = taken targets i less in
    subst (λ l. Grows l start new) (ap (λ o. filter_map (λ (p : Option ℕ). p) (take i targets) ++ option_to_list o) (at ∙ ap (option_and_then (λ (p : Option ℕ). p)) here.2) ∙ sym (filter_more (λ (p : Option ℕ). p) targets i here.0 less here.1))
    (grows_append (filter_map (λ (p : Option ℕ). p) (take i targets)) (option_to_list r) start old new was now)

pub map_more : {X Y : Type 0} (g : X → Y) (xs : List X) (i : ℕ) (x : X) → i < length xs → x ≡ get_or xs i x → map g (take (i + 1) xs) ≡ map g (take i xs) ++ g x ∷ []
map_more g xs i x less is = ap (map g) (take_more xs i x less ∙ ap (λ z. take i xs ++ z ∷ []) (sym is)) ∙ map-append g (take i xs) (x ∷ [])

-- a flat graph that has these lists, and whose open list is empty
pub record HasLists (lists : List (List ℕ)) (f : FlatGraph) : Type 0 where
  pub exact : lists_of f ≡ lists
  pub none_open : open_list f ≡ []
  pub laid : IsLaid f

pub list_ended : {X : Type 0} (g : X → List ℕ) (xs : List X) (i : ℕ) (x : X) (old grown new : FlatGraph) → i < length xs → x ≡ get_or xs i x → HasLists (map g (take i xs)) old → Grows (g x) old grown → lists_of new ≡ lists_of grown ++ open_list grown ∷ [] → open_list new ≡ [] → IsLaid new → HasLists (map g (take (i + 1) xs)) new
list_ended g xs i x old grown new less is was more ended none laid = record {
  exact =
      ended
      ∙ ap (λ l. lists_of grown ++ l ∷ []) (more.grown ∙ ap (λ l. l ++ g x) was.none_open)
      ∙ ap (λ ls. ls ++ g x ∷ []) (more.lists ∙ was.exact)
      ∙ sym (map_more g xs i x less is);
  none_open = none;
  laid = laid;
}

pub named_more : {X : Type 0} (t : List ℕ → Option ℕ) (text : X → List ℕ) (xs : List X) (i : ℕ) (x : X) (start old new : FlatGraph) (r : Option ℕ) → i < length xs → x ≡ get_or xs i x → r ≡ t (text x) → Grows (filter_map t (map text (take i xs))) start old → Grows (option_to_list r) old new → Grows (filter_map t (map text (take (i + 1) xs))) start new
named_more t text xs i x start old new r less is at was now =
    subst (λ l. Grows l start new) (
    ap (λ o. filter_map t (map text (take i xs)) ++ option_to_list o) at
    ∙ sym (ap (filter_map t) (map_more text xs i x less is) ∙ filter_map-append t (map text (take i xs)) (text x ∷ []) ∙ ap (λ l. filter_map t (map text (take i xs)) ++ l) (as_list (t (text x))))
    )
    (grows_append (filter_map t (map text (take i xs))) (option_to_list r) start old new was now)

pub map_twice : {X Y Z : Type 0} (f : Y → Z) (g : X → Y) (xs : List X) → map f (map g xs) ≡ map (λ x. f (g x)) xs
map_twice f g [] = refl
map_twice f g (x ∷ xs) = ap (λ l. f (g x) ∷ l) (map_twice f g xs)

-- JOINED NAMES
pub joined_push : (files : List FileDecl) (i : ℕ) (f : FileDecl) → i < length files → f ≡ get_or files i f → joined_names (map file_view (take (i + 1) files)) ≡ joined_names (map file_view (take i files)) ++ (file_view f).name
joined_push files i f less is =
    ap joined_names (map_more file_view files i f less is) ∙ flat_map-append (λ (g : DeclaredFile). g.name) (map file_view (take i files)) (file_view f ∷ []) ∙ ap (λ l. joined_names (map file_view (take i files)) ++ l) (append-nil (file_view f).name)

joined_split : (fs : List DeclaredFile) (k : ℕ) (f : DeclaredFile) → slice_get fs k ≡ Some f → joined_names fs ≡ joined_names (take k fs) ++ (f.name ++ joined_names (drop (suc k) fs))
joined_split [] k f there = absurd (none-some f there)
joined_split (g ∷ fs) zero f there = ap (λ (h : DeclaredFile). h.name ++ joined_names fs) (some_same g f there)
joined_split (g ∷ fs) (suc k) f there =
    ap (λ l. g.name ++ l) (joined_split fs k f there) ∙ sym (append_assoc g.name (joined_names (take k fs)) (f.name ++ joined_names (drop (suc k) fs)))

size_first : (a b n : ℕ) → n ≡ a + 0 → a ≡ b → n ≡ 0 + b
size_first a b n h e = omega (arith, h, e)

size_more : (g a b n m f : ℕ) → n ≡ g + a → m ≡ g + b → a ≡ b + f → n ≡ m + f
size_more g a b n m f x y z = omega (arith, x, y, z)

pub joined_size : (fs : List DeclaredFile) (k : ℕ) (f : DeclaredFile) → slice_get fs k ≡ Some f → length (joined_names (take (suc k) fs)) ≡ length (joined_names (take k fs)) + length f.name
joined_size [] k f there = absurd (none-some f there)
joined_size (g ∷ fs) zero f there = size_first (length g.name) (length f.name) _ (length-append g.name []) (ap (λ (h : DeclaredFile). length h.name) (some_same g f there))
joined_size (g ∷ fs) (suc k) f there = size_more (length g.name) _ _ _ _ (length f.name) (length-append g.name (joined_names (take (suc k) fs))) (length-append g.name (joined_names (take k fs))) (joined_size fs k f there)

middle : (xs ys zs : List ℕ) (n : ℕ) → n ≡ length ys → take n (drop (length xs) (xs ++ (ys ++ zs))) ≡ ys
middle xs ys zs n is = ap (take n) (drop-append_seam xs (ys ++ zs)) ∙ ap (λ m. take m (ys ++ zs)) is ∙ take-append_seam ys zs

-- the name of the file at an index, of this many bytes, comes after those before
pub record NameStands (fs : List DeclaredFile) (k : ℕ) (f : DeclaredFile) (end size : ℕ) : Type 0 where
  pub begins : size ≤ end
  pub before : end - size ≡ length (joined_names (take k fs))
  pub is : take (end - (end - size)) (drop (end - size) (joined_names fs)) ≡ f.name

stands_at : (fs : List DeclaredFile) (k : ℕ) (f : DeclaredFile) (end size : ℕ) → slice_get fs k ≡ Some f → end ≡ length (joined_names (take (suc k) fs)) → size ≡ length f.name → NameStands fs k f end size
stands_at fs k f end size there at is = record {
  begins = omega (arith, at, is, joined_size fs k f there);
  before = starts;
  is =
      ap (λ n. take (end - (end - size)) (drop n (joined_names fs))) starts
      ∙ ap (λ l. take (end - (end - size)) (drop (length (joined_names (take k fs))) l)) (joined_split fs k f there)
      ∙ middle (joined_names (take k fs)) f.name (joined_names (drop (suc k) fs)) (end - (end - size)) (omega (arith, at, is, joined_size fs k f there));
}
  where
    starts : end - size ≡ length (joined_names (take k fs))
    starts = omega (arith, at, is, joined_size fs k f there)

pub name_stands : (files : List FileDecl) (index : ℕ) (f : FileDecl) (end size : ℕ) → 0 < index → index ≤ length files → f ≡ get_or files (index - 1) f → end ≡ length (joined_names (take index (map file_view files))) → size ≡ length (file_view f).name → NameStands (map file_view files) (index - 1) (file_view f) end size
name_stands files index f end size some within is at sized =
    stands_at (map file_view files) (index - 1) (file_view f) end size (get_viewed file_view files (index - 1) f (omega (arith, some, within)) is) (at ∙ ap (λ n. length (joined_names (take n (map file_view files)))) up) sized
  where
    up : index ≡ suc (index - 1)
    up = omega (arith, some)

-- TARGETS: what each import names
pub filter_alike : {X Y : Type 0} (g h : X → Option Y) → ((x : X) → g x ≡ h x) → (xs : List X) → filter_map g xs ≡ filter_map h xs
filter_alike g h same [] = refl
filter_alike g h same (x ∷ xs) = ap (λ o. cons_option o (filter_map g xs)) (same x) ∙ ap (cons_option (h x)) (filter_alike g h same xs)

pub all_targets : (t u : List ℕ → Option ℕ) → ((name : List ℕ) → t name ≡ u name) → (names : List (List ℕ)) → filter_map (λ (o : Option ℕ). o) (map t names) ≡ filter_map u names
all_targets t u same [] = refl
all_targets t u same (n ∷ ns) = ap (λ o. cons_option o (filter_map (λ (o : Option ℕ). o) (map t ns))) (same n) ∙ ap (cons_option (u n)) (all_targets t u same ns)

at_import : (t u : List ℕ → Option ℕ) → ((name : List ℕ) → t name ≡ u name) → (names : List (List ℕ)) (i : ℕ) → option_and_then (λ (o : Option ℕ). o) (slice_get (map t names) i) ≡ option_and_then u (slice_get names i)
at_import t u same [] i = refl
at_import t u same (n ∷ ns) zero = same n
at_import t u same (n ∷ ns) (suc i) = at_import t u same ns i

pub public_targets : (t u : List ℕ → Option ℕ) → ((name : List ℕ) → t name ≡ u name) → (f : DeclaredFile) (zs : List ℤ) → filter_map (target_at (map t f.imports)) zs ≡ filter_map (λ z. option_and_then u (import_at f z)) zs
public_targets t u same f zs = filter_alike (target_at (map t f.imports)) (λ z. option_and_then u (import_at f z)) each zs
  where
    each : (z : ℤ) → target_at (map t f.imports) z ≡ option_and_then u (import_at f z)
    each (pos i) = at_import t u same f.imports i
    each (negsuc i) = refl

-- whether each file stands where its name leads
pub marks_alike : (t u : List ℕ → Option ℕ) → ((name : List ℕ) → t name ≡ u name) → (n : ℕ) (files : List DeclaredFile) → map (λ e. is_file (t e.1.name) e.0) (enumerate_from n files) ≡ map (λ e. is_file (u e.1.name) e.0) (enumerate_from n files)
marks_alike t u same n [] = refl
marks_alike t u same n (f ∷ fs) =
    ap (λ o. is_file o n ∷ map (λ (e : ℕ × DeclaredFile). is_file (t e.1.name) e.0) (enumerate_from (n + 1) fs)) (same f.name)
    ∙ ap (λ l. is_file (u f.name) n ∷ l) (marks_alike t u same (n + 1) fs)

-- THE FIRST FILE OF EACH NAME
is_at : (o : Option ℕ) (i : ℕ) → is_file o i ≡ true → o ≡ Some i
is_at None i h = absurd (false≢true h)
is_at (Some j) i h = ap Some ((unsigned_Decides j i).0 h)

here : (i : ℕ) → is_file (Some i) i ≡ true
here i = (unsigned_Decides i i).1 refl

elsewhere : (j i : ℕ) (b : Bool) → i ≢ j → is_file (Some j) i ≡ b → b ≡ false
elsewhere j i true ne is = absurd (ne (sym (some_same j i (is_at (Some j) i is))))
elsewhere j i false ne is = refl

swapped : (a b : List ℕ) → bytes_eq a b ≡ true → bytes_eq b a ≡ true
swapped a b h = (bytes_eq-Decides b a).1 (sym (same_bytes a b h))

-- from an index on, each file is marked where its name leads to it, and names lead to files of that name
pub record Marked (fs : List DeclaredFile) (named : List ℕ → Option ℕ) (marks : List Bool) (k : ℕ) : Type 0 where
  pub leads : (name : List ℕ) (i : ℕ) (f : DeclaredFile) → named name ≡ Some i → slice_get fs i ≡ Some f → bytes_eq name f.name ≡ true
  pub each : (i : ℕ) (f : DeclaredFile) → k ≤ i → slice_get fs i ≡ Some f → get_or marks i false ≡ is_file (named f.name) i

pub marked_none : (fs : List DeclaredFile) (named : List ℕ → Option ℕ) (marks : List Bool) (k : ℕ) → length fs ≤ k → ((name : List ℕ) → named name ≡ None) → Marked fs named marks k
marked_none fs named marks k h none = record {
  leads = λ name i f is there. absurd (none-some i (sym (none name) ∙ is));
  each = λ i f from there. absurd (none_past fs i f (omega (arith, h, from)) there);
}

never_both : (x : Bool) → (x && not x) ≡ false
never_both true = refl
never_both false = refl

alone : (x y : Bool) → (x ≡ true → y ≡ true → ⊥) → (x && not y) ≡ x
alone true true apart = absurd (apart refl refl)
alone true false apart = refl
alone false y apart = refl

pub marked_more : (fs : List DeclaredFile) (old new : List ℕ → Option ℕ) (before after : List Bool) (k : ℕ) (g : DeclaredFile) → slice_get fs k ≡ Some g → ((name : List ℕ) → new name ≡ cond (bytes_eq name g.name) (Some k) (old name)) → get_or after k false ≡ true → ((i : ℕ) → i ≢ k → get_or after i false ≡ (get_or before i false && not (is_file (old g.name) i))) → Marked fs old before (k + 1) → Marked fs new after k
marked_more fs old new before after k g at put marked others was = record {
  leads = λ name i f is there. leads_by name i f there (bytes_eq name g.name) refl (sym (put name) ∙ is);
  each = λ i f from there. ⊎_elim (λ same. first_here i f same there) (λ ne. behind i f ne (omega (arith, from, ne)) there (bytes_eq f.name g.name) refl) (cases_eq i k);
}
  where
    leads_by : (name : List ℕ) (i : ℕ) (f : DeclaredFile) → slice_get fs i ≡ Some f → (b : Bool) → bytes_eq name g.name ≡ b → cond b (Some k) (old name) ≡ Some i → bytes_eq name f.name ≡ true
    leads_by name i f there true same is = subst (λ (h : DeclaredFile). bytes_eq name h.name ≡ true) (some_same g f (sym at ∙ ap (slice_get fs) (some_same k i is) ∙ there)) same
    leads_by name i f there false other is = was.leads name i f is there

    new_at : (f : DeclaredFile) (b : Bool) → bytes_eq f.name g.name ≡ b → new f.name ≡ cond b (Some k) (old f.name)
    new_at f b is = put f.name ∙ ap (λ x. cond x (Some k) (old f.name)) is

    first_here : (i : ℕ) (f : DeclaredFile) → i ≡ k → slice_get fs i ≡ Some f → get_or after i false ≡ is_file (new f.name) i
    first_here i f same there =
        let this : g ≡ f = some_same g f (sym at ∙ ap (slice_get fs) (sym same) ∙ there) in
        let own : bytes_eq f.name g.name ≡ true = subst (λ (h : DeclaredFile). bytes_eq h.name g.name ≡ true) this ((bytes_eq-Decides g.name g.name).1 refl) in
        ap (λ j. get_or after j false) same ∙ marked ∙ sym (ap (λ o. is_file o i) (new_at f true own) ∙ ap (is_file (Some k)) same ∙ here k)

    behind : (i : ℕ) (f : DeclaredFile) → i ≢ k → k + 1 ≤ i → slice_get fs i ≡ Some f → (b : Bool) → bytes_eq f.name g.name ≡ b → get_or after i false ≡ is_file (new f.name) i
    behind i f ne from there true same =
        others i ne ∙ ap (λ x. x && not (is_file (old g.name) i)) (was.each i f from there ∙ ap (λ n. is_file (old n) i) (same_bytes f.name g.name same)) ∙ never_both (is_file (old g.name) i)
        ∙ sym (ap (λ o. is_file o i) (new_at f true same) ∙ elsewhere k i (is_file (Some k) i) ne refl)
    behind i f ne from there false other =
        others i ne ∙ ap (λ x. x && not (is_file (old g.name) i)) (was.each i f from there)
        ∙ alone (is_file (old f.name) i) (is_file (old g.name) i) (λ one two. false≢true (sym other ∙ swapped g.name f.name (was.leads g.name i f (is_at (old g.name) i two) there)))
        ∙ sym (ap (λ o. is_file o i) (new_at f false other))

pub all_marked : (named : List ℕ → Option ℕ) (n : ℕ) (fs : List DeclaredFile) (marks : List Bool) → length marks ≡ length fs → ((i : ℕ) (f : DeclaredFile) → slice_get fs i ≡ Some f → get_or marks i false ≡ is_file (named f.name) (n + i)) → marks ≡ map (λ e. is_file (named e.1.name) e.0) (enumerate_from n fs)
all_marked named n [] [] size each = refl
all_marked named n [] (m ∷ ms) size each = absurd (omega (arith, size))
all_marked named n (f ∷ fs) [] size each = absurd (omega (arith, size))
all_marked named n (f ∷ fs) (m ∷ ms) size each =
    ap (λ x. x ∷ ms) (each 0 f refl ∙ ap (is_file (named f.name)) (plus_zero n))
    ∙ ap (λ l. is_file (named f.name) n ∷ l) (all_marked named (n + 1) fs ms (omega (arith, size)) (λ i g there. each (suc i) g there ∙ ap (is_file (named g.name)) (one_on n i)))
  where
    plus_zero : (n : ℕ) → n + 0 ≡ n
    plus_zero n = omega arith

    one_on : (n i : ℕ) → n + suc i ≡ n + 1 + i
    one_on n i = omega arith

-- WHAT IS IMPORTED ARE FILES
less_step : (n i j : ℕ) (b : Bool) (rest : Option ℕ) → (rest ≡ Some j → j < n + 1 + i) → cond b (Some n) rest ≡ Some j → j < n + suc i
less_step n i j true rest within h = subst (λ k. k < n + suc i) (some_same n j h) (omega arith)
less_step n i j false rest within h = omega (arith, within h)

position_less : {X : Type 0} (t : X → Bool) (n : ℕ) (xs : List X) (j : ℕ) → position_from t n xs ≡ Some j → j < n + length xs
position_less t n [] j h = absurd (none-some j h)
position_less t n (x ∷ xs) j h = less_step n (length xs) j (t x) (position_from t (n + 1) xs) (position_less t (n + 1) xs j) h

named_within : (files : List DeclaredFile) (name : List ℕ) (j : ℕ) → file_named files name ≡ Some j → j < length files
named_within files name j h = omega (arith, position_less (λ f. bytes_eq name f.name) 0 files j (position_from-first (λ (f : DeclaredFile). bytes_eq name f.name) files ∙ h))

and_then_within : (files : List DeclaredFile) (o : Option (List ℕ)) (j : ℕ) → option_and_then (file_named files) o ≡ Some j → j < length files
and_then_within files None j h = absurd (none-some j h)
and_then_within files (Some name) j h = named_within files name j h

all_cons : (P : ℕ → Type 0) (o : Option ℕ) (ys : List ℕ) → ((y : ℕ) → o ≡ Some y → P y) → AllByRecursion P ys → AllByRecursion P (cons_option o ys)
all_cons P None ys each all = all
all_cons P (Some y) ys each all = (each y refl, all)

all_filtered : {X : Type 0} (P : ℕ → Type 0) (h : X → Option ℕ) (xs : List X) → ((x : X) (y : ℕ) → h x ≡ Some y → P y) → AllByRecursion P (filter_map h xs)
all_filtered P h [] each = tt
all_filtered P h (x ∷ xs) each = all_cons P (h x) (filter_map h xs) (each x) (all_filtered P h xs each)

all_lists : {X : Type 0} (P : ℕ → Type 0) (g : X → FileView) (xs : List X) → ((x : X) → AllByRecursion P (g x).imports) → AllByRecursion (AllByRecursion P) (map (λ (f : FileView). f.imports) (map g xs))
all_lists P g [] each = tt
all_lists P g (x ∷ xs) each = (each x, all_lists P g xs each)

size_of : {X : Type 0} (g : X → FileView) (xs : List X) → length (map (λ (f : FileView). f.imports) (map g xs)) ≡ length xs
size_of g [] = refl
size_of g (x ∷ xs) = ap suc (size_of g xs)

graph_all : (files : List DeclaredFile) → IsGraph (map (λ (f : FileView). f.imports) (files_of files))
graph_all files = all_lists (λ j. j < length (map (λ (f : FileView). f.imports) (files_of files))) (file_of files) files (λ f. all_filtered (λ j. j < length (map (λ (g : FileView). g.imports) (files_of files))) (file_named files) f.imports (λ name j h. subst (λ n. j < n) (sym (size_of (file_of files) files)) (named_within files name j h)))

graph_public : (files : List DeclaredFile) → IsGraph (map (λ (f : FileView). f.imports) (public_files_of files))
graph_public files = all_lists (λ j. j < length (map (λ (f : FileView). f.imports) (public_files_of files))) (public_file_of files) files (λ f. all_filtered (λ j. j < length (map (λ (g : FileView). g.imports) (public_files_of files))) (λ z. option_and_then (file_named files) (import_at f z)) f.public_indexes (λ z j h. subst (λ n. j < n) (sym (size_of (public_file_of files) files)) (and_then_within files (import_at f z) j h)))

pub lead_to_files : (files : List DeclaredFile) (m : Imports) → AreImports files m → LeadToFiles m
lead_to_files files m are = record {
  size = ap length are.public ∙ size_of (public_file_of files) files ∙ sym (ap length are.all ∙ size_of (file_of files) files);
  all = subst IsGraph (sym are.all) (graph_all files);
  public = subst IsGraph (sym are.public) (graph_public files);
}

-- all files' imports
abbrev pub imports_in : List FileDecl → FileDecl → List ℕ
imports_in files f = (file_of (map file_view files) (file_view f)).imports

abbrev pub public_in : List FileDecl → FileDecl → List ℕ
public_in files f = (public_file_of (map file_view files) (file_view f)).imports

pub imports_whole : (files : List FileDecl) (i : ℕ) (m : Imports) → length files ≤ i → lists_of m.all ≡ map (imports_in files) (take i files) → lists_of m.public ≡ map (public_in files) (take i files) → AreImports (map file_view files) m
imports_whole files i m past all public = record {
  all = all ∙ ap (map (imports_in files)) (take_all i files past) ∙ sym (map_twice (λ (f : DeclaredFile). (file_of (map file_view files) f).imports) file_view files) ∙ sym (map_twice (λ (f : FileView). f.imports) (file_of (map file_view files)) (map file_view files));
  public = public ∙ ap (map (public_in files)) (take_all i files past) ∙ sym (map_twice (λ (f : DeclaredFile). (public_file_of (map file_view files) f).imports) file_view files) ∙ sym (map_twice (λ (f : FileView). f.imports) (public_file_of (map file_view files)) (map file_view files));
}

-- WHAT IS SEEN
-- along public imports from where an import leads
abbrev IsOnward : List DeclaredFile → ℕ → ℕ → Type 0
IsOnward files i j = Contains (imports_of (files_of files) i) j ⊎ ((k : ℕ) × Contains (imports_of (files_of files) i) k × Reaches (public_files_of files) k j)

onward_seen : (files : List DeclaredFile) (i j : ℕ) → IsOnward files i j → Sees files i j
onward_seen files i j (inl among) = imported among
onward_seen files i j (inr far) = onward far.1 far.2

one_more : (files : List DeclaredFile) (i k j : ℕ) → IsOnward files i k → Contains (imports_of (public_files_of files) k) j → IsOnward files i j
one_more files i k j (inl among) at = inr (k, among, directly at)
one_more files i k j (inr far) at = inr (far.0, far.1, further far.2 at)

onward_from : (files : List DeclaredFile) (i j : ℕ) → Reached (map (λ (f : FileView). f.imports) (public_files_of files)) (imports_of (files_of files) i) j → IsOnward files i j
onward_from files i j (begun among) = inl among
onward_from files i j (led {k} way among) = one_more files i k j (onward_from files i k way) (subst (λ l. Contains l j) (next_files (public_files_of files) k) among)

led_by : (files : List DeclaredFile) (i k j : ℕ) → Contains (imports_of (files_of files) i) k → Reaches (public_files_of files) k j → Reached (map (λ (f : FileView). f.imports) (public_files_of files)) (imports_of (files_of files) i) j
led_by files i k j among (directly at) = led (begun among) (subst (λ l. Contains l j) (sym (next_files (public_files_of files) k)) at)
led_by files i k j among (further {k = m} way at) = led (led_by files i k m among way) (subst (λ l. Contains l j) (sym (next_files (public_files_of files) m)) at)

-- the file, or what its imports lead to
seen_cases : (files : List DeclaredFile) (i j : ℕ) → Sees files i j → (i ≡ j) ⊎ Reached (map (λ (f : FileView). f.imports) (public_files_of files)) (imports_of (files_of files) i) j
seen_cases files i j itself = inl refl
seen_cases files i j (imported among) = inr (begun among)
seen_cases files i j (onward {k = k} among way) = inr (led_by files i k j among way)

marked_reached : (files : List DeclaredFile) (m : Imports) (i j : ℕ) → AreImports files m → Reached (lists_of m.public) (next_of (lists_of m.all) i) j → Reached (map (λ (f : FileView). f.imports) (public_files_of files)) (imports_of (files_of files) i) j
marked_reached files m i j are h =
    subst (λ starts. Reached (map (λ (f : FileView). f.imports) (public_files_of files)) starts j) (ap (λ g. next_of g i) are.all ∙ next_files (files_of files) i) (subst (λ g. Reached g (next_of (lists_of m.all) i) j) are.public h)

reached_marked : (files : List DeclaredFile) (m : Imports) (i j : ℕ) → AreImports files m → Reached (map (λ (f : FileView). f.imports) (public_files_of files)) (imports_of (files_of files) i) j → Reached (lists_of m.public) (next_of (lists_of m.all) i) j
reached_marked files m i j are h =
    subst (λ g. Reached g (next_of (lists_of m.all) i) j) (sym are.public) (subst (λ starts. Reached (map (λ (f : FileView). f.imports) (public_files_of files)) starts j) (sym (ap (λ g. next_of g i) are.all ∙ next_files (files_of files) i)) h)

pub sees_exact : (files : List DeclaredFile) (m : Imports) (s : Sight) (i j : ℕ) → AreImports files m → KnowsSight m s → s.file ≡ Some i → IsTrue (sees_by s j) ↔ Sees files i j
sees_exact files m s i j are knows at = (
  λ h. ⊎_elim (λ own. subst (Sees files i) ((unsigned_Decides i j).0 (sym (own_file at) ∙ own)) itself) (λ far. onward_seen files i j (onward_from files i j (marked_reached files m i j are ((knows.exact i at j).0 far)))) (or_cases (is_file s.file j) (is_marked s.reach j) h),
  λ seen. ⊎_elim (λ own. or_first (is_file s.file j) (is_marked s.reach j) (own_file at ∙ (unsigned_Decides i j).1 own)) (λ far. or_second (is_file s.file j) (is_marked s.reach j) ((knows.exact i at j).1 (reached_marked files m i j are far))) (seen_cases files i j seen),
)
  where
    own_file : s.file ≡ Some i → is_file s.file j ≡ (i == j)
    own_file e = ap (λ o. is_file o j) e

-- what it sees is what any sight of the files tells
pub sees_same : (files : List DeclaredFile) (m : Imports) (s : Sight) (i : ℕ) (sees : ℕ → ℕ → Bool) → AreImports files m → KnowsSight m s → s.file ≡ Some i → ((k j : ℕ) → IsTrue (sees k j) ↔ Sees files k j) → sees_by s ≡ sees i
sees_same files m s i sees are knows at exact = λ p. λ j. same_test (sees_by s j) (sees i j) (λ h. (exact i j).1 ((sees_exact files m s i j are knows at).0 h)) (λ h. (sees_exact files m s i j are knows at).1 ((exact i j).0 h)) p

pub cyclic_reaches : (files : List DeclaredFile) (m : Imports) (i : ℕ) → AreImports files m → Reached (lists_of m.all) (next_of (lists_of m.all) i) i ↔ Reaches (files_of files) i i
cyclic_reaches files m i are = (
  λ way. reaches_from (files_of files) i (imports_of (files_of files) i) (λ j among. directly among) i (subst (λ starts. Reached (map (λ (f : FileView). f.imports) (files_of files)) starts i) (ap (λ g. next_of g i) are.all ∙ next_files (files_of files) i) (subst (λ g. Reached g (next_of (lists_of m.all) i) i) are.all way)),
  λ way. subst (λ g. Reached g (next_of (lists_of m.all) i) i) (sym are.all) (subst (λ starts. Reached (map (λ (f : FileView). f.imports) (files_of files)) starts i) (sym (ap (λ g. next_of g i) are.all ∙ next_files (files_of files) i)) (reached_by (files_of files) i (imports_of (files_of files) i) (λ j among. among) i way)),
)
