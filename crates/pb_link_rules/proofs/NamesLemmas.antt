-- What the tables of names come to.
use Rattle.std.proofs.Common.{◌≡◌, ℕ, zero, suc, ◌+◌, ◌<◌, ◌≤◌, List, [], ◌∷◌, ◌++◌, map, take, drop, length, get_or, Bool, true, false, not, ◌||◌, ◌&&◌, refl, sym, ap, ◌∙◌, arith, Option, Some, None, cond, IsTrue, ◌↔◌}
use Rattle.std.specs.Prelude.{option_to_list, filter_map, is_some, slice_get, nat_le, nat_lt, ◌^◌}
use Rattle.std.specs.List.{list_any, list_all, enumerate_from, position_from, slice_index_or}
use Rattle.std.specs.Option.{option_map_or}
use Rattle.std.specs.Str.{bytes_eq}
use Rattle.std.proofs.lemmas.Bool.Decides.{nat_tests}
use Rattle.std.proofs.lemmas.List.{drop_more, map-append}
use Rattle.pb_schema.specs.Imports.{Reaches}
use Rattle.pb_declarations.specs.Decls.{DeclaredFile}
use Rattle.pb_link_rules.specs.declared.cause.LinkCause.TheVariants as cause
use Rattle.pb_link_names.specs.Declarations.{Item, a_file, a_message, a_field, a_oneof, an_enum, a_value, a_service, a_method, Declaration, declarations, is_named, full_name, has_name}
use Rattle.pb_link_names.specs.Lookup.{Found, looked_up, every_file, is_package_name}
use Rattle.pb_link_rules.specs.Rules.{World, lookups, lookups_if, is_file_named, is_import_index, imports_are_there}
use Rattle.pb_link_rules.specs.Link.{holds, IsWorldOf}
use Rattle.pb_link_names.specs.Firsts.{first_at}
use Rattle.pb_link_names.specs.Sees.{file_named, file_of, files_of}
use Rattle.pb_graphs.specs.Flat.{lists_of}
use Rattle.pb_graphs.specs.Reach.{next_of, Reached}
use Rattle.pb_schema.specs.Types.{FileView}
use Rattle.pb_link_names.specs.Graphs.{is_file, first_marks, AreImports, AreFirst, sees_by}
use Rattle.pb_link_names.specs.PackageSets.{has_package}
use Rattle.pb_link_names.specs.Scene.{IsScene}
use Rattle.pb_link_rules.specs.Tables.{holds_table}
use Rattle.pb_link_names.specs.TypeRefs.{names_in, file_in}
use Rattle.pb_link_rules.specs.Flags.{IsReady, is_marked_first, are_right_imports, are_imports_there, is_free_name, is_not_before}
use Rattle.pb_link_names.specs.declared.imports.Imports.{Imports}
use Rattle.pb_link_names.specs.declared.scene.Scene.{Scene}
use Rattle.pb_link_names.proofs.AnyLemmas.{same_test}
use Rattle.pb_link_names.proofs.GraphLemmas.{sees_same, cyclic_reaches, map_more}
use Rattle.pb_link_names.proofs.RowLemmas.{grown}
use Rattle.pb_link_names.proofs.FirstsLemmas.{position_from-first}
use Rattle.pb_link_rules.proofs.ThereLemmas.{get_mapped}
use Rattle.pb_link_rules.proofs.FileRowLemmas.{file_stands, files_named}
use Rattle.pb_link_rules.proofs.PlacedLemmas.{zero_plus, index_got, first_of_all, same_name, some_position, next_there, all_found}

-- TYPE NAMES
if_named : (w : World) (d : Declaration) (o : Option (List ℕ)) → lookups_if w d o ≡ map (looked_up w.declared (w.sight.sees d.file) d.scope) (option_to_list o)
if_named w d None = refl
if_named w d (Some name) = refl

lookups_names : (w : World) (file parent : ℕ) (scope : List ℕ) (i : Item) → lookups w (record { file = file; parent = parent; scope = scope; item = i }) ≡ map (looked_up w.declared (w.sight.sees file) scope) (names_in i)
lookups_names w file parent scope (a_file f) = refl
lookups_names w file parent scope (a_message head inner) = refl
lookups_names w file parent scope (a_field head i f) = if_named w (record { file = file; parent = parent; scope = scope; item = a_field head i f }) f.type_name
lookups_names w file parent scope (a_oneof head i name) = refl
lookups_names w file parent scope (an_enum e) = refl
lookups_names w file parent scope (a_value e i v) = refl
lookups_names w file parent scope (a_service s) = refl
lookups_names w file parent scope (a_method m) = refl

pub no_names : (w : World) (d : Declaration) → [] ≡ names_in d.item → [] ≡ lookups w d
no_names w d none = ap (map (looked_up w.declared (w.sight.sees d.file) d.scope)) none ∙ sym (lookups_names w d.file d.parent d.scope d.item)

pub right_names : (files : List DeclaredFile) (m : Imports) (s : Scene) (w : World) (ds : List Declaration) (d : Declaration) (names : List (List ℕ)) (scope : List ℕ) (r : List Found) → IsReady files m s → s.sight.file ≡ Some d.file → IsWorldOf files w → ds ≡ declarations files → names ≡ names_in d.item → scope ≡ d.scope → r ≡ map (looked_up ds (sees_by s.sight) scope) names → r ≡ lookups w d
right_names files m s w ds d names scope r ready at world row same around is =
    is
    ∙ ap (λ x. map (looked_up x (sees_by s.sight) scope) names) (row ∙ sym world.declared)
    ∙ ap (λ f. map (looked_up w.declared f scope) names) (sees_same files m s.sight d.file w.sight.sees ready.imports ready.sight at world.sight.sees)
    ∙ ap (λ x. map (looked_up w.declared (w.sight.sees d.file) x) names) around
    ∙ ap (map (looked_up w.declared (w.sight.sees d.file) d.scope)) same
    ∙ sym (lookups_names w d.file d.parent d.scope d.item)

-- FILES
first_holds : (w : World) (place file parent : ℕ) (scope : List ℕ) (i : Item) → holds w place (record { file = file; parent = parent; scope = scope; item = i }) cause.TwoFiles ≡ option_map_or (λ f. not (list_any (λ d. is_file_named f.name d.item) (take place w.declared))) (file_in i) true
first_holds w place file parent scope (a_file f) = refl
first_holds w place file parent scope (a_message head inner) = refl
first_holds w place file parent scope (a_field head i f) = refl
first_holds w place file parent scope (a_oneof head i name) = refl
first_holds w place file parent scope (an_enum e) = refl
first_holds w place file parent scope (a_value e i v) = refl
first_holds w place file parent scope (a_service s) = refl
first_holds w place file parent scope (a_method m) = refl

imports_hold : (w : World) (place file parent : ℕ) (scope : List ℕ) (i : Item) → holds w place (record { file = file; parent = parent; scope = scope; item = i }) cause.MissingImport ≡ option_map_or (imports_are_there w) (file_in i) true
imports_hold w place file parent scope (a_file f) = refl
imports_hold w place file parent scope (a_message head inner) = refl
imports_hold w place file parent scope (a_field head i f) = refl
imports_hold w place file parent scope (a_oneof head i name) = refl
imports_hold w place file parent scope (an_enum e) = refl
imports_hold w place file parent scope (a_value e i v) = refl
imports_hold w place file parent scope (a_service s) = refl
imports_hold w place file parent scope (a_method m) = refl

cycle_holds : (w : World) (place file parent : ℕ) (scope : List ℕ) (i : Item) → holds w place (record { file = file; parent = parent; scope = scope; item = i }) cause.ImportCycle ≡ option_map_or (λ f. not (w.sight.is_cyclic file)) (file_in i) true
cycle_holds w place file parent scope (a_file f) = refl
cycle_holds w place file parent scope (a_message head inner) = refl
cycle_holds w place file parent scope (a_field head i f) = refl
cycle_holds w place file parent scope (a_oneof head i name) = refl
cycle_holds w place file parent scope (an_enum e) = refl
cycle_holds w place file parent scope (a_value e i v) = refl
cycle_holds w place file parent scope (a_service s) = refl
cycle_holds w place file parent scope (a_method m) = refl

-- tests place by place
map_placed : (f : ℕ × Declaration → Bool) (g : Declaration → Bool) (n : ℕ) (ds : List Declaration) → ((j k : ℕ) (d : Declaration) → k ≡ n + j → slice_get ds j ≡ Some d → g d ≡ f (k, d)) → map g ds ≡ map f (enumerate_from n ds)
map_placed f g n [] same = refl
map_placed f g n (d ∷ ds) same =
    ap (λ y. y ∷ map g ds) (same 0 n d (omega arith) refl)
    ∙ ap (λ l. f (n, d) ∷ l) (map_placed f g (n + 1) ds (λ j k e at there. same (suc j) k e (omega (arith, at)) there))

all_alike : {X : Type 0} (f g : X → Bool) → ((x : X) → f x ≡ g x) → (xs : List X) → list_all f xs ≡ list_all g xs
all_alike f g same [] = refl
all_alike f g same (x ∷ xs) = ap (λ b. b && list_all f xs) (same x) ∙ ap (λ b. g x && b) (all_alike f g same xs)

option_placed : {X : Type 0} (f g : X → Bool) (o : Option X) (b : Bool) → ((x : X) → o ≡ Some x → f x ≡ g x) → option_map_or f o b ≡ option_map_or g o b
option_placed f g None b same = refl
option_placed f g (Some x) b same = same x refl

pub first_table : (files : List DeclaredFile) (w : World) (m : Imports) (ds : List Declaration) → IsWorldOf files w → AreFirst files m → w.declared ≡ ds → map (is_marked_first m) ds ≡ holds_table w cause.TwoFiles
first_table files w m ds is first e =
    ap (map (is_marked_first m)) (sym e) ∙ map_placed (λ p. holds w p.0 p.1 cause.TwoFiles) (is_marked_first m) 0 w.declared each
  where
    marked : (k : ℕ) (d : Declaration) (f : DeclaredFile) → slice_get w.declared k ≡ Some d → file_in d.item ≡ Some f → slice_index_or m.are_first.items d.file false ≡ not (list_any (λ e. is_file_named f.name e.item) (take k w.declared))
    marked k d f there file =
        let at = file_stands 0 0 files k d f (ap (λ l. slice_get l k) (sym is.declared) ∙ there) file in
        ap (λ l. slice_index_or l d.file false) first
        ∙ ap (λ n. slice_index_or (first_marks (file_named files) files) n false) at.number
        ∙ index_got (first_marks (file_named files) files) (0 + at.before) false (is_file (file_named files f.name) (0 + at.before))
        (ap (slice_get (first_marks (file_named files) files)) (zero_plus at.before) ∙ get_mapped (λ (e : ℕ × DeclaredFile). is_file (file_named files e.1.name) e.0) 0 files at.before f at.there)
        ∙ ap (λ o. is_file o (0 + at.before)) (sym (position_from-first (λ (g : DeclaredFile). bytes_eq f.name g.name) files))
        ∙ first_of_all (λ (g : DeclaredFile). bytes_eq f.name g.name) 0 files at.before f at.there (same_name f.name)
        ∙ ap not (sym (at.names f.name) ∙ ap (λ l. list_any (λ (e : Declaration). is_file_named f.name e.item) (take k l)) (sym is.declared))

    each : (j k : ℕ) (d : Declaration) → k ≡ 0 + j → slice_get w.declared j ≡ Some d → is_marked_first m d ≡ holds w k d cause.TwoFiles
    each j k d at there =
        let here : slice_get w.declared k ≡ Some d = ap (slice_get w.declared) (at ∙ zero_plus j) ∙ there in
        option_placed (λ f. slice_index_or m.are_first.items d.file false) (λ f. not (list_any (λ e. is_file_named f.name e.item) (take k w.declared))) (file_in d.item) true (λ f file. marked k d f here file)
        ∙ sym (first_holds w k d.file d.parent d.scope d.item)

pub imports_table : (files : List DeclaredFile) (w : World) (m : Imports) (ds : List Declaration) → IsWorldOf files w → AreImports files m → w.declared ≡ ds → map (are_imports_there m) ds ≡ holds_table w cause.MissingImport
imports_table files w m ds is exact e =
    ap (map (are_imports_there m)) (sym e) ∙ map_placed (λ p. holds w p.0 p.1 cause.MissingImport) (are_imports_there m) 0 w.declared each
  where
    known : (name : List ℕ) → is_some (file_named files name) ≡ list_any (λ d. is_file_named name d.item) w.declared
    known name =
        ap is_some (sym (position_from-first (λ (g : DeclaredFile). bytes_eq name g.name) files))
        ∙ some_position (λ (g : DeclaredFile). bytes_eq name g.name) 0 files
        ∙ sym (files_named name 0 0 files)
        ∙ ap (list_any (λ (d : Declaration). is_file_named name d.item)) (sym is.declared)

    near : (k : ℕ) (d : Declaration) (f : DeclaredFile) → slice_get w.declared k ≡ Some d → file_in d.item ≡ Some f → next_of (lists_of m.all) d.file ≡ filter_map (file_named files) f.imports
    near k d f there file =
        let at = file_stands 0 0 files k d f (ap (λ l. slice_get l k) (sym is.declared) ∙ there) file in
        ap (λ g. next_of g d.file) exact.all ∙ ap (next_of (map (λ (g : FileView). g.imports) (files_of files))) (at.number ∙ zero_plus at.before) ∙ next_there (file_of files) files at.before f at.there

    right : (k : ℕ) (d : Declaration) (f : DeclaredFile) → slice_get w.declared k ≡ Some d → file_in d.item ≡ Some f → are_right_imports (length (next_of (lists_of m.all) d.file)) f ≡ imports_are_there w f
    right k d f there file =
        ap (λ l. are_right_imports (length l) f) (near k d f there file)
        ∙ ap (λ b. nat_lt (length f.imports) (2 ^ 31) && b && list_all (is_import_index f) f.public_indexes)
        (all_found (file_named files) f.imports ∙ all_alike (λ name. is_some (file_named files name)) (λ name. list_any (λ d. is_file_named name d.item) w.declared) known f.imports)

    each : (j k : ℕ) (d : Declaration) → k ≡ 0 + j → slice_get w.declared j ≡ Some d → are_imports_there m d ≡ holds w k d cause.MissingImport
    each j k d at there =
        let here : slice_get w.declared k ≡ Some d = ap (slice_get w.declared) (at ∙ zero_plus j) ∙ there in
        option_placed (are_right_imports (length (next_of (lists_of m.all) d.file))) (imports_are_there w) (file_in d.item) true (λ f file. right k d f here file)
        ∙ sym (imports_hold w k d.file d.parent d.scope d.item)

-- a file reaches itself where the rule of cycles fails
pub cycle_told : (files : List DeclaredFile) (w : World) (m : Imports) (place : ℕ) (d : Declaration) (f : DeclaredFile) (b : Bool) → AreImports files m → IsWorldOf files w → file_in d.item ≡ Some f → (IsTrue b ↔ Reached (lists_of m.all) (next_of (lists_of m.all) d.file) d.file) → b ≡ not (holds w place d cause.ImportCycle)
cycle_told files w m place d f b are world is exact =
    sym (not_twice b) ∙ ap (λ x. not (not x)) same ∙ ap not (sym (cycle_holds w place d.file d.parent d.scope d.item ∙ ap (λ o. option_map_or (λ (g : DeclaredFile). not (w.sight.is_cyclic d.file)) o true) is))
  where
    not_twice : (x : Bool) → not (not x) ≡ x
    not_twice true = refl
    not_twice false = refl

    ways : Reached (lists_of m.all) (next_of (lists_of m.all) d.file) d.file ↔ Reaches (files_of files) d.file d.file
    ways = cyclic_reaches files m d.file are

    same : b ≡ w.sight.is_cyclic d.file
    same = same_test b (w.sight.is_cyclic d.file) (λ h. (world.sight.is_cyclic d.file).1 (ways.0 (exact.0 h))) (λ h. exact.1 (ways.1 ((world.sight.is_cyclic d.file).0 h)))

pub cycle_apart : (w : World) (place : ℕ) (d : Declaration) → file_in d.item ≡ None → false ≡ not (holds w place d cause.ImportCycle)
cycle_apart w place d is =
    sym (ap not (cycle_holds w place d.file d.parent d.scope d.item ∙ ap (λ o. option_map_or (λ (g : DeclaredFile). not (w.sight.is_cyclic d.file)) o true) is))

pub free_table : (w : World) (ds : List Declaration) → w.declared ≡ ds → map (is_free_name ds) (enumerate_from 0 ds) ≡ holds_table w cause.NameTaken
free_table w ds e = ap (λ x. map (is_free_name x) (enumerate_from 0 x)) (sym e)

-- a test of all, one after another
pub all_more : {X Y : Type 0} (t : Y → Bool) (view : X → Y) (xs : List X) (i : ℕ) (x : X) → i < length xs → x ≡ get_or xs i x → list_all t (map view (drop i xs)) ≡ (t (view x) && list_all t (map view (drop (i + 1) xs)))
all_more t view xs i x less is = ap (λ l. list_all t (map view l)) (drop_more xs i x less) ∙ ap (λ y. t (view y) && list_all t (map view (drop (i + 1) xs))) (sym is)

pub all_plain : {X : Type 0} (t : X → Bool) (xs : List X) (i : ℕ) (x : X) → i < length xs → x ≡ get_or xs i x → list_all t (drop i xs) ≡ (t x && list_all t (drop (i + 1) xs))
all_plain t xs i x less is = ap (list_all t) (drop_more xs i x less) ∙ ap (λ y. t y && list_all t (drop (i + 1) xs)) (sym is)

-- FREE NAMES
least : (k n : ℕ) → k ≤ n → nat_le k n ≡ true
least k n h = grind (arith, nat_tests)

more : (n p : ℕ) → nat_le (n + suc p) n ≡ false
more n p = grind (arith, nat_tests)

not_less_step : (b : Bool) (k n : ℕ) (o : Option ℕ) → k ≤ n → is_not_before k o ≡ true → is_not_before k (cond b (Some n) o) ≡ true
not_less_step true k n o h rest = least k n h
not_less_step false k n o h rest = rest

not_less : {X : Type 0} (t : X → Bool) (k n : ℕ) (xs : List X) → k ≤ n → is_not_before k (position_from t n xs) ≡ true
not_less t k n [] h = refl
not_less t k n (x ∷ xs) h = not_less_step (t x) k n (position_from t (n + 1) xs) h (not_less t k (n + 1) xs (omega (arith, h)))

not_before_step : (b : Bool) (n p : ℕ) (o : Option ℕ) (any : Bool) → is_not_before (n + suc p) o ≡ not any → is_not_before (n + suc p) (cond b (Some n) o) ≡ not (b || any)
not_before_step true n p o any rest = more n p
not_before_step false n p o any rest = rest

pub not_before : {X : Type 0} (t : X → Bool) (n p : ℕ) (xs : List X) → is_not_before (n + p) (position_from t n xs) ≡ not (list_any t (take p xs))
not_before t n zero xs = not_less t (n + zero) n xs (omega arith)
not_before t n (suc p) [] = refl
not_before t n (suc p) (x ∷ xs) =
    let at : n + 1 + p ≡ n + suc p = omega arith in
    not_before_step (t x) n p (position_from t (n + 1) xs) (list_any t (take p xs)) (ap (λ k. is_not_before k (position_from t (n + 1) xs)) (sym at) ∙ not_before t (n + 1) p xs)

pub first_free : (ds : List Declaration) (s : Scene) (place : ℕ) (name : List ℕ) → IsScene ds s → is_not_before place (first_at s.places.firsts name) ≡ not (list_any (has_name name) (take place ds))
first_free ds s place name scene =
    let at : place ≡ 0 + place = omega arith in
    ap (is_not_before place) (scene.places.firsts name) ∙ ap (λ k. is_not_before k (position_from (has_name name) 0 ds)) at ∙ not_before (has_name name) 0 place ds

pub is_unnamed : (ds : List Declaration) (place : ℕ) (d : Declaration) → is_named d.item ≡ false → true ≡ is_free_name ds (place, d)
is_unnamed ds place d none = sym (ap (λ n. not n || (not (list_any (has_name (full_name d)) (take place ds)) && not (is_package_name ds every_file (full_name d)))) none)

pub is_taken_before : (ds : List Declaration) (s : Scene) (place : ℕ) (d : Declaration) (name : List ℕ) → IsScene ds s → is_named d.item ≡ true → name ≡ full_name d → is_not_before place (first_at s.places.firsts name) ≡ false → false ≡ is_free_name ds (place, d)
is_taken_before ds s place d name scene named same before =
    sym (ap (λ n. not n || (not (list_any (has_name (full_name d)) (take place ds)) && not (is_package_name ds every_file (full_name d)))) named
    ∙ ap (λ b. b && not (is_package_name ds every_file (full_name d))) (sym (first_free ds s place (full_name d) scene) ∙ ap (λ n. is_not_before place (first_at s.places.firsts n)) (sym same) ∙ before))

pub is_free_unless : (ds : List Declaration) (s : Scene) (place : ℕ) (d : Declaration) (name : List ℕ) (b : Bool) → IsScene ds s → is_named d.item ≡ true → name ≡ full_name d → is_not_before place (first_at s.places.firsts name) ≡ true → b ≡ has_package s.packages name → not b ≡ is_free_name ds (place, d)
is_free_unless ds s place d name b scene named same first held =
    ap not (held ∙ scene.packages.exact name ∙ ap (is_package_name ds every_file) same)
    ∙ sym (ap (λ n. not n || (not (list_any (has_name (full_name d)) (take place ds)) && not (is_package_name ds every_file (full_name d)))) named
    ∙ ap (λ x. x && not (is_package_name ds every_file (full_name d))) (sym (first_free ds s place (full_name d) scene) ∙ ap (λ n. is_not_before place (first_at s.places.firsts n)) (sym same) ∙ first))

-- ONE MORE PLACE
pub names_more : {X T : Type 0} (told : T → List Found) (f : Declaration → List Found) (view : X → Declaration) (row : List X) (i : ℕ) (x : X) (held now : List T) (t : T) → i < length row → x ≡ get_or row i x → map told held ≡ map f (map view (take i row)) → told t ≡ f (view x) → now ≡ held ++ t ∷ [] → map told now ≡ map f (map view (take (i + 1) row))
names_more told f view row i x held now t less is was new pushed =
    ap (map told) pushed ∙ map-append told held (t ∷ []) ∙ ap (λ l. l ++ told t ∷ []) was ∙ ap (λ y. map f (map view (take i row)) ++ y ∷ []) new
    ∙ sym (ap (map f) (map_more view row i x less is) ∙ map-append f (map view (take i row)) (view x ∷ []))

pub flags_more : {X : Type 0} (f : Declaration → Bool) (view : X → Declaration) (row : List X) (i : ℕ) (x : X) (held now : List Bool) (b : Bool) → i < length row → x ≡ get_or row i x → held ≡ map f (map view (take i row)) → b ≡ f (view x) → now ≡ held ++ b ∷ [] → now ≡ map f (map view (take (i + 1) row))
flags_more f view row i x held now b less is was flag pushed =
    pushed ∙ ap (λ l. l ++ b ∷ []) was ∙ ap (λ y. map f (map view (take i row)) ++ y ∷ []) flag
    ∙ sym (ap (map f) (map_more view row i x less is) ∙ map-append f (map view (take i row)) (view x ∷ []))

pub free_more : {X : Type 0} (ds : List Declaration) (view : X → Declaration) (row : List X) (i : ℕ) (x : X) (held now : List Bool) (b : Bool) → i < length row → x ≡ get_or row i x → held ≡ map (is_free_name ds) (enumerate_from 0 (map view (take i row))) → b ≡ is_free_name ds (i, view x) → now ≡ held ++ b ∷ [] → now ≡ map (is_free_name ds) (enumerate_from 0 (map view (take (i + 1) row)))
free_more ds view row i x held now b less is was flag pushed = grown (is_free_name ds) view row i x [] held now less is was (pushed ∙ ap (λ c. held ++ c ∷ []) flag)
