-- The files of a pool's declarations meet the rules of linking on files: their names differ, what they import is there, and none reaches itself.
use Rattle.std.proofs.Common.{◌≡◌, ◌≢◌, ℕ, zero, suc, ◌+◌, ◌<◌, ◌^◌, ◌⊎◌, inl, inr, List, [], ◌∷◌, ◌++◌, Bool, true, false, not, ◌||◌, ◌&&◌, map, length, take, refl, sym, ap, ◌∙◌, subst, arith, Some}
use Rattle.std.specs.Prelude.{pos, slice_get, nat_lt}
use Rattle.std.specs.List.{AllByRecursion, list_any, list_all, enumerate_from}
use Rattle.std.specs.Str.{bytes_eq}
use Rattle.std.proofs.lemmas.Bool.Decides.{nat_tests}
use Rattle.std.proofs.lemmas.List.{length-map}
use Rattle.std.proofs.lemmas.Option.{none-some}
use Rattle.std.proofs.lemmas.Slice.Eq.{bytes_eq-Decides}
use Rattle.pb_schema.specs.Names.{AllDiffer}
use Rattle.pb_schema.specs.Types.{FileView, Types}
use Rattle.pb_schema.specs.Rules.{IsPool}
use Rattle.pb_schema.proofs.NameSetLemmas.{All-at}
use Rattle.pb_schema.proofs.NameTreeLemmas.{get-contains, get-name_at}
use Rattle.pb_declarations.specs.Decls.{DeclaredFile}
use Rattle.pb_link_rules.specs.declared.cause.LinkCause.TheVariants as cause
use Rattle.pb_link_names.specs.Declarations.{Item, a_file, a_message, a_field, a_oneof, an_enum, a_value, a_service, a_method, Declaration, file_declared, files_declared}
use Rattle.pb_link_rules.specs.Rules.{World, is_import_index, imports_are_there}
use Rattle.pb_link_rules.specs.Link.{holds, IsWorldOf}
use Rattle.pb_link.specs.ToDecls.{file_name, declared_file, decls_of}
use Rattle.pb_link_names.proofs.AnyLemmas.{any_there, there_any, and_both}
use Rattle.pb_link_names.proofs.NameSetsLemmas.{any_append}
use Rattle.pb_link_names.proofs.BehindLemmas.{get_split}
use Rattle.pb_link_rules.proofs.FileRowLemmas.{NamesFile}
use Rattle.pb_link.proofs.FileRowLemmas.{Behind, no_file_behind, one_file, all_files}
use Rattle.pb_link.proofs.ScopeLemmas.{file_is}
use Rattle.pb_link.proofs.WholeLemmas.{all_at}
use Rattle.pb_link.proofs.DeclaredSightLemmas.{none_cyclic}

false_true : ◌≡◌ {A = Bool} false true → ⊥
false_true e = cc

same_bytes : (a b : List ℕ) → bytes_eq a b ≡ true → a ≡ b
same_bytes a b h = (bytes_eq-Decides a b).0 h

itself : (a : List ℕ) → bytes_eq a a ≡ true
itself a = (bytes_eq-Decides a a).1 refl

-- what is declared as a file
made_of : (ts : Types) (k : ℕ) (fs : List FileView) (i : ℕ) (f : DeclaredFile) → slice_get (map (declared_file ts) (enumerate_from k fs)) i ≡ Some f → (n : ℕ) × (v : FileView) × (slice_get fs i ≡ Some v) × (f ≡ declared_file ts (n, v))
made_of ts k [] i f h = absurd (none-some f h)
made_of ts k (v ∷ fs) zero f h = (k, v, refl, sym (same h))
  where
    same : {a b : DeclaredFile} → Some a ≡ Some b → a ≡ b
    same e = cc
made_of ts k (v ∷ fs) (suc i) f h = made_of ts (k + 1) fs i f h

-- FILE NAMES DIFFER

file_item : (f g : DeclaredFile) → a_file f ≡ a_file g → f ≡ g
file_item f g e = cc

-- a file that is declared is among those that are named
declared_name : (ts : Types) (file place k : ℕ) (fs : List FileView) (i : ℕ) (d : Declaration) (f : DeclaredFile) → slice_get (files_declared file place (map (declared_file ts) (enumerate_from k fs))) i ≡ Some d → d.item ≡ a_file f → list_any (bytes_eq f.name) (map (λ v. v.name) fs) ≡ true
declared_name ts file place k fs i d f there is =
    let row = files_declared file place (map (declared_file ts) (enumerate_from k fs)) in
    sym (all_files ts f.name file place k fs) ∙ there_any (NamesFile f.name) row d (get-contains row i d there) (ap (λ x. named x) is ∙ itself f.name)
  where
    named : Item → Bool
    named x = NamesFile f.name (record { file = 0; parent = 0; scope = []; item = x })

get_less : {X : Type 0} (xs : List X) (i : ℕ) (x : X) → slice_get xs i ≡ Some x → i < length xs
get_less [] i x h = absurd (none-some x h)
get_less (y ∷ xs) zero x h = omega arith
get_less (y ∷ xs) (suc i) x h = let rest = get_less xs i x h in omega (arith, rest)

take_within : {X : Type 0} (xs ys : List X) (i : ℕ) → i < length xs → take i (xs ++ ys) ≡ take i xs
take_within [] ys i less = absurd (omega (arith, less))
take_within (x ∷ xs) ys zero less = refl
take_within (x ∷ xs) ys (suc i) less = ap (λ l. x ∷ l) (take_within xs ys i (omega (arith, less)))

take_past : {X : Type 0} (xs ys : List X) (i j : ℕ) → i ≡ length xs + j → take i (xs ++ ys) ≡ xs ++ take j ys
take_past [] ys i j e = let f : i ≡ j = omega (arith, e) in ap (λ n. take n ys) f
take_past (x ∷ xs) ys zero j e = absurd (omega (arith, e))
take_past (x ∷ xs) ys (suc i) j e = ap (λ l. x ∷ l) (take_past xs ys i j (omega (arith, e)))

none_earlier : (ts : Types) (file place k : ℕ) (fs : List FileView) (i : ℕ) (d : Declaration) (f : DeclaredFile) → AllDiffer (map (λ v. v.name) fs) → slice_get (files_declared file place (map (declared_file ts) (enumerate_from k fs))) i ≡ Some d → d.item ≡ a_file f → list_any (NamesFile f.name) (take i (files_declared file place (map (declared_file ts) (enumerate_from k fs)))) ≡ false
none_earlier ts file place k [] i d f differ there is = absurd (none-some d there)
none_earlier ts file place k (v ∷ fs) i d f differ there is =
    by (get_split own rest i d there) (λ j at. none_earlier ts (file + 1) (place + length own) (k + 1) fs j d f differ.1 at is)
  where
    own : List Declaration
    own = file_declared file place (declared_file ts (k, v))

    rest : List Declaration
    rest = files_declared (file + 1) (place + length own) (map (declared_file ts) (enumerate_from (k + 1) fs))

    named : Item → Bool
    named x = NamesFile f.name (record { file = 0; parent = 0; scope = []; item = x })

    -- the file itself stands first
    front : (n : ℕ) → slice_get own n ≡ Some d → list_any (NamesFile f.name) (take n own) ≡ false
    front zero at = refl
    front (suc n) at = absurd (false_true (sym (no_file_behind ts f.name file place k v) ∙ there_any (NamesFile f.name) (Behind ts file place k v) d (get-contains (Behind ts file place k v) n d at) (ap (λ x. named x) is ∙ itself f.name)))

    other : (b : Bool) → bytes_eq f.name v.name ≡ b → list_any (bytes_eq f.name) (map (λ u. u.name) fs) ≡ true → b ≡ false
    other false same among = refl
    other true same among =
        let at = any_there (bytes_eq f.name) (map (λ u. u.name) fs) among in
        absurd (All-at (λ y. v.name ≢ y) (map (λ u. u.name) fs) at.0 differ.0 at.1 (sym (same_bytes f.name v.name same) ∙ same_bytes f.name at.0 at.2))

    by : (slice_get own i ≡ Some d) ⊎ ((j : ℕ) × (i ≡ length own + j) × (slice_get rest j ≡ Some d)) → ((j : ℕ) → slice_get rest j ≡ Some d → list_any (NamesFile f.name) (take j rest) ≡ false) → list_any (NamesFile f.name) (take i (own ++ rest)) ≡ false
    by (inl at) again = ap (list_any (NamesFile f.name)) (take_within own rest i (get_less own i d at)) ∙ front i at
    by (inr h) again =
        ap (list_any (NamesFile f.name)) (take_past own rest i h.0 h.1)
        ∙ any_append (NamesFile f.name) own (take h.0 rest)
        ∙ ap (λ b. b || list_any (NamesFile f.name) (take h.0 rest)) (one_file ts f.name file place k v ∙ other (bytes_eq f.name v.name) refl (declared_name ts (file + 1) (place + length own) (k + 1) fs h.0 d f h.2 is))
        ∙ again h.0 h.2

-- IMPORTS

all_mapped : {X Y : Type 0} (t : Y → Bool) (g : X → Y) (P : X → Type 0) (xs : List X) → ((x : X) → P x → t (g x) ≡ true) → AllByRecursion P xs → list_all t (map g xs) ≡ true
all_mapped t g P [] each all = refl
all_mapped t g P (x ∷ xs) each all = and_both (t (g x)) (list_all t (map g xs)) (each x all.0) (all_mapped t g P xs each all.1)

indexes_there : (d : DeclaredFile) (k : ℕ) (is : List ℕ) → k + length is ≡ length d.imports → list_all (is_import_index d) (map (λ e. pos e.0) (enumerate_from k is)) ≡ true
indexes_there d k [] size = refl
indexes_there d k (i ∷ is) size = and_both (nat_lt k (length d.imports)) (list_all (is_import_index d) (map (λ e. pos e.0) (enumerate_from (k + 1) is))) (less k (length d.imports) (omega (arith, size))) (indexes_there d (k + 1) is (omega (arith, size)))
  where
    less : (a b : ℕ) → a < b → nat_lt a b ≡ true
    less a b h = grind (arith, nat_tests)

module _ (ts : Types) (pool : IsPool ts) (w : World) (world : IsWorldOf (decls_of ts) w) where
  -- each file of the pool is declared
  file_there : (j : ℕ) → j < length ts.files → list_any (NamesFile (file_name ts j)) w.declared ≡ true
  file_there j less =
      let names : List (List ℕ) = map (λ f. f.name) ts.files in
      let size = length-map ts.files (λ f. f.name) in
      ap (list_any (NamesFile (file_name ts j))) world.declared
      ∙ all_files ts (file_name ts j) 0 0 0 ts.files
      ∙ there_any (bytes_eq (file_name ts j)) names (file_name ts j) (get-contains names j (file_name ts j) (get-name_at names j (omega (arith, less, size)))) (itself (file_name ts j))

  imports_there : (n : ℕ) (v : FileView) (i : ℕ) → slice_get ts.files i ≡ Some v → imports_are_there w (declared_file ts (n, v)) ≡ true
  imports_there n v i at =
      let d = declared_file ts (n, v) in
      let size = length-map v.imports (file_name ts) in
      let few : length v.imports < 2 ^ 31 = all_at (λ f. length f.imports < 2 ^ 31) ts.files i v pool.files.few_imports at in
      and_both (nat_lt (length d.imports) (2 ^ 31) && list_all (λ name. list_any (NamesFile name) w.declared) d.imports) (list_all (is_import_index d) d.public_indexes)
      (and_both (nat_lt (length d.imports) (2 ^ 31)) (list_all (λ name. list_any (NamesFile name) w.declared) d.imports)
      (less (length d.imports) (2 ^ 31) (subst (λ k. k < 2 ^ 31) (sym size) few))
      (all_mapped (λ name. list_any (NamesFile name) w.declared) (file_name ts) (λ j. j < length ts.files) v.imports file_there (all_at (λ f. AllByRecursion (λ j. j < length ts.files) f.imports) ts.files i v pool.files.imports_name_files at)))
      (indexes_there d 0 v.imports (omega (arith, size)))
    where
      less : (a b : ℕ) → a < b → nat_lt a b ≡ true
      less a b h = grind (arith, nat_tests)

  -- THE RULES

  pub two_files : (place : ℕ) (d : Declaration) → slice_get w.declared place ≡ Some d → holds w place d cause.TwoFiles ≡ true
  two_files place d there = by d.item refl
    where
      by : (it : Item) → d.item ≡ it → holds w place (record { file = d.file; parent = d.parent; scope = d.scope; item = it }) cause.TwoFiles ≡ true
      by (a_file f) is = ap not (ap (λ ds. list_any (NamesFile f.name) (take place ds)) world.declared ∙ none_earlier ts 0 0 0 ts.files place d f pool.files.names_differ (ap (λ ds. slice_get ds place) (sym world.declared) ∙ there) is)
      by (a_message head inner) is = refl
      by (a_field head i f) is = refl
      by (a_oneof head i name) is = refl
      by (an_enum e) is = refl
      by (a_value e i v) is = refl
      by (a_service s) is = refl
      by (a_method m) is = refl

  pub missing_import : (place : ℕ) (d : Declaration) → slice_get w.declared place ≡ Some d → holds w place d cause.MissingImport ≡ true
  missing_import place d there = by d.item refl
    where
      by : (it : Item) → d.item ≡ it → holds w place (record { file = d.file; parent = d.parent; scope = d.scope; item = it }) cause.MissingImport ≡ true
      by (a_file f) is =
          let of = made_of ts 0 ts.files d.file f (file_is (decls_of ts) w world place d f there is) in
          ap (imports_are_there w) of.3 ∙ imports_there of.0 of.1 d.file of.2
      by (a_message head inner) is = refl
      by (a_field head i f) is = refl
      by (a_oneof head i name) is = refl
      by (an_enum e) is = refl
      by (a_value e i v) is = refl
      by (a_service s) is = refl
      by (a_method m) is = refl

  pub import_cycle : (place : ℕ) (d : Declaration) → slice_get w.declared place ≡ Some d → holds w place d cause.ImportCycle ≡ true
  import_cycle place d there = by d.item
    where
      by : (it : Item) → holds w place (record { file = d.file; parent = d.parent; scope = d.scope; item = it }) cause.ImportCycle ≡ true
      by (a_file f) = ap not (none_cyclic ts pool w world d.file)
      by (a_message head inner) = refl
      by (a_field head i f) = refl
      by (a_oneof head i name) = refl
      by (an_enum e) = refl
      by (a_value e i v) = refl
      by (a_service s) = refl
      by (a_method m) = refl
