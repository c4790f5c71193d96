-- Names of files: each new one differs from those before.
use Rattle.std.proofs.Common.{◌≡◌, ℕ, ◌+◌, ◌<◌, List, [], ◌∷◌, ◌++◌, Bool, true, false, not, map, take, drop, length, get_or, refl, sym, ◌∙◌, ap, if◌then◌else◌}
use Rattle.std.specs.List.{list_any}
use Rattle.std.specs.Str.{bytes_eq}
use Rattle.std.proofs.lemmas.Bool.{false≢true}
use Rattle.std.proofs.lemmas.List.{map-append, take_more, take-append-drop}
use Rattle.pb_names.specs.NameSets.{with_name}
use Rattle.pb_schema.specs.Types.{FileView}
use Rattle.pb_schema.specs.View.{file_view}
use Rattle.pb_schema.specs.declared.types.FileInfo.{FileInfo}
use Rattle.pb_schema.specs.Names.{AllDiffer}
use Rattle.pb_schema.proofs.NameSetLemmas.{has_name, AllDiffer-push, AllDiffer-new, AllDiffer-front}

abbrev pub names_of : List FileInfo → List (List ℕ)
names_of files = map (λ (f : FileView). f.name) (map file_view files)

-- the set has these names, which differ
pub record AreNames (names set : List (List ℕ)) : Type 0 where
  pub are : set ≡ names
  pub differ : AllDiffer names

module _ (names old : List (List ℕ)) (name : List ℕ) (was : AreNames names old) where
  pub one_more : (new : List (List ℕ)) (is_new : Bool) → is_new ≡ not (list_any (bytes_eq name) old) → is_new ≡ true → new ≡ with_name name old → AreNames (names ++ name ∷ []) new
  one_more new is_new test fresh is = by (list_any (bytes_eq name) old) refl test is
    where
      by : (has : Bool) → list_any (bytes_eq name) old ≡ has → is_new ≡ not has → new ≡ (if has then old else old ++ name ∷ []) → AreNames (names ++ name ∷ []) new
      by true e t n = absurd (false≢true (sym t ∙ fresh))
      by false e t n = record {
        are = n ∙ ap (λ l. l ++ name ∷ []) was.are;
        differ = AllDiffer-push names name was.differ (λ h. false≢true (sym e ∙ ap (list_any (bytes_eq name)) was.are ∙ (has_name name names).1 h));
      }

  pub one_again : (rest : List (List ℕ)) (is_new : Bool) → is_new ≡ not (list_any (bytes_eq name) old) → is_new ≡ false → ¬ AllDiffer ((names ++ name ∷ []) ++ rest)
  one_again rest is_new test seen all = by (list_any (bytes_eq name) old) refl test
    where
      by : (has : Bool) → list_any (bytes_eq name) old ≡ has → is_new ≡ not has → ⊥
      by true e t = AllDiffer-new names name (AllDiffer-front (names ++ name ∷ []) rest all) ((has_name name names).0 (sym (ap (list_any (bytes_eq name)) was.are) ∙ e))
      by false e t = false≢true (sym seen ∙ t)

pub names_push : (files : List FileInfo) (i : ℕ) (f : FileInfo) → i < length files → f ≡ get_or files i f → names_of (take (i + 1) files) ≡ names_of (take i files) ++ (file_view f).name ∷ []
names_push files i f less is =
    ap names_of (take_more files i f less ∙ ap (λ z. take i files ++ z ∷ []) (sym is)) ∙ ap (map (λ (v : FileView). v.name)) (map-append file_view (take i files) (f ∷ [])) ∙ map-append (λ (v : FileView). v.name) (map file_view (take i files)) (file_view f ∷ [])

pub names_split : (files : List FileInfo) (i : ℕ) → names_of files ≡ names_of (take i files) ++ names_of (drop i files)
names_split files i =
    ap names_of (sym (take-append-drop i files)) ∙ ap (map (λ (v : FileView). v.name)) (map-append file_view (take i files) (drop i files)) ∙ map-append (λ (v : FileView). v.name) (map file_view (take i files)) (map file_view (drop i files))
