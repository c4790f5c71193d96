-- What is known of the files that a file sees.
use Rattle.std.proofs.Common.{◌≡◌, ℕ, List, Bool, true, false, IsTrue, ◌↔◌, ⊎_elim, inr, map, sym, ◌∙◌, ap, subst, Contains, Option, Some, None}
use Rattle.pb_graphs.specs.declared.reach.Reach.{Reach}
use Rattle.pb_graphs.specs.Reach.{next_of, Reached, is_marked}
use Rattle.pb_schema.specs.declared.types.FileInfo.{FileInfo}
use Rattle.pb_schema.specs.declared.imports.sight.Sight.{Sight}
use Rattle.pb_schema.specs.View.{file_view}
use Rattle.pb_schema.specs.Types.{FileView}
use Rattle.pb_schema.specs.Imports.{imports_of, Reaches, directly, IsSeen}
use Rattle.pb_schema.specs.Imports.Sight.{IsFound, KnowsSight}
use Rattle.pb_schema.proofs.ImportLemmas.{next_files, viewed_graph, reaches_from, reached_by}

found_reaches : (files : List FileView) (whole : Bool) (i j : ℕ) → IsFound files whole i j → Reaches files i j
found_reaches files true i j way = way
found_reaches files false i j among = directly among

import_found : (files : List FileView) (whole : Bool) (i j : ℕ) → Contains (imports_of files i) j → IsFound files whole i j
import_found files true i j among = directly among
import_found files false i j among = among

pub no_file : {i : ℕ} → ◌≡◌ {A = Option ℕ} None (Some i) → ⊥
no_file e = cc

one_file : {k i : ℕ} → ◌≡◌ {A = Option ℕ} (Some k) (Some i) → k ≡ i
one_file e = cc

-- the imports of a file are marked
pub near_marked : (files : List FileInfo) (file i j : ℕ) (starts : List ℕ) (r : Reach) → starts ≡ next_of (map (λ f. f.imports.items) files) file → IsTrue (is_marked r j) ↔ Contains starts j → ◌≡◌ {A = Option ℕ} (Some file) (Some i) → IsTrue (is_marked r j) ↔ Contains (imports_of (map file_view files) i) j
near_marked files file i j starts r are marked at =
    let same : starts ≡ imports_of (map file_view files) i = are ∙ ap (λ g. next_of g file) (viewed_graph files) ∙ next_files (map file_view files) file ∙ ap (imports_of (map file_view files)) (one_file at) in
    subst (λ l. IsTrue (is_marked r j) ↔ Contains l j) same marked

-- what is reached from them is marked too
pub far_marked : (files : List FileInfo) (s : Sight) (r : Reach) → KnowsSight (map file_view files) s → ((j : ℕ) → IsTrue (is_marked r j) ↔ Reached (map (λ f. f.imports.items) files) s.reach.reached.items j) → (i j : ℕ) → s.file ≡ Some i → IsTrue (is_marked r j) ↔ Reaches (map file_view files) i j
far_marked files s r knows marked i j at =
    let views = map file_view files in
    let starts = s.reach.reached.items in (
      λ now. reaches_from views i starts (λ k among. found_reaches views s.is_whole i k ((knows.exact i k at).0 ((knows.listed.listed k).1 among))) j (subst (λ g. Reached g starts j) (viewed_graph files) ((marked j).0 now)),
      λ way. (marked j).1 (subst (λ g. Reached g starts j) (sym (viewed_graph files)) (reached_by views i starts (λ k among. (knows.listed.listed k).0 ((knows.exact i k at).1 (import_found views s.is_whole i k among))) j way)),
    )

pub marked_seen : (files : List FileView) (s : Sight) (i j : ℕ) → KnowsSight files s → s.file ≡ Some i → IsTrue (is_marked s.reach j) → IsSeen files i j
marked_seen files s i j knows at now = inr (found_reaches files s.is_whole i j ((knows.exact i j at).0 now))

pub seen_marked : (files : List FileView) (s : Sight) (i j : ℕ) → KnowsSight files s → s.file ≡ Some i → s.is_whole ≡ true → ¬ (i ≡ j) → IsSeen files i j → IsTrue (is_marked s.reach j)
seen_marked files s i j knows at whole other seen =
    ⊎_elim (λ e. absurd (other e)) (λ way. (knows.exact i j at).1 (subst (λ b. IsFound files b i j) (sym whole) way)) seen
