-- There is a world for each list of files: what is reached by imports can be tested.
use Rattle.std.proofs.Common.{◌≡◌, ℕ, zero, suc, ◌<◌, ◌⊎◌, inl, inr, ⊎_elim, List, [], ◌∷◌, length, Bool, true, ◌||◌, ◌&&◌, ◌==◌, refl, subst, arith, Contains}
use Rattle.std.specs.List.{list_any}
use Rattle.std.specs.Cmp.{unsigned_Decides}
use Rattle.std.proofs.lemmas.Bool.{cases_eq}
use Rattle.std.proofs.lemmas.Map.Made.{is_member-Decides}
use Rattle.pb_schema.specs.Types.{FileView}
use Rattle.pb_schema.specs.Imports.{imports_of, Reaches, directly, further}
use Rattle.pb_declarations.specs.Decls.{DeclaredFile}
use Rattle.pb_link_names.specs.Declarations.{declarations}
use Rattle.pb_link_names.specs.Sees.{files_of, public_files_of, Sees, itself, imported, onward, Sight, IsSightOf}
use Rattle.pb_link_rules.specs.Rules.{World}
use Rattle.pb_link_rules.specs.Link.{IsWorldOf}
use Rattle.pb_graphs.proofs.ContainsLemmas.{Contains-none}
use Rattle.pb_link_names.proofs.AnyLemmas.{or_cases, or_first, or_second, and_cases, and_both, any_there, there_any}

imports_within : (fs : List FileView) (i j : ℕ) → Contains (imports_of fs i) j → i < length fs
imports_within [] i j among = Contains-none j among
imports_within (f ∷ fs) zero j among = omega arith
imports_within (f ∷ fs) (suc i) j among = omega (arith, imports_within fs i j among)

-- an import
abbrev pub is_import : List FileView → ℕ → ℕ → Bool
is_import files i j = list_any (λ k. j == k) (imports_of files i)

pub import_there : (files : List FileView) (i j : ℕ) → is_import files i j ≡ true → Contains (imports_of files i) j
import_there files i j h = (is_member-Decides unsigned_Decides (imports_of files i) j).0 h

pub there_import : (files : List FileView) (i j : ℕ) → Contains (imports_of files i) j → is_import files i j ≡ true
there_import files i j at = (is_member-Decides unsigned_Decides (imports_of files i) j).1 at

-- reached by imports, with only the files before index m between
abbrev pub is_reached_by : List FileView → ℕ → ℕ → ℕ → Bool
is_reached_by files zero i j = is_import files i j
is_reached_by files (suc m) i j = is_reached_by files m i j || (is_reached_by files m i m && is_reached_by files m m j)

onto : (files : List FileView) (i k j : ℕ) → Reaches files i k → Reaches files k j → Reaches files i j
onto files i k j first (directly at) = further first at
onto files i k j first (further {k = m} way at) = further (onto files i k m first way) at

reached_sound : (files : List FileView) (m i j : ℕ) → is_reached_by files m i j ≡ true → Reaches files i j
reached_sound files zero i j h = directly (import_there files i j h)
reached_sound files (suc m) i j h =
    ⊎_elim (λ less. reached_sound files m i j less) (λ both. let parts = and_cases (is_reached_by files m i m) (is_reached_by files m m j) both in onto files i m j (reached_sound files m i m parts.0) (reached_sound files m m j parts.1))
    (or_cases (is_reached_by files m i j) (is_reached_by files m i m && is_reached_by files m m j) h)

-- the way to an index at the bound ends there first, and a way from there begins there last
to_bound : (files : List FileView) (m i : ℕ) → is_reached_by files (suc m) i m ≡ true → is_reached_by files m i m ≡ true
to_bound files m i h = ⊎_elim (λ less. less) (λ both. (and_cases (is_reached_by files m i m) (is_reached_by files m m m) both).0) (or_cases (is_reached_by files m i m) (is_reached_by files m i m && is_reached_by files m m m) h)

from_bound : (files : List FileView) (m j : ℕ) → is_reached_by files (suc m) m j ≡ true → is_reached_by files m m j ≡ true
from_bound files m j h = ⊎_elim (λ less. less) (λ both. (and_cases (is_reached_by files m m m) (is_reached_by files m m j) both).1) (or_cases (is_reached_by files m m j) (is_reached_by files m m m && is_reached_by files m m j) h)

over_bound : (files : List FileView) (m i j : ℕ) → is_reached_by files m i m ≡ true → is_reached_by files m m j ≡ true → is_reached_by files (suc m) i j ≡ true
over_bound files m i j first then = or_second (is_reached_by files m i j) (is_reached_by files m i m && is_reached_by files m m j) (and_both (is_reached_by files m i m) (is_reached_by files m m j) first then)

-- by an index before the bound, where ways below the next smaller bound join there
join_below : (files : List FileView) (m i k j : ℕ) → ((a b : ℕ) → is_reached_by files m a k ≡ true → is_reached_by files m k b ≡ true → is_reached_by files m a b ≡ true) → (is_reached_by files m i k ≡ true) ⊎ ((is_reached_by files m i m && is_reached_by files m m k) ≡ true) → (is_reached_by files m k j ≡ true) ⊎ ((is_reached_by files m k m && is_reached_by files m m j) ≡ true) → is_reached_by files (suc m) i j ≡ true
join_below files m i k j joins (inl a) (inl b) = or_first (is_reached_by files m i j) (is_reached_by files m i m && is_reached_by files m m j) (joins i j a b)
join_below files m i k j joins (inl a) (inr b) = let back = and_cases (is_reached_by files m k m) (is_reached_by files m m j) b in over_bound files m i j (joins i m a back.0) back.1
join_below files m i k j joins (inr a) (inl b) = let front = and_cases (is_reached_by files m i m) (is_reached_by files m m k) a in over_bound files m i j front.0 (joins m j front.1 b)
join_below files m i k j joins (inr a) (inr b) = over_bound files m i j (and_cases (is_reached_by files m i m) (is_reached_by files m m k) a).0 (and_cases (is_reached_by files m k m) (is_reached_by files m m j) b).1

through : (files : List FileView) (m i k j : ℕ) → k < m → is_reached_by files m i k ≡ true → is_reached_by files m k j ≡ true → is_reached_by files m i j ≡ true
through files zero i k j less first then = absurd (omega (arith, less))
through files (suc m) i k j less first then =
    ⊎_elim
    (λ e. over_bound files m i j (to_bound files m i (subst (λ n. is_reached_by files (suc m) i n ≡ true) e first)) (from_bound files m j (subst (λ n. is_reached_by files (suc m) n j ≡ true) e then)))
    (λ ne. join_below files m i k j (λ a b. through files m a k b (omega (arith, less, ne))) (or_cases (is_reached_by files m i k) (is_reached_by files m i m && is_reached_by files m m k) first) (or_cases (is_reached_by files m k j) (is_reached_by files m k m && is_reached_by files m m j) then))
    (cases_eq k m)

wider : (files : List FileView) (m i j : ℕ) → is_import files i j ≡ true → is_reached_by files m i j ≡ true
wider files zero i j h = h
wider files (suc m) i j h = or_first (is_reached_by files m i j) (is_reached_by files m i m && is_reached_by files m m j) (wider files m i j h)

abbrev pub is_reached : List FileView → ℕ → ℕ → Bool
is_reached files i j = is_reached_by files (length files) i j

complete : (files : List FileView) (i j : ℕ) → Reaches files i j → is_reached files i j ≡ true
complete files i j (directly at) = wider files (length files) i j (there_import files i j at)
complete files i j (further {k} way at) = through files (length files) i k j (imports_within files k j at) (complete files i k way) (wider files (length files) k j (there_import files k j at))

abbrev pub is_seen : List DeclaredFile → ℕ → ℕ → Bool
is_seen files i j = (i == j) || (is_import (files_of files) i j || list_any (λ k. is_reached (public_files_of files) k j) (imports_of (files_of files) i))

seen_sound : (files : List DeclaredFile) (i j : ℕ) → is_seen files i j ≡ true → Sees files i j
seen_sound files i j h =
    ⊎_elim (λ own. subst (Sees files i) ((unsigned_Decides i j).0 own) itself)
    (λ other. ⊎_elim (λ near. imported (import_there (files_of files) i j near)) (λ far. let at = any_there (λ k. is_reached (public_files_of files) k j) (imports_of (files_of files) i) far in onward at.1 (reached_sound (public_files_of files) (length (public_files_of files)) at.0 j at.2)) (or_cases (is_import (files_of files) i j) (list_any (λ k. is_reached (public_files_of files) k j) (imports_of (files_of files) i)) other))
    (or_cases (i == j) (is_import (files_of files) i j || list_any (λ k. is_reached (public_files_of files) k j) (imports_of (files_of files) i)) h)

seen_complete : (files : List DeclaredFile) (i j : ℕ) → Sees files i j → is_seen files i j ≡ true
seen_complete files i j itself = or_first (i == i) (is_import (files_of files) i i || list_any (λ k. is_reached (public_files_of files) k i) (imports_of (files_of files) i)) ((unsigned_Decides i i).1 refl)
seen_complete files i j (imported at) = or_second (i == j) (is_import (files_of files) i j || list_any (λ k. is_reached (public_files_of files) k j) (imports_of (files_of files) i)) (or_first (is_import (files_of files) i j) (list_any (λ k. is_reached (public_files_of files) k j) (imports_of (files_of files) i)) (there_import (files_of files) i j at))
seen_complete files i j (onward {k = k} at way) = or_second (i == j) (is_import (files_of files) i j || list_any (λ k. is_reached (public_files_of files) k j) (imports_of (files_of files) i)) (or_second (is_import (files_of files) i j) (list_any (λ k. is_reached (public_files_of files) k j) (imports_of (files_of files) i)) (there_any (λ k. is_reached (public_files_of files) k j) (imports_of (files_of files) i) k at (complete (public_files_of files) k j way)))

pub a_sight : (files : List DeclaredFile) → (s : Sight) × IsSightOf files s
a_sight files = (
  record { sees = is_seen files; is_cyclic = λ i. is_reached (files_of files) i i },
  record {
    sees = λ i j. (seen_sound files i j, seen_complete files i j);
    is_cyclic = λ i. (reached_sound (files_of files) (length (files_of files)) i i, complete (files_of files) i i);
  },
)

pub a_world : (files : List DeclaredFile) → (w : World) × IsWorldOf files w
a_world files = (record { declared = declarations files; sight = (a_sight files).0; files = files }, record { declared = refl; sight = (a_sight files).1; in_files = refl })
