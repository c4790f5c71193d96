-- The declarations of each full name, by their places.
use Rattle.std.specs.Prelude.{◌≡◌, ◌≢◌, ◌≤◌, ◌+◌, ℕ, List, length, drop, Bool, true, false, ◌&&◌, IsTrue, Option, Some, None, if◌then◌else◌, slice_get}
use Rattle.std.specs.List.{slice_index_or, position_from}
use Rattle.pb_link_names.specs.Firsts.{first_at}
use Rattle.pb_link_names.specs.Declarations.{Item, Declaration, is_named, full_name, has_name, is_type, holds_names}
use Rattle.pb_link_names.specs.Lookup.{Seen, every_file}
use Rattle.pb_link_names.specs.Graphs.{sees_by}
use Rattle.pb_link_names.specs.declared.places.Places.{Places}
use Rattle.pb_link_names.specs.declared.places.Want.{Want}
use Rattle.pb_link_names.specs.declared.places.Want.TheVariants as want
use Rattle.pb_link_names.specs.declared.sight.Sight.{Sight}

-- the next place of the same full name
abbrev pub next_place : Places → ℕ → Option ℕ
next_place p i = slice_index_or p.next.items i None

-- From a place on, each full name has its first place, and each named declaration the next place of its name.
pub record ArePlaces (ds : List Declaration) (from : ℕ) (p : Places) : Type 0 where
  pub size : length p.next.items ≡ length ds
  pub firsts : (name : List ℕ) → first_at p.firsts name ≡ position_from (has_name name) from (drop from ds)
  pub next :
      (i : ℕ) (d : Declaration) → from ≤ i → slice_get ds i ≡ Some d → IsTrue (is_named d.item)
      → next_place p i ≡ position_from (has_name (full_name d)) (i + 1) (drop (i + 1) ds)

-- a declaration is put before the later ones of its name
pub record PutsPlace (place : ℕ) (d : Declaration) (old new : Places) : Type 0 where
  pub size : length new.next.items ≡ length old.next.items
  pub firsts : (name : List ℕ) → first_at new.firsts name ≡ (if has_name name d then Some place else first_at old.firsts name)
  pub next : IsTrue (is_named d.item) → next_place new place ≡ first_at old.firsts (full_name d)
  pub others : (i : ℕ) → i ≢ place → next_place new i ≡ next_place old i

-- what counts in a search: types, what can hold names, or all that has a name
abbrev pub is_wanted : Want → Item → Bool
is_wanted want.Types i = is_type i
is_wanted want.Holders i = holds_names i
is_wanted want.All i = true

-- what is seen of a file that was looked at, or from everywhere
abbrev pub sees_if : Bool → Sight → Seen
sees_if true s = every_file
sees_if false s = sees_by s

abbrev pub counts : Want → Seen → Declaration → Bool
counts w sees d = is_wanted w d.item && sees d.file

abbrev pub is_sought : Want → Seen → List ℕ → Declaration → Bool
is_sought w sees name d = is_wanted w d.item && sees d.file && has_name name d
