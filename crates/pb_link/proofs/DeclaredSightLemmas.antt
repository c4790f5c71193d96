-- In a world of the declarations of a pool's types a file sees what its imports reach, and no file reaches itself.
use Rattle.std.proofs.Common.{◌≡◌, ℕ, suc, ◌+◌, ◌↔◌, List, [], ◌∷◌, Bool, true, false, IsTrue, map, refl, sym, ap, ◌∙◌, subst, arith, inl, inr, ◌⊎◌, Contains}
use Rattle.std.specs.Prelude.{pos, filter_map, option_and_then, slice_get}
use Rattle.std.specs.List.{enumerate_from, cons_option}
use Rattle.pb_schema.specs.Types.{FileView, Types}
use Rattle.pb_schema.specs.Imports.{imports_of, Reaches, directly, further, IsSeen}
use Rattle.pb_schema.specs.Rules.{IsPool}
use Rattle.pb_declarations.specs.Decls.{DeclaredFile}
use Rattle.pb_link_names.specs.Sees.{file_named, import_at, file_of, files_of, public_file_of, public_files_of, Sees, itself, imported, onward}
use Rattle.pb_link_rules.specs.Rules.{World}
use Rattle.pb_link_rules.specs.Link.{IsWorldOf}
use Rattle.pb_link.specs.ToDecls.{file_name, declared_file, decls_of}
use Rattle.pb_link.proofs.SeenLemmas.{seen-reached}
use Rattle.pb_link.proofs.DeclaredFileLemmas.{files_again}

get_zero : {X : Type 0} (xs : List X) (k : ℕ) → slice_get xs k ≡ slice_get xs (k + 0)
get_zero xs k = let e : k ≡ k + 0 = omega arith in ap (slice_get xs) e

-- imports by their indexes are the imports
by_index : (files : List DeclaredFile) (d : DeclaredFile) (g : ℕ → List ℕ) (k : ℕ) (is : List ℕ) → ((j : ℕ) → slice_get (map g is) j ≡ slice_get d.imports (k + j)) → filter_map (λ z. option_and_then (file_named files) (import_at d z)) (map (λ e. pos e.0) (enumerate_from k is)) ≡ filter_map (file_named files) (map g is)
by_index files d g k [] same = refl
by_index files d g k (i ∷ is) same =
    ap (λ o. cons_option o (filter_map (λ z. option_and_then (file_named files) (import_at d z)) (map (λ e. pos e.0) (enumerate_from (k + 1) is)))) (ap (option_and_then (file_named files)) (get_zero d.imports k ∙ sym (same 0)))
    ∙ ap (cons_option (file_named files (g i))) (by_index files d g (k + 1) is (λ j. let e : k + suc j ≡ k + 1 + j = omega arith in same (suc j) ∙ ap (slice_get d.imports) e))

public_imports : (ts : Types) (files : List DeclaredFile) (k : ℕ) (f : FileView) → (public_file_of files (declared_file ts (k, f))).imports ≡ (file_of files (declared_file ts (k, f))).imports
public_imports ts files k f =
    let d = declared_file ts (k, f) in
    by_index files d (file_name ts) 0 f.imports (λ j. let e : j ≡ 0 + j = omega arith in ap (slice_get d.imports) e)

each_public : (ts : Types) (files : List DeclaredFile) (k : ℕ) (fs : List FileView) → map (public_file_of files) (map (declared_file ts) (enumerate_from k fs)) ≡ map (file_of files) (map (declared_file ts) (enumerate_from k fs))
each_public ts files k [] = refl
each_public ts files k (f ∷ fs) =
    (λ i. record { name = f.name; package_name = f.package_name; imports = public_imports ts files k f i; proto2 = f.proto2 } ∷ map (public_file_of files) (map (declared_file ts) (enumerate_from (k + 1) fs)))
    ∙ ap (λ l. file_of files (declared_file ts (k, f)) ∷ l) (each_public ts files (k + 1) fs)

-- each import is public
pub public_again : (ts : Types) → IsPool ts → public_files_of (decls_of ts) ≡ ts.files
public_again ts pool = each_public ts (decls_of ts) 0 ts.files ∙ files_again ts pool

-- what is reached is reached through an import
through_import : (fs : List FileView) (i j : ℕ) → Reaches fs i j → Contains (imports_of fs i) j ⊎ ((k : ℕ) × Contains (imports_of fs i) k × Reaches fs k j)
through_import fs i j (directly at) = inl at
through_import fs i j (further {k = k} way at) = by (through_import fs i k way)
  where
    by : Contains (imports_of fs i) k ⊎ ((m : ℕ) × Contains (imports_of fs i) m × Reaches fs m k) → Contains (imports_of fs i) j ⊎ ((m : ℕ) × Contains (imports_of fs i) m × Reaches fs m j)
    by (inl first) = inr (k, first, directly at)
    by (inr h) = inr (h.0, h.1, further h.2 at)

reached_sees : (ts : Types) → IsPool ts → (i j : ℕ) → Reaches ts.files i j → Sees (decls_of ts) i j
reached_sees ts pool i j way = by (through_import ts.files i j way)
  where
    imports : (k : ℕ) → Contains (imports_of ts.files i) k → Contains (imports_of (files_of (decls_of ts)) i) k
    imports k at = subst (λ fs. Contains (imports_of fs i) k) (sym (files_again ts pool)) at

    by : Contains (imports_of ts.files i) j ⊎ ((k : ℕ) × Contains (imports_of ts.files i) k × Reaches ts.files k j) → Sees (decls_of ts) i j
    by (inl at) = imported (imports j at)
    by (inr h) = onward (imports h.0 h.1) (subst (λ fs. Reaches fs h.0 j) (sym (public_again ts pool)) h.2)

pub sees_reached : (ts : Types) → IsPool ts → (i j : ℕ) → Sees (decls_of ts) i j ↔ IsSeen ts.files i j
sees_reached ts pool i j = (λ s. subst (λ fs. IsSeen fs i j) (files_again ts pool) (seen-reached (decls_of ts) i j s), by)
  where
    by : IsSeen ts.files i j → Sees (decls_of ts) i j
    by (inl e) = subst (Sees (decls_of ts) i) e itself
    by (inr way) = reached_sees ts pool i j way

pub sees_right : (ts : Types) → IsPool ts → (w : World) → IsWorldOf (decls_of ts) w → (i j : ℕ) → IsTrue (w.sight.sees i j) ↔ IsSeen ts.files i j
sees_right ts pool w world i j = (λ t. (sees_reached ts pool i j).0 ((world.sight.sees i j).0 t), λ s. (world.sight.sees i j).1 ((sees_reached ts pool i j).1 s))

pub none_cyclic : (ts : Types) → IsPool ts → (w : World) → IsWorldOf (decls_of ts) w → (i : ℕ) → w.sight.is_cyclic i ≡ false
none_cyclic ts pool w world i = by (w.sight.is_cyclic i) (world.sight.is_cyclic i).0
  where
    by : (b : Bool) → (IsTrue b → Reaches (files_of (decls_of ts)) i i) → b ≡ false
    by true reaches = absurd (pool.files.no_cycle i (subst (λ fs. Reaches fs i i) (files_again ts pool) (reaches refl)))
    by false reaches = refl
