-- Where a source is looked for, in small cases.
use Rattle.std.proofs.Common.{◌≡◌, ℕ, List, [], ◌∷◌, Option, Some, sym, ◌∙◌, inl, inr}
use Rattle.pbtool_files.specs.FileMap.{FileMap}
use Rattle.pbtool_command.specs.Gathering.{IsReached, path_under}

-- under one root there is one path
pub one_root : (At : List ℕ → Option (List ℕ) → Type 0) (root name path : List ℕ) → IsReached At (root ∷ []) name path → path ≡ path_under root name
one_root At root name path (inl is) = is
one_root At root name path (inr h) = absurd h.1

module _ (map : FileMap) (name : List ℕ) where
  abbrev In : List ℕ → Option (List ℕ) → Type 0
  In path content = content ≡ map path

  -- a file shadows those of its name under later roots
  pub shadows :
      (root : List ℕ) (others : List (List ℕ)) (path bytes : List ℕ) → map (path_under root name) ≡ Some bytes → IsReached In (root ∷ others) name path
      → path ≡ path_under root name
  shadows root others path bytes there (inl is) = is
  shadows root others path bytes there (inr h) = let none = h.0 in absurd (cc)

  -- so a name has one file at most
  pub one_file :
      (roots : List (List ℕ)) (p q b c : List ℕ) → IsReached In roots name p → map p ≡ Some b → IsReached In roots name q → map q ≡ Some c → p ≡ q
  one_file [] p q b c there _ again _ = absurd there
  one_file (root ∷ roots) p q b c (inl is) has (inl same) _ = is ∙ sym same
  one_file (root ∷ roots) p q b c (inl is) has (inr h) _ = let none = h.0 in absurd (cc)
  one_file (root ∷ roots) p q b c (inr h) _ (inl same) has = let none = h.0 in absurd (cc)
  one_file (root ∷ roots) p q b c (inr h) has (inr k) more = one_file roots p q b c h.1 has k.1 more
