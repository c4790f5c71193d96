-- The rest of a line, where a byte ends it and where none does.
use Rattle.std.proofs.Common.{◌≡◌, ℕ, ◌<◌, ◌≤◌, List, [], length, get_or, take, drop, drop-cons, true, false, refl, sym, subst, append-nil, inl, inr}
use Rattle.std.specs.Prelude.{suc}
use Rattle.std.proofs.lemmas.List.{take_all, take-append-drop}
use Rattle.std.specs.List.{AllByRecursion}
use Rattle.pbtool_explain.specs.Source.{IsLineRest, ends_line}

-- the byte of an index ends the line
pub line_cut :
    (bytes : List ℕ) (i d : ℕ) → i < length bytes → AllByRecursion (λ b. ends_line b ≡ false) (take i bytes) → ends_line (get_or bytes i d) ≡ true
    → IsLineRest bytes (take i bytes)
line_cut bytes i d below within ends = record {
  more = drop i bytes;
  joined = sym (take-append-drop i bytes);
  within = within;
  ends = inr (get_or bytes i d, drop (suc i) bytes, drop-cons bytes i d below, ends);
}

-- no byte ends it
pub line_whole :
    (bytes : List ℕ) (i : ℕ) → length bytes ≤ i → AllByRecursion (λ b. ends_line b ≡ false) (take i bytes) → IsLineRest bytes bytes
line_whole bytes i all within = record {
  more = [];
  joined = sym (append-nil bytes);
  within = subst (AllByRecursion (λ b. ends_line b ≡ false)) (take_all i bytes all) within;
  ends = inl refl;
}
