-- Lines, one after another.
use Rattle.std.proofs.Common.{◌≡◌, ℕ, List, [], ◌++◌, Bool, true, false, cond, subst, sym}
use Rattle.pbtool_hints.specs.Lines.{AreLines, IsLine}
use Rattle.pbtool_hints.specs.Lines.AreLines.{none, then}

pub no_lines : (bytes : List ℕ) → bytes ≡ [] → AreLines bytes
no_lines bytes e = subst AreLines (sym e) none

-- a line that was appended, or was not
pub one_more :
    (ok : Bool) (before line slice now : List ℕ) → AreLines before → IsLine line → slice ≡ line → now ≡ cond ok (before ++ slice) before → AreLines now
one_more true before line slice now h l s e = subst AreLines (sym (subst (λ (x : List ℕ). now ≡ before ++ x) s e)) (then before line h l)
one_more false before line slice now h l s e = subst AreLines (sym e) h
