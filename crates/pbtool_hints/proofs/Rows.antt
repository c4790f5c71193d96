-- What lines and near names are, by examples.
use Rattle.std.proofs.Common.{◌≡◌, ◌≢◌, ℕ, [], ◌++◌, codes, refl, subst, lit≤, arith}
use Rattle.std.proofs.lemmas.List.{append_cancel_right}
use Rattle.std.specs.List.{AllByRecursion}
use Rattle.pbtool_hints.specs.Lines.{AreLines, IsLine}
use Rattle.pbtool_hints.specs.Lines.AreLines.{none, then}
use Rattle.pbtool_hints.specs.Near.{IsNear}
use Rattle.pbtool_hints.proofs.NearLemmas.{Share, near_only_if}

line_a : IsLine (codes "  a\n")
line_a = record { inside = codes "a"; whole = refl; one = ((λ e. cc), tt) }

line_b : IsLine (codes "    b\n")
line_b = record { inside = codes "  b"; whole = refl; one = ((λ e. cc), ((λ e. cc), ((λ e. cc), tt))) }

pub two_lines : AreLines (codes "  a\n    b\n")
two_lines = then (codes "  a\n") (codes "    b\n") (then [] (codes "  a\n") none line_a) line_b

-- one blank is too few
pub one_blank : ¬ (IsLine (codes " a\n"))
one_blank l = let e : codes " a\n" ≡ codes "  " ++ l.inside ++ codes "\n" = l.whole in cc

-- a name with a line feed is no part of one line
pub two_in_one : ¬ (IsLine (codes "  a\nb\n"))
two_in_one l =
    let joined : codes "  a\nb" ≡ codes "  " ++ l.inside = append_cancel_right (codes "  a\nb") (codes "  " ++ l.inside) (codes "\n") l.whole in
    let same : l.inside ≡ codes "a\nb" = cc in
    let all : AllByRecursion (λ (b : ℕ). b ≢ 10) (codes "a\nb") = subst (AllByRecursion (λ (b : ℕ). b ≢ 10)) same l.one in
    all.1.0 refl

pub letters_exchanged : IsNear (codes "fleet.v1.Reprot") (codes "fleet.v1.Report")
letters_exchanged = record {
  before = codes "fleet.v1.rep";
  left = codes "ro";
  right = codes "or";
  after = codes "t";
  first = refl;
  second = refl;
  few_left = lit≤ tt;
  few_right = lit≤ tt;
}

pub another_case : IsNear (codes "shop.ORDER") (codes "shop.Order")
another_case = record {
  before = codes "shop.order";
  left = [];
  right = [];
  after = [];
  first = refl;
  second = refl;
  few_left = lit≤ tt;
  few_right = lit≤ tt;
}

-- a name of one letter is near no other
pub one_letter : ¬ (IsNear (codes "N") (codes "M"))
one_letter d =
    let share : Share (codes "n") (codes "m") 0 0 = record {
      left = lit≤ tt;
      right = lit≤ tt;
      begin = λ i h. omega arith;
      begin_longest = λ h k e. omega (arith, e);
      end = λ i h. omega arith;
      end_longest = λ h k e. omega (arith, e);
    } in
    omega (arith, (near_only_if 0 (codes "n") (codes "m") 0 0 share d).0)
