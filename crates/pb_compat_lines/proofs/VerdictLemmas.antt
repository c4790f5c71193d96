-- What the lines of a comparison are together.
use Rattle.std.proofs.Common.{◌≡◌, ℕ, List, [], ◌++◌, Bool, Option, Some, None, length, ap, ◌∙◌}
use Rattle.std.specs.Prelude.{◌||◌, Result, Ok, Err, IfOk}
use Rattle.std.specs.declared.alloc.AllocError.{AllocError}
use Rattle.pb_schema.specs.Types.{Types}
use Rattle.pb_compat.specs.Agrees.{break_in}
use Rattle.pb_compat.specs.Namesakes.{namesakes}
use Rattle.pb_compat.specs.Pairs.{IsComparison, IsComparisonFrom}
use Rattle.pb_compat.specs.declared.difference.ComparedTypes.{ComparedTypes}
use Rattle.pb_compat_lines.specs.Lines.{compared_lines, lacks_below, missing_below, or_ok}
use Rattle.pb_compat_lines.specs.Verdict.{IsReportOfAll, IsReportOfTypes, Judges, Reports}
use Rattle.pb_compat_lines.specs.declared.verdict.Readers.TheVariants.{New}
use Rattle.pb_compat_lines.specs.declared.verdict.Verdict.{Verdict}

module _ (prefix : List ℕ) (old new : Types) (cs : List ComparedTypes) where
  pub types_report :
      (m n : ℕ) (empty filled text : List ℕ) (breaks : Bool) → IsComparison old new (m, n) cs → empty ≡ []
      → filled ≡ empty ++ compared_lines prefix old new cs → text ≡ or_ok prefix filled → breaks ≡ break_in cs
      → IsReportOfTypes prefix old new m n text breaks
  types_report m n empty filled text breaks is none lines ended judged = record {
    compared = cs;
    is = is;
    printed = ended ∙ ap (or_ok prefix) (lines ∙ ap (λ (l : List ℕ). l ++ compared_lines prefix old new cs) none);
    judged = judged;
  }

  pub all_report :
      (empty first filled text : List ℕ) (breaks : Bool) → IsComparisonFrom old new (namesakes old new) cs → empty ≡ []
      → first ≡ empty ++ missing_below prefix old new (length old.messages) → filled ≡ first ++ compared_lines prefix old new cs
      → text ≡ or_ok prefix filled → breaks ≡ (lacks_below old new (length old.messages) || break_in cs)
      → IsReportOfAll prefix old new text breaks
  all_report empty first filled text breaks is none missing lines ended judged = record {
    compared = cs;
    is = is;
    printed =
        ended
        ∙ ap (or_ok prefix)
        (lines
        ∙ ap (λ (l : List ℕ). l ++ compared_lines prefix old new cs)
        (missing ∙ ap (λ (l : List ℕ). l ++ missing_below prefix old new (length old.messages)) none));
    judged = judged;
  }

-- readers by the new pool alone
new_alone : (old new : Types) (name : Option (List ℕ)) (o : Option Verdict) → Reports [] old new name o → Judges New old new name o
new_alone old new name None h = h
new_alone old new name (Some v) h = h

pub new_judged :
    (old new : Types) (name : Option (List ℕ)) (r : Result (Option Verdict) AllocError) → IfOk r (Reports [] old new name) → IfOk r (Judges New old new name)
new_judged old new name (Ok o) h = new_alone old new name o h
new_judged old new name (Err e) h = h
