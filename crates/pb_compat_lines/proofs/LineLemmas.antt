-- Lines that are added one after another.
use Rattle.std.proofs.Common.{◌≡◌, ◌+◌, ℕ, List, [], ◌++◌, Bool, true, Option, Some, None, refl, sym, ap, ◌∙◌}
use Rattle.std.specs.Prelude.{◌||◌, is_none, if◌then◌else◌, Result, Ok, Err, IfOk, OnOk}
use Rattle.std.specs.declared.alloc.AllocError.{AllocError}
use native.Mathlib.Numerals.{unary_clauses}
use Rattle.pb_schema.specs.Types.{Types}
use Rattle.pb_compat.specs.Namesakes.{namesake}
use Rattle.pb_compat_lines.specs.Lines.{lacks, lacks_below, missing_at, missing_below, missing_line}

module _ (prefix : List ℕ) (old new : Types) (m : ℕ) where
  pub nothing_missing : (n : ℕ) → namesake old new m ≡ Some n → missing_at prefix old new m ≡ []
  nothing_missing n is = ap (λ (o : Option ℕ). if is_none o then missing_line prefix old m else []) is

  one_missing : namesake old new m ≡ None → missing_at prefix old new m ≡ missing_line prefix old m
  one_missing is = ap (λ (o : Option ℕ). if is_none o then missing_line prefix old m else []) is

  pub missing_added :
      (first now : List ℕ) (r : Result Bool AllocError) → namesake old new m ≡ None → OnOk r (now ≡ first ++ missing_line prefix old m)
      → OnOk r (now ≡ first ++ missing_at prefix old new m)
  missing_added first now (Ok b) none h = h ∙ ap (λ (l : List ℕ). first ++ l) (sym (one_missing none))
  missing_added first now (Err e) none h = h

  pub missing_more : missing_below prefix old new (m + 1) ≡ missing_below prefix old new m ++ missing_at prefix old new m
  missing_more = simp unary_clauses refl

pub lack_told :
    (old new : Types) (m : ℕ) (r : Result Bool AllocError) → namesake old new m ≡ None → IfOk r (λ b. b ≡ true) → IfOk r (λ b. b ≡ lacks old new m)
lack_told old new m (Ok b) none h = h ∙ ap is_none (sym none)
lack_told old new m (Err e) none h = h

pub lacks_more : (old new : Types) (m : ℕ) → lacks_below old new (m + 1) ≡ (lacks_below old new m || lacks old new m)
lacks_more old new m = simp unary_clauses refl
