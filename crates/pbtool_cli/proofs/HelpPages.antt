-- `--help` is answered with a page.
use Rattle.std.proofs.Common.{◌≡◌, ◌⊎◌, Bool, true, false, List, [], ◌∷◌, codes, inl, inr, refl, sym, subst}
use Rattle.std.specs.Prelude.{◌≢◌, ◌||◌}
use Rattle.std.specs.List.{list_any}
use Rattle.std.specs.Str.{bytes_eq}
use Rattle.std.proofs.lemmas.Slice.Eq.{bytes_eq-Decides}
use Rattle.clap.specs.Words.{Text, fault_of}
use Rattle.clap.specs.declared.error.kind.ErrorKind.TheVariants.{DisplayHelp}
use Rattle.clap.proofs.OnLiterals.{clap_on_literals}
use Rattle.pbtool_cli.specs.Misuse.{is_topic}
use Rattle.pbtool_cli.specs.Words.{tool, tool_names}

abbrev IsIn : Text → List Text → Type 0
IsIn name [] = ⊥
IsIn name (n ∷ ns) = (name ≡ n) ⊎ IsIn name ns

same : (n name : Text) → bytes_eq n name ≡ true → name ≡ n
same n name e = sym ((bytes_eq-Decides n name).0 e)

in_names : (name : Text) (names : List Text) → list_any (λ n. bytes_eq n name) names ≡ true → IsIn name names
in_names name [] none = absurd (cc)
in_names name (n ∷ ns) among = by (bytes_eq n name) refl among (in_names name ns)
  where
    by :
        (b : Bool) → bytes_eq n name ≡ b → (b || list_any (λ m. bytes_eq m name) ns) ≡ true
        → (list_any (λ m. bytes_eq m name) ns ≡ true → IsIn name ns) → IsIn name (n ∷ ns)
    by true e among more = inl (same n name e)
    by false e among more = inr (more among)

abbrev IsAnswered : Text → Type 0
IsAnswered name = fault_of tool (codes "pbtool" ∷ name ∷ codes "--help" ∷ []) ≡ DisplayHelp ∷ []

by_name : (name : Text) → IsIn name tool_names → IsAnswered name
unfolding clap_on_literals
by_name name (inl e) = subst IsAnswered (sym e) refl
by_name name (inr (inl e)) = subst IsAnswered (sym e) refl
by_name name (inr (inr (inl e))) = subst IsAnswered (sym e) refl
by_name name (inr (inr (inr (inl e)))) = subst IsAnswered (sym e) refl
by_name name (inr (inr (inr (inr (inl e))))) = subst IsAnswered (sym e) refl
by_name name (inr (inr (inr (inr (inr (inl e)))))) = subst IsAnswered (sym e) refl
by_name name (inr (inr (inr (inr (inr (inr (inl e))))))) = subst IsAnswered (sym e) refl
by_name name (inr (inr (inr (inr (inr (inr (inr (inl e)))))))) = subst IsAnswered (sym e) refl
by_name name (inr (inr (inr (inr (inr (inr (inr (inr (inl e))))))))) = subst IsAnswered (sym e) refl
by_name name (inr (inr (inr (inr (inr (inr (inr (inr (inr (inl e)))))))))) = subst IsAnswered (sym e) refl
by_name name (inr (inr (inr (inr (inr (inr (inr (inr (inr (inr (inl e))))))))))) = subst IsAnswered (sym e) refl
by_name name (inr (inr (inr (inr (inr (inr (inr (inr (inr (inr (inr (inl e)))))))))))) = subst IsAnswered (sym e) refl
by_name name (inr (inr (inr (inr (inr (inr (inr (inr (inr (inr (inr (inr (inl e))))))))))))) = subst IsAnswered (sym e) refl
by_name name (inr (inr (inr (inr (inr (inr (inr (inr (inr (inr (inr (inr (inr none))))))))))))) = absurd none

-- of a command
pub page_of : (name : Text) → is_topic name ≡ true → fault_of tool (codes "pbtool" ∷ name ∷ codes "--help" ∷ []) ≢ []
page_of name known none = let e = sym (by_name name (in_names name tool_names known)) in absurd (cc)

-- of the program
pub page_of_tool : fault_of tool (codes "pbtool" ∷ codes "--help" ∷ []) ≢ []
unfolding clap_on_literals
page_of_tool none = absurd (cc)
