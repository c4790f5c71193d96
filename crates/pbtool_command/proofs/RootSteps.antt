-- A source looked for under one root after another.
use Rattle.std.proofs.Common.{◌≡◌, ◌+◌, ◌<◌, ℕ, List, [], ◌∷◌, ◌++◌, length, get_or, take, drop, Bool, true, Option, None, Some, refl, sym, inl, inr, subst}
use Rattle.std.specs.Prelude.{Result, Ok, Err, IfErr, IfOk, MatchOption}
use Rattle.std.specs.Borrow.{Bor}
use Rattle.pb_declarations.specs.Decls.{DeclaredFile}
use Rattle.pb_declarations.specs.View.{file_view}
use Rattle.pb_declarations.specs.declared.decl.FileDecl.{FileDecl}
use Rattle.pbtool_files.specs.Answer.{Answer}
use Rattle.pbtool_command.specs.CompileAnswer.{texts_of, told_of}
use Rattle.pbtool_files.specs.FileMap.{FileMap, KeepsMap}
use Rattle.pbtool_command.specs.Gathering.{DeclaresAt, HasTroubleAt, IsAbsentUnder, IsMissing, IsReached, Trouble, imported, path_under, places}
use Rattle.pbtool_files.specs.Refusal.{Refuses}
use Rattle.pbtool_files.specs.declared.set_file.Reading.{Reading}
use Rattle.pbtool_command.specs.Steps.{AbsentOf, DeclaredOf, Fails, IsAt, TroubleOf}
use Rattle.pbtool_files.specs.declared.report.Refusal.{Refusal}
use Rattle.pbtool_files.proofs.RefusalLemmas.{refuses_map}
use Rattle.pbtool_command.proofs.SourceSteps.{absent_later, at_later, declared_later, source_later, trouble_at_later, trouble_later}
use Rattle.pbtool_command.proofs.TextLists.{texts_more, texts_whole}

module _ (At : List ℕ → Option (List ℕ) → Type 0) (name root : List ℕ) where
  -- after roots that do not have the file comes one more that does not
  absent_more : (roots : List (List ℕ)) → IsAbsentUnder At roots name → At (path_under root name) None → IsAbsentUnder At (roots ++ root ∷ []) name
  absent_more [] h none = (none, tt)
  absent_more (r ∷ roots) h none = (h.0, absent_more roots h.1 none)

  -- after them a root is reached
  reached_behind : (roots more : List (List ℕ)) → IsAbsentUnder At roots name → IsReached At ((roots ++ root ∷ []) ++ more) name (path_under root name)
  reached_behind [] more h = inl refl
  reached_behind (r ∷ roots) more h = inr (h.0, reached_behind roots more h.1)

-- an import is not missing: it is left out
missing_given : (At : List ℕ → Option (List ℕ) → Type 0) (roots : List (List ℕ)) (name : List ℕ) (t : Trouble) → IsMissing At roots imported name t → ⊥
missing_given At [] name t h = h
missing_given At (r ∷ roots) name t h = h

module _
    {F : Type 0} (contents : F → Option FileMap) (is_steady : F → Bool) (old mid : F) (kept : KeepsMap (contents old) (contents mid))
    (steady : is_steady old ≡ true → is_steady mid ≡ true) (reading : Reading) (name : List ℕ) where
  -- ONE OF SEVERAL ROOTS, where those before it do not have the file

  module _
      (roots : List (Bor (List ℕ))) (i : ℕ) (d : Bor (List ℕ)) (lt : i < length roots)
      (passed : AbsentOf contents is_steady old (texts_of (take i roots)) name) where
    abbrev path_here : List ℕ
    path_here = path_under (get_or roots i d).now name

    pub root_passed : IsAt contents is_steady mid path_here None → AbsentOf contents is_steady old (texts_of (take (i + 1) roots)) name
    root_passed none =
        subst (λ (l : List (List ℕ)). AbsentOf contents is_steady old l name) (sym (texts_more roots i d lt))
        (absent_more (IsAt contents is_steady old) name (get_or roots i d).now (texts_of (take i roots)) passed
        (at_later contents is_steady old mid kept steady path_here None none))

    root_reached : IsReached (IsAt contents is_steady old) (texts_of roots) name path_here
    root_reached =
        subst (λ (l : List (List ℕ)). IsReached (IsAt contents is_steady old) l name path_here) (texts_whole roots i d lt)
        (reached_behind (IsAt contents is_steady old) name (get_or roots i d).now (texts_of (take i roots)) (texts_of (drop (i + 1) roots)) passed)

    pub root_declares :
        (f : DeclaredFile) → DeclaresAt (IsAt contents is_steady mid) reading path_here name f
        → DeclaredOf contents is_steady old (places reading (texts_of roots)) name f
    root_declares f h = (path_here, root_reached, source_later contents is_steady old mid kept steady reading path_here name f h)

    abbrev TroubleHere : Answer → Type 0
    TroubleHere a =
        (t : Trouble) × HasTroubleAt (IsAt contents is_steady mid) reading path_here (Fails contents is_steady mid) t × (a ≡ told_of name t)

    pub root_refuses :
        (e : Refusal) → Refuses TroubleHere e
        → Refuses (λ a. (t : Trouble) × TroubleOf contents is_steady old (places reading (texts_of roots)) imported name t × (a ≡ told_of name t)) e
    root_refuses e =
        refuses_map TroubleHere (λ a. (t : Trouble) × TroubleOf contents is_steady old (places reading (texts_of roots)) imported name t × (a ≡ told_of name t)) e
        (λ a h. (h.0, inl (path_here, root_reached, trouble_at_later contents is_steady old mid kept steady reading path_here h.0 h.1), h.2))

  -- THE ROOTS BEHIND THE FIRST, which does not have the file

  module _ (root : List ℕ) (others : List (List ℕ)) (none : IsAt contents is_steady old (path_under root name) None) where
    declared_behind : (f : DeclaredFile) → DeclaredOf contents is_steady mid (places reading others) name f → DeclaredOf contents is_steady old (places reading (root ∷ others)) name f
    declared_behind f h = let later = declared_later contents is_steady old mid kept steady (places reading others) name f h in (later.0, inr (none, later.1), later.2)

    trouble_behind :
        (t : Trouble) → TroubleOf contents is_steady old (places reading others) imported name t → TroubleOf contents is_steady old (places reading (root ∷ others)) imported name t
    trouble_behind t (inl h) = inl (h.0, inr (none, h.1), h.2)
    trouble_behind t (inr h) = absurd (missing_given (IsAt contents is_steady old) others name t h)

    pub found_behind :
        (r : Result (Option FileDecl) Refusal)
        → IfOk r (λ o. MatchOption o (AbsentOf contents is_steady mid others name) (λ f. DeclaredOf contents is_steady mid (places reading others) name (file_view f)))
        → IfOk r (λ o. MatchOption o (AbsentOf contents is_steady old (root ∷ others) name)
        (λ f. DeclaredOf contents is_steady old (places reading (root ∷ others)) name (file_view f)))
    found_behind (Ok None) h = (none, absent_later contents is_steady old mid kept steady others name h)
    found_behind (Ok (Some f)) h = declared_behind (file_view f) h
    found_behind (Err e) h = h

    pub refused_behind :
        (r : Result (Option FileDecl) Refusal)
        → IfErr r (Refuses (λ a. (t : Trouble) × TroubleOf contents is_steady mid (places reading others) imported name t × (a ≡ told_of name t)))
        → IfErr r (Refuses (λ a. (t : Trouble) × TroubleOf contents is_steady old (places reading (root ∷ others)) imported name t × (a ≡ told_of name t)))
    refused_behind (Ok o) h = h
    refused_behind (Err e) h =
        refuses_map (λ a. (t : Trouble) × TroubleOf contents is_steady mid (places reading others) imported name t × (a ≡ told_of name t))
        (λ a. (t : Trouble) × TroubleOf contents is_steady old (places reading (root ∷ others)) imported name t × (a ≡ told_of name t)) e
        (λ a k. (k.0, trouble_behind k.0 (trouble_later contents is_steady old mid kept steady (places reading others) imported name k.0 k.1), k.2)) h

-- the first of the roots
module _ {F : Type 0} (contents : F → Option FileMap) (is_steady : F → Bool) (files : F) (reading : Reading) (name root : List ℕ) (others : List (List ℕ)) where
  pub first_refuses :
      (e : Refusal)
      → Refuses (λ a. (t : Trouble) × HasTroubleAt (IsAt contents is_steady files) reading (path_under root name) (Fails contents is_steady files) t
      × (a ≡ told_of name t)) e
      → Refuses (λ a. (t : Trouble) × TroubleOf contents is_steady files (places reading (root ∷ others)) imported name t × (a ≡ told_of name t)) e
  first_refuses e =
      refuses_map
      (λ a. (t : Trouble) × HasTroubleAt (IsAt contents is_steady files) reading (path_under root name) (Fails contents is_steady files) t × (a ≡ told_of name t))
      (λ a. (t : Trouble) × TroubleOf contents is_steady files (places reading (root ∷ others)) imported name t × (a ≡ told_of name t)) e
      (λ a h. (h.0, inl (path_under root name, inl refl, h.1), h.2))
