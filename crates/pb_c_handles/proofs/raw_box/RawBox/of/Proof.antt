-- `into_raw_with_allocator` gives the pointer with the right to what it points to, and the parts own both.
use mathlib.Core.Path.{◌≡◌, refl, sym, subst, ap, ◌∙◌}
use mathlib.Core.List.{List, [], ◌∷◌, ◌++◌}
use seplogic.Ra.Ura.{Ura}
use mir.Syntax.{Fn, Args, Dict, a_type, dcons, dnil}
use mir.MapTy.{inst_fn}
use mir.Raw.{raw as bare}
use mir.Val.{Val, vstruct, of_list}
use base.Logic.{SProp, ent, id⊢, never, fst∗}
use base.Fml.{ftrue, fsep, flft}
use contract.BorrowLft.{◌⊑◌}
use prog.Memory.{Memory}
use prog.Routine.{Routine}
use prog.Wp.{WpFn, Tables}
use types.Logic.{Logic, sem}
use contract.Monad.{Fun, fact}
use contract.Running.{tables, tables_of}
use sound.WpLaws.{fm_of, WpFn-mono}
use types.Kit.{Item, ‵, raw, ◌⊛◌, some, later, ◌$◌, ◌∵◌, !, qed, by, move, drop, use1, join, split, split3, pick, rewrite, fsplit, fjoin, fpick, feq_l, suffices, await, done}
use types.Part.{whole, sub, agg}
use types.Run.{stop, fld, no_more, and_then, of_opd, returns, enter}
use types.ByLocal.{alloc_all, pass_all, free_all, look_at, get, get_in, sets, lands_as}
use denote.RattleType.{RattleType}
use denote.Exit.{no}
use denote.Param.{bounded}
use denote.RawPtr.{Ptr, RawPtr, block_ptr, null_ptr, ptr_val, in_a_block}
use denote.Signature.{plain}
use denote.Steps.{heard, nothing, only}
use denote.Struct.Tuple.{Tuple}
use denote.Triple.Call.{calls_at}
use denote.Triple.Clauses.{Ended, Clauses}
use denote.Triple.Spec.{triple_of}
use denote.Triple.Statement.{Triple, Contract}
use denote.Triple.Table.{entered}
use denote.Triple.Walked.{says, Stays, stay_dropped, walk_of, ends_at, walk_Meets}
use Rattle.std.proofs.alloc.Calls.{token, handle_tells, Goes-blank}
use Rattle.std_alloc.specs.Box.Ownership.{box_owns}
use Rattle.std_alloc.proofs.BoxSteps.Form.{Bx, D, τ, R, P, B, word, box_typed}
use Rattle.std_alloc.proofs.BoxSteps.Steps.{box_out, box_in}
use Rattle.pb_c_handles.specs.contracts.raw_box.RawBox as RawBox
use Rattle.std_alloc.specs.contracts.boxed.Box.into_raw_with_allocator as opened
use Rattle.std_alloc.proofs.boxed.Box.into_raw_with_allocator.Symbol as symbol
use Rattle.std_alloc.proofs.boxed.Box.into_raw_with_allocator.Met as met
use Rattle.pb_c_handles.specs.contracts.raw_box.RawBox.of as promised
use Rattle.pb_c_handles.specs.contracts.raw_box.RawBox.of.Key.{name as #self}
use Rattle.pb_c_handles.proofs.raw_box.RawBox.of.Statement as stated
use Rattle.pb_c_handles.proofs.raw_box.RawBox.of.Code as code

module _ (E : Bx) (dx : Dict) where
  abbrev with_types : Args
  with_types = bounded (a_type ∷ a_type ∷ []) (E.row, (E.al.row, tt)) (dcons E.al.d (dcons E.al.drops (dcons dx dnil)))

  abbrev body : Fn
  body = inst_fn with_types code.function

  abbrev ended : Ended
  ended = promised.ended E.row E.al.row E.al.g E.al.d E.al.drops dx

  abbrev stays : Stays ended.signature.params ended.kept
  stays = (stay_dropped (plain (λ _. B E)) no, tt)

  abbrev parts_type : RattleType
  parts_type = RawBox.the_row (R E) (P E) E.al.g

  module _ {M : Type 1} {𝓤 : Ura M} (𝓛 : Logic 𝓤) (at_mem : Memory → SProp 𝓤) (run : Routine → Fun 𝓤) (𝓣 : Tables 𝓤 𝓛.H) where
    open 𝓛 use {H}

    abbrev clauses : Clauses 𝓤 ended
    clauses = promised.clauses E.row E.al.row E.al.g E.al.d E.al.drops dx 𝓛 at_mem run

    abbrev Called : Contract 𝓤
    Called = triple_of 𝓛 (opened.signature E.row E.al.row E.al.g E.al.d E.al.drops dx) (opened.spec E.row E.al.row E.al.g E.al.d E.al.drops dx 𝓛 at_mem run)

    walk : Triple 𝓤 (𝓣.C (symbol.name with_types)) Called → (z : (walk_of 𝓛 ended stays clauses).Ghost)
        → ent 𝓤 ((walk_of 𝓛 ended stays clauses).pre z) (WpFn 𝓤 H 𝓣.C 𝓣.Λ body (z.0.4.0 ++ []) ((walk_of 𝓛 ended stays clauses).post z))
    walk known z =
        let Post = (walk_of 𝓛 ended stays clauses).post z in
        let lives = z.0.0 in let shares = z.0.1 in let box = z.0.3.0 in
        let tokens : Item 𝓤 = ‵ (flft lives.0 shares.0) ⊛ ‵ (flft lives.1.0 shares.1.0) ⊛ ‵ ftrue in
        let outlived : Item 𝓤 = raw (fact 𝓤 (lives.0 ⊑ E.row.lives)) ⊛ raw (fact 𝓤 (lives.1.0 ⊑ E.al.row.lives)) ⊛ ‵ ftrue in
        let right : Ptr → Item 𝓤 = λ p. ‵ (box_owns (token E.al box.alloc) (R E) p box.value) in
        qed 𝓛 ((tokens ⊛ ‵ (fsep ((B E).own_val box z.0.4.0) ftrue)) ∷ outlived ∷ []) ∵ split ! $ move ! (1 ∷ []) $ fsplit ! $
        box_out E ! box z.0.4.0 (λ block offset handle is_at words typed. box_in E ! box block offset box.value is_at refl $
        let both = word E handle block offset in
        let held : List (Item 𝓤) = ‵ ((B E).own_val box (both ∷ [])) ∷ ‵ ftrue ∷ tokens ∷ outlived ∷ [] in
        let call : Called.Ghost = ((lives, shares, tt, (box, tt), (both ∷ [], tt)), tt) in
        by ! (subst (λ (given : List Val). ent 𝓤 (types.Kit.⋆ 𝓛 held) (WpFn 𝓤 H 𝓣.C 𝓣.Λ body (given ++ []) Post)) (sym words)
        (qed 𝓛 held ∵ enter ! 𝓣.C 𝓣.Λ body (both ∷ []) _ $ alloc_all ! (λ locals. pass_all ! refl (box_typed E handle block offset typed, tt) $
        sets ! (of_opd ! (get ! refl)) refl (box_typed E handle block offset typed) $
        fjoin ! $ move ! (1 ∷ 0 ∷ []) $ join ! $ join ! $ use1 𝓛 (raw (Called.pre call)) (id⊢ 𝓤 _) $
        calls_at ! (fm_of 𝓤 H 𝓛.laws 𝓣) Called known call (and_then ! (get ! refl) (no_more !)) (λ given.
        -- what is promised: the allocator of the box, and a pointer with the right to its value
        let Pair : RattleType = Tuple (RawPtr ∷ P E ∷ []) in
        let Made : Ptr × E.al.row.Denot → Item 𝓤 = λ made. (tokens ⊛ ‵ (Pair.own_val made (given ∷ [])))
        ⊛ some (λ (_ : (Unit {0} × (Unit {0} × Unit {0})) × Unit {0}). ‵ (fsep (fsep ftrue (fsep ftrue ftrue)) ftrue) ⊛ (raw (fact 𝓤 (made.1 ≡ box.alloc)) ⊛ right made.0)) in
        use1 𝓛 (later (some Made)) (id⊢ 𝓤 _) $ await ! tt $ pick ! (λ made. split ! $ move ! (1 ∷ []) $
        pick ! (λ _. split3 ! $ drop ! $ heard ! (made.1 ≡ box.alloc) (λ same.
        in_a_block ! made.0 (λ p. box_owns (token E.al box.alloc) (R E) p box.value) (fst∗ 𝓤 (never 𝓤) (sem 𝓛 (token E.al box.alloc (bare (τ E)) null_ptr))) (λ block' offset' is_at'.
        move ! (1 ∷ []) $ split ! $ move ! (1 ∷ []) $ fpick ! (λ both_words. fsplit ! $ feq_l ! (λ is_pair. fsplit ! $ feq_l ! (λ is_ptr. fsplit ! $
        rewrite ! 0 (λ (a : E.al.row.Denot). ‵ (E.al.row.own_val a both_words.1.0)) same refl $ handle_tells E.al ! box.alloc both_words.1.0 (λ handle' is_handle typed'.
        let box' : D E = record { ptr = block_ptr block' offset'; alloc = box.alloc; value = box.value } in
        let parts : parts_type.Denot = record { at = block_ptr block' offset'; alloc = box.alloc; value = box.value } in
        let both' = word E handle' block' offset' in
        lands_as ! (ap only (is_pair ∙ (λ i. vstruct (of_list ((is_ptr ∙ ap (λ (p : Ptr). ptr_val p ∷ []) is_at') i ++ (is_handle i ++ []))) ∷ []))) refl (box_typed E handle' block' offset' typed') $
        -- the pair's two words, the allocator once more, and the struct of both
        sets ! (of_opd ! (get_in ! (fld ! refl (stop !)) (sub ! 0 refl (whole !)))) refl (tt, tt) $
        sets ! (of_opd ! (get_in ! (fld ! refl (stop !)) (sub ! 1 refl (whole !)))) refl typed' $
        sets ! (of_opd ! (get ! refl)) refl typed' $
        sets ! (agg ! (and_then ! (get ! refl) (and_then ! (get ! refl) (no_more !)))) refl (box_typed E handle' block' offset' typed') $
        returns ! (look_at ! 0 refl) $ free_all ! refl $
        move ! (3 ∷ []) $ fsplit ! $ box_in E ! box' block' offset' box.value refl refl $
        use1 𝓛 (‵ (parts_type.own_val parts (both' ∷ []))) (id⊢ 𝓤 _) $ move ! (1 ∷ []) $ drop ! $
        suffices ! _ (ends_at 𝓛 ended stays clauses z both' parts ((tt, (tt, tt)), tt) (tt, tt)) $ says ! refl $
        nothing ! $ nothing ! $ fjoin ! $ join ! $ move ! (1 ∷ 0 ∷ []) $ join ! $ done !)))))))))))))

pub of_spec : {M : Type 1} → stated.statement M
unfolding tables_of
of_spec 𝓤 𝓛 𝓜 𝓡 wired X Z LX LZ g d drops dx allocator met_drop glue =
    let E : Bx = record { row = X; laws = LX; al = record { row = Z; laws = LZ; g = g; d = d; drops = drops } } in
    let 𝓣 : Tables 𝓤 𝓛.H = tables_of 𝓤 𝓛.H 𝓜 (tables 𝓤 𝓛.H 𝓜 𝓡 𝓡.env) in
    let f = body E dx in
    let known = met.met 𝓤 𝓛 𝓜 𝓡 (code.calls-std_alloc::boxed::Box::into_raw_with_allocator 𝓡.env wired) X Z LX LZ g d drops dx allocator met_drop glue in
    entered 𝓤 𝓛.H (triple_of 𝓛 (ended E dx).signature (promised.spec X Z g d drops dx 𝓛 𝓜.mem 𝓡.returns)) 𝓣.C 𝓣.Λ (#self (with_types E dx)) f (code.unfolded 𝓤 𝓛.H 𝓜 𝓡 wired (X, (Z, tt)) d drops dx)
    (walk_Meets 𝓛 (ended E dx) (stays E dx) (Goes-blank 𝓛 2 (plain (λ _. B E)) no (λ κs x f. tt), tt) (clauses E dx 𝓛 𝓜.mem 𝓡.returns 𝓣) (WpFn 𝓤 𝓛.H 𝓣.C 𝓣.Λ f) (WpFn-mono 𝓤 𝓛.H 𝓛.laws 𝓣 f)
    (walk E dx 𝓛 𝓜.mem 𝓡.returns 𝓣 known))
