-- What the parts own is what `from_raw` asks for, and the box that it gives is of their value.
use mathlib.Core.Path.{◌≡◌, refl, sym, subst, ap}
use mathlib.Core.List.{List, [], ◌∷◌, ◌++◌}
use lib.Dec.{T}
use seplogic.Ra.Ura.{Ura}
use mir.Syntax.{Fn, Body, place, copy, assign, rv_opd, seq, return}
use mir.MapTy.{inst_fn}
use mir.Val.{Val, vptr, has_ty, WT}
use base.Logic.{SProp, ent, id⊢}
use base.Fml.{ftrue, fsep, flft}
use contract.BorrowLft.{◌⊑◌}
use prog.Memory.{Memory}
use prog.Routine.{Routine}
use prog.Wp.{WpFn, Tables}
use types.Logic.{Logic}
use contract.Monad.{Fun, fact}
use contract.Running.{tables, tables_of}
use sound.WpLaws.{fm_of, WpFn-mono}
use types.Kit.{Item, at_ret, ‵, raw, ◌⊛◌, some, later, ◌$◌, ◌∵◌, !, qed, by, move, drop, use1, join, split, split3, pick, rewrite, fsplit, fjoin, feq_i, suffices, await, done}
use types.Part.{whole, sub}
use types.Run.{stop, fld, no_more, and_then, of_opd, returns, enter, first, blocks, exec}
use types.ByLocal.{alloc_all, pass_all, free_all, look_at, get, get_in, sets, lands_last, env}
use denote.RattleType.{RattleType}
use denote.Exit.{no}
use denote.RawPtr.{block_ptr}
use denote.Signature.{plain}
use denote.Steps.{heard, nothing, only}
use denote.Triple.Call.{calls_at_last}
use denote.Triple.Clauses.{Ended, Clauses}
use denote.Triple.Spec.{triple_of}
use denote.Triple.Statement.{Triple, Contract}
use denote.Triple.Table.{entered}
use denote.Triple.Walked.{says, Stays, stay_dropped, walk_of, ends_at, walk_Meets}
use Rattle.std.proofs.alloc.Calls.{token, Goes-blank}
use Rattle.std_alloc.specs.Box.Ownership.{box_owns}
use Rattle.std_alloc.proofs.BoxSteps.Form.{Bx, D, R, P, B, args, box_ty, word, box_typed}
use Rattle.std_alloc.proofs.BoxSteps.Steps.{box_out, box_in}
use Rattle.pb_c_handles.specs.contracts.raw_box.RawBox as RawBox
use Rattle.std_alloc.specs.contracts.boxed.Box.from_raw as from_raw
use Rattle.std_alloc.proofs.boxed.Box.from_raw.Symbol as symbol
use Rattle.std_alloc.proofs.boxed.Box.from_raw.Met as met
use Rattle.pb_c_handles.specs.contracts.raw_box.RawBox.into_box as promised
use Rattle.pb_c_handles.specs.contracts.raw_box.RawBox.into_box.Key.{name as #self}
use Rattle.pb_c_handles.proofs.raw_box.RawBox.into_box.Statement as stated
use Rattle.pb_c_handles.proofs.raw_box.RawBox.into_box.Code as code

-- what is left after the call
abbrev result_out : Body
result_out = seq (assign (place 0 []) (rv_opd (copy (place 4 [])))) return

module _ (E : Bx) where
  abbrev body : Fn
  body = inst_fn (args E) code.function

  abbrev ended : Ended
  ended = promised.ended E.row E.al.row E.al.g E.al.d E.al.drops

  abbrev parts_type : RattleType
  parts_type = RawBox.the_row (R E) (P E) E.al.g

  abbrev stays : Stays ended.signature.params ended.kept
  stays = (stay_dropped (plain (λ _. parts_type)) no, tt)

  module _ {M : Type 1} {𝓤 : Ura M} (𝓛 : Logic 𝓤) (at_mem : Memory → SProp 𝓤) (run : Routine → Fun 𝓤) (𝓣 : Tables 𝓤 𝓛.H) where
    open 𝓛 use {H}

    abbrev clauses : Clauses 𝓤 ended
    clauses = promised.clauses E.row E.al.row E.al.g E.al.d E.al.drops 𝓛 at_mem run

    abbrev Called : Contract 𝓤
    Called = triple_of 𝓛 (from_raw.signature E.row E.al.row E.al.g E.al.d E.al.drops) (from_raw.spec E.row E.al.row E.al.g E.al.d E.al.drops 𝓛 at_mem run)

    walk : Triple 𝓤 (𝓣.C (symbol.name (args E))) Called → (z : (walk_of 𝓛 ended stays clauses).Ghost)
        → ent 𝓤 ((walk_of 𝓛 ended stays clauses).pre z) (WpFn 𝓤 H 𝓣.C 𝓣.Λ body (z.0.4.0 ++ []) ((walk_of 𝓛 ended stays clauses).post z))
    walk known z =
        let Post = (walk_of 𝓛 ended stays clauses).post z in
        let lives = z.0.0 in let shares = z.0.1 in let parts = z.0.3.0 in
        let box : D E = record { ptr = parts.at; alloc = parts.alloc; value = parts.value } in
        let tokens : Item 𝓤 = ‵ (flft lives.0 shares.0) ⊛ ‵ (flft lives.1.0 shares.1.0) ⊛ ‵ ftrue in
        let outlived : Item 𝓤 = raw (fact 𝓤 (lives.0 ⊑ E.row.lives)) ⊛ raw (fact 𝓤 (lives.1.0 ⊑ E.al.row.lives)) ⊛ ‵ ftrue in
        qed 𝓛 ((tokens ⊛ ‵ (fsep ((B E).own_val box z.0.4.0) ftrue)) ∷ outlived ∷ []) ∵ split ! $ move ! (1 ∷ []) $ fsplit ! $
        box_out E ! box z.0.4.0 (λ block offset handle is_at words typed. fjoin ! $
        let both = word E handle block offset in
        let right : Item 𝓤 = ‵ (box_owns (token E.al parts.alloc) (R E) (block_ptr block offset) parts.value) in
        let held : List (Item 𝓤) = right ∷ ‵ ((P E).own_val parts.alloc (handle ∷ [])) ∷ ‵ ftrue ∷ tokens ∷ outlived ∷ [] in
        let call : Called.Ghost = ((lives, shares, tt, (parts.alloc, (block_ptr block offset, tt)), (handle ∷ [], (vptr block offset ∷ [], tt))), parts.value) in
        by ! (subst (λ (given : List Val). ent 𝓤 (types.Kit.⋆ 𝓛 held) (WpFn 𝓤 H 𝓣.C 𝓣.Λ body (given ++ []) Post)) (sym words)
        (qed 𝓛 held ∵ enter ! 𝓣.C 𝓣.Λ body (both ∷ []) _ $ alloc_all ! (λ locals. pass_all ! refl (box_typed E handle block offset typed, tt) $
        -- both fields, and the handle once more as an argument
        sets ! (of_opd ! (get_in ! (fld ! refl (stop !)) (sub ! 0 refl (whole !)))) refl (tt, tt) $
        sets ! (of_opd ! (get_in ! (fld ! refl (stop !)) (sub ! 1 refl (whole !)))) refl typed $
        first ! $ blocks ! $ sets ! (of_opd ! (get ! refl)) refl typed $
        -- what `from_raw` asks for
        move ! (4 ∷ []) $ split3 ! $ move ! (2 ∷ []) $ drop ! $ move ! (1 ∷ 2 ∷ []) $ join ! $ move ! (1 ∷ 0 ∷ []) $ join ! $
        move ! (2 ∷ []) $ feq_i ! (List Val) (vptr block offset ∷ []) (vptr block offset ∷ []) refl $ fjoin ! $ move ! (2 ∷ 0 ∷ []) $ fjoin ! $
        move ! (2 ∷ 0 ∷ []) $ join ! $ join ! $ use1 𝓛 (raw (Called.pre call)) (id⊢ 𝓤 _) $
        calls_at_last ! (fm_of 𝓤 H 𝓛.laws 𝓣) Called known call (and_then ! (get ! refl) (and_then ! (get ! refl) (no_more !))) (λ given.
        -- what it promises: a box of the value
        let kept : D E → Item 𝓤 = λ made. raw (fact 𝓤 (made.value ≡ parts.value)) ⊛ raw (fact 𝓤 (made.alloc ≡ parts.alloc)) in
        let Made : D E → Item 𝓤 = λ made. (tokens ⊛ ‵ ((B E).own_val made (given ∷ []))) ⊛ some (λ (_ : Unit {0} × (Unit {0} × Unit {0})). ‵ (fsep ftrue (fsep ftrue ftrue)) ⊛ kept made) in
        use1 𝓛 (later (some Made)) (id⊢ 𝓤 _) $ await ! tt $ pick ! (λ made. split ! $ move ! (1 ∷ []) $
        pick ! (λ _. split3 ! $ drop ! $ heard ! (made.value ≡ parts.value) (λ same. drop ! $ split ! $ move ! (1 ∷ []) $
        box_out E ! made (given ∷ []) (λ block' offset' handle' is_at' words' typed'. box_in E ! made block' offset' made.value is_at' refl $
        rewrite ! 0 (λ (ws : List Val). ‵ ((B E).own_val made ws)) (sym words') refl $
        let fits : T (has_ty (box_ty E) given) × WT given = subst (λ (w : Val). T (has_ty (box_ty E) w) × WT w) (sym (ap only words')) (box_typed E handle' block' offset' typed') in
        lands_last ! refl fits $ exec ! 𝓣.C 𝓣.Λ (env body.locals locals) result_out (at_ret (env body.locals locals) Post) $
        sets ! (of_opd ! (get ! refl)) refl fits $ returns ! (look_at ! 0 refl) $ free_all ! refl $
        suffices ! _ (ends_at 𝓛 ended stays clauses z given made ((tt, (tt, tt)), tt) (tt, tt)) $ says ! same $
        nothing ! $ nothing ! $ fjoin ! $ join ! $ move ! (1 ∷ 0 ∷ []) $ join ! $ done !)))))))))

pub into_box_spec : {M : Type 1} → stated.statement M
unfolding tables_of
into_box_spec 𝓤 𝓛 𝓜 𝓡 wired X Z LX LZ g d drops allocator met_drop =
    let E : Bx = record { row = X; laws = LX; al = record { row = Z; laws = LZ; g = g; d = d; drops = drops } } in
    let 𝓣 : Tables 𝓤 𝓛.H = tables_of 𝓤 𝓛.H 𝓜 (tables 𝓤 𝓛.H 𝓜 𝓡 𝓡.env) in
    let f = body E in
    let known = met.met 𝓤 𝓛 𝓜 𝓡 (code.calls-std_alloc::boxed::Box::from_raw 𝓡.env wired) X Z LX LZ g d drops allocator met_drop in
    entered 𝓤 𝓛.H (triple_of 𝓛 (ended E).signature (promised.spec X Z g d drops 𝓛 𝓜.mem 𝓡.returns)) 𝓣.C 𝓣.Λ (#self (args E)) f (code.unfolded 𝓤 𝓛.H 𝓜 𝓡 wired (X, (Z, tt)) d drops)
    (walk_Meets 𝓛 (ended E) (stays E) (Goes-blank 𝓛 2 (plain (λ _. parts_type E)) no (λ κs x f. tt), tt) (clauses E 𝓛 𝓜.mem 𝓡.returns 𝓣) (WpFn 𝓤 𝓛.H 𝓣.C 𝓣.Λ f) (WpFn-mono 𝓤 𝓛.H 𝓛.laws 𝓣 f)
    (walk E 𝓛 𝓜.mem 𝓡.returns 𝓣 known))
