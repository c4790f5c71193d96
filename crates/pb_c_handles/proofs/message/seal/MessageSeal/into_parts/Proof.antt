-- The pointer of the parts is the seal's under another type, so where the seal holds something they own it.
use mathlib.Core.Path.{◌≡◌, refl, sym, subst}
use mathlib.Core.List.{List, [], ◌∷◌, ◌++◌}
use seplogic.Ra.Ura.{Ura}
use mir.Val.{Val}
use base.Logic.{SProp, ent, id⊢}
use base.Fml.{ftrue, fsep}
use prog.Memory.{Memory}
use prog.Routine.{Routine}
use prog.Wp.{WpFn, Tables}
use types.Logic.{Logic}
use contract.Monad.{Fun, fact}
use contract.Running.{tables, tables_of}
use sound.WpLaws.{WpFn-mono}
use types.Kit.{Item, ‵, raw, ◌⊛◌, ◌$◌, ◌∵◌, !, qed, by, move, drop, use1, join, split, rewrite, fsplit, fjoin, suffices, done}
use types.Part.{whole, sub, agg}
use types.Run.{stop, fld, no_more, and_then, of_opd, returns, enter}
use types.ByLocal.{alloc_all, pass_all, free_all, look_at, get, get_in, sets}
use denote.Exit.{yes}
use denote.Signature.{type_at}
use denote.Steps.{heard, nothing}
use denote.Triple.Spec.{triple_of}
use denote.Triple.Table.{entered}
use denote.Triple.Walked.{says, Stays, stay_dropped, walk_of, ends_at, Goes-dropped, walk_Meets}
use Rattle.std.specs.Prelude.{Option, Some}
use Rattle.std_alloc.proofs.BoxSteps.Form.{D, B, word, box_typed}
use Rattle.std_alloc.proofs.BoxSteps.Steps.{box_out, box_in}
use Rattle.pb_c_handles.proofs.AsMessageBox.{boxed, seal_slot}
use Rattle.pb_value.specs.Dynamic.{Dynamic}
use Rattle.pb_c_handles.specs.contracts.message.seal.MessageSeal as Seal
use Rattle.pb_c_handles.specs.contracts.message.seal.MessageSeal.into_parts as promised
use Rattle.pb_c_handles.specs.contracts.message.seal.MessageSeal.into_parts.Key.{name as #self}
use Rattle.pb_c_handles.proofs.message.seal.MessageSeal.into_parts.Statement as stated
use Rattle.pb_c_handles.proofs.message.seal.MessageSeal.into_parts.Code as code

abbrev stays : Stays (promised.ended).signature.params (promised.ended).kept
stays = (stay_dropped seal_slot yes, tt)

module _ {M : Type 1} {𝓤 : Ura M} (𝓛 : Logic 𝓤) (at_mem : Memory → SProp 𝓤) (run : Routine → Fun 𝓤) (𝓣 : Tables 𝓤 𝓛.H) where
  open 𝓛 use {H}

  walk : (z : (walk_of 𝓛 promised.ended stays (promised.clauses 𝓛 at_mem run)).Ghost)
      → ent 𝓤 ((walk_of 𝓛 promised.ended stays (promised.clauses 𝓛 at_mem run)).pre z) (WpFn 𝓤 H 𝓣.C 𝓣.Λ code.function (z.0.4.0 ++ []) ((walk_of 𝓛 promised.ended stays (promised.clauses 𝓛 at_mem run)).post z))
  walk z =
      let seal = z.0.3.0 in
      let Post = (walk_of 𝓛 promised.ended stays (promised.clauses 𝓛 at_mem run)).post z in
      let Parts = type_at (promised.signature).result tt in
      let Held : Type 0 = (s : Dynamic) × (seal.message ≡ Some s) in
      qed 𝓛 ((‵ ftrue ⊛ ‵ (fsep (Seal.the_row.own_val seal z.0.4.0) ftrue)) ∷ raw (fact 𝓤 Held) ∷ []) ∵ move ! (1 ∷ []) $
      -- what is held makes the seal's words those of a box, which are those of the parts
      heard ! Held (λ there. split ! $ drop ! $ fsplit ! $
      rewrite ! 0 (λ (pool : Option Dynamic). ‵ (Seal.the_row.own_val (record { at = seal.at; alloc = seal.alloc; message = pool }) z.0.4.0)) there.1 refl $
      let box : D boxed = record { ptr = seal.at; alloc = seal.alloc; value = there.0 } in
      let parts : Parts.Denot = record { at = seal.at; alloc = seal.alloc; value = there.0 } in
      use1 𝓛 (‵ ((B boxed).own_val box z.0.4.0)) (id⊢ 𝓤 _) $
      box_out boxed ! box z.0.4.0 (λ block offset handle is_at words typed. box_in boxed ! box block offset box.value is_at refl $
      let both = word boxed handle block offset in
      use1 𝓛 (‵ (Parts.own_val parts (both ∷ []))) (id⊢ 𝓤 _) $ move ! (1 ∷ []) $ drop ! $
      let held : List (Item 𝓤) = ‵ (Parts.own_val parts (both ∷ [])) ∷ [] in
      by ! (subst (λ (given : List Val). ent 𝓤 (types.Kit.⋆ 𝓛 held) (WpFn 𝓤 H 𝓣.C 𝓣.Λ code.function (given ++ []) Post)) (sym words)
      (qed 𝓛 held ∵ enter ! 𝓣.C 𝓣.Λ code.function (both ∷ []) _ $ alloc_all ! (λ locals. pass_all ! refl (box_typed boxed handle block offset typed, tt) $
      -- two fields, the cast, and the struct of both
      sets ! (of_opd ! (get_in ! (fld ! refl (stop !)) (sub ! 0 refl (whole !)))) refl (tt, tt) $
      sets ! (of_opd ! (get_in ! (fld ! refl (stop !)) (sub ! 1 refl (whole !)))) refl typed $
      sets ! (of_opd ! (get ! refl)) refl (tt, tt) $
      sets ! (agg ! (and_then ! (get ! refl) (and_then ! (get ! refl) (no_more !)))) refl (box_typed boxed handle block offset typed) $
      returns ! (look_at ! 0 refl) $ free_all ! refl $
      suffices ! _ (ends_at 𝓛 promised.ended stays (promised.clauses 𝓛 at_mem run) z both parts (tt, tt) (tt, tt)) $ says ! there.1 $
      nothing ! $ nothing ! $ fjoin ! $ join ! $ nothing ! $ join ! $ done !)))))

pub into_parts_spec : {M : Type 1} → stated.statement M
unfolding tables_of
into_parts_spec 𝓤 𝓛 𝓜 𝓡 wired =
    let 𝓣 : Tables 𝓤 𝓛.H = tables_of 𝓤 𝓛.H 𝓜 (tables 𝓤 𝓛.H 𝓜 𝓡 𝓡.env) in
    entered 𝓤 𝓛.H (triple_of 𝓛 promised.signature (promised.spec 𝓛 𝓜.mem 𝓡.returns)) 𝓣.C 𝓣.Λ #self code.function (code.unfolded 𝓤 𝓛.H 𝓜 𝓡 wired)
    (walk_Meets 𝓛 promised.ended stays (Goes-dropped 𝓛 0 seal_slot yes (λ κs x f. refl), tt) (promised.clauses 𝓛 𝓜.mem 𝓡.returns) (WpFn 𝓤 𝓛.H 𝓣.C 𝓣.Λ code.function) (WpFn-mono 𝓤 𝓛.H 𝓛.laws 𝓣 code.function)
    (walk 𝓛 𝓜.mem 𝓡.returns 𝓣))
