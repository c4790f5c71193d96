use Rattle.std.proofs.Common.{◌≡◌, ℤ, map, take, length, subst, sym, ap, ◌∙◌, arith, rules}
use Rattle.std.specs.Prelude.{FitsSigned}
use Rattle.std.specs.Int.{w32}
use Rattle.std.specs.Ordering.{int_eq, int_cmp}
use Rattle.std.specs.BTreeMap.{get}
use Rattle.std.proofs.lemmas.Int.{to_z-of_z}
use Rattle.std.proofs.lemmas.List.{length-map, length-take}
use Rattle.pb_schema.specs.Tables.{AreFirstsOf, or_first}
use Rattle.pb_schema.proofs.TableLemmas.{view-more}
use Rattle.pb_schema.proofs.ValueLemmas.{view_of, firsts-more}
use Rattle.pb_schema.proofs.tables.values.first_places.Goals as goal

pub loop-index-preserved : goal.loop-index-preserved
loop-index-preserved c =
    let vs = c.args.values.now in
    let index = c.loop-index.index in
    let v = c.index-values-index.result in
    let seen = map view_of (take index vs) in
    let count : length seen ≡ index = length-map (take index vs) view_of ∙ omega (arith, length-take index vs) in
    let fits : FitsSigned w32 v.1 = search rules in
    let put : (z : ℤ) → get int_cmp c.note_first.new.firsts z ≡ or_first (get int_cmp c.loop-index.firsts z) (int_eq v.1 z) index =
    λ z. c.in_ok-note_first.ensures z ∙ ap (λ (n : ℤ). or_first (get int_cmp c.loop-index.firsts z) (int_eq n z) index) (to_z-of_z w32 v.1 fits) in
    let noted = subst (λ n. (z : ℤ) → get int_cmp c.note_first.new.firsts z ≡ or_first (get int_cmp c.loop-index.firsts z) (int_eq v.1 z) n) (sym count) put in
    subst (λ l. AreFirstsOf l c.note_first.new.firsts) (sym (view-more view_of vs index v (omega arith) c.index-values-index.is)) (firsts-more seen (view_of v) c.loop-index.firsts c.note_first.new.firsts c.loop-index.invariant noted)
