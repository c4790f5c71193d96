use Rattle.std.proofs.Common.{map, ap, sym, ◌∙◌, arith, refl}
use Rattle.std.proofs.lemmas.List.{map_push}
use Rattle.std.proofs.lemmas.Result.{err_from_is_err_and}
use Rattle.pb_text_tree.specs.Grammar.{AnotherScalar, Closing, NextScalar, WithPlaced, ends_list}
use Rattle.pb_text_tree.specs.Seen.{text_of}
use Rattle.pb_text_tree.specs.Steps.{Repeats}
use Rattle.pb_text_tree.specs.View.{placed_view}
use Rattle.pb_text_tree.proofs.StepLemmas.{or_weaker, reach_on, reach_ends, reach_fails, then_ok, then_err}
use Rattle.pb_text_tree.proofs.source.Source.more_scalars.Goals as goal

pub items-preserved : goal.items-preserved
items-preserved c =
    let x = text_of c.args.self.now in
    let before = map placed_view c.items.items.items in
    record {
      passed = omega (arith, c.in_ok-item.ensures.within);
      read = rw (ap (map placed_view) c.in_ok-push.ensures.items ∙ map_push placed_view c.items.items.items _)
          (reach_on (ends_list x) (AnotherScalar x) _ _ before c.items.at _ c.in_ok-item.after c.items.invariant.read (sym c.is_mark.ensures.is ∙ c.items-test.true)
          (then_ok (NextScalar x c.items.at) (WithPlaced before) (placed_view c.in_ok-item.item) c.in_ok-item.after _ c.in_ok-item.ensures.read refl));
    }

pub returns-in_err-item-clause-read : goal.returns-in_err-item-clause-read
returns-in_err-item-clause-read c =
    let x = text_of c.args.self.now in
    let before = map placed_view c.items.items.items in
    let p = err_from_is_err_and c.from_residual.result c.from_residual.ensures.1 in
    rw (p.1, p.2)
    (or_weaker
    (λ h. then_err (Repeats (ends_list x) (AnotherScalar x) _ c.args.from) Closing _
    (reach_fails (ends_list x) (AnotherScalar x) _ _ before c.items.at _ c.items.invariant.read (sym c.is_mark.ensures.is ∙ c.items-test.true) (then_err (NextScalar x c.items.at) (WithPlaced before) _ h)))
    c.in_err-item.ensures.read)

pub returns-clause-read : goal.returns-clause-read
returns-clause-read c =
    let x = text_of c.args.self.now in
    let all = map placed_view c.items.items.items in
    then_ok (Repeats (ends_list x) (AnotherScalar x) _ c.args.from) Closing all c.items.at _
    (reach_ends (ends_list x) (AnotherScalar x) _ _ all c.items.at c.items.invariant.read (sym c.is_mark.ensures.is ∙ c.items-test.false)) refl
