use Rattle.std.proofs.Common.{◌∙◌, ap, sym}
use Rattle.std.specs.Prelude.{Bool}
use Rattle.pb_json.specs.Masks.{is_path}
use Rattle.pb_json.specs.Refusals.{unless}
use Rattle.pb_json.specs.declared.error.JsonCause.TheVariants as cause
use Rattle.pb_json.proofs.PathLemmas.{paths_more, paths_stop}
use Rattle.pb_json.proofs.masks.paths_cause.Goals as goal

pub loop-value-preserved : goal.loop-value-preserved
loop-value-preserved c =
    let below = rw c.deref-value-items.ensures.value at c.loop-value-test.true in
    let item = rw c.deref-value-items.ensures.value at c.value-item.is in
    c.loop-value.invariant
    ∙ paths_more c.args.values.now.items c.loop-value.value-index c.value-item.result below item
    (ap is_path (sym c.string_of.ensures) ∙ sym c.is_path.ensures ∙ c.if-not-is_path.false)

pub returns-then-not-is_path : goal.returns-then-not-is_path
returns-then-not-is_path c =
    let below = rw c.deref-value-items.ensures.value at c.loop-value-test.true in
    let item = rw c.deref-value-items.ensures.value at c.value-item.is in
    let bad = paths_stop c.args.values.now.items c.loop-value.value-index c.value-item.result below item
    (ap is_path (sym c.string_of.ensures) ∙ sym c.is_path.ensures ∙ c.if-not-is_path.true) in
    ap (λ (b : Bool). unless b cause.BadPath) (sym (c.loop-value.invariant ∙ bad))
