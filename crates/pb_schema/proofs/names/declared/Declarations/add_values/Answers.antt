use Rattle.std.proofs.Common.{[], ◌∷◌, ◌∙◌, subst, arith, string_bytes}
use Rattle.pb_schema.specs.Names.Declared.{Adds}
use Rattle.pb_schema.proofs.DeclareLemmas.{Adds-none, adds_more, words_added}
use Rattle.pb_schema.proofs.names.declared.Declarations.add_values.Goals as goal

pub loop-value-init : goal.loop-value-init
loop-value-init c = Adds-none c.args.scope c.args.self.now

pub loop-value-preserved : goal.loop-value-preserved
loop-value-preserved c =
    adds_more c.args.scope (λ v. string_bytes v.0 ∷ []) c.args.values.now c.loop-value.value-index c.value-item.result c.args.self.now c.loop-value.self _ (omega arith) c.value-item.is c.loop-value.invariant (subst (λ n. Adds c.args.scope (n ∷ []) c.loop-value.self c.add_word.new.self) (c.as_bytes.ensures.value ∙ c.as_str.ensures.value) c.in_ok-add_word.ensures)

pub returns : goal.returns
returns c =
    subst (λ l. Adds c.args.scope l c.args.self.now c.loop-value.self) (words_added (λ v. string_bytes v.0) c.args.values.now c.loop-value.value-index (omega arith)) c.loop-value.invariant
