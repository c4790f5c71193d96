use Rattle.std.proofs.Common.{[], ◌∷◌, ◌∙◌, subst, arith, string_bytes}
use Rattle.pb_schema.specs.Names.Declared.{Adds}
use Rattle.pb_schema.proofs.DeclareLemmas.{Adds-none, adds_more, words_added}
use Rattle.pb_schema.proofs.names.declared.Declarations.add_oneofs.Goals as goal

pub loop-name-init : goal.loop-name-init
loop-name-init c = Adds-none c.args.scope c.args.self.now

pub loop-name-preserved : goal.loop-name-preserved
loop-name-preserved c =
    adds_more c.args.scope (λ n. string_bytes n ∷ []) c.args.oneofs.now c.loop-name.name-index c.name-item.result c.args.self.now c.loop-name.self _ (omega arith) c.name-item.is c.loop-name.invariant (subst (λ n. Adds c.args.scope (n ∷ []) c.loop-name.self c.add_word.new.self) (c.as_bytes.ensures.value ∙ c.as_str.ensures.value) c.in_ok-add_word.ensures)

pub returns : goal.returns
returns c =
    subst (λ l. Adds c.args.scope l c.args.self.now c.loop-name.self) (words_added string_bytes c.args.oneofs.now c.loop-name.name-index (omega arith)) c.loop-name.invariant
