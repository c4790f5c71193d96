use Rattle.std.proofs.Common.{refl}
use Rattle.pb_schema.specs.Names.Declared.{named_in}
use Rattle.pb_schema.proofs.DeclareLemmas.{added_one}
use Rattle.pb_schema.proofs.names.declared.Declarations.add.Goals as goal

pub returns : goal.returns
returns c may =
    added_one c.args.self.now _ (named_in c.args.self.now c.args.scope c.args.word.now) c.in_ok-index.index c.in_ok-index.is_new (c.in_ok-index.ensures may.tree may.in_tree may.words.0) refl
