use Rattle.std.proofs.Common.{arith}
use Rattle.std.proofs.lemmas.Grind.{common_steps}
use Rattle.pb_schema.proofs.WordLemmas.{rest_passes-drop}
use Rattle.pb_schema.proofs.names.words.is_package.Goals as goal

pub returns-then-not-may_stand : goal.returns-then-not-may_stand
returns-then-not-may_stand c =
    let step = rest_passes-drop c.loop-byte.at_start c.args.name.now c.loop-byte.byte-index (omega arith) in
    grind (arith, common_steps)

pub loop-byte-preserved : goal.loop-byte-preserved
loop-byte-preserved c = grind (arith, common_steps, rest_passes-drop)
