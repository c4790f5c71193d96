use Rattle.pb_c.proofs.Copied.{text_within}
use Rattle.pb_c.proofs.typed.canonical.is_within.Goals as goal
use Rattle.pb_c.proofs.typed.canonical.is_within.Goals.{in-Ok, in-Err}

pub returns-then-are_greatest-clause-text : goal.returns-then-are_greatest-clause-text
returns-then-are_greatest-clause-text c = λ yes.
    text_within c.args.pool.now c.args.message_type.0 c.args.limits c.args.bytes.now c.requires.rules c.requires.canonical (c.are_greatest.ensures.bytes c.if-are_greatest.true)
    (c.are_greatest.ensures.depth c.if-are_greatest.true)

pub returns-clause-complete : goal.returns-clause-complete
returns-clause-complete c = λ v text. elim c.match-validate.branch [
  | in-Ok w ↦ w.result-is
  | in-Err w ↦ let accepted = w.in-Err.ensures.accepted v text in absurd (cc)
]
