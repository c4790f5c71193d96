-- The answer of an empty handle is none of the others.
use Rattle.std.proofs.Common.{inr}
use Rattle.pb_c.proofs.ChangeAnswers.{not_empty}
use Rattle.pb_c.proofs.message.change.change_held.Goals as goal

pub returns-clause-empty : goal.returns-clause-empty
returns-clause-empty c =
    (λ is. absurd (not_empty c.change_own-answer.result c.change_own-answer.ensures.answers is), λ none. absurd (let taken = c.in-Some.ensures.taken in let gone = none in cc))

pub returns-clause-answers : goal.returns-clause-answers
returns-clause-answers c = inr c.change_own-answer.ensures.answers
