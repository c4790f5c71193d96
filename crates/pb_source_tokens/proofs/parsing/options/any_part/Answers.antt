use Rattle.std.proofs.Common.{sym, ◌∙◌}
use Rattle.std.proofs.lemmas.Result.{err_from_is_err_and}
use Rattle.pb_source_tokens.proofs.parsing.options.any_part.Goals as goal

pub returns-in_err-word-clause-read : goal.returns-in_err-word-clause-read
returns-in_err-word-clause-read c =
    let p = err_from_is_err_and c.from_residual.result c.from_residual.ensures.1 in
    rw (p.1, p.2) (λ n l. rw (sym c.begins_with_mark.ensures ∙ c.if-begins_with_mark.true) (c.in_err-word.ensures.read n l))

pub returns-then-begins_with_mark-clause-read : goal.returns-then-begins_with_mark-clause-read
returns-then-begins_with_mark-clause-read c = λ n l. rw (sym c.begins_with_mark.ensures ∙ c.if-begins_with_mark.true) (c.in_ok-word.ensures.read n l)
