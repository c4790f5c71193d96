use Rattle.std.proofs.Common.{◌∙◌, ap, sym}
use Rattle.pb_source_tokens.specs.Texts.{number_from}
use Rattle.pb_source_tokens.proofs.PieceLemmas.{tail, some_bytes}
use Rattle.pb_source_tokens.proofs.TextSteps.{unicode_within}
use Rattle.pb_source_tokens.proofs.text.escape_len.Goals as goal

pub returns-then-is_scalar-2-clause-within : goal.returns-then-is_scalar-2-clause-within
returns-then-is_scalar-2-clause-within c =
    let bs = c.args.bytes.now in
    let found = c.number_at-len-then-byte-eq85 in
    unicode_within 16 8 0 bs (ap (λ t. (number_from 16 0 8 t).0) (sym (tail bs)) ∙ sym (ap (λ r. r.0) found.ensures) ∙ c.if-len-eq8.true) (some_bytes bs c.if-is_empty.ensures)
