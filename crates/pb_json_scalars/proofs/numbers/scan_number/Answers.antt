use Rattle.std.proofs.Common.{sym, ◌∙◌, true≢false}
use Rattle.pb_json_scalars.proofs.ScanLemmas.{number_found, number_passes, number_scanned}
use Rattle.pb_json_scalars.proofs.numbers.scan_number.Goals as goal

pub returns-then-is_number-clause-found : goal.returns-then-is_number-clause-found
returns-then-is_number-clause-found c =
    number_scanned c.args.characters.now c.without_minus-unsigned.result.now c.has_minus.result c.scan-size.result c.without_minus-unsigned.ensures
    c.scan-size.ensures.parts (sym c.is_number.ensures ∙ c.if-is_number.true) c.has_minus.ensures

pub returns-then-is_number-clause-whole : goal.returns-then-is_number-clause-whole
returns-then-is_number-clause-whole c = λ n is.
    number_found c.args.characters.now c.without_minus-unsigned.result.now c.has_minus.result c.scan-size.result n c.without_minus-unsigned.ensures
    c.scan-size.ensures.parts c.has_minus.ensures is

pub returns-else-is_number-clause-whole : goal.returns-else-is_number-clause-whole
returns-else-is_number-clause-whole c = λ n is.
    true≢false (sym (c.is_number.ensures ∙ number_passes c.args.characters.now c.without_minus-unsigned.result.now c.scan-size.result n
    c.without_minus-unsigned.ensures c.scan-size.ensures.parts is) ∙ c.if-is_number.false)
