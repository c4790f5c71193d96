use Rattle.std.proofs.Common.{◌∙◌}
use Rattle.pb_json_scalars.proofs.PathLemmas.{utf8_test}
use Rattle.pb_json_scalars.proofs.masks.is_utf8.Goals as goal

pub returns : goal.returns
returns c = c.is_ok.ensures.value ∙ utf8_test c.from_utf8.result c.args.bytes.now _ _ c.from_utf8.ensures.cases
