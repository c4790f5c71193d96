use Rattle.std.proofs.Common.{ap, ◌∙◌}
use Rattle.std.specs.Prelude.{find}
use Rattle.std.specs.Str.{bytes_eq}
use Rattle.pb_schema.specs.Types.{FieldView}
use Rattle.pb_schema.proofs.LookupLemmas.{found_rules}
use Rattle.pb_json.specs.JsonNames.{json_name}
use Rattle.pb_json_read.proofs.names.in_json.Goals as goal

pub returns-clause-rules : goal.returns-clause-rules
returns-clause-rules c =
    let test = λ (f : FieldView). bytes_eq (json_name c.args.names.now c.args.message.0 f) c.args.name.now in
    found_rules c.args.pool.now c.args.message.0 test c.find_in_json.result c.fields_of.ensures.rules (c.find_in_json.ensures ∙ ap (find test) c.fields_of.ensures.listed)
