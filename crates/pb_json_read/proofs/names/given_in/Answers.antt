use Rattle.std.proofs.Common.{ap, ◌∙◌}
use Rattle.std.specs.Prelude.{find}
use Rattle.pb_schema.specs.Types.{FieldView, message_fields}
use Rattle.pb_schema.proofs.LookupLemmas.{found_rules}
use Rattle.pb_json.specs.Given.{name_given}
use Rattle.pb_json_read.specs.Names.{is_given}
use Rattle.pb_json_read.proofs.NameLemmas.{none_found}
use Rattle.pb_json_read.proofs.names.given_in.Goals as goal

pub returns-then-is_empty-clause-found : goal.returns-then-is_empty-clause-found
returns-then-is_empty-clause-found c =
    none_found c.args.names.now c.args.message.0 (message_fields c.args.pool.now c.args.message.0) c.args.name.now (c.is_empty.ensures.0 c.if-is_empty.true)

pub returns-clause-rules : goal.returns-clause-rules
returns-clause-rules c =
    let test = λ (f : FieldView). is_given (name_given c.args.names.now c.args.message.0 f.number) c.args.name.now in
    found_rules c.args.pool.now c.args.message.0 test c.find_given.result c.fields_of.ensures.rules (c.find_given.ensures ∙ ap (find test) c.fields_of.ensures.listed)
