-- What is not UTF-8 names no field.
use Rattle.std.proofs.Common.{refl}
use Rattle.pb_schema.specs.Tables.{field_named}
use Rattle.pb_schema.specs.Types.{message_fields}
use Rattle.pb_c.proofs.FieldNames.{field_name_is_text, none_where}
use Rattle.pb_c.proofs.pool.field.find_field.Goals as goal

pub returns-in_default-from_utf8-clause-found : goal.returns-in_default-from_utf8-clause-found
returns-in_default-from_utf8-clause-found c within = (
  refl,
  none_where (field_named c.args.name.now (message_fields c.args.pool.now c.args.number)) (λ f found.
      c.in_default-from_utf8.ensures.cases.0 (field_name_is_text c.args.pool.now c.messages-messages.ensures.rules c.args.number c.args.name.now f found)),
)
