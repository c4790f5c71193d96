use Rattle.std.proofs.Common.{ap, ◌∙◌, sym}
use Rattle.pb_schema.specs.Tables.{field_named}
use Rattle.pb_schema.specs.Types.{message_fields}
use Rattle.pb_c_paths.proofs.NameLemmas.{named_text, named_none}
use Rattle.pb_c_paths.proofs.path.named.Goals as goal

pub returns-in-Ok : goal.returns-in-Ok
returns-in-Ok c =
    c.field_by_name.ensures.found
    ∙ ap (λ w. field_named w (message_fields c.args.pool.now c.args.message.0)) c.in-Ok.ensures.cases.0
    ∙ sym (named_text c.args.pool.now c.args.message.0 c.args.name.now c.in-Ok.ensures.cases.1)

pub returns-in-Err : goal.returns-in-Err
returns-in-Err c = named_none c.args.pool.now c.args.message.0 c.args.name.now c.in-Err.ensures.cases.0
