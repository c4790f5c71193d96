use Rattle.std.proofs.Common.{sym, ◌∙◌}
use Rattle.pb_c_message.proofs.Canonical.{text_value}
use Rattle.pb_c_message.proofs.keeping.build.Goals as goal

pub returns-in-Ok-clause-body : goal.returns-in-Ok-clause-body
returns-in-Ok-clause-body c =
    c.into_body.ensures ∙ sym (text_value c.args.pool.now c.args.message_type.0 _ c.args.bytes.now c.in-Ok.message.body c.requires.canonical.small c.in-Ok.ensures.value)
