use Rattle.pb_value.proofs.NameOrder.{parent_before}
use Rattle.pb_value.proofs.full_name.type_around.Goals as goal

pub returns : goal.returns
returns c =
    parent_before c.args.pool.now c.args.message_type.0 c.declared_in.result c.declared_in.ensures.rules c.declared_in.ensures.parent
