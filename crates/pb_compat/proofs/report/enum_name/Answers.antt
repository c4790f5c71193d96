use Rattle.pb_compat.proofs.NameLemmas.{enum_name_is_text}
use Rattle.pb_compat.proofs.report.enum_name.Goals as goal

pub unreachable-requires : goal.unreachable-requires
unreachable-requires c =
    c.in-Err.ensures (enum_name_is_text c.args.pool.now c.enums.ensures.rules c.args.entry.0 c.enum_name.result.now c.enum_name.ensures.found)
