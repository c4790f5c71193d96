use Rattle.pb_json_read.proofs.ValueLemmas.{plain_without}
use Rattle.pb_json_read.proofs.plain.read_plain.Goals as goal

pub returns-in-None : goal.returns-in-None
returns-in-None c =
    plain_without c.args.context.now.pool.now c.args.context.now.rules c.args.kind _ _ c.without_value.result (rw (c.in-None.is) at c.in_ok-read.ensures)
    c.without_value.ensures.passed c.without_value.ensures.refused
