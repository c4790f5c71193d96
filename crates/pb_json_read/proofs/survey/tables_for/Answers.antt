use Rattle.pb_json_read.proofs.survey.tables_for.Goals as goal

pub returns-then-bytes-lt-SHORT : goal.returns-then-bytes-lt-SHORT
returns-then-bytes-lt-SHORT c = c.none.ensures c.args.pool.now c.args.names.now

pub visit_message-requires-clause-tables : goal.visit_message-requires-clause-tables
visit_message-requires-clause-tables c = c.none-tables.ensures c.args.pool.now c.args.names.now
