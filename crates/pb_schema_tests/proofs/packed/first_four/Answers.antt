use Rattle.pb_schema_tests.proofs.PackedReads.{four_cuts}
use Rattle.pb_schema_tests.proofs.packed.first_four.Goals as goal

pub returns-clause-some : goal.returns-clause-some
returns-clause-some c = four_cuts c.args.bytes.now c.from_le_bytes.result c.if-bytes-lt4.false c.from_le_bytes.type_inv c.from_le_bytes.ensures
