use Rattle.pb_schema_tests.proofs.PackedReads.{eight_cuts}
use Rattle.pb_schema_tests.proofs.packed.first_eight.Goals as goal

pub returns-clause-some : goal.returns-clause-some
returns-clause-some c =
    eight_cuts c.args.bytes.now c.from_le_bytes.result c.if-bytes-lt8.false c.from_le_bytes.type_inv c.from_le_bytes.ensures
