use Rattle.std.proofs.Common.{◌+◌}
use Rattle.pbtool_files.proofs.KnownLemmas.{first_read}
use Rattle.pbtool_files.proofs.reading.read_input.Goals as goal

pub returns-in-Ok-clause-read : goal.returns-in-Ok-clause-read
returns-in-Ok-clause-read g c =
    first_read g.I.Input.left g.I.Input.is_steady c.args.input.now (c.args.limits.bytes + 1) c.in-Ok.text.items (rw c.max_bytes.ensures.same at c.in-Ok.ensures.bytes)
