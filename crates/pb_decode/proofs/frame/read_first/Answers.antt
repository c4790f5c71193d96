-- What was read is a prefix of the buffer.
use Rattle.std.proofs.Common.{take, arith}
use Rattle.std.proofs.lemmas.List.{length-take}
use Rattle.pb_decode.proofs.frame.read_first.Goals as goal

pub returns-clause-most : goal.returns-clause-most
returns-clause-most g c = let size = length-take c.in-Ok.count c.read.new.into in let wanted = c.min-wanted.ensures in (take c.in-Ok.count c.read.new.into, omega (arith, size, wanted), c.in-Ok.ensures.bytes.0)
