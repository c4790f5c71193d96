-- What was read is a prefix of the buffer.
use Rattle.std.proofs.Common.{take, arith}
use Rattle.std.proofs.lemmas.List.{length-take}
use Rattle.pb_decode.proofs.from_device.read_piece.Goals as goal

pub returns-in_err-take_onward-clause-most : goal.returns-in_err-take_onward-clause-most
returns-in_err-take_onward-clause-most g c = let size = length-take c.in-Ok.count c.read.new.into in (take c.in-Ok.count c.read.new.into, omega (arith, size), c.in-Ok.ensures.bytes.0)

pub returns-clause-most : goal.returns-clause-most
returns-clause-most g c = let size = length-take c.in-Ok.count c.read.new.into in (take c.in-Ok.count c.read.new.into, omega (arith, size), c.in-Ok.ensures.bytes.0)
