use Rattle.std.proofs.Common.{refl}
use Rattle.pb_text.proofs.FloatLemmas.{plain_number}
use Rattle.pb_text.proofs.floats.put_float_either.Goals as goal

pub returns-then-is_float : goal.returns-then-is_float
returns-then-is_float g c = (c.args.text.now, (c.if-is_float.ensures.number refl, c.if-is_float.ensures.read refl), c.put.ensures)

pub returns-else-is_float : goal.returns-else-is_float
returns-else-is_float g c = (c.args.other.now, (plain_number c.args.other.now c.requires.plain, c.requires.read), c.put-else-is_float.ensures)
