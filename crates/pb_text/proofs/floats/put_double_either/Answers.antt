use Rattle.std.proofs.Common.{refl}
use Rattle.pb_text.proofs.FloatLemmas.{plain_number}
use Rattle.pb_text.proofs.floats.put_double_either.Goals as goal

pub returns-then-is_double : goal.returns-then-is_double
returns-then-is_double g c = (c.args.text.now, (c.if-is_double.ensures.number refl, c.if-is_double.ensures.read refl), c.put.ensures)

pub returns-else-is_double : goal.returns-else-is_double
returns-else-is_double g c = (c.args.other.now, (plain_number c.args.other.now c.requires.plain, c.requires.read), c.put-else-is_double.ensures)
