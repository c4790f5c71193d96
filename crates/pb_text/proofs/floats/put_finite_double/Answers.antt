use Rattle.pb_text.proofs.FloatLemmas.{plain_number}
use Rattle.pb_text.proofs.floats.put_finite_double.Goals as goal

pub returns-in-None : goal.returns-in-None
returns-in-None g c = (c.args.shortest.now, (plain_number c.args.shortest.now c.requires.plain, c.requires.read), c.put.ensures)
