use Rattle.pb_canonical.proofs.ScalarLemmas.{number_written, number_fits}
use Rattle.pb_canonical.proofs.scalars.is_written_number.Goals as goal

pub returns : goal.returns
returns c = (
  λ e. number_written c.args.pool.now c.args.kind c.args.number c.ranges.number.fits (c.is_number.ensures.0 e),
  λ x. c.is_number.ensures.1 (number_fits c.args.pool.now c.args.kind c.args.number x),
)
