use Rattle.pb_canonical.proofs.ScalarLemmas.{four_written, four_fits}
use Rattle.pb_canonical.proofs.scalars.is_written_four.Goals as goal

pub returns : goal.returns
returns c = (
  λ e. four_written c.args.pool.now c.args.kind c.args.number c.ranges.number.fits (c.is_four_bytes.ensures.0 e),
  λ x. c.is_four_bytes.ensures.1 (four_fits c.args.pool.now c.args.kind c.args.number x),
)
