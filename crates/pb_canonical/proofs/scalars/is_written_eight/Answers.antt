use Rattle.pb_canonical.proofs.ScalarLemmas.{eight_written, eight_fits}
use Rattle.pb_canonical.proofs.scalars.is_written_eight.Goals as goal

pub returns : goal.returns
returns c = (
  λ e. eight_written c.args.pool.now c.args.kind c.args.number c.ranges.number.fits (c.is_eight_bytes.ensures.0 e),
  λ x. c.is_eight_bytes.ensures.1 (eight_fits c.args.pool.now c.args.kind c.args.number x),
)
