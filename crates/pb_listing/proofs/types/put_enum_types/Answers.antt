use Rattle.pb_output.proofs.SinkLemmas.{puts_then}
use Rattle.pb_listing.specs.TypesListing.{enum_lines_at}
use Rattle.pb_listing.proofs.TypesLemmas.{below_next}
use Rattle.pb_listing.proofs.types.put_enum_types.Goals as goal

pub loop-index-preserved : goal.loop-index-preserved
loop-index-preserved g c = rw (below_next c.loop-index.index (enum_lines_at c.args.pool.now)) (puts_then c.loop-index.invariant c.put_enum_type.ensures)
