use Rattle.pb_output.proofs.SinkLemmas.{puts_then}
use Rattle.pb_listing.proofs.types.put_enumerated.Goals as goal

pub returns : goal.returns
returns g c =
    let values = rw c.as_slice.ensures.value at c.put_enum_values.ensures in
    puts_then c.put_head.ensures values
