use Rattle.pb_output.proofs.SinkLemmas.{puts_then}
use Rattle.pb_listing.proofs.types.put_head.Goals as goal

pub returns : goal.returns
returns g c =
    let file = rw c.file_name.ensures at c.put-4.ensures in
    puts_then (puts_then (puts_then (puts_then c.put.ensures c.put-2.ensures) c.put-3.ensures) file) c.put-5.ensures
