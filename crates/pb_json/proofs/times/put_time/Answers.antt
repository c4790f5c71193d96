use Rattle.pb_output.proofs.SinkLemmas.{puts_then}
use Rattle.pb_json.proofs.times.put_time.Goals as goal

pub returns : goal.returns
returns g c =
    puts_then (puts_then (puts_then (puts_then c.put_two.ensures c.put.ensures) c.put_two-2.ensures) c.put-2.ensures) c.put_two-3.ensures
