use Rattle.pb_output.proofs.SinkLemmas.{puts_then}
use Rattle.pb_listing.proofs.types.put_field.Goals as goal

pub returns : goal.returns
returns g c =
    let name = rw (c.as_bytes.ensures.value, c.as_str.ensures.value) at c.put-4.ensures in
    let number = rw c.from.ensures at c.put_natural.ensures in
    let named = puts_then (puts_then (puts_then c.put.ensures c.put-2.ensures) c.put-3.ensures) name in
    puts_then (puts_then (puts_then (puts_then (puts_then named c.put-5.ensures) number) c.put-6.ensures) c.put_type.ensures) c.put-7.ensures
