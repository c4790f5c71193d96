use Rattle.std.proofs.Common.{rules}
use Rattle.std.specs.Fmt.{signed_decimal}
use Rattle.pb_output.specs.Sink.{Puts}
use Rattle.pb_output.proofs.SinkLemmas.{puts_then}
use Rattle.pb_listing.proofs.types.put_enum_value.Goals as goal

pub returns : goal.returns
returns g c =
    let name = rw (c.as_bytes.ensures.value, c.as_str.ensures.value) at c.put-4.ensures in
    let number : Puts g.O.Output.written g.O.Output.failures c.put-5.new.out c.put_number.new.out c.put-5.new.self c.put_number.new.sink
    (signed_decimal c.args.number) = search rules in
    let named = puts_then (puts_then (puts_then c.put.ensures c.put-2.ensures) c.put-3.ensures) name in
    puts_then (puts_then (puts_then named c.put-5.ensures) number) c.put-6.ensures
