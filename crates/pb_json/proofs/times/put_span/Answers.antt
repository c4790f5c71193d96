use Rattle.std.proofs.Common.{◌≡◌, ◌||◌, List, ℕ, subst}
use Rattle.std.specs.Prelude.{int_lt, pos, unsigned_abs}
use Rattle.std.proofs.lemmas.Int.{to_z-of_z}
use Rattle.pb_output.proofs.SinkLemmas.{puts_then}
use Rattle.pb_output.specs.Sink.{Puts}
use Rattle.pb_json.proofs.TimeLemmas.{span_shown}
use Rattle.pb_json.proofs.times.put_span.Goals as goal

pub returns : goal.returns
returns g c =
    let fits_seconds = c.ranges.seconds in
    let fits_nanos = c.ranges.nanos in
    let negative : c.is_negative.result ≡ (int_lt c.args.seconds (pos 0) || int_lt c.args.nanos (pos 0)) = simp to_z-of_z at c.is_negative.ensures in
    let seconds : c.unsigned_abs.result ≡ unsigned_abs c.args.seconds = simp to_z-of_z at c.unsigned_abs.ensures.value in
    let nanos : c.unsigned_abs-2.result ≡ unsigned_abs c.args.nanos = simp to_z-of_z at c.unsigned_abs-2.ensures.value in
    subst (λ (l : List ℕ). Puts g.O.Output.written g.O.Output.failures c.args.out.now c.put-2.new.out c.args.sink.now c.put-2.new.self l)
    (span_shown c.is_negative.result c.unsigned_abs.result c.unsigned_abs-2.result c.args.seconds c.args.nanos negative seconds nanos)
    (puts_then (puts_then (puts_then (puts_then c.put.ensures c.put_sign.ensures) c.put_natural.ensures) c.put_fraction.ensures) c.put-2.ensures)
