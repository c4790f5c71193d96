use Rattle.std.proofs.Common.{◌≡◌, ◌+◌, ◌*◌, ◌/◌, ◌%◌, ◌∙◌, ap, arith}
use Rattle.std.specs.Prelude.{pos, ◌+ℤ◌, unsigned_abs}
use Rattle.std.proofs.lemmas.Int.{to_z-of_z}
use Rattle.pb_output.proofs.SinkLemmas.{puts_then}
use Rattle.pb_json.specs.Json.{instant}
use Rattle.pb_json.specs.JsonText.{IsJsonText}
use Rattle.pb_json.proofs.PrintLemmas.{prints_known}
use Rattle.pb_json.proofs.TimeLemmas.{instant_shown}
use Rattle.pb_json.proofs.times.put_instant.Goals as goal

pub returns : goal.returns
returns g c = λ layout indent.
    let fits_seconds = c.ranges.seconds in
    let fits_nanos = c.ranges.nanos in
    let since = c.since_year_one-since.result in
    let counted : pos since ≡ c.args.seconds +ℤ pos 62_135_596_800 = simp to_z-of_z at c.since_year_one-since.ensures.counted in
    let parts : since / 86_400 * 86_400 + since % 86_400 ≡ since = omega arith in
    let nanos : c.unsigned_abs.result ≡ unsigned_abs c.args.nanos = simp to_z-of_z at c.unsigned_abs.ensures.value in
    prints_known (IsJsonText layout indent (instant c.args.seconds c.args.nanos))
    (instant_shown layout indent c.args.seconds c.args.nanos (since / 86_400) (since % 86_400) c.put_day.ensures.bytes (omega arith) (ap pos parts ∙ counted) c.put_day.ensures.is)
    (puts_then (puts_then (puts_then (puts_then (puts_then c.put.ensures c.put_day.ensures.puts) c.put-2.ensures) c.put_time.ensures) (rw nanos at c.put_fraction.ensures)) c.put-3.ensures)
