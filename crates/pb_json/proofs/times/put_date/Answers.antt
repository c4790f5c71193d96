use Rattle.std.proofs.Common.{◌≡◌, ◌∙◌, ap, of_z, rules, sym, to_z, w16}
use Rattle.std.specs.Prelude.{unsigned_abs}
use Rattle.jiff_core.specs.Date.{epoch_day}
use Rattle.pb_output.proofs.SinkLemmas.{puts_then}
use Rattle.pb_json.specs.Times.{IsDateText}
use Rattle.pb_json.proofs.PrintLemmas.{prints_known}
use Rattle.pb_json.proofs.TimeLemmas.{date_shown}
use Rattle.pb_json.proofs.times.put_date.Goals as goal

pub returns : goal.returns
returns g c =
    let same : c.args.date.year ≡ to_z w16 (of_z w16 c.args.date.year) = search rules in
    let e : c.unsigned_abs-year.result ≡ unsigned_abs c.args.date.year = c.unsigned_abs-year.ensures.value ∙ ap unsigned_abs (sym same) in
    let year = puts_then c.put_two.ensures c.put_two-2.ensures in
    prints_known (IsDateText (epoch_day c.args.date)) (date_shown c.args.date c.requires)
    (puts_then (puts_then (puts_then (puts_then (rw e at year) c.put.ensures) c.put_two-3.ensures) c.put-2.ensures) c.put_two-4.ensures)
