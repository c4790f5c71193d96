use Rattle.std.proofs.Common.{◌≡◌, ℤ, Some, pos, rules, sym, ap, ◌∙◌, to_z, of_z, w32}
use Rattle.pb_json_scalars.proofs.ClockLemmas.{days_found}
use Rattle.pb_json_scalars.proofs.times.days.Goals as goal

pub returns-in-Ok : goal.returns-in-Ok
returns-in-Ok c =
    let year : c.in-Ok.date.year ≡ pos c.args.year = search (rules, c.in-Ok.ensures.value) in
    let month : pos c.in-Ok.date.month ≡ pos c.args.month = search (rules, c.in-Ok.ensures.value) in
    let day : pos c.in-Ok.date.day ≡ pos c.args.day = search (rules, c.in-Ok.ensures.value) in
    let same : c.to_unix_epoch_day.result ≡ to_z w32 (of_z w32 c.to_unix_epoch_day.result) = search rules in
    record {
      is =
          ap (λ (z : ℤ). Some z) (sym same)
          ∙ days_found c.to_unix_epoch_day.result c.in-Ok.date c.args.year c.args.month c.args.day year month day c.to_unix_epoch_day.ensures.value;
    }
