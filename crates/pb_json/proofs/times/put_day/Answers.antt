use Rattle.pb_json.proofs.TimeLemmas.{late_year}
use Rattle.pb_json.proofs.times.put_day.Goals as goal

pub put_date-requires : goal.put_date-requires
put_date-requires g c = late_year c.from_days_since_min.result c.args.days c.from_days_since_min.ensures
