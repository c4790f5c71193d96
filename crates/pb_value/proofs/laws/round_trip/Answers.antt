use Rattle.pb_value.proofs.BodyBack.{value-canon}
use Rattle.pb_value.proofs.RoundTrip.{canonical_text, only_text}
use Rattle.pb_value.proofs.laws.round_trip.Goals as goal

pub returns : goal.returns
returns c = record {
  text = λ pool rules m v. canonical_text pool m v rules;
  only = λ pool rules m v w. only_text pool m v w rules;
  value = λ pool rules m v. value-canon pool m v rules;
}
