use Rattle.pb_compat.proofs.PackedLemmas.{packed_is_shown}
use Rattle.pb_compat.proofs.MapLemmas.{map_is_shown}
use Rattle.pb_compat.proofs.PairLemmas.{pair_is_shown}
use Rattle.pb_compat.proofs.ShownLemmas.{one_is_shown, shape_is_shown}
use Rattle.pb_compat.proofs.laws.witnessed.Goals as goal

pub returns-clause-value : goal.returns-clause-value
returns-clause-value c = one_is_shown

pub returns-clause-shape : goal.returns-clause-shape
returns-clause-shape c = shape_is_shown

pub returns-clause-pair : goal.returns-clause-pair
returns-clause-pair c = pair_is_shown

pub returns-clause-map : goal.returns-clause-map
returns-clause-map c = map_is_shown

pub returns-clause-packed : goal.returns-clause-packed
returns-clause-packed c = packed_is_shown
