use Rattle.pb_value.proofs.ValueLemmas.{value_is_well_formed, derived_is_well_formed}
use Rattle.pb_value.proofs.laws.well_formed_values.Goals as goal

pub returns : goal.returns
returns c = record { records = value_is_well_formed; bytes = derived_is_well_formed }
