use Rattle.pb_compat.proofs.EffectLemmas.{lost_are_passed_on, converted_are_kept, presence_is_turned}
use Rattle.pb_compat.proofs.laws.effects.Goals as goal

pub returns-clause-loses : goal.returns-clause-loses
returns-clause-loses c = lost_are_passed_on

pub returns-clause-converts : goal.returns-clause-converts
returns-clause-converts c = converted_are_kept

pub returns-clause-presence : goal.returns-clause-presence
returns-clause-presence c = presence_is_turned
