use Rattle.pb_wire.proofs.PathBounds.{bounded, text_path}
use Rattle.pb_schema.proofs.StepLemmas.{message_uses_levels, nests_once}
use Rattle.pb_schema.proofs.laws.path_bounds.Goals as goal

pub returns-clause-text : goal.returns-clause-text
returns-clause-text c = λ pool m limits b f bad. text_path _ (λ p e inner. (bounded (nests_once pool) inner).plainly (message_uses_levels pool m)) bad

pub returns-clause-here : goal.returns-clause-here
returns-clause-here c = λ pool m levels p f bad. (bounded (nests_once pool) bad).plainly (message_uses_levels pool m)
