use Rattle.pb_wire.proofs.PathBounds.{bounded, leveled, text_path}
use Rattle.pb_wire.proofs.laws.path_bounds.Goals as goal

pub returns-clause-here : goal.returns-clause-here
returns-clause-here g c = λ reading group o depth_left p f once plain bad. (bounded once bad).plainly plain

pub returns-clause-text : goal.returns-clause-text
returns-clause-text g c = λ reading group d limits b f once plain bad. text_path _ (λ p e inner. (bounded once inner).plainly plain) bad

pub returns-clause-levels : goal.returns-clause-levels
returns-clause-levels g c = λ reading group o depth_left p f uses bad. leveled uses bad

pub returns-clause-text_levels : goal.returns-clause-text_levels
returns-clause-text_levels g c = λ reading group d limits b f uses bad. text_path _ (λ p e inner. leveled uses inner) bad
