use Rattle.std.proofs.Common.{sym, subst}
use Rattle.pb_schema.specs.Rules.{IsPool}
use Rattle.pb_link.proofs.PoolLemmas.{linked_pool}
use Rattle.pb_link.proofs.laws.linked_types.Goals as goal

pub returns : goal.returns
returns c = record { pool = λ files ts h. subst IsPool (sym h.made) (linked_pool files h.world h.is_world h.holds) }
