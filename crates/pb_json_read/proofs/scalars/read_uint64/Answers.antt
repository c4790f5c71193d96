use Rattle.std.proofs.Common.{sym, rules}
use Rattle.pb_json_read.proofs.ScalarLemmas.{natural_only}
use Rattle.pb_json_read.proofs.scalars.read_uint64.Goals as goal

pub returns : goal.returns
returns c = natural_only _ _ c.read_u64.result _ (sym c.in_ok-characters.ensures) c.read_u64.ensures.read (search rules) c.read_u64.ensures.all
