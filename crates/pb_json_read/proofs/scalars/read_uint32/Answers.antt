use Rattle.std.proofs.Common.{sym, rules}
use Rattle.pb_json_read.proofs.ScalarLemmas.{natural_only}
use Rattle.pb_json_read.proofs.scalars.read_uint32.Goals as goal

pub returns : goal.returns
returns c = natural_only _ _ c.read_u32.result _ (sym c.in_ok-characters.ensures) c.read_u32.ensures.read (search rules) c.read_u32.ensures.all
