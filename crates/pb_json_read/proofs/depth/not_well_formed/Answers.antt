use Rattle.std.proofs.Common.{inl, inr, refl}
use Rattle.pb_json_read.proofs.depth.not_well_formed.Goals as goal

pub returns-in-Memory : goal.returns-in-Memory
returns-in-Memory c = inl (c.in-Memory.is, c.out_of_memory.ensures)

pub returns-in_default : goal.returns-in_default
returns-in_default c = inr (c.in_default.not-Memory, refl)
