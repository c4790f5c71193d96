use Rattle.std.proofs.Common.{arith}
use Rattle.pb_wire.proofs.UnknownLemmas.{payload_of-Group}
use Rattle.pb_value.proofs.Views.{group_depth-group_of}
use Rattle.pb_value.proofs.judge.depth.+records_within.Goals as goal

pub payload_within-returns-then-limit-gt0 : goal.payload_within-returns-then-limit-gt0
payload_within-returns-then-limit-gt0 t c =
    rw (c.in-Group.is, payload_of-Group, group_depth-group_of) (
      λ h. let inside = rw c.deref.ensures.value at (c.records_within.ensures.0 h) in omega (arith, inside),
      λ h. c.records_within.ensures.1 (rw c.deref.ensures.value (omega (arith, h))),
    )
