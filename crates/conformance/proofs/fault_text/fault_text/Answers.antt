use Rattle.std.proofs.Common.{append_assoc}
use Rattle.conformance.proofs.fault_text.fault_text.Goals as goal

pub returns : goal.returns
returns c = simp append_assoc (rw c.in_ok-path.ensures at c.in_ok-text.ensures.ok)
