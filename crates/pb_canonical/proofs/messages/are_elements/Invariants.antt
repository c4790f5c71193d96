use Rattle.std.proofs.Common.{length}
use Rattle.pb_canonical.specs.Parts.{AreElements}
use Rattle.pb_canonical.proofs.messages.are_elements.Given as goal

-- what is left is elements where the whole is
abbrev pub invariant-elements : goal.invariant-elements
invariant-elements l = record {
  whole : AreElements l.pool l.kind l.rest → AreElements l.pool l.kind l.bytes;
  left : AreElements l.pool l.kind l.bytes → AreElements l.pool l.kind l.rest;
}

abbrev pub decreases-elements : goal.decreases-elements
decreases-elements l = length l.rest
