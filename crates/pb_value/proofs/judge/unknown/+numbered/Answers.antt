use Rattle.pb_wire.proofs.UnknownLemmas.{payload_of-Group}
use Rattle.pb_wire.proofs.WritingLemmas.{in_range_group}
use Rattle.pb_value.proofs.judge.unknown.+numbered.Goals as goal

pub is_numbered-returns-in-Group-clause-test : goal.is_numbered-returns-in-Group-clause-test
is_numbered-returns-in-Group-clause-test t c = rw (c.in-Group.is, payload_of-Group, ← c.deref-in-Group.ensures.value) c.are_numbered.ensures.test

pub is_numbered-returns-in-Group-clause-in_range : goal.is_numbered-returns-in-Group-clause-in_range
is_numbered-returns-in-Group-clause-in_range t c =
    rw (c.in-Group.is, payload_of-Group, ← c.deref-in-Group.ensures.value) (λ h. in_range_group _ (c.are_numbered.ensures.in_range h))
