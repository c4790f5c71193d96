use Rattle.std.proofs.Common.{[], ◌∷◌}
use Rattle.pb_find.proofs.OnlyLemmas.{only_text, only_given, one_given, no_fault_given}
use Rattle.pb_find.proofs.reading.only_payload.Goals as goal

pub unreachable-requires : goal.unreachable-requires
unreachable-requires c =
    no_fault_given c.requires c.new-records.result c.next.new.self _ (c.new-records.ensures.text (c.requires.only ∷ []) (only_text c.requires)) (rw c.in-Some-Err.field-0-is at c.in-Some-Err.ensures.steps)

pub unreachable-requires-in-None : goal.unreachable-requires-in-None
unreachable-requires-in-None c =
    one_given c.requires c.new-records.result c.next.new.self (c.new-records.ensures.text (c.requires.only ∷ []) (only_text c.requires)) c.in-None.ensures.steps

pub returns : goal.returns
returns c = λ one.
    only_given one c.new-records.result c.next.new.self (c.in-Some-Ok.field-0-0-0, c.in-Some-Ok.payload) (c.new-records.ensures.text (one.only ∷ []) (only_text one))
    (rw c.in-Some-Ok.field-0-is at c.in-Some-Ok.ensures.steps)
