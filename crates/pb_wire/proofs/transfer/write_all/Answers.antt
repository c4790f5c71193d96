use Rattle.std.proofs.Common.{rules}
use Rattle.std.proofs.lemmas.List.{take_rest}
use Rattle.pb_wire.proofs.Transfers.{appends_more}
use Rattle.pb_wire.proofs.transfer.write_all.Goals as goal

pub writing-preserved : goal.writing-preserved
writing-preserved g c = record {
  in_range = search rules;
  kept = search rules;
  sent = appends_more _ _ _ _ _ _ c.writing.invariant.sent (rw take_rest at c.in-Ok.ensures.bytes);
}
