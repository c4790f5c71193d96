use Rattle.std.proofs.Common.{refl, ap, length}
use Rattle.pb_output.proofs.SinkLemmas.{flushed, flush_cut}
use Rattle.pb_output.proofs.sink.Sink.write_held.Goals as goal

pub returns-in-Ok-clause-puts : goal.returns-in-Ok-clause-puts
returns-in-Ok-clause-puts g c =
    flushed _ c.requires c.in-Ok.ensures.kept (rw c.as_slice-2.ensures at c.in-Ok.ensures.ok) c.clear.ensures c.requires (ap length c.as_slice.ensures) c.saturating_add-self.ensures

pub returns-in-Err-clause-puts : goal.returns-in-Err-clause-puts
returns-in-Err-clause-puts g c =
    flush_cut c.in-Err.fault.written c.requires c.in-Err.ensures.failed (rw c.as_slice-2.ensures at c.in-Err.ensures.part) refl c.saturating_add-self-in-Err.ensures
