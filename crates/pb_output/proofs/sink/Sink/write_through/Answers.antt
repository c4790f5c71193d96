use Rattle.std.proofs.Common.{refl}
use Rattle.pb_output.proofs.SinkLemmas.{went_through, cut_through}
use Rattle.pb_output.proofs.sink.Sink.write_through.Goals as goal

pub returns-in-Ok : goal.returns-in-Ok
returns-in-Ok g c = went_through _ c.requires.empty c.requires.open c.in-Ok.ensures.kept c.in-Ok.ensures.ok refl c.requires.open refl c.saturating_add-self.ensures

pub returns-in-Err : goal.returns-in-Err
returns-in-Err g c =
    cut_through c.in-Err.fault.written c.requires.empty c.requires.open c.in-Err.ensures.failed c.in-Err.ensures.part refl c.saturating_add-self-in-Err.ensures
