use Rattle.pb_input.proofs.HeldLemmas.{later_part}
use Rattle.pb_input.proofs.buffered.BufferedInput.advance.Goals as goal

pub returns-clause-held : goal.returns-clause-held
returns-clause-held g c =
    let i = c.self.inside in
    rw (← c.self.view_is) (later_part i.bytes i.start c.args.count i.end (rw (← c.self.view_is) at c.requires))
