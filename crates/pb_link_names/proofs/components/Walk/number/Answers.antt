use Rattle.std.proofs.Common.{refl, arith}
use Rattle.pb_link_names.specs.declared.components.Progress.TheVariants.{Numbered}
use Rattle.pb_link_names.proofs.ComponentLemmas.{work_seen}
use Rattle.pb_link_names.proofs.components.Walk.number.Goals as goal

pub returns-clause-work : goal.returns-clause-work
returns-clause-work c graph =
    let P = c.args.self.now.progress in
    omega (arith, work_seen graph P.items c.args.index Numbered (omega (arith, c.requires.within, P.ok.0)) refl)
