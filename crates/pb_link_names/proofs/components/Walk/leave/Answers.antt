use Rattle.std.proofs.Common.{refl, sym, ◌∙◌, arith}
use Rattle.pb_graphs.specs.Flat.{lists_of}
use Rattle.pb_link_names.specs.declared.components.Progress.TheVariants.{Open}
use Rattle.pb_link_names.proofs.ComponentLemmas.{work_seen, seen_within}
use Rattle.pb_link_names.proofs.components.Walk.leave.Goals as goal

pub returns-else-first-place-clause-work : goal.returns-else-first-place-clause-work
returns-else-first-place-clause-work c =
    let P = c.args.self.now.progress in
    let within = seen_within P.items c.args.index (Open c.in-Open.place) (sym c.progress_of.ensures ∙ c.in-Open.is) (λ e. cc) in
    omega (arith, work_seen (lists_of c.args.graph.now) P.items c.args.index (Open c.first_place-first.result) within refl)
