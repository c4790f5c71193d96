use Rattle.std.proofs.Common.{sym, subst}
use Rattle.pb_graphs.specs.Reach.{IsGraph}
use Rattle.pb_graphs.specs.Cycles.{IsAcyclic}
use Rattle.pb_schema.proofs.ImportLemmas.{is_graph, acyclic_files}
use Rattle.pb_schema.proofs.imports.cycles.no_file_reaches_itself.Goals as goal

pub is_acyclic-requires : goal.is_acyclic-requires
is_acyclic-requires c = subst IsGraph (sym c.in_ok-flat.ensures) (is_graph c.args.files.now c.requires)

pub returns : goal.returns
returns c =
    let alike = acyclic_files c.args.files.now in
    let same = c.in_ok-flat.ensures in (
      λ holds. alike.0 (subst IsAcyclic same (c.in_ok-holds.ensures.0 holds)),
      λ none. c.in_ok-holds.ensures.1 (subst IsAcyclic (sym same) (alike.1 none)),
    )
