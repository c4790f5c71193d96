use Rattle.std.proofs.Common.{[], ◌==◌, List, ℕ, take, get_or, subst, sym, ap, ◌∙◌, arith}
use Rattle.std.proofs.lemmas.List.{take_all}
use Rattle.pb_schema.specs.Names.{fronts_from, with_front}
use Rattle.pb_tries.specs.Tries.{node_of}
use Rattle.pb_link_names.specs.PackageSets.{AddsNames}
use Rattle.pb_link_names.proofs.NameSetsLemmas.{name_marked, names_added, fronts_more, package_added, nonempty, at_within}
use Rattle.pb_link_names.proofs.package_set.PackageSet.add.Goals as goal

pub loop-index-preserved : goal.loop-index-preserved
loop-index-preserved c =
    let name = c.args.name.now in
    let i = c.loop-index.index in (
      subst (λ (l : List (List ℕ)). AddsNames l c.args.self.now c.add_byte.new.self) (sym (fronts_more name i (omega arith)))
          (names_added (fronts_from [] (take i name)) (with_front (get_or name i 0 == 46) (take i name) []) c.args.self.now c.loop-index.self c.add_byte.new.self c.loop-index.invariant.0 c.in_ok-node.ensures.added),
      c.in_ok-node.ensures.at,
    )

pub mark-requires : goal.mark-requires
mark-requires c = at_within c.loop-index.self (take c.loop-index.index c.args.name.now) c.loop-index.node c.loop-index.invariant.1

pub returns : goal.returns
returns c =
    let name = c.args.name.now in
    let i = c.loop-index.index in
    package_added name c.args.self.now c.loop-index.self c.mark.new.self (nonempty name (sym c.is_empty.ensures ∙ c.if-is_empty.false))
    (subst (λ (l : List ℕ). AddsNames (fronts_from [] l) c.args.self.now c.loop-index.self) (take_all i name (omega arith)) c.loop-index.invariant.0)
    (name_marked c.loop-index.self c.mark.new.self name c.loop-index.node c.loop-index.invariant.0.set (ap (node_of c.loop-index.self.names) (sym (take_all i name (omega arith))) ∙ c.loop-index.invariant.1) c.in_ok-mark.ensures)
