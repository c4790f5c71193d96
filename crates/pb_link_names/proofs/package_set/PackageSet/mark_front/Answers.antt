use Rattle.std.proofs.Common.{[], Bool, get_or, take, subst, sym}
use Rattle.std.specs.Cmp.{unsigned_Decides}
use Rattle.pb_schema.specs.Names.{with_front}
use Rattle.pb_link_names.specs.PackageSets.{AddsNames}
use Rattle.pb_link_names.proofs.NameSetsLemmas.{name_marked, at_within}
use Rattle.pb_link_names.proofs.package_set.PackageSet.mark_front.Goals as goal

pub returns-clause-added : goal.returns-clause-added
returns-clause-added c =
    let old = c.args.self.now in
    let new = c.mark.new.self in
    let name = take c.args.index c.args.name.now in
    subst (λ (b : Bool). AddsNames (with_front b name []) old new) (sym ((unsigned_Decides (get_or c.args.name.now c.args.index 0) 46).1 c.if-name-index-ne46.false)) (name_marked old new name c.args.node c.requires.set c.requires.at c.in_ok-mark.ensures)

pub mark-requires : goal.mark-requires
mark-requires c = at_within c.args.self.now (take c.args.index c.args.name.now) c.args.node c.requires.at
