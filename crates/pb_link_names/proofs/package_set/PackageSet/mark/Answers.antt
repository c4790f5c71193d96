use Rattle.std.proofs.Common.{◌||◌, ◌==◌, ◌∙◌, Bool, ap, arith}
use Rattle.pb_link_names.proofs.NameSetsLemmas.{marked_now}
use Rattle.pb_link_names.proofs.package_set.PackageSet.mark.Goals as goal

pub returns : goal.returns
returns c = record {
  names = c.in_ok-hold.ensures.names;
  marked = λ other. marked_now c.hold.new.self.are_packages.items c.args.node other (omega (arith, c.in_ok-hold.ensures.within, c.hold.new.self.are_packages.ok.0)) ∙ ap (λ (b : Bool). (other == c.args.node) || b) (c.in_ok-hold.ensures.same other);
}
