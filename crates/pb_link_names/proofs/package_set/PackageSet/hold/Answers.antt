use Rattle.std.proofs.Common.{◌+◌, ◌-◌, arith}
use Rattle.std.specs.Prelude.{vec_len}
use Rattle.pb_link_names.proofs.NameSetsLemmas.{held}
use Rattle.pb_link_names.proofs.package_set.PackageSet.hold.Goals as goal

pub returns-clause-same : goal.returns-clause-same
returns-clause-same c other =
    held c.args.self.now.are_packages.items _ (c.args.node + 1) (c.args.node + 1 - vec_len c.args.self.now.are_packages) other (omega (arith, c.if-node-len.false, c.args.self.now.are_packages.ok.0, c.len.ensures)) c.in_ok-resize.ensures.items
