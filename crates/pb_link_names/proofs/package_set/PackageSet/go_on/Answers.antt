use Rattle.std.proofs.Common.{refl}
use Rattle.pb_link_names.proofs.NameSetsLemmas.{byte_added, byte_on}
use Rattle.pb_link_names.proofs.package_set.PackageSet.go_on.Goals as goal

pub returns-clause-added : goal.returns-clause-added
returns-clause-added c = byte_added c.args.self.now _ c.args.node c.args.byte c.in_ok-next.next c.requires.set refl c.in_ok-next.ensures

pub returns-clause-on : goal.returns-clause-on
returns-clause-on c name at = byte_on c.args.self.now.names c.add_byte.new.self c.args.node c.args.byte c.in_ok-next.next name c.in_ok-next.ensures at
