use Rattle.std.proofs.Common.{map, arith}
use Rattle.std.proofs.lemmas.List.{length-map}
use Rattle.pb_declarations.specs.View.{file_view}
use Rattle.pb_link_names.proofs.NameSetsLemmas.{packages_none, packages_below, all_exact}
use Rattle.pb_link_names.proofs.packages.all_packages.Goals as goal

pub loop-file-init : goal.loop-file-init
loop-file-init c =
    packages_none (map file_view c.args.files.now) c.in_ok-packages.packages c.in_ok-packages.ensures.set c.in_ok-packages.ensures.empty

pub loop-file-preserved : goal.loop-file-preserved
loop-file-preserved c =
    packages_below (map file_view c.args.files.now) c.loop-file.file c.loop-file.packages c.add_file.new.packages c.loop-file.invariant c.in_ok-add_file.ensures

pub returns : goal.returns
returns c =
    all_exact (map file_view c.args.files.now) c.loop-file.file c.loop-file.packages (omega (arith, length-map c.args.files.now file_view)) c.loop-file.invariant
