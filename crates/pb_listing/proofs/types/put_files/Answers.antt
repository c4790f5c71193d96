use Rattle.std.proofs.lemmas.List.{take_all}
use Rattle.std.proofs.lemmas.List.Folds.{flat_map-map}
use Rattle.pb_schema.specs.View.{file_view}
use Rattle.pb_listing.specs.TypesListing.{file_line}
use Rattle.pb_listing.proofs.types.put_files.Goals as goal

pub returns : goal.returns
returns g c =
    let all = rw (take_all c.loop-file.file-index c.args.files.now c.loop-file-test.false) at c.loop-file.invariant in
    rw (flat_map-map file_line file_view c.args.files.now) all
