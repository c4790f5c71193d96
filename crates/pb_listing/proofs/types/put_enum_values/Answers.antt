use Rattle.std.proofs.Common.{string_bytes}
use Rattle.std.proofs.lemmas.List.{take_all}
use Rattle.std.proofs.lemmas.List.Folds.{flat_map-map}
use Rattle.pb_listing.specs.TypesListing.{value_line}
use Rattle.pb_listing.proofs.types.put_enum_values.Goals as goal

pub returns : goal.returns
returns g c =
    let all = rw (take_all c.loop-name.name-index c.args.values.now c.loop-name-test.false) at c.loop-name.invariant in
    rw (flat_map-map (value_line c.args.full_name.now) (λ v. (string_bytes v.0, v.1)) c.args.values.now) all
