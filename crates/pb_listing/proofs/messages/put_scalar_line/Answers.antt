use Rattle.std.proofs.Common.{◌++◌, codes, refl}
use Rattle.pb_listing.specs.Label.{label_text}
use Rattle.pb_listing.specs.RawListing.{line}
use Rattle.pb_listing.proofs.Lines.{scalar-parts}
use Rattle.pb_output.proofs.SinkLemmas.{puts_then}
use Rattle.pb_listing.proofs.messages.put_scalar_line.Goals as goal

pub returns : goal.returns
returns g c =
    let label = label_text c.args.label in
    let value = c.put_scalar.ensures in (
      line c.args.level (label ++ codes ": " ++ value.0),
      (value.0, refl, value.1),
      rw (scalar-parts c.args.level label value.0) (puts_then (puts_then (puts_then c.put_label.ensures c.put.ensures) value.2) c.put-2.ensures),
    )
