use Rattle.std.proofs.Common.{◌++◌, refl}
use Rattle.pb_listing.specs.RawListing.{line_feed}
use Rattle.pb_output.proofs.SinkLemmas.{puts_then}
use Rattle.pbtool_command.proofs.form.put_json_line.Goals as goal

pub returns-in-Ok-clause-put : goal.returns-in-Ok-clause-put
returns-in-Ok-clause-put g c =
    let text = rw c.view.ensures at c.in-Ok.ensures.put in
    (text.bytes ++ line_feed, (text.bytes, text.is, refl), puts_then text.puts c.put.ensures)

pub returns-in-Err-clause-failed : goal.returns-in-Err-clause-failed
returns-in-Err-clause-failed g c = rw c.view.ensures at c.in-Err.ensures.failed
