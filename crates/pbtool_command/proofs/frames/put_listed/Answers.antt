use Rattle.std.proofs.Common.{◌++◌, refl}
use Rattle.pb_output.proofs.SinkLemmas.{puts_then}
use Rattle.pbtool_command.specs.FramesAnswer.{frame_line}
use Rattle.pbtool_command.proofs.frames.put_listed.Goals as goal

pub returns : goal.returns
returns g c =
    let listing = c.put_listing_as.ensures in
    (frame_line c.args.index c.args.offset c.args.size ++ listing.0, (listing.0, refl, listing.1), puts_then c.put_frame_line.ensures listing.2)
