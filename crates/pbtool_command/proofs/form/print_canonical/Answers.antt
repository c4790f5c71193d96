use Rattle.std.proofs.Common.{refl, inl, inr, ◌++◌}
use Rattle.hex.specs.Hex.{encode_lower}
use Rattle.pb_encode.specs.Encoding.{bytes_of}
use Rattle.pbtool_files.specs.Answer.{done}
use Rattle.pbtool_command.specs.MessageAnswer.{fits}
use Rattle.pb_listing.specs.RawListing.{line_feed}
use Rattle.pbtool_command.proofs.form.print_canonical.Goals as goal

pub returns-in-Ok : goal.returns-in-Ok
returns-in-Ok g c =
    let made = c.in_ok-bytes.ensures.made in
    let small = rw made.0 at made.1 in
    let sent = rw (c.deref.ensures.value, made.0) at c.in-Ok.ensures in
    (done (encode_lower (bytes_of c.args.message.now) ++ line_feed), fits small refl, refl, refl, sent, refl)

pub returns : goal.returns
returns g c =
    let made = c.in_ok-bytes.ensures.made in
    let small = rw made.0 at made.1 in
    let cut = rw (c.deref.ensures.value, made.0) at c.in-Err.ensures in
    let text = encode_lower (bytes_of c.args.message.now) ++ line_feed in
    inr (inl (text, refl, inl (done text, fits small refl, refl), cut, refl))
