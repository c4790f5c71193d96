use Rattle.std.proofs.Common.{◌≡◌, ◌++◌, append_assoc, codes, decimal, length, refl}
use Rattle.pb_listing.specs.RawListing.{indent, shown_bytes}
use Rattle.pb_listing.proofs.Lines.{line-parts}
use Rattle.pb_output.proofs.SinkLemmas.{puts_held, puts_then}
use Rattle.pb_listing.proofs.records.put_len_line.Goals as goal

pub returns : goal.returns
returns g c =
    let text = c.args.mark.now ++ decimal c.args.number ++ codes " len " ++ decimal (length c.args.bytes.now) in
    let held : c.push_decimal.new.self ≡ c.reserve.new.self.held ++ (indent c.args.level ++ text) =
    rw (c.push_decimal.ensures.after, c.push_start.ensures.after) (simp append_assoc) in
    rw (line-parts c.args.level text (shown_bytes c.args.bytes.now))
    (puts_then (puts_then (puts_then c.reserve.ensures.kept (puts_held refl refl held)) c.put_shown_bytes.ensures) c.put.ensures)
