use Rattle.std.proofs.Common.{◌≡◌, ◌++◌, append_assoc, refl}
use Rattle.pb_output.proofs.SinkLemmas.{puts_held, puts_then}
use Rattle.pbtool_explain.specs.Explained.{frame_text}
use Rattle.pbtool_explain.proofs.fault.put_frame.Goals as goal

pub returns : goal.returns
returns g c =
    let held : c.push-4.new.self ≡ c.reserve.new.self.held ++ frame_text c.args.byte c.args.index c.args.offset =
    rw (
      c.push-4.ensures.after,
      c.push_decimal-3.ensures.after,
      c.push-3.ensures.after,
      c.push_decimal-2.ensures.after,
      c.push-2.ensures.after,
      c.push_decimal.ensures.after,
      c.push.ensures.after,
    )
    (simp append_assoc) in
    puts_then c.reserve.ensures.kept (puts_held refl refl held)
