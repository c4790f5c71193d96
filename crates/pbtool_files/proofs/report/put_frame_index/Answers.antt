use Rattle.std.proofs.Common.{◌≡◌, ◌++◌, append_assoc, codes, decimal, refl}
use Rattle.pb_output.proofs.SinkLemmas.{puts_held, puts_then}
use Rattle.pbtool_files.proofs.report.put_frame_index.Goals as goal

pub returns : goal.returns
returns g c =
    let held : c.push-2.new.self ≡ c.reserve.new.self.held ++ (codes "frame " ++ decimal c.args.index ++ codes " ") =
    rw (c.push-2.ensures.after, c.push_decimal.ensures.after, c.push.ensures.after) (simp append_assoc) in
    puts_then c.reserve.ensures.kept (puts_held refl refl held)
