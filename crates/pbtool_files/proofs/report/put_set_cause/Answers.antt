use Rattle.std.proofs.Common.{◌≡◌, ◌++◌, append_assoc, codes, decimal, refl}
use Rattle.pb_output.proofs.SinkLemmas.{puts_held, puts_then}
use Rattle.pbtool_files.proofs.report.put_set_cause.Goals as goal

pub returns : goal.returns
returns g c =
    let held : c.push_decimal.new.self ≡ c.reserve.new.self.held ++ (codes "set file " ++ decimal c.args.file) =
    rw (c.push_decimal.ensures.after, c.push.ensures.after) (simp append_assoc) in
    let name = rw c.name.ensures at c.put_cause.ensures in
    puts_then (puts_then c.reserve.ensures.kept (puts_held refl refl held)) name
