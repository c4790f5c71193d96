use Rattle.std.proofs.Common.{◌≡◌, ◌++◌, append_assoc, refl}
use Rattle.pb_output.proofs.SinkLemmas.{puts_held, puts_then}
use Rattle.pbtool_explain.specs.Source.{position_text}
use Rattle.pbtool_explain.proofs.source.put_position.Goals as goal

pub returns : goal.returns
returns g c =
    let held : c.push-3.new.self ≡ c.reserve.new.self.held ++ position_text c.args.line c.args.column =
    rw (c.push-3.ensures.after, c.push_decimal-2.ensures.after, c.push-2.ensures.after, c.push_decimal.ensures.after, c.push.ensures.after)
    (simp append_assoc) in
    puts_then c.reserve.ensures.kept (puts_held refl refl held)
