use Rattle.std.proofs.Common.{◌≡◌, ◌++◌, refl, rules}
use Rattle.std.specs.Fmt.{signed_decimal}
use Rattle.pb_output.proofs.SinkLemmas.{puts_held, puts_then}
use Rattle.pb_text.proofs.values.put_integer.Goals as goal

pub returns : goal.returns
returns g c =
    let held : c.push_signed.new.self ≡ c.reserve.new.self.held ++ signed_decimal c.args.number = search rules in
    puts_then c.reserve.ensures.kept (puts_held refl refl held)
