use Rattle.std.proofs.Common.{◌≡◌, ◌++◌, refl, rules}
use Rattle.pb_output.proofs.SinkLemmas.{puts_held, puts_then}
use Rattle.pb_text.specs.Strings.{string_byte}
use Rattle.pb_text.proofs.strings.put_string_byte.Goals as goal

pub returns-in-Some : goal.returns-in-Some
returns-in-Some g c =
    let held : c.push.new.self ≡ c.reserve.new.self.held ++ string_byte c.args.characters c.args.byte = search rules in
    puts_then c.reserve.ensures.kept (puts_held refl refl held)

pub returns-then-is_plain : goal.returns-then-is_plain
returns-then-is_plain g c =
    let held : c.push-then-is_plain.new.self ≡ c.reserve.new.self.held ++ string_byte c.args.characters c.args.byte = search rules in
    puts_then c.reserve.ensures.kept (puts_held refl refl held)

pub returns-else-is_plain : goal.returns-else-is_plain
returns-else-is_plain g c =
    let held : c.push-else-is_plain.new.self ≡ c.reserve.new.self.held ++ string_byte c.args.characters c.args.byte = search rules in
    puts_then c.reserve.ensures.kept (puts_held refl refl held)
