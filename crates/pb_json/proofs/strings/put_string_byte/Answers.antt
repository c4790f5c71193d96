use Rattle.std.proofs.Common.{◌≡◌, [], ◌∷◌, ◌++◌, append_assoc, codes, refl, rules}
use Rattle.hex.specs.Hex.{encode_lower}
use Rattle.pb_output.proofs.SinkLemmas.{puts_held, puts_then}
use Rattle.pb_json.specs.JsonText.{string_byte}
use Rattle.pb_json.proofs.strings.put_string_byte.Goals as goal

pub returns-in-Some : goal.returns-in-Some
returns-in-Some g c =
    let held : c.push.new.self ≡ c.reserve.new.self.held ++ string_byte c.args.byte = search rules in
    puts_then c.reserve.ensures.kept (puts_held refl refl held)

pub returns-then-byte-lt32 : goal.returns-then-byte-lt32
returns-then-byte-lt32 g c =
    let text : string_byte c.args.byte ≡ codes "\\u00" ++ encode_lower (c.args.byte ∷ []) = search rules in
    let held : c.push_hex_byte.new.self ≡ c.reserve.new.self.held ++ string_byte c.args.byte =
    rw (c.push_hex_byte.ensures.after, c.push-then-byte-lt32.ensures.after, text) (simp append_assoc) in
    puts_then c.reserve.ensures.kept (puts_held refl refl held)

pub returns-else-byte-lt32 : goal.returns-else-byte-lt32
returns-else-byte-lt32 g c =
    let held : c.push-else-byte-lt32.new.self ≡ c.reserve.new.self.held ++ string_byte c.args.byte = search rules in
    puts_then c.reserve.ensures.kept (puts_held refl refl held)
