use Rattle.std.proofs.Common.{◌≡◌, [], ◌∷◌, ◌++◌, append_assoc, codes, refl, rules}
use Rattle.hex.specs.Hex.{encode_lower}
use Rattle.pb_output.proofs.SinkLemmas.{puts_held, puts_then}
use Rattle.pb_listing.specs.Listing.{text_byte}
use Rattle.pb_listing.proofs.values.put_text_byte.Goals as goal

pub returns-then-byte-eq92 : goal.returns-then-byte-eq92
returns-then-byte-eq92 g c =
    let held : c.push.new.self ≡ c.reserve.new.self.held ++ text_byte c.args.byte = search rules in
    puts_then c.reserve.ensures.kept (puts_held refl refl held)

pub returns-then-byte-eq127 : goal.returns-then-byte-eq127
returns-then-byte-eq127 g c =
    let text : text_byte c.args.byte ≡ codes "\\x" ++ encode_lower (c.args.byte ∷ []) = search rules in
    let held : c.push_hex_byte.new.self ≡ c.reserve.new.self.held ++ text_byte c.args.byte =
    rw (c.push_hex_byte.ensures.after, c.push-then-byte-eq127.ensures.after, text) (simp append_assoc) in
    puts_then c.reserve.ensures.kept (puts_held refl refl held)

pub returns-else-byte-eq127 : goal.returns-else-byte-eq127
returns-else-byte-eq127 g c =
    let held : c.push-else-byte-eq127.new.self ≡ c.reserve.new.self.held ++ text_byte c.args.byte = search rules in
    puts_then c.reserve.ensures.kept (puts_held refl refl held)
