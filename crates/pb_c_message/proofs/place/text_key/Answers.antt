use Rattle.std.proofs.Common.{◌≡◌}
use Rattle.std.specs.String.{string_bytes}
use Rattle.std.proofs.lemmas.Str.{IsUtf8-string_bytes}
use Rattle.pb_c_message.proofs.KeyLemmas.{text_of, no_text}
use Rattle.pb_c_message.proofs.place.text_key.Goals as goal

pub returns-in_default-from_utf8 : goal.returns-in_default-from_utf8
returns-in_default-from_utf8 c =
    no_text c.args.keys.now c.args.number c.in-Some.bytes.now c.in-Some.ensures.lookup.3.0 c.in-Some.ensures.lookup.1 c.in_default-from_utf8.ensures.cases.0

pub returns : goal.returns
returns c =
    let made = c.in_ok-text.ensures.ok in let read = c.in-Ok.ensures.cases.0 in
    let same : string_bytes c.in_ok-text.text ≡ c.in-Some.bytes.now.now = cc in
    text_of c.args.keys.now c.args.number c.in-Some.bytes.now (string_bytes c.in_ok-text.text) c.in-Some.ensures.lookup.3.0 c.in-Some.ensures.lookup.1 same
    (IsUtf8-string_bytes c.in_ok-text.text)
