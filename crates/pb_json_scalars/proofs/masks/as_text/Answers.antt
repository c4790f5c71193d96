use Rattle.std.proofs.Common.{◌≡◌, sym, ◌∙◌, ap, option_map, string_bytes, true}
use Rattle.std.specs.Str.{is_utf8}
use Rattle.std.proofs.lemmas.Str.{IsUtf8-from_is_utf8}
use Rattle.pb_json_scalars.proofs.PathLemmas.{text_made}
use Rattle.pb_json_scalars.proofs.masks.as_text.Goals as goal

pub returns-then-is_utf8 : goal.returns-then-is_utf8
returns-then-is_utf8 c =
    let good : is_utf8 c.args.bytes.items ≡ true = sym (c.is_utf8.ensures ∙ ap is_utf8 c.as_slice.ensures.value) ∙ c.if-is_utf8.true in
    rw good
    (ap (option_map string_bytes) c.ok.ensures.value
    ∙ text_made c.from_utf8.result c.args.bytes (c.from_utf8.ensures.succeeds (IsUtf8-from_is_utf8 c.args.bytes.items good)) c.from_utf8.ensures.ok)
