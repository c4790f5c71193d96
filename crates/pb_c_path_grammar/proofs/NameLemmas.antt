-- Names that are UTF-8 are looked up.
use Rattle.std.proofs.Common.{◌≡◌, ℕ, List, None, ap}
use Rattle.std.specs.Prelude.{if◌then◌else◌}
use Rattle.std.specs.Str.{IsUtf8}
use Rattle.std.proofs.lemmas.Str.{is_utf8-from_IsUtf8}
use Rattle.pb_schema.specs.Tables.{field_named}
use Rattle.pb_schema.specs.Types.{Types, message_fields}
use Rattle.pb_c_paths.specs.Path.{named}

pub named_text : (pool : Types) (m : ℕ) (w : List ℕ) → IsUtf8 w → named pool m w ≡ field_named w (message_fields pool m)
named_text pool m w is = ap (λ x. if x then field_named w (message_fields pool m) else None) (is_utf8-from_IsUtf8 w is)
