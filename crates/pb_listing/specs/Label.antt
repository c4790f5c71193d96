-- What comes before a value in a listing: the name of its field, and in a map the key.
use Rattle.std.specs.Prelude.{ℕ, List, [], ◌++◌, Option, Some, None}
use Rattle.std.specs.Borrow.{Bor}
use Rattle.pb_value.specs.View.{key_view}
use Rattle.pb_value.specs.declared.body.MapKey.{MapKey}
use Rattle.pb_listing.specs.Listing.{bracketed}
use Rattle.pb_listing.specs.declared.messages.Label.{Label}

abbrev pub key_text : Option (Bor MapKey) → List ℕ
key_text None = []
key_text (Some key) = bracketed (key_view key.now)

abbrev pub label_text : Label → List ℕ
label_text l = l.name.now ++ key_text l.key
