-- Tokens as the calls give them.
use Rattle.std.specs.Prelude.{List, map}
use Rattle.pb_text_tokens.specs.Tokens.{PlacedToken}
use Rattle.pb_text_tokens.specs.declared.token.Token.{Token as CodeToken}

abbrev pub token_of : CodeToken → PlacedToken
token_of t = record { kind = t.kind; at = t.at; text = t.text.now }

abbrev pub tokens_of : List CodeToken → List PlacedToken
tokens_of = map token_of
