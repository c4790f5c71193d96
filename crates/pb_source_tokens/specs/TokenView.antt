-- Tokens as the calls give them.
use Rattle.std.specs.Prelude.{◌≡◌, ℕ, List, length, map, take, drop}
use Rattle.pb_source_tokens.specs.Tokens.{PlacedToken}
use Rattle.pb_source_tokens.specs.declared.token.Token.{Token as CodeToken}

abbrev pub token_of : CodeToken → PlacedToken
token_of t = record { kind = t.kind; at = t.at; text = t.text.now }

abbrev pub tokens_of : List CodeToken → List PlacedToken
tokens_of = map token_of

-- the source has the token's text at the token's place
abbrev pub IsSliceOf : List ℕ → CodeToken → Type 0
IsSliceOf source t = t.text.now ≡ take (length t.text.now) (drop t.at source)
