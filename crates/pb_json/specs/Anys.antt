-- What a `google.protobuf.Any` holds (any.proto), and its JSON by that of what it holds (ProtoJSON format, "Any").
use Rattle.std.specs.Prelude.{ℕ, List, Bool, true, ◌&&◌, ◌==◌, length, Option, option_map, option_and_then, codes, if◌then◌else◌}
use Rattle.std.specs.Option.{option_map_or}
use Rattle.std.specs.Path.{rsplit_once}
use Rattle.pb_schema.specs.Types.{Types}
use Rattle.pb_schema.specs.Names.{message_names}
use Rattle.pb_schema.specs.Tables.{place_of}
use Rattle.pb_value.specs.Data.{Fields, Message}
use Rattle.pb_json.specs.Json.{Json, null, string, object, Members, no_members, member}
use Rattle.pb_json.specs.WellKnown.{is_plain, well_known}
use Rattle.pb_json.specs.Held.{bytes_at, string_at}
use Rattle.pb_json.specs.Encoded.{message_encoded}

-- WHAT IT HOLDS

-- the type that a URL names: the name after its last slash
abbrev pub type_meant : Types → List ℕ → Option ℕ
type_meant pool url = option_and_then (λ parts. place_of parts.1 (message_names pool)) (rsplit_once 47 url)

abbrev pub typed : Types → List ℕ → ℕ → Option (ℕ × Message)
typed pool bytes m = option_map (λ b. (m, b)) (message_encoded pool m bytes)

-- the type of the message, and the message; nothing where the URL names no type of the pool, or the bytes are no encoding of that type
abbrev pub any_message : Types → Fields → Option (ℕ × Message)
any_message pool fs = option_and_then (typed pool (bytes_at 2 fs)) (type_meant pool (string_at 1 fs))

-- neither a URL nor bytes
abbrev pub is_unset : Fields → Bool
is_unset fs = length (string_at 1 fs) == 0 && length (bytes_at 2 fs) == 0

-- ITS JSON

-- the members of the message's object, or else its form as one member
abbrev pub members_or_value : Bool → Json → Members
members_or_value true (object ms) = ms
members_or_value is_plain j = member (codes "value") j no_members

-- the URL as the first member
abbrev pub tagged : List ℕ → Members → Json
tagged url ms = object (member (codes "@type") (string url) ms)

-- an Any, by what the message in it is as JSON
abbrev pub any_json : Types → (ℕ → Message → Json) → Fields → Json
any_json pool Inside fs =
    if is_unset fs then object no_members
    else option_map_or (λ x. tagged (string_at 1 fs) (members_or_value (is_plain (well_known pool x.0)) (Inside x.0 x.1))) (any_message pool fs) null
