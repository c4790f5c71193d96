-- The names that a set gives to fields in JSON, and message types by their full names.
use Rattle.std.specs.Prelude.{◌≡◌, ℕ, ◌<◌, ◌^◌, List, Option, Some, None}
use Rattle.std.specs.Borrow.{Bor}
use Rattle.pb_schema.specs.Names.{message_names}
use Rattle.pb_schema.specs.Tables.{place_of}
use Rattle.pb_schema.specs.Types.{Types}
use Rattle.pb_json.specs.Given.{NamesGiven, none_given}
use Rattle.pb_json_names.specs.Names.{AreNamesOf}

-- names are those that a set gives to the fields of these types; where there is no set, there are none
abbrev pub AreNamesBy : Option (Bor (List ℕ)) → Types → NamesGiven → Type 0
AreNamesBy (Some set) ts names = AreNamesOf ts set.now names
AreNamesBy None ts names = names ≡ none_given

-- the message type of the full name has this number, which 32 bits hold
abbrev pub HasNumber : Types → List ℕ → ℕ → Type 0
HasNumber ts name m = (place_of name (message_names ts) ≡ Some m) × (m < 2 ^ 32)
