-- The names that the fields of a pool are given in JSON by a descriptor set (descriptor.proto).
use Rattle.std.specs.Prelude.{◌≡◌, ℕ, List, [], ◌∷◌, ◌++◌, flat_map, ◌==◌, ◌&&◌, if◌then◌else◌, Option, None, Some}
use Rattle.std.specs.Option.{option_or, option_map_or}
use Rattle.std.specs.Ordering.{nat_cmp, match_ordering}
use Rattle.pb_schema.specs.Names.{in_scope, message_names}
use Rattle.pb_schema.specs.Tables.{place_of}
use Rattle.pb_schema.specs.Types.{Types}
use Rattle.pb_value.specs.Data.{Datum, scalar, message, Datums, no_datums, datum, Holding, one, list, map, Fields, no_fields, field, Message, body, fields_of}
use Rattle.pb_json.specs.Encoded.{message_encoded}
use Rattle.pb_json.specs.Given.{NamesGiven, name_given}
use Rattle.pb_descr_message.specs.Held.{fields_in, data_at, name_at, number_at}
use Rattle.pb_descr_message.specs.Pool.{descriptor_types, the_set}
use Rattle.pb_json_names.specs.Name.{name_in, natural}

-- the name of a field of the message type at an index, if it has a number and is given one
abbrev pub named : ℕ → Option ℕ → Option (List ℕ) → NamesGiven
named m (Some n) (Some s) = ((m, n), s) ∷ []
named m (Some n) None = []
named m None s = []

abbrev pub field_named : ℕ → Datum → NamesGiven
field_named m d = named m (natural (number_at 3 (fields_in d))) (name_in d)

-- those of the fields of a message, which is the type of the pool that has this full name
abbrev pub fields_named : Types → List ℕ → List Datum → NamesGiven
fields_named pool full ds = option_map_or (λ m. flat_map (field_named m) ds) (place_of full (message_names pool)) []

module _ (pool : Types) where
  -- those of a message in a scope, and of the messages that are declared in it
  abbrev mutual
    pub message_named : List ℕ → Datum → NamesGiven
    message_named scope (scalar x) = []
    message_named scope (message m) = body_named scope m

    pub body_named : List ℕ → Message → NamesGiven
    body_named scope (body fs us) =
        let full : List ℕ = in_scope scope (name_at 1 fs) in
        fields_named pool full (data_at 2 fs) ++ named_at full 3 fs

    pub named_at : List ℕ → ℕ → Fields → NamesGiven
    named_at scope n no_fields = []
    named_at scope n (field k h fs) =
        let here : NamesGiven = held_named scope h in
        let after : NamesGiven = named_at scope n fs in
        match_ordering (nat_cmp n k) after here after

    pub held_named : List ℕ → Holding → NamesGiven
    held_named scope (one d) = []
    held_named scope (list ds) = listed_named scope ds
    held_named scope (map es) = []

    pub listed_named : List ℕ → Datums → NamesGiven
    listed_named scope no_datums = []
    listed_named scope (datum d ds) = message_named scope d ++ listed_named scope ds

  -- those of a file, whose package is the outermost scope
  abbrev pub file_named : Datum → NamesGiven
  file_named d = flat_map (message_named (name_at 2 (fields_in d))) (data_at 4 (fields_in d))

  -- those of a set
  abbrev pub set_named : Message → NamesGiven
  set_named set = flat_map file_named (data_at 1 (fields_of set))

-- those of the set that bytes encode; none of bytes that encode none
abbrev pub names_in_set : Types → List ℕ → NamesGiven
names_in_set pool b = option_map_or (set_named pool) (message_encoded descriptor_types the_set b) []

-- the last of the names that a field is given
abbrev pub last_given : NamesGiven → ℕ → ℕ → Option (List ℕ)
last_given [] m n = None
last_given (x ∷ xs) m n = option_or (last_given xs m n) (if (m == x.0.0) && (n == x.0.1) then Some x.1 else None)

-- names are those that a set gives to the fields of a pool; where it gives a field more than one, the last counts
abbrev pub AreNamesOf : Types → List ℕ → NamesGiven → Type 0
AreNamesOf pool b names = (m n : ℕ) → name_given names m n ≡ last_given (names_in_set pool b) m n
