-- What lenient reading leaves out of a set, by file, then by declaration: a file's extensions, then its messages; of a message the mark of a
-- map's entry, its ranges, its extensions, its fields and then the messages in it.
use Rattle.std.specs.Prelude.{ℕ, List, [], ◌∷◌, ◌++◌, ◌+◌, flat_map, Bool, true, false, is_some, string_bytes}
use Rattle.std.specs.Ordering.{nat_cmp, match_ordering}
use Rattle.pb_schema.specs.Names.{in_scope}
use Rattle.pb_value.specs.Data.{Datum, scalar, message, Datums, no_datums, datum, Holding, one, list, map as a_map}
use Rattle.pb_value.specs.Data.{Fields, no_fields, field, Message, body, fields_of}
use Rattle.pb_descr_message.specs.declared.omitted.Omitted.{Omitted}
use Rattle.pb_descr_message.specs.declared.omitted.OmittedPart.{OmittedPart}
use Rattle.pb_descr_message.specs.declared.omitted.OmittedPart.TheVariants as part
use Rattle.pb_descr_message.specs.Held.{fields_in, data_at, text_at, name_at}
use Rattle.pb_descr_message.specs.Reading.{is_proto2}
use Rattle.pb_descr_message.specs.Without.{is_required, is_closed_entry}

-- the index of a file, the full name of a declaration in it, and what of it is left out
pub record OmittedView : Type 0 where
  pub file : ℕ
  pub name : List ℕ
  pub part : OmittedPart

abbrev pub omitted_view : Omitted → OmittedView
omitted_view o = record { file = o.file; name = string_bytes o.name; part = o.part }

abbrev pub when : Bool → OmittedView → List OmittedView
when true o = o ∷ []
when false o = []

abbrev pub extension_parts : ℕ → List ℕ → Datum → List OmittedView
extension_parts i scope d = record { file = i; name = in_scope scope (name_at 1 (fields_in d)); part = part.Extension } ∷ []

abbrev pub range_parts : ℕ → List ℕ → Datum → List OmittedView
range_parts i name d = record { file = i; name = name; part = part.ExtensionRange } ∷ []

abbrev pub field_parts : ℕ → List ℕ → Datum → List OmittedView
field_parts i scope d =
    let fs : Fields = fields_in d in
    let name : List ℕ = in_scope scope (name_at 1 fs) in
    when (is_required fs) (record { file = i; name = name; part = part.Required })
    ++ when (is_some (text_at 7 fs)) (record { file = i; name = name; part = part.DefaultValue })

-- of a message beside the messages in it
abbrev pub own_parts : ℕ → Bool → List ℕ → Fields → List OmittedView
own_parts i two name fs =
    when (is_closed_entry two fs) (record { file = i; name = name; part = part.ClosedMap })
    ++ flat_map (range_parts i name) (data_at 5 fs)
    ++ flat_map (extension_parts i name) (data_at 6 fs)
    ++ flat_map (field_parts i name) (data_at 2 fs)

-- of a message in a scope, which is a package or a message's full name, or empty
abbrev mutual
  pub message_parts : ℕ → Bool → List ℕ → Datum → List OmittedView
  message_parts i two scope (scalar x) = []
  message_parts i two scope (message m) = body_parts i two scope m

  pub body_parts : ℕ → Bool → List ℕ → Message → List OmittedView
  body_parts i two scope (body fs us) =
      let name : List ℕ = in_scope scope (name_at 1 fs) in
      own_parts i two name fs ++ inner_parts i two name 3 fs

  pub inner_parts : ℕ → Bool → List ℕ → ℕ → Fields → List OmittedView
  inner_parts i two scope n no_fields = []
  inner_parts i two scope n (field k h fs) =
      let here : List OmittedView = holding_parts i two scope h in
      let later : List OmittedView = inner_parts i two scope n fs in
      match_ordering (nat_cmp n k) later here later

  pub holding_parts : ℕ → Bool → List ℕ → Holding → List OmittedView
  holding_parts i two scope (one d) = []
  holding_parts i two scope (list ds) = messages_parts i two scope ds
  holding_parts i two scope (a_map es) = []

  pub messages_parts : ℕ → Bool → List ℕ → Datums → List OmittedView
  messages_parts i two scope no_datums = []
  messages_parts i two scope (datum d ds) = message_parts i two scope d ++ messages_parts i two scope ds

abbrev pub file_parts : ℕ → Datum → List OmittedView
file_parts i d =
    let fs : Fields = fields_in d in
    flat_map (extension_parts i (name_at 2 fs)) (data_at 7 fs) ++ inner_parts i (is_proto2 fs) (name_at 2 fs) 4 fs

-- of some files, from an index on
abbrev pub parts_from : ℕ → List Datum → List OmittedView
parts_from i [] = []
parts_from i (d ∷ ds) = file_parts i d ++ parts_from (i + 1) ds

abbrev pub omitted_in : Message → List OmittedView
omitted_in m = parts_from 0 (data_at 1 (fields_of m))
