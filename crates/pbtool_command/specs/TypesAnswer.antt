-- What `types` answers: the set is there, is one, links, and declares the message type or enum of the name, if one is given.
use Rattle.std.specs.Prelude.{◌≡◌, ℕ, List, ◌++◌, codes, flat_map, Option, None, Some}
use Rattle.pb_schema.specs.Names.{enum_names, message_names}
use Rattle.pb_schema.specs.Tables.{place_of}
use Rattle.pb_schema.specs.Types.{Types}
use Rattle.pb_descr_message.specs.Omitted.{OmittedView}
use Rattle.pb_descr_message.specs.OmittedName.{part_name}
use Rattle.pb_listing.specs.RawListing.{line}
use Rattle.pb_listing.specs.TypesListing.{enum_lines_at, file_name_at, message_lines_at, types_listing}
use Rattle.pbtool_files.specs.Answer.{Answer, done, refused}
use Rattle.pbtool_files.specs.Report.{type_line}
use Rattle.pbtool_files.specs.SetFile.{HasPool, NoPool}
use Rattle.pbtool_files.specs.declared.set_file.Reading.{Reading}

-- what is left out: the name of its file, the full name of the declaration, and what of it
abbrev pub omitted_line : Types → OmittedView → List ℕ
omitted_line pool o = line 0 (codes "omitted " ++ file_name_at pool o.file ++ codes " " ++ o.name ++ codes " " ++ part_name o.part)

-- what a set declares, and then what was left out of it
abbrev pub set_listing : Types → List OmittedView → List ℕ
set_listing pool omitted = types_listing pool ++ flat_map (omitted_line pool) omitted

-- the message type of a name, or else the enum of this name
pub data NamedAnswer (name : List ℕ) (pool : Types) (answer : Answer) : Type 0 where
  a_message : {m : ℕ} → place_of name (message_names pool) ≡ Some m → answer ≡ done (message_lines_at pool m) → NamedAnswer name pool answer
  an_enum :
      {e : ℕ} → place_of name (message_names pool) ≡ None → place_of name (enum_names pool) ≡ Some e → answer ≡ done (enum_lines_at pool e)
      → NamedAnswer name pool answer
  unknown :
      place_of name (message_names pool) ≡ None → place_of name (enum_names pool) ≡ None → answer ≡ refused (type_line name) → NamedAnswer name pool answer

-- all of a set, or what has a name in it
abbrev pub ShownAnswer : Option (List ℕ) → Types → List OmittedView → Answer → Type 0
ShownAnswer None pool omitted answer = answer ≡ done (set_listing pool omitted)
ShownAnswer (Some name) pool omitted answer = NamedAnswer name pool answer

-- where this says which file is at the set's path
pub data TypesAnswer
    (IsAtSet : Option (List ℕ) → Type 0) (reading : Reading) (path : List ℕ) (name : Option (List ℕ)) (answer : Answer) : Type 0 where
  no_types : {content : Option (List ℕ)} → IsAtSet content → NoPool reading path content answer → TypesAnswer IsAtSet reading path name answer
  shown :
      {set : List ℕ} {pool : Types} {omitted : List OmittedView} → IsAtSet (Some set) → HasPool reading set pool omitted
      → ShownAnswer name pool omitted answer → TypesAnswer IsAtSet reading path name answer
